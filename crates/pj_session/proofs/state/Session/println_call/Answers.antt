use Rattle.std.proofs.Common.{map, refl, ◌∙◌}
use Rattle.pj_tree.specs.Reads.{exprs_of}
use Rattle.pj_plain.specs.Held.{held_expr}
use Rattle.pj_session.proofs.FarAsked.{front_kept}
use Rattle.pj_session.proofs.state.Session.println_call.Goals as goal

pub returns-in-Ok-clause-tops : goal.returns-in-Ok-clause-tops
returns-in-Ok-clause-tops c =
    c.println_called.ensures.tops (exprs_of (map held_expr c.args.arguments.now)) (c.as_slice.ensures.value ∙ c.in-Ok.ensures)

pub returns-in-Err-clause-printed : goal.returns-in-Err-clause-printed
returns-in-Err-clause-printed c = front_kept c.args.self.now.printed _ refl
