use Rattle.std.proofs.Common.{map, refl, ◌∙◌}
use Rattle.pj_tree.specs.Reads.{exprs_of}
use Rattle.pj_plain.specs.Held.{held_expr}
use Rattle.pj_session.specs.Seen.{events_of}
use Rattle.pj_session.proofs.Bound.{bound_good, call_bound, call_failed}
use Rattle.pj_session.proofs.OwnMore.{some_bound}
use Rattle.pj_session.proofs.state.Session.constant_call_here.Goals as goal

pub returns-in-Ok-call_here-clause-tops : goal.returns-in-Ok-call_here-clause-tops
returns-in-Ok-call_here-clause-tops c is free good =
    let s = c.args.self.now in
    let typed = (rw c.in-Ok-call_here.is at c.call_here.type_inv) in
    call_bound s.here (events_of s) s.printed c.args.name.now c.args.function.now (exprs_of (map held_expr c.args.arguments.now)) c.as_slice.result.now c.args.left.now (c.as_slice.ensures.value ∙ c.in-Ok.ensures) is free c.requires.new good
    c.bind.new.self.here c.bind.new.self.printed (events_of c.bind.new.self) _ c.in-Ok-call_here.value c.bind.result c.call_here.new.left typed.1.1.1.1.1.0.1 refl c.bind.ensures.here c.bind.ensures.printed c.bind.ensures.added c.bind.ensures.fails c.bind.ensures.only c.in-Ok-call_here.ensures

pub returns-clause-tops : goal.returns-clause-tops
returns-clause-tops c is free good =
    let s = c.args.self.now in
    call_failed s.here (events_of s) s.printed c.args.name.now c.args.function.now (exprs_of (map held_expr c.args.arguments.now)) c.as_slice.result.now c.args.left.now (c.as_slice.ensures.value ∙ c.in-Ok.ensures) is free c.requires.new good
    _ c.in-Err.end c.call_here.new.left c.in-Err.ensures

pub returns-in-Ok-call_here-clause-good : goal.returns-in-Ok-call_here-clause-good
returns-in-Ok-call_here-clause-good c =
    bound_good _ _ c.args.name.now _ _ _ c.bind.result c.bind.ensures.here c.bind.ensures.added c.requires.new

pub returns-in-Ok-call_here-clause-added : goal.returns-in-Ok-call_here-clause-added
returns-in-Ok-call_here-clause-added c = some_bound c.bind.result _ _ c.args.name.now _ c.bind.ensures.added
