use Rattle.std.proofs.Common.{refl}
use Rattle.pj_plain.specs.Held.{held_expr}
use Rattle.pj_session.specs.Seen.{events_of}
use Rattle.pj_session.proofs.Bound.{bound_good}
use Rattle.pj_session.proofs.OwnItems.{value_bound, value_failed}
use Rattle.pj_session.proofs.OwnMore.{some_bound}
use Rattle.pj_session.proofs.state.Session.constant_value.Goals as goal

pub returns-in-Ok-clause-tops : goal.returns-in-Ok-clause-tops
returns-in-Ok-clause-tops c plain free good =
    let s = c.args.self.now in
    let typed = (rw c.in-Ok.is at c.value.type_inv) in
    value_bound s.here (events_of s) s.printed c.args.name.now (held_expr c.args.e.now) c.args.left.now plain free c.requires.new good
    c.bind.new.self.here c.bind.new.self.printed (events_of c.bind.new.self) _ c.in-Ok.value c.bind.result c.value.new.left typed.1.1.1.1.1.0.1 refl c.bind.ensures.here c.bind.ensures.printed c.bind.ensures.added c.bind.ensures.fails c.bind.ensures.only c.in-Ok.ensures

pub returns-in-Ok-clause-good : goal.returns-in-Ok-clause-good
returns-in-Ok-clause-good c =
    bound_good _ _ c.args.name.now _ _ _ c.bind.result c.bind.ensures.here c.bind.ensures.added c.requires.new

pub returns-in-Err-clause-tops : goal.returns-in-Err-clause-tops
returns-in-Err-clause-tops c plain free good =
    let s = c.args.self.now in
    value_failed s.here (events_of s) s.printed c.args.name.now (held_expr c.args.e.now) c.args.left.now plain free c.requires.new good
    _ c.in-Err.end c.value.new.left c.in-Err.ensures

pub returns-in-Ok-clause-added : goal.returns-in-Ok-clause-added
returns-in-Ok-clause-added c = some_bound c.bind.result _ _ c.args.name.now _ c.bind.ensures.added
