-- The call of `__init__` ends as the meaning's start does.
use Rattle.pj_session.specs.Seen.{events_of}
use Rattle.pj_session.proofs.Starting.{starts_as}
use Rattle.pj_session.proofs.state.Session.start.Goals as goal

pub returns-clause-starts : goal.returns-clause-starts
returns-clause-starts c =
    let s = c.args.self.now in
    starts_as s.here (events_of s) s.printed c.args.name.now c.args.left.now c.call_init-result.result c.call_init-result.new.left c.call_init-result.ensures
