use Rattle.std.proofs.Common.{refl}
use Rattle.pj_session.specs.Merged.{parts_in}
use Rattle.pj_session.specs.Seen.{events_of}
use Rattle.pj_session.proofs.Topped.{define_tops, no_memory_keeps, good_behind}
use Rattle.pj_session.proofs.state.Session.define.Goals as goal

pub returns-in-Ok-clause-tops : goal.returns-in-Ok-clause-tops
returns-in-Ok-clause-tops c =
    let s = c.args.self.now in
    define_tops s.here _ (events_of s) _ s.printed _ c.args.name.now (parts_in c.args.definition) _ refl refl c.in-Ok.ensures.added c.requires.new

pub returns-in-Ok-clause-good : goal.returns-in-Ok-clause-good
returns-in-Ok-clause-good c =
    let s = c.args.self.now in
    good_behind s.here _ (events_of s) _ c.args.name.now (parts_in c.args.definition) refl c.in-Ok.ensures.added c.requires.new

pub returns-in-Err-clause-tops : goal.returns-in-Err-clause-tops
returns-in-Err-clause-tops c good free left =
    let s = c.args.self.now in
    no_memory_keeps _ _ s.here _ (events_of s) _ s.printed _ left refl refl c.in-Err.ensures.unchanged
