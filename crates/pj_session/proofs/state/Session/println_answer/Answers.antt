use Rattle.std.proofs.Common.{refl}
use Rattle.pj_session.specs.Items.{Has, printed_of}
use Rattle.pj_session.specs.Seen.{events_of}
use Rattle.pj_session.specs.Shown.{value_seen}
use Rattle.pj_session.proofs.Answered.{asked_tops, end_prints, value_prints}
use Rattle.pj_session.proofs.FarAsked.{front_kept, prints_front}
use Rattle.pj_session.proofs.state.Session.println_answer.Goals as goal

pub returns-in-Ok-clause-tops : goal.returns-in-Ok-clause-tops
returns-in-Ok-clause-tops c e before is good reads =
    let s = c.args.self.now in
    let seen = (rw c.in-Ok.is at reads) in
    asked_tops s.here _ (events_of s) _ s.printed c.print_value.new.printed refl refl e before is good c.print_value.result c.print_value.new.left
    (value_prints _ (value_seen c.in-Ok.value) c.print_value.result s.printed c.print_value.new.printed c.args.left.now c.print_value.new.left seen c.print_value.ensures)

pub returns-in-Ok-clause-printed : goal.returns-in-Ok-clause-printed
returns-in-Ok-clause-printed c =
    prints_front (printed_of (Has (value_seen c.in-Ok.value) c.args.left.now)) c.print_value.result c.args.self.now.printed c.print_value.new.printed c.print_value.new.left c.print_value.ensures

pub returns-in-Err-clause-tops : goal.returns-in-Err-clause-tops
returns-in-Err-clause-tops c e before is good reads =
    let s = c.args.self.now in
    let seen = (rw c.in-Err.is at reads) in
    asked_tops s.here _ (events_of s) _ s.printed _ refl refl e before is good _ c.args.left.now
    (end_prints _ _ c.in-Err.end s.printed c.args.left.now seen)

pub returns-in-Err-clause-printed : goal.returns-in-Err-clause-printed
returns-in-Err-clause-printed c = front_kept c.args.self.now.printed _ refl
