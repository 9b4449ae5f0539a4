use Rattle.std.specs.Prelude.{option_map}
use Rattle.pj_meaning.specs.Tree.{Global}
use Rattle.pj_session.specs.Lent.{thing_seen}
use Rattle.pj_session.specs.Seen.{events_of}
use Rattle.pj_session.proofs.FarAsked.{asked_name, found_name}
use Rattle.pj_session.proofs.state.Session.println_name.Goals as goal

pub returns-clause-tops : goal.returns-clause-tops
returns-clause-tops c is good =
    let s = c.args.self.now in
    let m = c.args.home.now in
    let x = c.args.name.now in
    let left = c.args.left.now in
    c.println_answer.ensures.tops (Global m x) left (asked_name m x is) good
    (found_name s.here (events_of s) m x left c.has_package-there.result (option_map thing_seen c.thing.result) c.read_found-answer.result left is c.has_package-there.ensures c.thing.ensures (c.read_found-answer.ensures left))
