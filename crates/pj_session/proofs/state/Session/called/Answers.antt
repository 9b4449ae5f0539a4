use Rattle.std.proofs.Common.{◌∙◌, ap}
use Rattle.std.specs.Prelude.{option_map}
use Rattle.pj_meaning.specs.Lookup.{named_home}
use Rattle.pj_session.specs.Lent.{thing_seen}
use Rattle.pj_session.specs.Seen.{events_of}
use Rattle.pj_session.proofs.FarAsked.{found_call}
use Rattle.pj_session.proofs.state.Session.called.Goals as goal

pub returns : goal.returns
returns c =
    let s = c.args.self.now in
    found_call s.here (events_of s) c.args.qualifier.now c.args.name.now c.home_of-home.result.now c.args.arguments.now c.args.left.now c.has_package-there.result (option_map thing_seen c.thing-thing.result) c.call_found.result c.call_found.new.left
    (c.home_of-home.ensures ∙ ap (λ h. named_home h c.args.qualifier.now) c.as_str.ensures) c.has_package-there.ensures c.thing-thing.ensures c.call_found.ensures
