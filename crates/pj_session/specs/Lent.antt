-- What contracts see of what a name is.
use Rattle.std.specs.Prelude.{option_map}
use Rattle.pj_tree.specs.Reads.{texts_of, expr_of}
use Rattle.pj_content.specs.Content.{strings_in}
use Rattle.pj_session.specs.Events.{Parts}
use Rattle.pj_session.specs.Things.{Thing, Calls, Holds}
use Rattle.pj_session.specs.declared.thing.Code.{Code}
use Rattle.pj_session.specs.declared.thing.Thing as lent
use Rattle.pj_session.specs.declared.thing.Thing.TheVariants as thing

abbrev pub parts_seen : Code → Parts
parts_seen c = (texts_of (strings_in c.strings.now) c.params.now, expr_of (strings_in c.strings.now) c.body.now)

abbrev pub thing_seen : lent.Thing → Thing
thing_seen (thing.Calls code) = Calls (option_map parts_seen code)
thing_seen (thing.Holds z) = Holds z
