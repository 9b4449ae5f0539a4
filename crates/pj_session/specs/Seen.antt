-- What contracts see of a session.
use Rattle.std.specs.Prelude.{List}
use Rattle.pj_meaning.specs.State.{State}
use Rattle.pj_session.specs.Events.{Event, state_of}
use Rattle.pj_session.specs.Merged.{merged}
use Rattle.pj_session.specs.declared.state.Session.{Session}
use Rattle.pj_session.specs.declared.state.Tables.{Tables}

-- what was added to Base, in order, as the tables have it
abbrev pub events_in : Tables → List Event
events_in t = merged t.order.items t.own t.things.items t.images.items

-- and as the tables of a session have it
abbrev pub events_of : Session → List Event
events_of s = events_in s.tables

-- the state in which a session is
abbrev pub state_seen : Session → State
state_seen s = state_of s.here (events_of s) s.printed
