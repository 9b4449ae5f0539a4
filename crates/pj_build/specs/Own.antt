-- What a package has of its own, by name, and what its image keeps of it.
use Rattle.std.specs.Prelude.{ℕ, List, [], ◌∷◌, map, length}
use Rattle.std.specs.List.{flat_map, zip}
use Rattle.pj_meaning.specs.Tree.{Text, Body}
use Rattle.pj_meaning.specs.Names.{id}
use Rattle.pj_meaning.specs.Values.{Whole}
use Rattle.pj_meaning.specs.State.{Binding, Constant}
use Rattle.pj_meaning.specs.Content.{Made}
use Rattle.pj_tree.specs.Reads.{texts_of}
use Rattle.pj_plain.specs.Held.{no_strings, held_expr}
use Rattle.pj_session.specs.Events.{Parts, ints, body_of, Event, Defines, Binds}
use Rattle.pj_session.specs.declared.own.Definition.{Definition}
use Rattle.pj_session.specs.declared.own.Own.{Own}
use Rattle.pj_session.specs.declared.own.Own.TheVariants as own

-- the names of a function's parameters, and its expression
abbrev pub parts_of : Definition → Parts
parts_of d = (texts_of no_strings d.params, held_expr d.body)

abbrev pub own_event : Text → Own → Event
own_event name (own.Function d) = Defines name (parts_of d).0 (parts_of d).1
own_event name (own.Constant z) = Binds name z

-- names, each with what it names
abbrev pub Named : Type 0
Named = List (Text × Own)

-- the events that made these things, one for each
abbrev pub own_events : List Text → List Own → List Event
own_events names things = map (λ p. own_event p.0 p.1) (zip names things)

-- ---- what an image keeps of one thing

abbrev pub function_of : Text → Own → List Text
function_of name (own.Function d) = name ∷ []
function_of name (own.Constant z) = []

abbrev pub constant_of : Text → Text → Own → List Binding
constant_of home name (own.Function d) = []
constant_of home name (own.Constant z) = record { home = home; name = name; role = Constant (Whole z) } ∷ []

abbrev pub made_of : Text → Text → Own → List Made
made_of home name (own.Function d) = record { fun = id home name; signature = ints (length (parts_of d).0); code = body_of (parts_of d) } ∷ []
made_of home name (own.Constant z) = []

abbrev pub body_in : Own → List Body
body_in (own.Function d) = body_of (parts_of d) ∷ []
body_in (own.Constant z) = []

abbrev pub count_in : Own → List ℕ
count_in (own.Function d) = length d.params ∷ []
count_in (own.Constant z) = []

-- ---- and of all, in order

abbrev pub functions_in : Named → List Text
functions_in named = flat_map (λ p. function_of p.0 p.1) named

abbrev pub constants_in : Text → Named → List Binding
constants_in home named = flat_map (λ p. constant_of home p.0 p.1) named

abbrev pub mades_in : Text → Named → List Made
mades_in home named = flat_map (λ p. made_of home p.0 p.1) named

abbrev pub bodies_in : List Own → List Body
bodies_in things = flat_map body_in things

-- of each function, how many parameters it has
abbrev pub counts_in : List Own → List ℕ
counts_in things = flat_map count_in things
