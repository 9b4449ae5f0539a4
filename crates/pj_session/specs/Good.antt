-- Which events make a state of plain functions and numbers, in which no name has two meanings.
use Rattle.std.specs.Prelude.{◌≡◌, true, false, List, [], ◌∷◌, Some, None, length}
use Rattle.std.specs.Str.{bytes_eq}
use Rattle.pj_meaning.specs.Tree.{Text}
use Rattle.pj_meaning.specs.Names.{base_name}
use Rattle.pj_meaning.specs.Values.{Whole}
use Rattle.pj_meaning.specs.State.{Binding}
use Rattle.pj_meaning.specs.Content.{Made, Content, held_in}
use Rattle.pj_plain.specs.Plain.{plain_expr}
use Rattle.pj_words.specs.Words.{is_base_name}
use Rattle.pj_session.specs.Events.{Parts, ints, body_of, parts_of, Event, Defines, Binds, Loads}
use Rattle.pj_session.specs.Things.{number_of, made_for, has_function, own_in, image_in}

abbrev pub PlainParts : Parts → Type 0
PlainParts d = plain_expr d.0 d.1 ≡ true

-- a method of one of the content's own functions, with a plain expression over its parameters, which are all Int64
pub record PlainMade (c : Content) (m : Made) : Type 0 where
  pub home : m.fun.home ≡ c.name
  pub own : has_function c m.fun.name ≡ true
  pub code : m.code ≡ body_of (parts_of m.code)
  pub signature : m.signature ≡ ints (length (parts_of m.code).0)
  pub plain : PlainParts (parts_of m.code)

-- such methods, of different functions
abbrev pub PlainMethods : Content → List Made → Type 0
PlainMethods c [] = Unit {0}
PlainMethods c (m ∷ ms) = PlainMade c m × ((made_for m.fun.name ms ≡ None) × PlainMethods c ms)

-- a const or a global of the content's package that holds a number
pub record PlainBinding (c : Content) (b : Binding) : Type 0 where
  pub home : b.home ≡ c.name
  pub number : held_in b.role ≡ Some (Whole (number_of b.role))

abbrev pub PlainBindings : Content → List Binding → Type 0
PlainBindings c [] = Unit {0}
PlainBindings c (b ∷ bs) = PlainBinding c b × PlainBindings c bs

-- a content of plain functions and numbers, of a package other than Base and the module that runs
pub record Plainly (here : Text) (c : Content) : Type 0 where
  pub not_base : bytes_eq c.name base_name ≡ false
  pub not_here : bytes_eq here c.name ≡ false
  pub types : c.types ≡ []
  pub objects : c.objects ≡ []
  pub methods : PlainMethods c c.methods
  pub bindings : PlainBindings c c.bindings

-- a function's name is none of Base's, and its expression is plain over its parameters
pub record PlainFunction (name : Text) (d : Parts) : Type 0 where
  pub free : is_base_name name ≡ false
  pub plain : PlainParts d

abbrev pub GoodEvent : Text → Event → Type 0
GoodEvent here (Defines name ps e) = PlainFunction name (ps, e)
GoodEvent here (Binds name z) = is_base_name name ≡ false
GoodEvent here (Loads held) = Plainly here held.content

-- no event of these is of the same name
abbrev pub New : Event → List Event → Type 0
New (Defines name ps e) es = own_in es name ≡ None
New (Binds name z) es = own_in es name ≡ None
New (Loads held) es = image_in es held.content.name ≡ None

abbrev pub GoodEvents : Text → List Event → Type 0
GoodEvents here [] = Unit {0}
GoodEvents here (e ∷ es) = GoodEvent here e × (New e es × GoodEvents here es)

pub record Good (here : Text) (events : List Event) : Type 0 where
  pub home : bytes_eq here base_name ≡ false
  pub each : GoodEvents here events
