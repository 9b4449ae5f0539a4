-- What the image of a package holds whose statements made these events.
use Rattle.std.specs.Prelude.{ℤ, List, [], ◌∷◌, length}
use Rattle.pj_meaning.specs.Tree.{Text}
use Rattle.pj_meaning.specs.Names.{id}
use Rattle.pj_meaning.specs.Values.{Whole}
use Rattle.pj_meaning.specs.State.{Binding, Constant}
use Rattle.pj_meaning.specs.Content.{Made, Content}
use Rattle.pj_session.specs.Events.{Parts, ints, body_of, Event, Defines, Binds, Loads}

abbrev pub made_functions : List Event → List Text
made_functions [] = []
made_functions (Defines f ps e ∷ es) = f ∷ made_functions es
made_functions (Binds x z ∷ es) = made_functions es
made_functions (Loads held ∷ es) = made_functions es

abbrev pub made_method : Text → Text → Parts → Made
made_method here f d = record { fun = id here f; signature = ints (length d.0); code = body_of d }

abbrev pub made_methods : Text → List Event → List Made
made_methods here [] = []
made_methods here (Defines f ps e ∷ es) = made_method here f (ps, e) ∷ made_methods here es
made_methods here (Binds x z ∷ es) = made_methods here es
made_methods here (Loads held ∷ es) = made_methods here es

abbrev pub made_const : Text → Text → ℤ → Binding
made_const here x z = record { home = here; name = x; role = Constant (Whole z) }

abbrev pub made_consts : Text → List Event → List Binding
made_consts here [] = []
made_consts here (Defines f ps e ∷ es) = made_consts here es
made_consts here (Binds x z ∷ es) = made_const here x z ∷ made_consts here es
made_consts here (Loads held ∷ es) = made_consts here es

-- its functions, their methods and its constants, each in order
abbrev pub content_in : Text → List Event → Content
content_in here events = record {
  name = here;
  types = [];
  functions = made_functions events;
  methods = made_methods here events;
  bindings = made_consts here events;
  objects = [];
  wanted = [];
}
