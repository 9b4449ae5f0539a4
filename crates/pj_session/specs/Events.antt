-- A session's state as what was added to Base, in order: functions and constants of the module that runs, and images.
use Rattle.std.specs.Prelude.{ℕ, zero, suc, ℤ, List, [], ◌∷◌, length}
use Rattle.pj_meaning.specs.Tree.{Text, Expr, Nothing, Body, body, step, end}
use Rattle.pj_meaning.specs.Tree as tree
use Rattle.pj_meaning.specs.Names.{Id, id, int_type}
use Rattle.pj_meaning.specs.Methods.{Method}
use Rattle.pj_meaning.specs.Values.{Whole}
use Rattle.pj_meaning.specs.State.{State, FunctionName, Constant, bound, with_method, with_printed}
use Rattle.pj_meaning.specs.Base.{start}
use Rattle.pj_meaning.specs.Packages.{Held, add}

-- a function's parameters, which are all Int64, and its expression
abbrev pub Parts : Type 0
Parts = List Text × Expr

-- Int64, so many times
abbrev pub ints : ℕ → List Id
ints zero = []
ints (suc n) = int_type ∷ ints n

abbrev pub body_of : Parts → Body
body_of d = body d.0 [] (step (tree.Value d.1) end)

-- the parts of a body that consists of one expression
abbrev pub parts_of : Body → Parts
parts_of (body ps xs (step (tree.Value e) b)) = (ps, e)
parts_of code = ([], Nothing)

-- the method that a definition of a function adds in a module
abbrev pub method_of : Text → Text → Parts → ℕ → Method
method_of home name d birth =
    record { fun = id home name; signature = ints (length d.0); code = body_of d; home = home; birth = birth }

-- a function of the module that runs, a constant of it, or an image
pub data Event : Type 0 where
  Defines : Text → List Text → Expr → Event
  Binds : Text → ℤ → Event
  Loads : Held → Event

abbrev pub with_event : State → Event → State
with_event s (Defines name ps e) =
    with_method (bound s s.here name (FunctionName (id s.here name))) (method_of s.here name (ps, e))
with_event s (Binds name z) = bound s s.here name (Constant (Whole z))
with_event s (Loads held) = add held s

abbrev pub after_events : State → List Event → State
after_events s [] = s
after_events s (e ∷ es) = after_events (with_event s e) es

-- the state in which this module runs, after these events and this output
abbrev pub state_of : Text → List Event → Text → State
state_of here events printed = after_events (with_printed (start here) printed) events
