-- What evaluation changes: types, methods, bindings, objects, worlds and the printed text.
use Rattle.std.specs.Prelude.{ℕ, suc, Bool, not, List, [], ◌∷◌, ◌++◌, ◌&&◌, ◌||◌, Option, Some, None, find, is_some, if◌then◌else◌}
use Rattle.std.specs.List.{list_any}
use Rattle.std.specs.Str.{bytes_eq}
use Rattle.pj_meaning.specs.Tree.{Text}
use Rattle.pj_meaning.specs.Names.{Id, base_name, main_name}
use Rattle.pj_meaning.specs.Types.{TypeRow}
use Rattle.pj_meaning.specs.Methods.{Method}
use Rattle.pj_meaning.specs.Values.{Value, ObjectRow}

-- what a name of a module is
pub data Role : Type 0 where
  TypeName : Id → Role
  FunctionName : Id → Role
  Constant : Value → Role
  Variable : Value → Role

pub record Binding : Type 0 where
  pub home : Text
  pub name : Text
  pub role : Role

-- an image that was loaded: its name and the bytes of its identity
pub record Loaded : Type 0 where
  pub name : Text
  pub identity : List ℕ

-- a directive that a package's top level holds: a function and concrete types
pub record Wanted : Type 0 where
  pub fun : Id
  pub types : List Id

-- `here` is the module that runs: Main, or the package that is being built
pub record State : Type 0 where
  pub here : Text
  pub types : List TypeRow
  pub methods : List Method
  pub bindings : List Binding
  pub objects : List ObjectRow
  pub allocated : ℕ
  pub images : List Loaded
  pub wanted : List Wanted
  pub newest : ℕ
  pub printed : Text

abbrev pub is_building : State → Bool
is_building s = not (bytes_eq s.here main_name)

-- Base, the module that runs, and each loaded image
abbrev pub is_loaded : State → Text → Bool
is_loaded s home = bytes_eq home base_name || (bytes_eq home s.here || list_any (λ image. bytes_eq image.name home) s.images)

abbrev pub role_in : Option Binding → Option Role
role_in None = None
role_in (Some b) = Some b.role

abbrev pub role_of : List Binding → Text → Text → Option Role
role_of bindings home name = role_in (find (λ b. bytes_eq b.home home && bytes_eq b.name name) bindings)

abbrev pub or_role : Option Role → Option Role → Option Role
or_role (Some r) other = Some r
or_role None other = other

-- an unqualified name is sought in the module of the text, and then in Base
abbrev pub role_from : State → Text → Text → Option Role
role_from s home name = or_role (role_of s.bindings home name) (role_of s.bindings base_name name)

-- a module that isn't Base binds no name that Base binds
abbrev pub is_base_name : State → Text → Text → Bool
is_base_name s home name = not (bytes_eq home base_name) && is_some (role_of s.bindings base_name name)

-- the binding of a name with another role, in its place
abbrev pub rebound : List Binding → Text → Text → Role → List Binding
rebound [] home name role = []
rebound (b ∷ bs) home name role =
    if bytes_eq b.home home && bytes_eq b.name name then record { home = home; name = name; role = role } ∷ bs else b ∷ rebound bs home name role

-- one more binding
abbrev pub bound : State → Text → Text → Role → State
bound s home name role = record s { bindings = s.bindings ++ record { home = home; name = name; role = role } ∷ [] }

abbrev pub reassigned : State → Text → Text → Role → State
reassigned s home name role = record s { bindings = rebound s.bindings home name role }

abbrev pub with_printed : State → Text → State
with_printed s text = record s { printed = s.printed ++ text }

-- one more method, born one world above the newest, which becomes the newest
abbrev pub with_method : State → (ℕ → Method) → State
with_method s born = record s { methods = s.methods ++ born (suc s.newest) ∷ []; newest = suc s.newest }
