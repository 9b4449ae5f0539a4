-- What a name of a module is, as the events tell it.
use Rattle.std.specs.Prelude.{◌≡◌, ℕ, ℤ, pos, Bool, ◌||◌, ◌==◌, List, [], ◌∷◌, Option, Some, None, is_some, length, if◌then◌else◌}
use Rattle.std.specs.List.{list_any}
use Rattle.std.specs.Str.{bytes_eq}
use Rattle.pj_meaning.specs.Tree.{Text}
use Rattle.pj_meaning.specs.Names.{id, base_name}
use Rattle.pj_meaning.specs.Methods.{Pick, One, NoneMatch}
use Rattle.pj_meaning.specs.Values.{Value, Whole}
use Rattle.pj_meaning.specs.State.{Role, FunctionName, Constant, Variable, Binding}
use Rattle.pj_meaning.specs.Content.{Made, Content, held_in}
use Rattle.pj_session.specs.Events.{Parts, parts_of, method_of, Event, Defines, Binds, Loads}

-- a function, with its only method if it has one, or a number
pub data Thing : Type 0 where
  Calls : Option Parts → Thing
  Holds : ℤ → Thing

abbrev pub number_of : Role → ℤ
number_of (Constant (Whole z)) = z
number_of (Variable (Whole z)) = z
number_of role = pos 0

-- what a content has under a name: its functions come before its consts and globals

abbrev pub made_for : Text → List Made → Option Parts
made_for name [] = None
made_for name (m ∷ ms) = if bytes_eq m.fun.name name then Some (parts_of m.code) else made_for name ms

abbrev pub bound_in : Text → List Binding → Option Thing
bound_in name [] = None
bound_in name (b ∷ bs) = if bytes_eq b.name name then Some (Holds (number_of b.role)) else bound_in name bs

abbrev pub has_function : Content → Text → Bool
has_function c name = list_any (λ f. bytes_eq f name) c.functions

abbrev pub thing_of : Content → Text → Option Thing
thing_of c name = if has_function c name then Some (Calls (made_for name c.methods)) else bound_in name c.bindings

-- the first that the module that runs binds to a name
abbrev pub own_in : List Event → Text → Option Thing
own_in [] name = None
own_in (Defines f ps e ∷ es) name = if bytes_eq f name then Some (Calls (Some (ps, e))) else own_in es name
own_in (Binds x z ∷ es) name = if bytes_eq x name then Some (Holds z) else own_in es name
own_in (Loads held ∷ es) name = own_in es name

-- the first image of a name
abbrev pub image_in : List Event → Text → Option Content
image_in [] home = None
image_in (Defines f ps e ∷ es) home = image_in es home
image_in (Binds x z ∷ es) home = image_in es home
image_in (Loads held ∷ es) home = if bytes_eq held.content.name home then Some held.content else image_in es home

abbrev pub image_thing : Option Content → Text → Option Thing
image_thing None name = None
image_thing (Some c) name = thing_of c name

-- what a name is in a module other than Base
abbrev pub thing_in : Text → List Event → Text → Text → Option Thing
thing_in here events home name = if bytes_eq here home then own_in events name else image_thing (image_in events home) name

-- Base, the module that runs, and each image are there
abbrev pub has_package : Text → List Event → Text → Bool
has_package here events home = bytes_eq home base_name || (bytes_eq home here || is_some (image_in events home))

-- the method that so many integers call
abbrev pub method_for : ℕ → Option Thing → Option Parts
method_for n (Some (Calls (Some d))) = if length d.0 == n then Some d else None
method_for n thing = None

-- What the state has of this: the role of the name, and what a call with so many integers picks.

abbrev pub number_held : Option Role → Option Value
number_held None = None
number_held (Some role) = held_in role

abbrev pub RoleAs : Text → Text → Option Thing → Option Role → Type 0
RoleAs home name None role = role ≡ None
RoleAs home name (Some (Calls d)) role = role ≡ Some (FunctionName (id home name))
RoleAs home name (Some (Holds z)) role = number_held role ≡ Some (Whole z)

abbrev pub PickAs : Text → Text → Option Parts → Pick → Type 0
PickAs home name None p = p ≡ NoneMatch
PickAs home name (Some d) p = (birth : ℕ) × (p ≡ One (method_of home name d birth))
