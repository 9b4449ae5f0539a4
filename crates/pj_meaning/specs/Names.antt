-- Names of types and functions, and the texts that the definitions mention.
use Rattle.std.specs.Prelude.{Bool, List, [], ◌∷◌, ◌&&◌, codes}
use Rattle.std.specs.Str.{bytes_eq}
use Rattle.pj_meaning.specs.Tree.{Text}

-- a type or a function by the module that declared it and its name there
pub record Id : Type 0 where
  pub home : Text
  pub name : Text

-- a constructor-like spelling, which unfolds by itself
abbrev pub id : Text → Text → Id
id home name = record { home = home; name = name }

abbrev pub same_id : Id → Id → Bool
same_id a b = bytes_eq a.home b.home && bytes_eq a.name b.name

abbrev pub same_ids : List Id → List Id → Bool
same_ids [] [] = Bool.true
same_ids [] (b ∷ bs) = Bool.false
same_ids (a ∷ as_) [] = Bool.false
same_ids (a ∷ as_) (b ∷ bs) = same_id a b && same_ids as_ bs

abbrev pub base_name : Text
base_name = codes "Base"

abbrev pub main_name : Text
main_name = codes "Main"

-- a name of Base
abbrev pub base : Text → Id
base name = id base_name name

abbrev pub any_type : Id
any_type = base (codes "Any")

abbrev pub int_type : Id
int_type = base (codes "Int64")

abbrev pub bool_type : Id
bool_type = base (codes "Bool")

abbrev pub string_type : Id
string_type = base (codes "String")

abbrev pub nothing_type : Id
nothing_type = base (codes "Nothing")

abbrev pub function_type : Id
function_type = base (codes "Function")
