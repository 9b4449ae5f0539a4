-- Values, the objects that they name, and when two are identical.
use Rattle.std.specs.Prelude.{ℕ, ℤ, suc, ◌+◌, Bool, true, false, List, [], ◌∷◌, ◌&&◌, nat_eq, Option, Some, None, find}
use Rattle.std.specs.Ordering.{int_eq}
use Rattle.std.specs.Str.{bytes_eq}
use Rattle.pj_meaning.specs.Tree.{Text}
use Rattle.pj_meaning.specs.Names.{Id, same_id, int_type, bool_type, string_type, nothing_type, function_type, any_type}

-- a mutable object by its owner, a package or Main, and its number there
pub record ObjectName : Type 0 where
  pub owner : Text
  pub number : ℕ

abbrev pub same_object : ObjectName → ObjectName → Bool
same_object a b = bytes_eq a.owner b.owner && nat_eq a.number b.number

mutual
  pub data Value : Type 0 where
    Nil : Value
    Truth : Bool → Value
    Whole : ℤ → Value
    String : Text → Value
    Function : Id → Value
    Object : ObjectName → Value
    Struct : Id → Values → Value

  pub data Values : Type 0 where
    empty : Values
    more : Value → Values → Values

abbrev pub values_of : List Value → Values
values_of [] = empty
values_of (v ∷ vs) = more v (values_of vs)

abbrev pub list_of : Values → List Value
list_of empty = []
list_of (more v vs) = v ∷ list_of vs

-- a mutable object: its name, its type and the values of its fields
pub record ObjectRow : Type 0 where
  pub name : ObjectName
  pub type : Id
  pub values : List Value

abbrev pub object_of : List ObjectRow → ObjectName → Option ObjectRow
object_of objects o = find (λ row. same_object row.name o) objects

abbrev pub type_of_row : Option ObjectRow → Id
type_of_row None = any_type
type_of_row (Some row) = row.type

abbrev pub type_of : List ObjectRow → Value → Id
type_of objects Nil = nothing_type
type_of objects (Truth b) = bool_type
type_of objects (Whole z) = int_type
type_of objects (String s) = string_type
type_of objects (Function f) = function_type
type_of objects (Object o) = type_of_row (object_of objects o)
type_of objects (Struct t vs) = t

abbrev same_truth : Bool → Bool → Bool
same_truth true b = b
same_truth false true = false
same_truth false false = true

abbrev is_nil : Value → Bool
is_nil Nil = true
is_nil _ = false

abbrev is_truth : Bool → Value → Bool
is_truth b (Truth c) = same_truth b c
is_truth b _ = false

abbrev is_whole : ℤ → Value → Bool
is_whole z (Whole y) = int_eq z y
is_whole z _ = false

abbrev is_string : Text → Value → Bool
is_string s (String t) = bytes_eq s t
is_string s _ = false

abbrev is_function : Id → Value → Bool
is_function f (Function g) = same_id f g
is_function f _ = false

abbrev is_object : ObjectName → Value → Bool
is_object o (Object p) = same_object o p
is_object o _ = false

-- identical: objects and functions by identity, all else by type and contents
abbrev mutual
  pub egal : Value → Value → Bool
  egal Nil w = is_nil w
  egal (Truth b) w = is_truth b w
  egal (Whole z) w = is_whole z w
  egal (String s) w = is_string s w
  egal (Function f) w = is_function f w
  egal (Object o) w = is_object o w
  egal (Struct t vs) (Struct u ws) = same_id t u && egal_all vs ws
  egal (Struct t vs) w = false

  pub egal_all : Values → Values → Bool
  egal_all empty empty = true
  egal_all empty (more w ws) = false
  egal_all (more v vs) empty = false
  egal_all (more v vs) (more w ws) = egal v w && egal_all vs ws

-- an immutable struct value has one part and those of its fields; any other value has one
abbrev mutual
  pub parts : Value → ℕ
  parts (Struct t vs) = suc (parts_of vs)
  parts v = 1

  pub parts_of : Values → ℕ
  parts_of empty = 0
  parts_of (more v vs) = parts v + parts_of vs
