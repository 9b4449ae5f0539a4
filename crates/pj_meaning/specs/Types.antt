-- The list of types: Base's, and then those that scripts and packages declare.
use Rattle.std.specs.Prelude.{ℕ, zero, suc, Bool, true, false, List, [], ◌∷◌, Option, Some, None, length, if◌then◌else◌, find}
use Rattle.pj_meaning.specs.Tree.{Text}
use Rattle.pj_meaning.specs.Names.{Id, same_id, any_type}

-- an abstract type, a struct of either kind, or a concrete type of Base, which nothing constructs
pub data Form : Type 0 where
  Abstract : Form
  Immutable : Form
  Mutable : Form
  Builtin : Form

pub record Field : Type 0 where
  pub name : Text
  pub declared : Id

-- a type with its parent; Any is its own parent
pub record TypeRow : Type 0 where
  pub name : Id
  pub parent : Id
  pub form : Form
  pub fields : List Field

abbrev pub row_of : List TypeRow → Id → Option TypeRow
row_of types t = find (λ row. same_id row.name t) types

abbrev pub parent_in : Option TypeRow → Id
parent_in None = any_type
parent_in (Some row) = row.parent

abbrev pub parent_of : List TypeRow → Id → Id
parent_of types t = parent_in (row_of types t)

-- at most n parents up from s stands t
abbrev pub climbs : List TypeRow → ℕ → Id → Id → Bool
climbs types zero s t = same_id s t
climbs types (suc n) s t = if same_id s t then true else climbs types n (parent_of types s) t

-- a chain of parents leads from s to t, or s is t
abbrev pub is_below : List TypeRow → Id → Id → Bool
is_below types s t = climbs types (length types) s t

-- each type is below the one in its place, and there are as many
abbrev pub all_below : List TypeRow → List Id → List Id → Bool
all_below types [] [] = true
all_below types [] (t ∷ ts) = false
all_below types (s ∷ ss) [] = false
all_below types (s ∷ ss) (t ∷ ts) = if is_below types s t then all_below types ss ts else false

abbrev pub is_abstract_form : Form → Bool
is_abstract_form Abstract = true
is_abstract_form form = false

abbrev pub is_abstract_row : Option TypeRow → Bool
is_abstract_row None = false
is_abstract_row (Some row) = is_abstract_form row.form

abbrev pub is_abstract : List TypeRow → Id → Bool
is_abstract types t = is_abstract_row (row_of types t)
