-- What it means that a fault counts among some: it is one of them, and none of them is before it.
use Rattle.std.specs.Prelude.{◌≡◌, false, List, [], ◌∷◌, Some, None, ⊤}
use Rattle.std.specs.Prelude.{◌⊎◌}
use Rattle.pj_faults.specs.declared.fault.Fault.{Fault}
use Rattle.pj_faults.specs.First.{before, first}

abbrev pub IsOneOf : Fault → List Fault → Type 0
IsOneOf f [] = ⊥
IsOneOf f (g ∷ gs) = (f ≡ g) ⊎ IsOneOf f gs

abbrev pub NoneBefore : Fault → List Fault → Type 0
NoneBefore f [] = ⊤
NoneBefore f (g ∷ gs) = (before g f ≡ false) × NoneBefore f gs

pub record Counts (f : Fault) (fs : List Fault) : Type 0 where
  pub is_one : IsOneOf f fs
  pub none_before : NoneBefore f fs

-- the first of a list counts, and only an empty list has none
abbrev pub FirstCounts : Type 0
FirstCounts = (fs : List Fault) (f : Fault) → first fs ≡ Some f → Counts f fs

abbrev pub NoneIsEmpty : Type 0
NoneIsEmpty = (fs : List Fault) → first fs ≡ None → fs ≡ []
