-- Which fault counts: that with the lowest place, and at one place the first in the order of kinds.
use Rattle.std.specs.Prelude.{ℕ, Bool, true, false, ◌&&◌, ◌||◌, ◌==◌, nat_lt, List, [], ◌∷◌, Option, Some, None, if◌then◌else◌}
use Rattle.pj_faults.specs.declared.fault.Fault.{Fault}
use Rattle.pj_faults.specs.declared.fault.ScopeKind.{ScopeKind}
use Rattle.pj_faults.specs.declared.fault.ScopeKind.TheVariants.{Many, ModuleName, Twice, LoopName, GlobalLocal, Outside, Reserved}

abbrev pub rank : ScopeKind → ℕ
rank Many = 0
rank ModuleName = 1
rank Twice = 2
rank LoopName = 3
rank GlobalLocal = 4
rank Outside = 5
rank Reserved = 6

unfoldable pub before : Fault → Fault → Bool
before a b = nat_lt a.place b.place || ((a.place == b.place) && nat_lt (rank a.kind) (rank b.kind))

-- the one of two that counts
unfoldable pub sooner : Option Fault → Option Fault → Option Fault
sooner None b = b
sooner (Some a) None = Some a
sooner (Some a) (Some b) = Some (if before b a then b else a)

-- the one of a list that counts
unfoldable pub first : List Fault → Option Fault
first [] = None
first (f ∷ fs) = sooner (Some f) (first fs)

unfoldable pub when : Bool → ScopeKind → ℕ → Option Fault
when true kind place = Some (record { place = place; kind = kind })
when false kind place = None
