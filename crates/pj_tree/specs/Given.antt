-- What a function returned is what reading gives, seen by view, unless memory ran out.
use Rattle.std.specs.Prelude.{◌≡◌, Option, Some, None, Result, Ok, Err, ⊤}
use Rattle.pj_tree.specs.declared.fault.TreeFault.{TreeFault}
use Rattle.pj_tree.specs.declared.fault.TreeFault.TheVariants as faults

abbrev pub Fails : {A : Type 0} → TreeFault → Option A → Type 0
Fails faults.Bad read = read ≡ None
Fails faults.NoMemory read = ⊤

abbrev pub Gives : {X A : Type 0} → (X → A) → Result X TreeFault → Option A → Type 0
Gives view (Ok x) read = read ≡ Some (view x)
Gives view (Err fault) read = Fails fault read
