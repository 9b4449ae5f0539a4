-- What a function returned is what reading gives, seen by view, unless memory ran out.
use Rattle.std.specs.Prelude.{◌≡◌, List, ℕ, Option, Some, None, Result, Ok, Err, ⊤}
use Rattle.pj_parts.specs.declared.fault.PartFault.{PartFault}
use Rattle.pj_parts.specs.declared.fault.PartFault.TheVariants as faults

abbrev pub Fails : {A : Type 0} → PartFault → Option A → Type 0
Fails faults.Bad read = read ≡ None
Fails faults.NoMemory read = ⊤

abbrev pub Gives : {X A : Type 0} → (X → A) → Result X PartFault → Option A → Type 0
Gives view (Ok x) read = read ≡ Some (view x)
Gives view (Err fault) read = Fails fault read

-- the value itself, unless memory ran out
abbrev pub Copies : Result (List ℕ) PartFault → List ℕ → Type 0
Copies (Ok x) of = x ≡ of
Copies (Err fault) of = fault ≡ faults.NoMemory
