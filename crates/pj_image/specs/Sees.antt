-- What has been seen is what reading gives, unless memory ran out.
use Rattle.std.specs.Prelude.{◌≡◌, List, ℕ, Bool, true, false, Option, Some, Result, Ok, Err, ⊤}
use Rattle.pj_parts.specs.Given.{Fails}
use Rattle.pj_parts.specs.declared.fault.PartFault.{PartFault}
use Rattle.pj_parts.specs.declared.fault.PartFault.TheVariants as faults
use Rattle.pj_image.specs.declared.fault.DecodeFault.{DecodeFault}
use Rattle.pj_image.specs.Found as found

abbrev pub Sees : {U : Type 0} → Result U PartFault → List (List ℕ) → Option (List (List ℕ)) → Type 0
Sees (Ok u) seen read = read ≡ Some seen
Sees (Err fault) seen read = Fails fault read

-- the same of a section
abbrev pub SeesAt : {U : Type 0} → Result U DecodeFault → List (List ℕ) → Result (List (List ℕ)) ℕ → Type 0
SeesAt (Ok u) seen read = read ≡ Ok seen
SeesAt (Err fault) seen read = found.Fails fault read

-- a test that holds, and else a fault
abbrev pub Passes : {U : Type 0} → Result U PartFault → Bool → Type 0
Passes (Ok u) test = test ≡ true
Passes (Err faults.Bad) test = test ≡ false
Passes (Err faults.NoMemory) test = ⊤
