-- Reading that names the first section at fault.
use Rattle.std.specs.Prelude.{◌≡◌, ℕ, Bool, true, false, Option, Some, None, Result, Ok, Err, ⊤}
use Rattle.pj_image.specs.declared.fault.DecodeFault.{DecodeFault}
use Rattle.pj_image.specs.declared.fault.DecodeFault.TheVariants as faults

-- goes on with what was found
infixl 10 ◌>>=◌
abbrev pub ◌>>=◌ : {A B : Type 0} → Result A ℕ → (A → Result B ℕ) → Result B ℕ
(Ok x) >>= next = next x
(Err section) >>= next = Err section

-- what was found, or a fault of the section
abbrev pub or_fault : {A : Type 0} → ℕ → Option A → Result A ℕ
or_fault section None = Err section
or_fault section (Some x) = Ok x

-- nothing to say, or a fault of the section
abbrev pub checked : ℕ → Bool → Result (Unit {0}) ℕ
checked section true = Ok tt
checked section false = Err section

-- what a function returned, seen by view, is what reading gives, unless memory ran out
abbrev pub Fails : {A : Type 0} → DecodeFault → Result A ℕ → Type 0
Fails (faults.Format section) read = read ≡ Err section
Fails faults.NoMemory read = ⊤

abbrev pub Finds : {X A : Type 0} → (X → A) → Result X DecodeFault → Result A ℕ → Type 0
Finds view (Ok x) read = read ≡ Ok (view x)
Finds view (Err fault) read = Fails fault read
