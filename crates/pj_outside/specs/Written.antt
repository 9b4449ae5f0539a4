-- What a put says of the bytes that a sink has taken.
use Rattle.std.specs.Prelude.{◌≡◌, ℕ, List, ◌++◌, take, Option, Result}
use Rattle.std.specs.declared.option.Option.TheVariants.{Some}
use Rattle.std.specs.declared.result.Result.TheVariants.{Ok, Err}

-- after Ok the piece stands behind what was written, and after a fault a front of it does
abbrev pub Puts : {T E : Type 0} → List ℕ → List ℕ → Result T E → Option (List ℕ) → Type 0
Puts old piece (Ok _) now = now ≡ Some (old ++ piece)
Puts old piece (Err _) now = (n : ℕ) × (now ≡ Some (old ++ take n piece))
