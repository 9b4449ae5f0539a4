-- What the code answers where a number is too large.
use Rattle.std.specs.Prelude.{◌≡◌, ◌<◌, ◌≤◌, ◌^◌, List, ℕ, Option, Some, None}
use Rattle.std.specs.Borrow.{Bor}

-- a number with what follows it, or none where it is past 2 ^ 63
abbrev pub Capped : ℕ × List ℕ → Option (ℕ × Bor (List ℕ)) → Type 0
Capped found None = 2 ^ 63 < found.0
Capped found (Some x) = (found.0 ≡ x.0) × (found.1 ≡ x.1.now) × (x.0 ≤ 2 ^ 63)
