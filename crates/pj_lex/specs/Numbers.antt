-- Integers.
use Rattle.std.specs.Prelude.{ℕ, ℤ, pos, neg_ℤ, ◌+◌, ◌-◌, ◌*◌, ◌^◌, ◌==◌, ◌&&◌, List, [], ◌∷◌, Option, Some, None, nat_le, nat_lt, if◌then◌else◌}
use Rattle.pj_lex.specs.Characters.{first_is, is_digit}

-- The number so far goes on with digits, and with a `_` that a digit follows directly. So each `_` stands alone between digits.
unfoldable pub digits : ℕ → List ℕ → ℕ × List ℕ
digits n [] = (n, [])
digits n (c ∷ cs) =
    if is_digit c then digits (10 * n + (c - 48)) cs else if (c == 95) && first_is is_digit cs then digits n cs else (n, c ∷ cs)

-- a number of 64 bits with a sign, and what follows it
abbrev pub positive : ℕ × List ℕ → Option (ℤ × List ℕ)
positive found = if nat_lt found.0 (2 ^ 63) then Some (pos found.0, found.1) else None

abbrev pub negative : ℕ × List ℕ → Option (ℤ × List ℕ)
negative found = if nat_le found.0 (2 ^ 63) then Some (neg_ℤ (pos found.0), found.1) else None
