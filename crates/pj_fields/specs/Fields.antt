-- How fields stand in bytes, and how they are read from the front of bytes.
use Rattle.std.specs.Prelude.{ℕ, zero, suc, ℤ, List, [], ◌∷◌, ◌++◌, length, take, drop, Option, Some, None, nat_lt, ◌==◌, if◌then◌else◌}
use Rattle.std.specs.List.{flat_map}
use Rattle.std.specs.Int.{w32, w64, to_le_bytes, from_le_bytes, cast_unsigned, cast_signed}

-- ---- the bytes of a field

-- four bytes, the lowest first
unfoldable pub number : ℕ → List ℕ
number n = to_le_bytes w32 n

-- eight bytes in two's complement, the lowest first
unfoldable pub int : ℤ → List ℕ
int z = to_le_bytes w64 (cast_unsigned w64 z)

-- how many there are, and each of them
unfoldable pub list : {A : Type 0} → (A → List ℕ) → List A → List ℕ
list put xs = number (length xs) ++ flat_map put xs

-- ---- reading from the front

-- what stands at the front, and the bytes after it
abbrev pub Reader : Type 0 → Type 0
Reader A = List ℕ → Option (A × List ℕ)

-- goes on behind what was read
abbrev pub after : {A B : Type 0} → Option (A × List ℕ) → (A → Reader B) → Option (B × List ℕ)
after None next = None
after (Some x) next = next x.0 x.1

abbrev pub done : {A : Type 0} → A → Reader A
done x bytes = Some (x, bytes)

abbrev pub made : {A B : Type 0} → (A → B) → Reader A → Reader B
made make get bytes = after (get bytes) (λ x rest. Some (make x, rest))

abbrev pub both : {A B : Type 0} → Reader A → Reader B → Reader (A × B)
both first second bytes = after (first bytes) (λ x rest. after (second rest) (λ y left. Some ((x, y), left)))

unfoldable pub number_at : Reader ℕ
number_at bytes = if nat_lt (length bytes) 4 then None else Some (from_le_bytes w32 (take 4 bytes), drop 4 bytes)

unfoldable pub int_at : Reader ℤ
int_at bytes = if nat_lt (length bytes) 8 then None else Some (cast_signed w64 (from_le_bytes w64 (take 8 bytes)), drop 8 bytes)

-- so many, one after another
unfoldable pub many : {A : Type 0} → Reader A → ℕ → Reader (List A)
many get zero bytes = Some ([], bytes)
many get (suc n) bytes = after (get bytes) (λ x rest. after (many get n rest) (λ xs left. Some (x ∷ xs, left)))

unfoldable pub list_at : {A : Type 0} → Reader A → Reader (List A)
list_at get bytes = after (number_at bytes) (λ n rest. many get n rest)

-- the reader that stands beside a tag
abbrev pub pick : {A : Type 0} → List (ℕ × Reader A) → ℕ → Reader A
pick [] tag bytes = None
pick (row ∷ rows) tag bytes = if tag == row.0 then row.1 bytes else pick rows tag bytes

-- a tag, and behind it what stands beside it
abbrev pub tagged : {A : Type 0} → List (ℕ × Reader A) → Reader A
tagged rows bytes = after (number_at bytes) (λ tag rest. pick rows tag rest)
