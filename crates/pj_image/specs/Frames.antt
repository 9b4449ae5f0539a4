-- How a section stands in a file: its number, how many bytes it has, and these.
use Rattle.std.specs.Prelude.{ℕ, List, ◌++◌, length, take, drop, ◌==◌, ◌&&◌, nat_le, if◌then◌else◌, Option, Some, None}
use Rattle.pj_fields.specs.Fields.{Reader, after, number, number_at}

abbrev pub section : ℕ → List ℕ → List ℕ
section asked payload = number asked ++ (number (length payload) ++ payload)

-- what was read, if nothing is left
abbrev pub alone : {A : Type 0} → Option (A × List ℕ) → Option A
alone None = None
alone (Some x) = if length x.1 == 0 then Some x.0 else None

-- with the bytes behind
abbrev pub with_rest : {A : Type 0} → List ℕ → Option A → Option (A × List ℕ)
with_rest rest None = None
with_rest rest (Some x) = Some (x, rest)

-- the section with the asked number, whose bytes the reader reads to their end
abbrev pub sized : {A : Type 0} → ℕ → Reader A → ℕ → ℕ → Reader A
sized asked get found size bytes = if found == asked && nat_le size (length bytes) then with_rest (drop size bytes) (alone (get (take size bytes))) else None

unfoldable pub framed : {A : Type 0} → ℕ → Reader A → Reader A
framed asked get bytes = after (number_at bytes) (λ found rest. after (number_at rest) (λ size behind. sized asked get found size behind))
