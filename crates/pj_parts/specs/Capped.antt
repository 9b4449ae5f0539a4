-- A number of bytes as a u64 has it.
use Rattle.std.specs.Prelude.{ℕ, min}

-- the number, or the greatest u64 where that is less
abbrev pub capped : ℕ → ℕ
capped n = min n 18446744073709551615
