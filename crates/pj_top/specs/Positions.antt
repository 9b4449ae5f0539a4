-- The line and the column of a place in a text, both counted from 1. A column is a character, and a line ends with its line feed.
use Rattle.std.specs.Prelude.{ℕ, ◌+◌, Bool, List, [], ◌∷◌, ◌||◌, ◌==◌, nat_le, nat_lt, take, if◌then◌else◌}
use Rattle.pj_top.specs.declared.position.Position.{Position}

-- a byte that isn't the first of its character has a value from 128 to 191
abbrev pub begins_character : ℕ → Bool
begins_character b = nat_lt b 128 || nat_le 192 b

-- the position behind a byte
abbrev pub past : Position → ℕ → Position
past p b =
    if b == 10 then record { line = p.line + 1; column = 1 }
    else if begins_character b then record { line = p.line; column = p.column + 1 } else p

unfoldable pub behind : Position → List ℕ → Position
behind p [] = p
behind p (b ∷ bs) = behind (past p b) bs

-- the position of the byte at a place
abbrev pub position_of : List ℕ → ℕ → Position
position_of bytes place = behind (record { line = 1; column = 1 }) (take place bytes)
