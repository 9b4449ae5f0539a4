-- A text as its characters, each of which is its code point.
use Rattle.std.specs.Prelude.{ℕ, Bool, false, List, [], ◌∷◌, ◌+◌, ◌-◌, ◌==◌, ◌&&◌, ◌||◌, length, nat_le}
use Rattle.std.specs.Char.{len_utf8}

-- how many bytes these characters take
unfoldable pub width : List ℕ → ℕ
width [] = 0
width (c ∷ cs) = len_utf8 c + width cs

-- space, tab and carriage return
abbrev pub is_blank : ℕ → Bool
is_blank c = (c == 32) || (c == 9) || (c == 13)

abbrev pub is_digit : ℕ → Bool
is_digit c = nat_le 48 c && nat_le c 57

-- the first of these passes the test
abbrev pub first_is : (ℕ → Bool) → List ℕ → Bool
first_is test [] = false
first_is test (c ∷ cs) = test c

-- how many characters stand in front of this rest of them
abbrev pub up_to : List ℕ → List ℕ → ℕ
up_to cs rest = length cs - length rest
