-- The mentions of pieces, and where they stand.
use Rattle.std.specs.Prelude.{ℕ, zero, suc, ◌+◌, List, [], ◌∷◌, length}
use Rattle.pj_image.specs.Pieces.{Piece, Plain, Mention}

-- what the mentions hold
abbrev pub mentions_of : List Piece → List ℕ
mentions_of [] = []
mentions_of (Plain bytes ∷ pieces) = mentions_of pieces
mentions_of (Mention n ∷ pieces) = n ∷ mentions_of pieces

-- the places of the mentions, of pieces that stand from a place on
abbrev pub places_from : ℕ → List Piece → List ℕ
places_from at [] = []
places_from at (Plain bytes ∷ pieces) = places_from (at + length bytes) pieces
places_from at (Mention n ∷ pieces) = at ∷ places_from (at + 4) pieces

-- so many numbers from one on
abbrev pub count_from : ℕ → ℕ → List ℕ
count_from first zero = []
count_from first (suc n) = first ∷ count_from (first + 1) n
