-- Sizes of pieces.
use Rattle.std.specs.Prelude.{ℕ, ◌<◌, ◌≤◌, Option, IfSome}
use Rattle.pj_lex.specs.declared.piece.Piece.{Piece}

-- a piece has a character at least, and no more than there are
abbrev pub Fits : Option Piece → ℕ → Type 0
Fits found characters = IfSome found (λ piece. (0 < piece.size) × (piece.size ≤ characters))
