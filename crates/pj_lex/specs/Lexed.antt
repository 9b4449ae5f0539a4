-- The tokens of a text, and where it goes on with no piece.
use Rattle.std.specs.Prelude.{◌≡◌, ℕ, ◌+◌, ◌<◌, ◌≤◌, ⊤, Bool, List, [], ◌∷◌, ◌++◌, Option, Some, None, drop, take}
use Rattle.std.specs.Str.{IsUtf8, IsValidUpTo, chars}
use Rattle.pj_lex.specs.declared.fault.SyntaxFault.{SyntaxFault}
use Rattle.pj_lex.specs.declared.fault.SyntaxFault.TheVariants.{Syntax, NoMemory}
use Rattle.pj_lex.specs.declared.fault.SyntaxKind.TheVariants as faults
use Rattle.pj_lex.specs.declared.piece.Piece.{Piece}
use Rattle.pj_lex.specs.declared.token.TokenKind.{TokenKind}
use Rattle.pj_lex.specs.declared.token.TokenKind.TheVariants as kinds
use Rattle.pj_lex.specs.declared.token.Token.{Token}
use Rattle.pj_lex.specs.declared.token.Before.{Before}
use Rattle.pj_lex.specs.Before.{behind, start}
use Rattle.pj_lex.specs.Characters.{width}
use Rattle.pj_lex.specs.Pieces.{next_piece}

-- a token that stands between two places behind what is before it
abbrev pub token : Before → ℕ → ℕ → TokenKind → Token
token before from to kind = record { what = kind; start = from; end = to; blank = before.blank }

-- what a piece adds to the tokens: nothing, where it is none
abbrev pub added : Before → ℕ → ℕ → Option TokenKind → List Token
added before from to (Some kind) = token before from to kind ∷ []
added before from to None = []

-- the place behind so many characters. A place is a number of bytes.
abbrev pub past : ℕ → ℕ → List ℕ → ℕ
past at size cs = at + width (take size cs)

-- These are the tokens of the characters that stand behind what is before them, from this place on: those of the piece at the
-- front, and of what follows it. The list ends with an empty token at the text's end.
pub data Lexed : Before → ℕ → List ℕ → List Token → Type 0 where
  ended : {before : Before} {at : ℕ} → Lexed before at [] (token before at at kinds.Eof ∷ [])
  goes_on : {before : Before} {at : ℕ} {cs : List ℕ} {piece : Piece} {tokens : List Token} → next_piece before cs ≡ Some piece
      → Lexed (behind before piece.what) (past at piece.size cs) (drop piece.size cs) tokens
      → Lexed before at cs (added before at (past at piece.size cs) piece.what ++ tokens)

-- the characters go on with no piece from this place on, which is the first such place
pub data Faulty : Before → ℕ → List ℕ → ℕ → Type 0 where
  here : {before : Before} {at c : ℕ} {cs : List ℕ} → next_piece before (c ∷ cs) ≡ None → Faulty before at (c ∷ cs) at
  later : {before : Before} {at place : ℕ} {cs : List ℕ} {piece : Piece} → next_piece before cs ≡ Some piece
      → Faulty (behind before piece.what) (past at piece.size cs) (drop piece.size cs) place → Faulty before at cs place

-- these are the tokens of a text of bytes
abbrev pub IsTokens : List ℕ → List Token → Type 0
IsTokens bytes tokens = IsUtf8 bytes × Lexed start 0 (chars bytes) tokens

-- This is wrong with a text of bytes, at this place. Bytes that are no UTF-8 come before all else.
abbrev pub IsFault : List ℕ → SyntaxFault → Type 0
IsFault bytes (Syntax place faults.Utf8) = IsValidUpTo bytes place
IsFault bytes (Syntax place faults.Token) = IsUtf8 bytes × Faulty start 0 (chars bytes) place
IsFault bytes (Syntax place _) = ⊥
IsFault bytes NoMemory = ⊤

-- the tokens stand in order from one place to another, with a byte at least each, but for the last, which is empty
pub data InOrder : ℕ → ℕ → List Token → Type 0 where
  last : {at end : ℕ} {blank : Bool} → at ≤ end → InOrder at end (record { what = kinds.Eof; start = end; end = end; blank = blank } ∷ [])
  next : {at end : ℕ} {token : Token} {tokens : List Token} → at ≤ token.start → token.start < token.end → InOrder token.end end tokens
      → InOrder at end (token ∷ tokens)

-- a fault of the text, and no want of memory
abbrev pub IsSyntax : SyntaxFault → Type 0
IsSyntax (Syntax place kind) = ⊤
IsSyntax NoMemory = ⊥
