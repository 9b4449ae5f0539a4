-- A text has one list of tokens or one place at which it goes on with no piece, and never both.
use Rattle.std.proofs.Common.{◌≡◌, ℕ, List, [], ◌∷◌, ◌++◌, Some, None, drop, refl, sym, ap, subst, ◌∙◌}
use Rattle.pj_lex.specs.declared.piece.Piece.{Piece}
use Rattle.pj_lex.specs.declared.token.TokenKind.TheVariants as kinds
use Rattle.pj_lex.specs.declared.token.Token.{Token}
use Rattle.pj_lex.specs.declared.token.Before.{Before}
use Rattle.pj_lex.specs.Before.{behind}
use Rattle.pj_lex.specs.Lexed.{Faulty, Lexed, added, ended, goes_on, here, later, past, token}
use Rattle.pj_lex.specs.Pieces.{next_piece}

-- how tokens go on behind a piece
record Goes (before : Before) (at : ℕ) (cs : List ℕ) (tokens : List Token) (piece : Piece) : Type 0 where
  more : List Token
  are : tokens ≡ added before at (past at piece.size cs) piece.what ++ more
  rest : Lexed (behind before piece.what) (past at piece.size cs) (drop piece.size cs) more

-- a text that begins with a piece has it and what follows
after_piece : {before : Before} {at : ℕ} {cs : List ℕ} {tokens : List Token} → Lexed before at cs tokens → (piece : Piece) → next_piece before cs ≡ Some piece → Goes before at cs tokens piece
unfolding next_piece
after_piece ended piece is = cc
after_piece {before} {at} {cs} (goes_on {piece = found} {tokens = more} found_is rest) piece is =
    let same : found ≡ piece = cc in
    subst (Goes before at cs (added before at (past at found.size cs) found.what ++ more)) same (record { more = more; are = refl; rest = rest })

-- nothing follows the last token
after_end : {before : Before} {at : ℕ} {tokens : List Token} → Lexed before at [] tokens → tokens ≡ token before at at kinds.Eof ∷ []
unfolding next_piece
after_end ended = refl
after_end (goes_on is rest) = cc

pub one_list : {before : Before} {at : ℕ} {cs : List ℕ} {tokens others : List Token} → Lexed before at cs tokens → Lexed before at cs others → tokens ≡ others
one_list ended other = sym (after_end other)
one_list {before} {at} {cs} (goes_on {piece = piece} is rest) other =
    let next = after_piece other piece is in
    ap (λ ts. added before at (past at piece.size cs) piece.what ++ ts) (one_list rest next.rest) ∙ sym next.are

-- how a fault goes on behind a piece
record Fails (before : Before) (at : ℕ) (cs : List ℕ) (place : ℕ) (piece : Piece) : Type 0 where
  rest : Faulty (behind before piece.what) (past at piece.size cs) (drop piece.size cs) place

fault_after : {before : Before} {at place : ℕ} {cs : List ℕ} → Faulty before at cs place → (piece : Piece) → next_piece before cs ≡ Some piece → Fails before at cs place piece
fault_after (here none) piece is = cc
fault_after {before} {at} {place} {cs} (later {piece = found} found_is rest) piece is =
    let same : found ≡ piece = cc in
    subst (Fails before at cs place) same (record { rest = rest })

no_fault_at_end : {before : Before} {at place : ℕ} → Faulty before at [] place → ⊥
unfolding next_piece
no_fault_at_end (later is rest) = cc

pub never_both : {before : Before} {at place : ℕ} {cs : List ℕ} {tokens : List Token} → Lexed before at cs tokens → Faulty before at cs place → ⊥
never_both ended fault = no_fault_at_end fault
never_both (goes_on {piece = piece} is rest) fault = never_both rest (fault_after fault piece is).rest

first_fault : {before : Before} {at other c : ℕ} {cs : List ℕ} → next_piece before (c ∷ cs) ≡ None → Faulty before at (c ∷ cs) other → at ≡ other
first_fault none (here also) = refl
first_fault none (later is rest) = cc

pub one_place : {before : Before} {at place other : ℕ} {cs : List ℕ} → Faulty before at cs place → Faulty before at cs other → place ≡ other
one_place (here none) fault = first_fault none fault
one_place (later {piece = piece} is rest) fault = one_place rest (fault_after fault piece is).rest
