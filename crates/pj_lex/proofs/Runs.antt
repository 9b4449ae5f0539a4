-- The tokens of a text, computed: so that worked rows compute.
use Rattle.std.proofs.Common.{◌≡◌, ℕ, zero, suc, List, [], ◌∷◌, ◌++◌, Option, Some, None, Result, Ok, Err, drop, subst, refl}
use Rattle.pj_lex.specs.declared.piece.Piece.{Piece}
use Rattle.pj_lex.specs.declared.token.TokenKind.TheVariants as kinds
use Rattle.pj_lex.specs.declared.token.Token.{Token}
use Rattle.pj_lex.specs.declared.token.Before.{Before}
use Rattle.pj_lex.specs.Before.{behind}
use Rattle.pj_lex.specs.Lexed.{Faulty, Lexed, added, ended, goes_on, here, later, past, token}
use Rattle.pj_lex.specs.Pieces.{next_piece}

-- tokens, a place of a fault, or None where there were more pieces than were tried
abbrev pub Outcome : Type 0
Outcome = Option (Result (List Token) ℕ)

abbrev pub more : List Token → Outcome → Outcome
more front (Some (Ok tokens)) = Some (Ok (front ++ tokens))
more front (Some (Err place)) = Some (Err place)
more front None = None

abbrev pub run_piece : (Before → ℕ → List ℕ → Outcome) → Before → ℕ → List ℕ → Option Piece → Outcome
run_piece go before at cs None = Some (Err at)
run_piece go before at cs (Some piece) = more (added before at (past at piece.size cs) piece.what) (go (behind before piece.what) (past at piece.size cs) (drop piece.size cs))

-- so many pieces at most
unfoldable pub run : ℕ → Before → ℕ → List ℕ → Outcome
run zero before at cs = None
run (suc n) before at [] = Some (Ok (token before at at kinds.Eof ∷ []))
run (suc n) before at (c ∷ cs) = run_piece (run n) before at (c ∷ cs) (next_piece before (c ∷ cs))

-- what an outcome says of a text
abbrev Says : Before → ℕ → List ℕ → Outcome → Type 0
Says before at cs (Some (Ok tokens)) = Lexed before at cs tokens
Says before at cs (Some (Err place)) = Faulty before at cs place
Says before at cs None = Unit {0}

more_says : (before : Before) (at : ℕ) (cs : List ℕ) (piece : Piece) (left : Outcome) → next_piece before cs ≡ Some piece → Says (behind before piece.what) (past at piece.size cs) (drop piece.size cs) left
    → Says before at cs (more (added before at (past at piece.size cs) piece.what) left)
more_says before at cs piece (Some (Ok tokens)) is d = goes_on is d
more_says before at cs piece (Some (Err place)) is d = later is d
more_says before at cs piece None is d = tt

piece_says : (go : Before → ℕ → List ℕ → Outcome) → ((before : Before) (at : ℕ) (cs : List ℕ) → Says before at cs (go before at cs))
    → (before : Before) (at c : ℕ) (cs : List ℕ) (found : Option Piece) → next_piece before (c ∷ cs) ≡ found → Says before at (c ∷ cs) (run_piece go before at (c ∷ cs) found)
piece_says go says before at c cs None is = here is
piece_says go says before at c cs (Some piece) is = more_says before at (c ∷ cs) piece _ is (says _ _ _)

run_says : (n : ℕ) (before : Before) (at : ℕ) (cs : List ℕ) → Says before at cs (run n before at cs)
unfolding run
run_says zero before at cs = tt
run_says (suc n) before at [] = ended
run_says (suc n) before at (c ∷ cs) = piece_says (run n) (run_says n) before at c cs (next_piece before (c ∷ cs)) refl

pub lexed : (n : ℕ) (before : Before) (at : ℕ) (cs : List ℕ) (tokens : List Token) → run n before at cs ≡ Some (Ok tokens) → Lexed before at cs tokens
lexed n before at cs tokens is = subst (Says before at cs) is (run_says n before at cs)

pub faulty : (n : ℕ) (before : Before) (at : ℕ) (cs : List ℕ) (place : ℕ) → run n before at cs ≡ Some (Err place) → Faulty before at cs place
faulty n before at cs place is = subst (Says before at cs) is (run_says n before at cs)
