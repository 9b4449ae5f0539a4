-- What is read so far and what is to come make up the whole.
use Rattle.std.proofs.Common.{◌≡◌, ℕ, ◌+◌, ◌<◌, ◌≤◌, List, [], ◌∷◌, ◌++◌, Option, Some, None, length, take, drop, subst, append_assoc, arith}
use Rattle.pj_lex.specs.declared.piece.Piece.{Piece}
use Rattle.pj_lex.specs.declared.token.TokenKind.{TokenKind}
use Rattle.pj_lex.specs.declared.token.TokenKind.TheVariants as kinds
use Rattle.pj_lex.specs.declared.token.Token.{Token}
use Rattle.pj_lex.specs.declared.token.Before.{Before}
use Rattle.pj_lex.specs.declared.sign.Sign.{Sign}
use Rattle.pj_lex.specs.declared.sign.Sign.TheVariants as signs
use Rattle.pj_lex.specs.Before.{after, behind, parentheses_after, start}
use Rattle.pj_lex.specs.Characters.{width}
use Rattle.pj_lex.specs.Lexed.{Faulty, InOrder, Lexed, added, ended, goes_on, here, last, later, next, past, token}
use Rattle.pj_lex.specs.Pieces.{next_piece}
use Rattle.pj_lex.proofs.Widths.{width_some, width_split}

pub record Keeps (all : List ℕ) (before : Before) (at : ℕ) (rest : List ℕ) (tokens : List Token) : Type 0 where
  pub lexed : (more : List Token) → Lexed before at rest more → Lexed start 0 all (tokens ++ more)
  pub faulty : (place : ℕ) → Faulty before at rest place → Faulty start 0 all place
  pub covers : (more : List Token) → InOrder at (width all) more → InOrder 0 (width all) (tokens ++ more)

pub begins : (all : List ℕ) → Keeps all start 0 all []
begins all = record { lexed = λ more d. d; faulty = λ place d. d; covers = λ more d. d }

by_sign : (n : ℕ) (sign : Sign) → parentheses_after n (kinds.Sign sign) ≤ n + 1
by_sign n signs.LeftParen = omega arith
by_sign n signs.RightParen = omega arith
by_sign n _ = omega arith

by_kind : (n : ℕ) (kind : TokenKind) → parentheses_after n kind ≤ n + 1
by_kind n (kinds.Sign sign) = by_sign n sign
by_kind n _ = omega arith

pub parentheses_rise : (before : Before) (what : Option TokenKind) → (behind before what).parentheses ≤ before.parentheses + 1
unfolding after
parentheses_rise before None = omega arith
parentheses_rise before (Some kind) = by_kind before.parentheses kind

earlier : {a b end : ℕ} {tokens : List Token} → a ≤ b → InOrder b end tokens → InOrder a end tokens
earlier le (last within) = last (omega arith)
earlier le (next from some more) = next (omega arith) some more

covers_by : (at end total : ℕ) (before : Before) (what : Option TokenKind) (more : List Token) → at < end → InOrder end total more → InOrder at total (added before at end what ++ more)
covers_by at end total before (Some kind) more some in_order = next (omega arith) some in_order
covers_by at end total before None more some in_order = earlier (omega arith) in_order

goes : (all : List ℕ) (before : Before) (at : ℕ) (rest : List ℕ) (tokens : List Token) (piece : Piece) → next_piece before rest ≡ Some piece → 0 < piece.size → 0 < length rest → Keeps all before at rest tokens
    → Keeps all (behind before piece.what) (past at piece.size rest) (drop piece.size rest) (tokens ++ added before at (past at piece.size rest) piece.what)
goes all before at rest tokens piece is some more_left so_far = record {
  lexed = λ more d. rw append_assoc (so_far.lexed _ (goes_on is d));
  faulty = λ place d. so_far.faulty place (later is d);
  covers = λ more d. rw append_assoc (so_far.covers _ (covers_by at (past at piece.size rest) (width all) before piece.what more (omega (arith, width_some piece.size rest some more_left)) d));
}

-- a turn of the loop
pub turn : (all : List ℕ) (before now : Before) (at taken : ℕ) (rest left : List ℕ) (tokens more : List Token) (piece : Piece) → next_piece before rest ≡ Some piece → 0 < piece.size → 0 < length rest
    → taken ≡ width (take piece.size rest) → left ≡ drop piece.size rest → now ≡ behind before piece.what → more ≡ tokens ++ added before at (at + taken) piece.what
    → (at + width rest ≡ width all) × (before.parentheses ≤ at) × Keeps all before at rest tokens
    → (at + taken + width left ≡ width all) × (now.parentheses ≤ at + taken) × Keeps all now (at + taken) left more
turn all before now at taken rest left tokens more piece is some more_left is_taken is_left is_now is_more so_far =
    let rises : now.parentheses ≤ before.parentheses + 1 = rw is_now (parentheses_rise before piece.what) in
    let one : 0 < taken = rw is_taken (width_some piece.size rest some more_left) in
    let whole : at + taken + width left ≡ width all = rw (is_taken, is_left) (omega (arith, width_split piece.size rest, so_far.0)) in
    (whole, omega (arith, so_far.1), rw (is_more, is_now, is_left, is_taken) (goes all before at rest tokens piece is some more_left so_far.2))

pub ends : (all : List ℕ) (before : Before) (at : ℕ) (rest : List ℕ) (tokens more : List Token) → length rest ≡ 0 → more ≡ tokens ++ token before at at kinds.Eof ∷ [] → Keeps all before at rest tokens → Lexed start 0 all more
ends all before at [] tokens more none is_more so_far = rw is_more (so_far.lexed _ ended)
ends all before at (c ∷ cs) tokens more none is_more so_far = absurd (omega arith)

pub ends_in_order : (all : List ℕ) (before : Before) (at : ℕ) (rest : List ℕ) (tokens more : List Token) → length rest ≡ 0 → more ≡ tokens ++ token before at at kinds.Eof ∷ [] → at + width rest ≡ width all → Keeps all before at rest tokens → InOrder 0 (width all) more
unfolding width
ends_in_order all before at [] tokens more none is_more total so_far =
    let there : at ≡ width all = omega (arith, total) in
    rw is_more (so_far.covers _ (subst (λ e. InOrder at e (token before at at kinds.Eof ∷ [])) there (last (omega arith))))
ends_in_order all before at (c ∷ cs) tokens more none is_more total so_far = absurd (omega arith)

pub fails : (all : List ℕ) (before : Before) (at : ℕ) (rest : List ℕ) (tokens : List Token) → 0 < length rest → next_piece before rest ≡ None → Keeps all before at rest tokens → Faulty start 0 all at
fails all before at [] tokens some none so_far = absurd (omega arith)
fails all before at (c ∷ cs) tokens some none so_far = so_far.faulty at (here none)
