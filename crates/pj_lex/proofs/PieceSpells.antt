-- The text of a piece is that of its token.
use Rattle.std.proofs.Common.{◌≡◌, ℕ, zero, suc, ◌+◌, ◌-◌, ◌≤◌, ◌==◌, ◌&&◌, ◌||◌, ◌⊎◌, inl, inr, Bool, true, false, cond, List, [], ◌∷◌, Option, Some, None, IfSome, length, take, drop, refl, sym, ap, subst, arith, lit<, nat_eq}
use Rattle.std.specs.Prelude.{⊤, ℤ, codes, encode_utf8_all, nat_le, nat_lt}
use Rattle.std.specs.List.{list_all, starts_with}
use Rattle.std.specs.Str.{all_scalars, bytes_eq}
use Rattle.std.proofs.Math.Utf8.{scalar}
use Rattle.std.proofs.lemmas.Bool.{eqb-true}
use Rattle.std.proofs.lemmas.Slice.Eq.{bytes_eq-Decides}
use Rattle.std.proofs.lemmas.Str.{chars-encodes}
use Rattle.unicode_ident.specs.Ident.{is_xid_start}
use Rattle.unicode_ident.proofs.IdentLemmas.{is_xid_start-is_xid_continue, is_xid_continue-ascii}
use Rattle.pj_words.specs.declared.word.Word.{Word}
use Rattle.pj_words.specs.Reserved.{all_words, reserved_word, word_text}
use Rattle.pj_words.specs.Words.{continues_name, is_identifier, longest_name, starts_name}
use Rattle.pj_lex.specs.declared.sign.Sign.{Sign}
use Rattle.pj_lex.specs.declared.piece.Piece.{Piece}
use Rattle.pj_lex.specs.declared.token.TokenKind.{TokenKind}
use Rattle.pj_lex.specs.declared.token.TokenKind.TheVariants as kinds
use Rattle.pj_lex.specs.declared.token.Before.{Before}
use Rattle.pj_lex.specs.Characters.{is_blank, is_digit, up_to, width}
use Rattle.pj_lex.specs.Comments.{past_comments}
use Rattle.pj_lex.specs.Names.{goes_on, past_name}
use Rattle.pj_lex.specs.Numbers.{digits, negative, positive}
use Rattle.pj_lex.specs.Pieces.{at_eval, comment, integer, is_minus_of_literal, is_token, line_end, long_comment, named_by, next_piece, passed, plain_piece, signed, string, word}
use Rattle.pj_lex.specs.Signs.{all_signs, sign_at, sign_text}
use Rattle.pj_lex.specs.Spelled.{Spells}
use Rattle.pj_lex.specs.Strings.{quoted}
use Rattle.pj_lex.proofs.SignFits.{find_passes}
use Rattle.pj_lex.proofs.Widths.{width_encodes}

-- ---- tests

either : {X : Type 0} (P : X → Type 0) (b : Bool) (x y : X) → (b ≡ true → P x) → (b ≡ false → P y) → P (cond b x y)
either P true x y then_so else_so = then_so refl
either P false x y then_so else_so = else_so refl

and_left : (a b : Bool) → (a && b) ≡ true → a ≡ true
and_left true b e = refl
and_left false b e = cc

and_right : (a b : Bool) → (a && b) ≡ true → b ≡ true
and_right true b e = e
and_right false b e = cc

or_cases : (a b : Bool) → (a || b) ≡ true → (a ≡ true) ⊎ (b ≡ true)
or_cases true b e = inl refl
or_cases false true e = inr refl
or_cases false false e = cc

starts_continue : (c : ℕ) → starts_name c ≡ true → continues_name c ≡ true
unfolding starts_name continues_name
starts_continue c starts =
    elim (or_cases (is_xid_start c) (c == 95) starts) [
      | inl xid ↦ rw (is_xid_start-is_xid_continue c xid) refl
      | inr low ↦ let e : c ≡ 95 = eqb-true c 95 low in rw (e, is_xid_continue-ascii 95 (lit< tt)) refl
    ]

-- ---- lists of characters

pub scalars_take : (n : ℕ) (cs : List ℕ) → all_scalars cs ≡ true → all_scalars (take n cs) ≡ true
scalars_take zero cs all = refl
scalars_take (suc n) [] all = refl
scalars_take (suc n) (c ∷ cs) all = rw (and_left (scalar c) (all_scalars cs) all, scalars_take n cs (and_right (scalar c) (all_scalars cs) all)) refl

pub scalars_drop : (n : ℕ) (cs : List ℕ) → all_scalars cs ≡ true → all_scalars (drop n cs) ≡ true
scalars_drop zero cs all = all
scalars_drop (suc n) [] all = refl
scalars_drop (suc n) (c ∷ cs) all = scalars_drop n cs (and_right (scalar c) (all_scalars cs) all)

pub past_name_no_longer : (cs : List ℕ) → length (past_name cs) ≤ length cs
unfolding past_name
past_name_no_longer [] = omega arith
past_name_no_longer (c ∷ cs) = either (λ r. length r ≤ length (c ∷ cs)) (goes_on c cs) (past_name cs) (c ∷ cs) (λ _. omega (arith, past_name_no_longer cs)) (λ _. omega arith)

front_continues : (cs : List ℕ) → list_all continues_name (take (length cs - length (past_name cs)) cs) ≡ true
unfolding past_name
front_continues [] = refl
front_continues (c ∷ cs) =
    either (λ r. list_all continues_name (take (length (c ∷ cs) - length r) (c ∷ cs)) ≡ true) (goes_on c cs) (past_name cs) (c ∷ cs)
    (λ goes. let one : length (c ∷ cs) - length (past_name cs) ≡ suc (length cs - length (past_name cs)) = omega (arith, past_name_no_longer cs) in
    rw (one, and_left (continues_name c) _ goes, front_continues cs) refl)
    (λ stops. let none : length (c ∷ cs) - length (c ∷ cs) ≡ 0 = omega arith in rw none refl)

-- ---- pieces

-- the characters of a piece spell its token
abbrev pub SpellsToken : List ℕ → Option TokenKind → Type 0
SpellsToken front None = ⊤
SpellsToken front (Some kind) = Spells (encode_utf8_all front) kind

pub record Told (cs : List ℕ) (found : Option Piece) : Type 0 where
  pub holds : IfSome found (λ piece. SpellsToken (take piece.size cs) piece.what)

identifier : (c : ℕ) (front : List ℕ) → all_scalars (c ∷ front) ≡ true → starts_name c ≡ true → list_all continues_name front ≡ true → nat_le (width (c ∷ front)) longest_name ≡ true
    → reserved_word (encode_utf8_all (c ∷ front)) ≡ None → is_identifier (encode_utf8_all (c ∷ front)) ≡ true
unfolding is_identifier
identifier c front scalars starts continues fits free =
    rw (chars-encodes (c ∷ front) scalars, width_encodes (c ∷ front), fits, free, starts, starts_continue c starts, continues) refl

named : (text : List ℕ) (found : Option Word) → reserved_word text ≡ found → (found ≡ None → is_identifier text ≡ true) → Spells text (named_by text found)
unfolding reserved_word
named text (Some w) is free = sym ((bytes_eq-Decides (word_text w) text).0 (find_passes (λ x. bytes_eq (word_text x) text) all_words w is))
named text None is free = (refl, free refl)

word_told : (c : ℕ) (cs : List ℕ) → all_scalars (c ∷ cs) ≡ true → starts_name c ≡ true → Told (c ∷ cs) (word (c ∷ cs) (past_name cs))
word_told c cs scalars starts =
    let n = up_to (c ∷ cs) (past_name cs) in
    let m = length cs - length (past_name cs) in
    let text = encode_utf8_all (take n (c ∷ cs)) in
    let size : n ≡ suc m = omega (arith, past_name_no_longer cs) in
    let name : take n (c ∷ cs) ≡ c ∷ take m cs = rw size refl in
    either (Told (c ∷ cs)) (nat_le (width (take n (c ∷ cs))) longest_name) _ _
    (λ fits. record {
      holds = named text (reserved_word text) refl
          (λ free. subst (λ front. is_identifier (encode_utf8_all front) ≡ true) (sym name)
          (identifier c (take m cs) (subst (λ x. all_scalars x ≡ true) name (scalars_take n (c ∷ cs) scalars)) starts (front_continues cs)
          (subst (λ x. nat_le (width x) longest_name ≡ true) name fits) (subst (λ x. reserved_word (encode_utf8_all x) ≡ None) name free)));
    })
    (λ _. record { holds = tt })

sign_told : (cs : List ℕ) (found : Option Sign) → sign_at cs ≡ found → Told cs (signed found)
unfolding sign_at
sign_told cs None is = record { holds = tt }
sign_told cs (Some s) is =
    let same : sign_text s ≡ take (length (sign_text s)) cs = (bytes_eq-Decides (sign_text s) (take (length (sign_text s)) cs)).0 (find_passes (λ x. starts_with nat_eq cs (sign_text x)) all_signs s is) in
    record { holds = ap encode_utf8_all (sym same) }

line_end_told : (before : Before) (cs : List ℕ) → Told cs (Some (line_end before))
line_end_told before cs = either (λ piece. Told cs (Some piece)) (before.line_goes_on || nat_lt 0 before.parentheses) (passed 1) (is_token kinds.Separator 1) (λ _. record { holds = tt }) (λ _. record { holds = tt })

long_comment_told : (all cs : List ℕ) (found : Option (List ℕ)) → Told all (long_comment cs found)
long_comment_told all cs None = record { holds = tt }
long_comment_told all cs (Some rest) = record { holds = tt }

comment_told : (all cs : List ℕ) → Told all (comment cs)
comment_told all [] = record { holds = tt }
comment_told all (c ∷ cs) = either (Told all) (c == 61) _ _ (λ _. long_comment_told all cs (past_comments 1 cs)) (λ _. record { holds = tt })

string_told : (all cs : List ℕ) (found : Option (List ℕ × List ℕ)) → Told all (string cs found)
string_told all cs None = record { holds = tt }
string_told all cs (Some x) = record { holds = tt }

integer_told : (all cs : List ℕ) (found : Option (ℤ × List ℕ)) → Told all (integer cs found)
integer_told all cs None = record { holds = tt }
integer_told all cs (Some x) = record { holds = tt }

at_eval_told : (all cs : List ℕ) → Told all (at_eval cs)
at_eval_told all cs = either (Told all) (bytes_eq (take (up_to cs (past_name cs)) cs) (codes "eval")) (Some (is_token kinds.AtEval (1 + up_to cs (past_name cs)))) None (λ _. record { holds = tt }) (λ _. record { holds = tt })

plain_told : (before : Before) (c : ℕ) (cs : List ℕ) → all_scalars (c ∷ cs) ≡ true → Told (c ∷ cs) (plain_piece before c cs)
plain_told before c cs scalars =
    either (Told (c ∷ cs)) (is_digit c) _ _ (λ _. integer_told (c ∷ cs) cs (positive (digits (c - 48) cs)))
    (λ _. either (Told (c ∷ cs)) (is_minus_of_literal before c cs) _ _ (λ _. integer_told (c ∷ cs) cs (negative (digits 0 cs)))
    (λ _. either (Told (c ∷ cs)) (starts_name c) _ _ (λ starts. word_told c cs scalars starts)
    (λ _. sign_told (c ∷ cs) (sign_at (c ∷ cs)) refl)))

pub told : (before : Before) (cs : List ℕ) → all_scalars cs ≡ true → Told cs (next_piece before cs)
unfolding next_piece
told before [] scalars = record { holds = tt }
told before (c ∷ cs) scalars =
    either (Told (c ∷ cs)) (is_blank c) _ _ (λ _. record { holds = tt })
    (λ _. either (Told (c ∷ cs)) (c == 10) _ _ (λ _. line_end_told before (c ∷ cs))
    (λ _. either (Told (c ∷ cs)) (c == 59) _ _ (λ _. record { holds = tt })
    (λ _. either (Told (c ∷ cs)) (c == 35) _ _ (λ _. comment_told (c ∷ cs) cs)
    (λ _. either (Told (c ∷ cs)) (c == 34) _ _ (λ _. string_told (c ∷ cs) cs (quoted [] false cs))
    (λ _. either (Told (c ∷ cs)) (c == 64) _ _ (λ _. at_eval_told (c ∷ cs) cs)
    (λ _. plain_told before c cs scalars))))))
