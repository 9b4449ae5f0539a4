-- The texts of tokens stand in their spans.
use Rattle.std.proofs.Common.{◌≡◌, ℕ, ◌+◌, ◌-◌, true, List, [], ◌++◌, Option, Some, None, IfSome, length, take, drop, refl, sym, ap, subst, ◌∙◌, arith, append_assoc}
use Rattle.std.specs.Prelude.{encode_utf8_all, slice_range}
use Rattle.std.specs.List.{AllByRecursion}
use Rattle.std.specs.Str.{IsUtf8, all_scalars, chars}
use Rattle.std.proofs.Math.Seq.{drop-append_seam, take-append_seam}
use Rattle.std.proofs.lemmas.List.{length-append, take-append-drop}
use Rattle.std.proofs.lemmas.Str.{encodes-append, encodes-chars, scalars-chars}
use Rattle.pj_lex.specs.declared.token.TokenKind.{TokenKind}
use Rattle.pj_lex.specs.declared.token.Token.{Token}
use Rattle.pj_lex.specs.declared.token.Before.{Before}
use Rattle.pj_lex.specs.Before.{start}
use Rattle.pj_lex.specs.Characters.{width}
use Rattle.pj_lex.specs.Lexed.{Lexed, added, ended, goes_on, past}
use Rattle.pj_lex.specs.Spelled.{IsSpelled, Spells}
use Rattle.pj_lex.proofs.PieceSpells.{SpellsToken, scalars_drop, told}
use Rattle.pj_lex.proofs.Widths.{width_encodes}

width_append : (xs ys : List ℕ) → width (xs ++ ys) ≡ width xs + width ys
width_append xs ys =
    sym (width_encodes (xs ++ ys)) ∙ ap length (encodes-append xs ys) ∙ length-append (encode_utf8_all xs) (encode_utf8_all ys) ∙ omega (arith, width_encodes xs, width_encodes ys)

seam : (front mid rest : List ℕ) → slice_range (front ++ (mid ++ rest)) (length front) (length front + length mid) ≡ mid
seam front mid rest =
    let size : length front + length mid - length front ≡ length mid = omega arith in
    rw (size, drop-append_seam front (mid ++ rest)) (take-append_seam mid rest)

-- the bytes between two places in a text
span : (front mid rest : List ℕ) → slice_range (encode_utf8_all (front ++ (mid ++ rest))) (width front) (width front + width mid) ≡ encode_utf8_all mid
span front mid rest =
    let bytes : encode_utf8_all (front ++ (mid ++ rest)) ≡ encode_utf8_all front ++ (encode_utf8_all mid ++ encode_utf8_all rest) = encodes-append front (mid ++ rest) ∙ ap (λ x. encode_utf8_all front ++ x) (encodes-append mid rest) in
    rw (bytes, ← (width_encodes front), ← (width_encodes mid)) (seam (encode_utf8_all front) (encode_utf8_all mid) (encode_utf8_all rest))

abbrev SpelledBetween : List ℕ → Option TokenKind → Type 0
SpelledBetween bytes None = Unit {0}
SpelledBetween bytes (Some kind) = Spells bytes kind

put_spelled : (bytes : List ℕ) (before : Before) (from to : ℕ) (what : Option TokenKind) (tokens : List Token) → SpelledBetween (slice_range bytes from to) what → AllByRecursion (IsSpelled bytes) tokens → AllByRecursion (IsSpelled bytes) (added before from to what ++ tokens)
put_spelled bytes before from to None tokens one all = all
put_spelled bytes before from to (Some kind) tokens one all = (one, all)

piece_spelled : (bytes front : List ℕ) (what : Option TokenKind) → bytes ≡ encode_utf8_all front → SpellsToken front what → SpelledBetween bytes what
piece_spelled bytes front None same spells = tt
piece_spelled bytes front (Some kind) same spells = subst (λ x. Spells x kind) (sym same) spells

pub spelled : {before : Before} {at : ℕ} {cs : List ℕ} {tokens : List Token} → (front : List ℕ) → Lexed before at cs tokens → at ≡ width front → all_scalars cs ≡ true → AllByRecursion (IsSpelled (encode_utf8_all (front ++ cs))) tokens
spelled front ended place scalars = (tt, tt)
spelled {before} {at} {cs} front (goes_on {piece = piece} {tokens = tokens} is rest) place scalars =
    let mid = take piece.size cs in
    let left = drop piece.size cs in
    let whole : mid ++ left ≡ cs = take-append-drop piece.size cs in
    let here : slice_range (encode_utf8_all (front ++ cs)) at (past at piece.size cs) ≡ encode_utf8_all mid =
    rw place (subst (λ x. slice_range (encode_utf8_all (front ++ x)) (width front) (width front + width mid) ≡ encode_utf8_all mid) whole (span front mid left)) in
    let one : SpellsToken mid piece.what = subst (λ found. IfSome found (λ p. SpellsToken (take p.size cs) p.what)) is (told before cs scalars).holds in
    let next : past at piece.size cs ≡ width (front ++ mid) = rw place (sym (width_append front mid)) in
    let all : AllByRecursion (IsSpelled (encode_utf8_all ((front ++ mid) ++ left))) tokens = spelled (front ++ mid) rest next (scalars_drop piece.size cs scalars) in
    let same : (front ++ mid) ++ left ≡ front ++ cs = append_assoc front mid left ∙ ap (λ x. front ++ x) whole in
    put_spelled (encode_utf8_all (front ++ cs)) before at (past at piece.size cs) piece.what tokens (piece_spelled _ mid piece.what here one) (subst (λ x. AllByRecursion (IsSpelled (encode_utf8_all x)) tokens) same all)

-- of a text of bytes
pub spelled_text : (bytes : List ℕ) → IsUtf8 bytes → (tokens : List Token) → Lexed start 0 (chars bytes) tokens → AllByRecursion (IsSpelled bytes) tokens
unfolding width
spelled_text bytes utf8 tokens d = subst (λ x. AllByRecursion (IsSpelled x) tokens) (encodes-chars bytes utf8) (spelled [] d refl (scalars-chars bytes utf8))
