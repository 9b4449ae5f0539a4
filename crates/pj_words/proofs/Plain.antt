-- Bytes of which each goes on a name are characters that do.
use Rattle.std.proofs.Common.{◌≡◌, ◌==◌, ◌||◌, ◌&&◌, ℕ, zero, suc, Bool, true, false, List, [], ◌∷◌, ltb, refl, ap, ◌∙◌, arith}
use Rattle.std.specs.Char.{is_ascii_alphanumeric}
use Rattle.std.specs.List.{list_all}
use Rattle.std.specs.Str.{IsAscii, chars}
use Rattle.std.proofs.lemmas.Bool.{ltb-true}
use Rattle.std.proofs.lemmas.Str.{chars-IsAscii}
use Rattle.unicode_ident.proofs.IdentLemmas.{is_xid_continue-ascii}
use Rattle.pj_words.specs.Words.{continues_name, is_plain}

both : (a b : Bool) → (a && b) ≡ true → (a ≡ true) × (b ≡ true)
both true true e = (refl, refl)
both true false e = absurd cc
both false b e = absurd cc

one : (c : ℕ) → is_plain c ≡ true → continues_name c ≡ true
unfolding continues_name
one c e =
    let p = both (ltb c 128) ((is_ascii_alphanumeric c || (c == 95)) || (c == 33)) e in
    ap (λ (x : Bool). x || (c == 33)) (is_xid_continue-ascii c (ltb-true c 128 p.0)) ∙ p.1

all : (text : List ℕ) → list_all is_plain text ≡ true → list_all continues_name text ≡ true
all [] e = refl
all (c ∷ text) e = let p = both (is_plain c) (list_all is_plain text) e in rw (one c p.0) (all text p.1)

ascii : (text : List ℕ) → list_all is_plain text ≡ true → IsAscii text
ascii [] e i = omega arith
ascii (c ∷ text) e zero = ltb-true c 128 (both (ltb c 128) ((is_ascii_alphanumeric c || (c == 95)) || (c == 33)) (both (is_plain c) (list_all is_plain text) e).0).0
ascii (c ∷ text) e (suc i) = ascii text (both (is_plain c) (list_all is_plain text) e).1 i

pub plain : (text : List ℕ) → list_all is_plain text ≡ true → list_all continues_name (chars text) ≡ true
plain text e = ap (list_all continues_name) (chars-IsAscii text (ascii text e)) ∙ all text e
