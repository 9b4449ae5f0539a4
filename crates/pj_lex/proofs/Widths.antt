-- How many bytes characters take.
use Rattle.std.proofs.Common.{◌≡◌, ℕ, zero, suc, ◌+◌, ◌<◌, List, [], ◌∷◌, length, take, drop, refl, sym, ap, ◌∙◌, arith}
use Rattle.std.specs.Prelude.{encode_utf8, encode_utf8_all}
use Rattle.std.specs.Str.{IsUtf8, chars}
use Rattle.std.proofs.lemmas.List.{length-append}
use Rattle.std.proofs.lemmas.Str.{len_utf8_bounds, length-encode, encodes-chars}
use Rattle.pj_lex.specs.Characters.{width}

pub width_split : (n : ℕ) (cs : List ℕ) → width (take n cs) + width (drop n cs) ≡ width cs
unfolding width
width_split zero cs = omega arith
width_split (suc n) [] = refl
width_split (suc n) (c ∷ cs) = omega (arith, width_split n cs)

pub width_some : (n : ℕ) (cs : List ℕ) → 0 < n → 0 < length cs → 0 < width (take n cs)
unfolding width
width_some zero cs some here = absurd (omega arith)
width_some (suc n) [] some here = absurd (omega arith)
width_some (suc n) (c ∷ cs) some here = omega (arith, (len_utf8_bounds c).0)

pub width_encodes : (cs : List ℕ) → length (encode_utf8_all cs) ≡ width cs
unfolding width
width_encodes [] = refl
width_encodes (c ∷ cs) = length-append (encode_utf8 c) (encode_utf8_all cs) ∙ omega (arith, length-encode c, width_encodes cs)

-- a text's bytes are those of its characters
pub width_chars : (bytes : List ℕ) → IsUtf8 bytes → width (chars bytes) ≡ length bytes
width_chars bytes utf8 = sym (width_encodes (chars bytes)) ∙ ap length (encodes-chars bytes utf8)
