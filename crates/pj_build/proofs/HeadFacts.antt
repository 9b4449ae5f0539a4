-- A package's head has a spelling.
use Rattle.std.proofs.Common.{◌≡◌, ◌<◌, ◌^◌, ◌==◌, true, not, nat_le, ◌&&◌, ◌||◌, [], ◌∷◌, length, codes, arith}
use Rattle.std.specs.List.{list_all}
use Rattle.std.specs.Str.{is_utf8}
use Rattle.std.specs.Char.{is_ascii_alphanumeric, is_ascii_uppercase}
use Rattle.std.proofs.lemmas.Bool.Decides.{nat_tests}
use Rattle.pj_words.specs.Words.{first_is, is_among, is_package_name}
use Rattle.pj_meaning.specs.Tree.{Text}
use Rattle.pj_parts.specs.declared.types.Head.{Head}
use Rattle.pj_parts.specs.Fits.{HeadFits}
use Rattle.pj_plain.proofs.Bools.{both_true}

short_name : (t : Text) → is_package_name t ≡ true → length t < 2 ^ 32
unfolding is_package_name
short_name t h =
    let shape = first_is is_ascii_uppercase t && list_all (λ c. is_ascii_alphanumeric c || (c == 95)) t in
    let one = both_true (shape && nat_le (length t) 64) (not (is_among t (codes "Base" ∷ codes "Main" ∷ []))) h in
    let two = both_true shape (nat_le (length t) 64) one.0 in
    let short : nat_le (length t) 64 ≡ true = two.1 in
    grind (arith, nat_tests)

pub head_fits : (h : Head) (name : Text) → h.name ≡ name → h.dependencies ≡ [] → is_utf8 name ≡ true → is_package_name name ≡ true → HeadFits h
head_fits h name e none utf8 p = rw (e, none) ((short_name name p, utf8), (omega arith, tt))
