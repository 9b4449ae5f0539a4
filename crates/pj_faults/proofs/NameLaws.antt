-- Sets of names, over the strings that hold them.
use Rattle.std.proofs.Common.{◌≡◌, ℕ, Bool, true, false, ◌&&◌, cond, List, [], ◌∷◌, ◌++◌, length, map, refl, sym, ◌∙◌, arith}
use Rattle.std.specs.List.{list_any}
use Rattle.std.specs.Str.{bytes_eq}
use Rattle.pj_base.proofs.PlaceLemmas.{list_any-map, map-push}
use Rattle.pj_faults.specs.Introduced.{is_among, with_name}

pub among-map : {K : Type 0} (f : K → List ℕ) (text : List ℕ) (keys : List K) → is_among text (map f keys) ≡ list_any (λ k. bytes_eq text (f k)) keys
unfolding is_among
among-map f text keys = list_any-map f (bytes_eq text) keys

pub among-none : (b : Bool) (text : List ℕ) (names : List (List ℕ)) → length names ≡ 0 → (b && is_among text names) ≡ false
unfolding is_among
among-none true text [] e = refl
among-none false text [] e = refl
among-none b text (x ∷ xs) e = absurd (omega arith)

pub added-map : {K : Type 0} (f : K → List ℕ) (text : List ℕ) (keys : List K) (key : K) (new : List K) → f key ≡ text → false ≡ is_among text (map f keys)
    → new ≡ cond (list_any (λ k. bytes_eq (f key) (f k)) keys) keys (keys ++ key ∷ []) → map f new ≡ with_name (map f keys) text
unfolding with_name
added-map f text keys key new same absent after =
    let none : list_any (λ k. bytes_eq (f key) (f k)) keys ≡ false = rw same (sym (among-map f text keys) ∙ sym absent) in
    let e = rw none at after in
    rw (e, ← absent, map-push f keys key, same) refl
