-- A text among texts that are kept under keys.
use Rattle.std.proofs.Common.{◌≡◌, ℕ, Bool, true, false, cond, List, [], ◌∷◌, ◌++◌, map, refl, ap, ◌∙◌}
use Rattle.std.specs.List.{list_any}
use Rattle.std.specs.Str.{bytes_eq}
use Rattle.pj_base.specs.Interned.{has_text}
use Rattle.pj_base.proofs.PlaceLemmas.{list_any-map, map-push}

module _ {K : Type 0} (f : K → List ℕ) (text : List ℕ) (keys : List K) where
  pub has : has_text text (map f keys) ≡ list_any (λ k. bytes_eq text (f k)) keys
  has = list_any-map f (bytes_eq text) keys

  after : (key : K) (any : Bool) → map f (cond any keys (keys ++ key ∷ [])) ≡ cond any (map f keys) (map f keys ++ f key ∷ [])
  after key true = refl
  after key false = map-push f keys key

  pub added : (key : K) (new : List K) → new ≡ cond (list_any (λ k. bytes_eq (f key) (f k)) keys) keys (keys ++ key ∷ []) → f key ≡ text → map f new ≡ cond (has_text text (map f keys)) (map f keys) (map f keys ++ text ∷ [])
  added key new e same = ap (map f) e ∙ after key (list_any (λ k. bytes_eq (f key) (f k)) keys) ∙ rw (same, has) refl
