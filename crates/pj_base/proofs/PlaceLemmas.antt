-- A text's place among names that are kept under keys.
use Rattle.std.proofs.Common.{◌≡◌, ℕ, Bool, true, false, cond, List, [], ◌∷◌, ◌++◌, Some, None, map, ltb, length, refl, sym, ap, ◌∙◌}
use Rattle.std.proofs.lemmas.List.{length-map}
use Rattle.std.specs.List.{list_any, position_or_len, position}
use Rattle.std.specs.Str.{bytes_eq}
use Rattle.pj_base.specs.Interned.{Interns}

pub list_any-map : {A B : Type 0} (f : A → B) (p : B → Bool) (xs : List A) → list_any p (map f xs) ≡ list_any (λ x. p (f x)) xs
list_any-map f p [] = refl
list_any-map f p (x ∷ xs) = rw (list_any-map f p xs) refl

pub position_or_len-map : {A B : Type 0} (f : A → B) (p : B → Bool) (xs : List A) → position_or_len p (map f xs) ≡ position_or_len (λ x. p (f x)) xs
position_or_len-map f p [] = refl
position_or_len-map f p (x ∷ xs) = rw (position_or_len-map f p xs) refl

pub map-push : {A B : Type 0} (f : A → B) (xs : List A) (y : A) → map f (xs ++ y ∷ []) ≡ map f xs ++ f y ∷ []
map-push f [] y = refl
map-push f (x ∷ xs) y = ap (λ ys. f x ∷ ys) (map-push f xs y)

chosen : (b : Bool) (i at : ℕ) → Some at ≡ cond b (Some i) None → at ≡ i
chosen true i at h = cc
chosen false i at h = cc

module _ {K : Type 0} (f : K → List ℕ) (text : List ℕ) (keys : List K) where
  pub found : (at : ℕ) → Some at ≡ position (λ k. bytes_eq text (f k)) keys → true ≡ list_any (λ k. bytes_eq text (f k)) keys → Interns text (map f keys) at (map f keys)
  found at h any = record {
    at = chosen (ltb (position_or_len (λ k. bytes_eq text (f k)) keys) (length keys)) _ at h ∙ sym (position_or_len-map f (bytes_eq text) keys);
    after = rw (list_any-map f (bytes_eq text) keys, ← any) refl;
  }

  pub added : (key : K) (at : ℕ) (new : List K) → f key ≡ text → false ≡ list_any (λ k. bytes_eq text (f k)) keys → at ≡ position_or_len (λ k. bytes_eq (f key) (f k)) keys → new ≡ cond (list_any (λ k. bytes_eq (f key) (f k)) keys) keys (keys ++ key ∷ []) → Interns text (map f keys) at (map f new)
  added key at new same none place after =
      let e1 = rw same at place in
      let e2 = rw (same, ← none) at after in
      record {
        at = e1 ∙ sym (position_or_len-map f (bytes_eq text) keys);
        after = rw (list_any-map f (bytes_eq text) keys, ← none, e2, map-push f keys key, same) refl;
      }

pub position-map : {A B : Type 0} (f : A → B) (p : B → Bool) (xs : List A) → position p (map f xs) ≡ position (λ x. p (f x)) xs
position-map f p xs = rw (position_or_len-map f p xs, length-map xs f) refl
