-- The first place of a text in a list.
use Rattle.std.proofs.Common.{◌≡◌, ℕ, zero, suc, ◌+◌, ◌<◌, ◌≤◌, ◌^◌, Bool, true, false, cond, ◌||◌, List, [], ◌∷◌, take, map, length, position, Option, Some, None, slice_get, slice_index_or, refl, sym, ap, subst, ◌∙◌, arith}
use Rattle.std.specs.List.{position_from}
use Rattle.std.specs.Str.{bytes_eq}
use Rattle.std.proofs.lemmas.Iterator.Adapters.{position_from-zero}
use Rattle.std.proofs.lemmas.List.{take_all, length-map, length-append}
use Rattle.std.proofs.lemmas.Option.{unwrap_or-slice_get}
use Rattle.std.proofs.lemmas.Slice.Eq.{bytes_eq-Decides}
use Rattle.pj_base.specs.Interned.{has_text, found_at}
use Rattle.pj_meaning.specs.Tree.{Text}
use Rattle.pj_image.specs.declared.image.Image.{Image}
use Rattle.pj_image.specs.Formed.{Formed}
use Rattle.pj_content.specs.Content.{strings_in, functions_of}
use Rattle.pj_session.specs.Indexed.{names_in_image}
use Rattle.pj_session.proofs.Indexed.{merely_new}

no_true : (b c : Bool) → (b || c) ≡ false → b ≡ false
no_true true c h = h
no_true false c h = refl

no_right : (b c : Bool) → (b || c) ≡ false → c ≡ false
no_right true c h = absurd cc
no_right false c h = h

same : (t x : Text) → Some x ≡ Some t → bytes_eq t x ≡ true
same t x h = (bytes_eq-Decides t x).1 cc

-- a text in a place that has it, and that none before has, stands there first
first_from : (t : Text) (xs : List Text) (k n : ℕ) → slice_get xs k ≡ Some t → has_text t (take k xs) ≡ false → position_from (bytes_eq t) n xs ≡ Some (n + k)
first_from t [] k n h none = absurd cc
first_from t (x ∷ xs) zero n h none = let e : n ≡ n + 0 = omega arith in rw (same t x h) (ap Some e)
first_from t (x ∷ xs) (suc k) n h none =
    let e : (n + 1) + k ≡ n + suc k = omega arith in
    rw (no_true (bytes_eq t x) (has_text t (take k xs)) none) (first_from t xs k (n + 1) h (no_right (bytes_eq t x) (has_text t (take k xs)) none) ∙ ap Some e)

pub stands_first : (t : Text) (xs : List Text) (k : ℕ) → slice_get xs k ≡ Some t → has_text t (take k xs) ≡ false → found_at t xs ≡ Some k
stands_first t xs k h none = let e : 0 + k ≡ k = omega arith in position_from-zero (bytes_eq t) xs ∙ first_from t xs k 0 h none ∙ ap Some e

-- a text that isn't there has no place
nowhere_from : (t : Text) (xs : List Text) (n : ℕ) → has_text t xs ≡ false → position_from (bytes_eq t) n xs ≡ None
nowhere_from t [] n none = refl
nowhere_from t (x ∷ xs) n none = rw (no_true (bytes_eq t x) (has_text t xs) none) (nowhere_from t xs (n + 1) (no_right (bytes_eq t x) (has_text t xs) none))

pub nowhere : (t : Text) (xs : List Text) (k : ℕ) → length xs ≤ k → has_text t (take k xs) ≡ false → found_at t xs ≡ None
nowhere t xs k le none = position_from-zero (bytes_eq t) xs ∙ nowhere_from t xs 0 (ap (has_text t) (sym (take_all k xs le)) ∙ none)

-- one more place that hasn't the text
one_behind : (t : Text) (xs : List Text) (k : ℕ) → has_text t (take k xs) ≡ false → (slice_get xs k ≡ Some t → ⊥) → has_text t (take (suc k) xs) ≡ false
one_behind t [] k none other = refl
one_behind t (x ∷ xs) zero none other = by (bytes_eq t x) refl
  where
    by : (b : Bool) → bytes_eq t x ≡ b → (bytes_eq t x || false) ≡ false
    by true e = absurd (other (ap Some (sym ((bytes_eq-Decides t x).0 e))))
    by false e = rw e refl
one_behind t (x ∷ xs) (suc k) none other =
    rw (no_true (bytes_eq t x) (has_text t (take k xs)) none) (one_behind t xs k (no_right (bytes_eq t x) (has_text t (take k xs)) none) other)

pub one_more : (t : Text) (xs : List Text) (k : ℕ) → has_text t (take k xs) ≡ false → (slice_get xs k ≡ Some t → ⊥) → has_text t (take (k + 1) xs) ≡ false
one_more t xs k none other = let e : k + 1 ≡ suc k = omega arith in ap (λ (n : ℕ). has_text t (take n xs)) e ∙ one_behind t xs k none other

-- how many names an image has
pub so_many : (i : Image) → length (names_in_image i) ≡ length i.functions + length i.bindings
so_many i =
    let many : length (functions_of i) ≡ length i.functions = length-map i.functions (λ f. strings_in i.strings f.name) in
    let others = length-map i.bindings (λ b. strings_in i.strings b.name) in
    let all = length-append (functions_of i) (map (λ b. strings_in i.strings b.name) i.bindings) in
    all ∙ rw (many, others) refl

pub few_names : (i : Image) → Formed i → length (names_in_image i) < 2 ^ 64
few_names i formed =
    let few = formed.functions.0.0 in
    let more = formed.bindings.0.0 in
    let all = so_many i in
    omega (arith, few, more, all)

within : (t : Text) (xs : List Text) (k : ℕ) → slice_get xs k ≡ Some t → k < length xs
within t [] k h = absurd cc
within t (x ∷ xs) zero h = omega arith
within t (x ∷ xs) (suc k) h = let rest = within t xs k h in omega (arith, rest)

-- names of an image differ, so that one stands first wherever it stands
pub stands_alone : (i : Image) (t : Text) (k : ℕ) → ∥ Formed i ∥₁ → slice_get (names_in_image i) k ≡ Some t → found_at t (names_in_image i) ≡ Some k
stands_alone i t k formed h =
    let is : slice_index_or (names_in_image i) k [] ≡ t = sym (unwrap_or-slice_get (names_in_image i) k []) ∙ rw h refl in
    stands_first t (names_in_image i) k h (subst (λ (u : Text). has_text u (take k (names_in_image i)) ≡ false) is (merely_new i formed k (within t (names_in_image i) k h)))
