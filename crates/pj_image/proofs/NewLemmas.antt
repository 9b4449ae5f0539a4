-- Texts that differ from those before them, told by a set, or by all their hashes.
use Rattle.std.proofs.Common.{◌≡◌, ◌==◌, ℕ, ◌+◌, ◌<◌, Bool, true, false, cond, ◌||◌, List, [], ◌∷◌, ◌++◌, map, take, drop, length, get_or, refl, sym, ap, subst, ◌∙◌, append_assoc}
use Rattle.std.specs.List.{AllByRecursion, IsDistinct}
use Rattle.std.specs.Str.{bytes_eq}
use Rattle.std.proofs.lemmas.List.{map_more, take-append-drop, take-map, drop-map}
use Rattle.std.proofs.lemmas.Bool.{eq-eqb}
use Rattle.std.proofs.lemmas.List.Folds.{list_any-append}
use Rattle.std.proofs.lemmas.Slice.Eq.{bytes_eq-Decides}
use Rattle.pj_base.specs.Interned.{has_text}
use Rattle.pj_image.specs.New.{all_new, SameTexts}

has_push : (x t : List ℕ) (xs : List (List ℕ)) → has_text x (xs ++ t ∷ []) ≡ (has_text x xs || (bytes_eq x t || false))
has_push x t xs = list_any-append (bytes_eq x) xs (t ∷ [])

-- the text that is there already adds nothing
there : (b : Bool) (x t : List ℕ) (self : List (List ℕ)) → bytes_eq x t ≡ b → has_text t self ≡ true → (has_text x self || (b || false)) ≡ has_text x self
there true x t self e h = let same : x ≡ t = (bytes_eq-Decides x t).0 e in rw (same, h) refl
there false x t self e h = by (has_text x self)
  where
    by : (a : Bool) → (a || false) ≡ a
    by true = refl
    by false = refl

by_has : (b : Bool) (t : List ℕ) (self front : List (List ℕ)) → has_text t self ≡ b → SameTexts self front → (x : List ℕ) → has_text x (cond b self (self ++ t ∷ [])) ≡ has_text x (front ++ t ∷ [])
by_has true t self front e same x = sym (there (bytes_eq x t) x t self refl e) ∙ rw (same x) (sym (has_push x t front))
by_has false t self front e same x = has_push x t self ∙ rw (same x) (sym (has_push x t front))

-- a set that takes one more text has the texts so far and that one
pub same_more : {A : Type 0} (f : A → List ℕ) (start self new : List (List ℕ)) (xs : List A) (i : ℕ) (a : A) → i < length xs → a ≡ get_or xs i a → SameTexts self (start ++ map f (take i xs))
    → new ≡ cond (has_text (f a) self) self (self ++ f a ∷ []) → SameTexts new (start ++ map f (take (i + 1) xs))
same_more f start self new xs i a lt is same e x =
    let more : map f (take (i + 1) xs) ≡ map f (take i xs) ++ f a ∷ [] = map_more f xs i a lt ∙ ap (λ y. map f (take i xs) ++ f y ∷ []) (sym is) in
    ap (has_text x) e ∙ by_has (has_text (f a) self) (f a) self (start ++ map f (take i xs)) refl same x ∙ ap (has_text x) (append_assoc start (map f (take i xs)) (f a ∷ []) ∙ ap (λ ys. start ++ ys) (sym more))

-- which texts are new rests on which are there, and not on their order
pub new_same : (texts xs ys : List (List ℕ)) → SameTexts xs ys → all_new xs texts ≡ all_new ys texts
new_same [] xs ys same = refl
new_same (t ∷ texts) xs ys same =
    let more : SameTexts (xs ++ t ∷ []) (ys ++ t ∷ []) = λ x. has_push x t xs ∙ rw (same x) (sym (has_push x t ys)) in
    rw (same t, new_same texts (xs ++ t ∷ []) (ys ++ t ∷ []) more) refl

-- ---- texts of different hashes

apart : (f : List ℕ → ℕ) (t : List ℕ) (texts : List (List ℕ)) → AllByRecursion (λ h. (f t == h) ≡ false) (map f texts) → AllByRecursion (λ x. bytes_eq t x ≡ false) texts
apart f t [] h = tt
apart f t (x ∷ texts) h = (by (bytes_eq t x) refl, apart f t texts h.1)
  where
    by : (b : Bool) → bytes_eq t x ≡ b → bytes_eq t x ≡ false
    by false e = e
    by true e = let same : t ≡ x = (bytes_eq-Decides t x).0 e in let no : true ≡ false = sym (eq-eqb (f t) (f x) (ap f same)) ∙ h.0 in absurd cc

pub distinct_by : (f : List ℕ → ℕ) (texts : List (List ℕ)) → IsDistinct (λ a b. a == b) (map f texts) → IsDistinct bytes_eq texts
unfolding IsDistinct
distinct_by f [] h = tt
distinct_by f (t ∷ texts) h = (apart f t texts h.0, distinct_by f texts h.1)

-- ---- different texts are new

flip : (x y : List ℕ) (b : Bool) → bytes_eq y x ≡ b → bytes_eq x y ≡ false → bytes_eq y x ≡ false
flip x y false e h = e
flip x y true e h = let same : y ≡ x = (bytes_eq-Decides y x).0 e in let no : true ≡ false = sym ((bytes_eq-Decides x y).1 (sym same)) ∙ h in absurd cc

member : {A : Type 0} (P : A → Type 0) (xs : List A) (y : A) (ys : List A) → AllByRecursion P (xs ++ y ∷ ys) → P y
member P [] y ys h = h.0
member P (x ∷ xs) y ys h = member P xs y ys h.1

not_there : (xs : List (List ℕ)) (t : List ℕ) (ys : List (List ℕ)) → IsDistinct bytes_eq (xs ++ t ∷ ys) → has_text t xs ≡ false
unfolding IsDistinct
not_there [] t ys h = refl
not_there (x ∷ xs) t ys h = rw (flip x t (bytes_eq t x) refl (member (λ y. bytes_eq x y ≡ false) xs t ys h.0), not_there xs t ys h.1) refl

pub new_by : (texts xs : List (List ℕ)) → IsDistinct bytes_eq (xs ++ texts) → all_new xs texts ≡ true
new_by [] xs h = refl
new_by (t ∷ texts) xs h = rw (not_there xs t texts h) (new_by texts (xs ++ t ∷ []) (rw (append_assoc xs (t ∷ []) texts) h))

pub new_behind : (texts : List (List ℕ)) (start : ℕ) → IsDistinct bytes_eq texts → all_new (take start texts) (drop start texts) ≡ true
new_behind texts start h = new_by (drop start texts) (take start texts) (rw (take-append-drop start texts) h)

maps : {T : Type 0} (g : T → List ℕ) (f : List ℕ → ℕ) (xs : List T) → map (λ t. f (g t)) xs ≡ map f (map g xs)
maps g f [] = refl
maps g f (x ∷ xs) = ap (λ ys. f (g x) ∷ ys) (maps g f xs)

pub map_hashes : {T : Type 0} (g : T → List ℕ) (f : List ℕ → ℕ) (xs : List T) → IsDistinct (λ a b. a == b) (map (λ t. f (g t)) xs) → IsDistinct bytes_eq (map g xs)
map_hashes g f xs h = distinct_by f (map g xs) (subst (IsDistinct (λ a b. a == b)) (maps g f xs) h)

-- texts that are cut in two
pub cut : {T : Type 0} (g : T → List ℕ) (xs : List T) (start : ℕ) (set : List (List ℕ)) → SameTexts set ([] ++ map g (take start xs)) → all_new set (map g (drop start xs)) ≡ all_new (take start (map g xs)) (drop start (map g xs))
cut g xs start set same = rw (take-map g start xs, drop-map g start xs) (new_same (map g (drop start xs)) set (map g (take start xs)) same)

-- those texts cut in two
pub cut_whole : {T : Type 0} (g : T → List ℕ) (xs : List T) (start : ℕ) → all_new (map g (take start xs)) (map g (drop start xs)) ≡ all_new (take start (map g xs)) (drop start (map g xs))
cut_whole g xs start = rw (take-map g start xs, drop-map g start xs) refl
