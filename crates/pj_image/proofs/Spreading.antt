-- Hashes that are spread over parts: if those of each part differ, all do.
use Rattle.std.proofs.Common.{◌≡◌, ◌≢◌, ◌==◌, ℕ, ◌+◌, ◌<◌, ◌≤◌, ◌%◌, Bool, true, false, cond, List, [], ◌∷◌, ◌++◌, map, take, length, get_or, set, replicate, refl, sym, ap, subst, ◌∙◌, arith}
use Rattle.std.specs.List.{AllByRecursion, IsDistinct, filter}
use Rattle.std.proofs.lemmas.Bool.{eq-eqb, eqb-true}
use Rattle.std.proofs.lemmas.List.{get_or-set_same, get_or-set_other, get_or-replicate, append-nil, length-replicate, length-set, length-map, map-set, get_or-map, map_more}
use Rattle.std.proofs.lemmas.List.Elements.{filter-append}
use Rattle.pj_image.specs.Hashes.{Spreads}

in_part : ℕ → ℕ → Bool
in_part i h = h % 1024 == i

-- ---- one more hash

pub nothing : {V : Type 0} (f : V → List ℕ) (parts : List V) (n : ℕ) → n ≡ 1024 → map f parts ≡ replicate n [] → Spreads [] (map f parts)
nothing f parts n is e =
    let all : map f parts ≡ replicate 1024 [] = e ∙ ap (λ (k : ℕ). replicate k []) is in
    record {
      many = ap length all ∙ length-replicate {A = List ℕ} 1024 [];
      each = λ i lt. rw all (get_or-replicate 1024 i [] [] lt);
    }

one_more : (i h : ℕ) (hashes : List ℕ) (b : Bool) → (h % 1024 == i) ≡ b → filter (λ x. x % 1024 == i) (hashes ++ h ∷ []) ≡ filter (λ x. x % 1024 == i) hashes ++ cond b (h ∷ []) []
one_more i h hashes b e = filter-append (λ x. x % 1024 == i) hashes (h ∷ []) ∙ ap (λ c. filter (λ x. x % 1024 == i) hashes ++ cond c (h ∷ []) []) e

differs : (k i : ℕ) → (k == i) ≡ false → i ≢ k
differs k i e same = let no : true ≡ false = sym (eq-eqb k i (sym same)) ∙ e in absurd cc

-- a part that takes its hash, and the others
by : (hashes : List ℕ) (parts : List (List ℕ)) (h : ℕ) (part : List ℕ) → Spreads hashes parts → part ≡ get_or parts (h % 1024) [] ++ h ∷ [] → (i : ℕ) → i < 1024 → (b : Bool) → (h % 1024 == i) ≡ b
    → get_or (set parts (h % 1024) part) i [] ≡ filter (λ x. x % 1024 == i) (hashes ++ h ∷ [])
by hashes parts h part s is i lt true e =
    let own : h % 1024 ≡ i = eqb-true (h % 1024) i e in
    let k-in : h % 1024 < length parts = rw (own, s.many) lt in
    ap (λ j. get_or (set parts (h % 1024) part) j []) (sym own) ∙ get_or-set_same parts (h % 1024) part [] k-in ∙ is ∙ ap (λ j. get_or parts j [] ++ h ∷ []) own ∙ ap (λ xs. xs ++ h ∷ []) (s.each i lt) ∙ sym (one_more i h hashes true e)
by hashes parts h part s is i lt false e =
    get_or-set_other parts (h % 1024) i part [] (differs (h % 1024) i e) ∙ s.each i lt ∙ sym (one_more i h hashes false e ∙ append-nil _)

pub more : {V T : Type 0} (f : V → List ℕ) (g : T → ℕ) (parts : List V) (texts : List T) (j : ℕ) (t : T) (was now : V) → Spreads (map g (take j texts)) (map f parts) → j < length texts → t ≡ get_or texts j t
    → was ≡ get_or parts (g t % 1024) was → f now ≡ f was ++ g t ∷ [] → Spreads (map g (take (j + 1) texts)) (map f (set parts (g t % 1024) now))
more f g parts texts j t was now s lt is at pushed =
    let h = g t in
    let hashes : map g (take (j + 1) texts) ≡ map g (take j texts) ++ h ∷ [] = map_more g texts j t lt ∙ ap (λ y. map g (take j texts) ++ g y ∷ []) (sym is) in
    let k-in : h % 1024 < length parts = omega (arith, s.many, length-map parts f) in
    let part : f now ≡ get_or (map f parts) (h % 1024) [] ++ h ∷ [] = pushed ∙ ap (λ v. f v ++ h ∷ []) at ∙ ap (λ xs. xs ++ h ∷ []) (sym (get_or-map f parts (h % 1024) was [] k-in)) in
    rw (hashes, map-set f parts (h % 1024) now) (record {
      many = length-set (map f parts) (h % 1024) (f now) ∙ s.many;
      each = λ i lt. by (map g (take j texts)) (map f parts) h (f now) s part i lt (h % 1024 == i) refl;
    })

-- ---- all differ where those of each part do

back : (P : ℕ → Type 0) (p : ℕ → Bool) (x : ℕ) (xs : List ℕ) → ((y : ℕ) → p y ≡ false → P y) → (AllByRecursion P (filter p xs) → AllByRecursion P xs) → (b : Bool) → p x ≡ b
    → AllByRecursion P (cond b (x ∷ filter p xs) (filter p xs)) → AllByRecursion P (x ∷ xs)
back P p x xs others behind true e h = (h.0, behind h.1)
back P p x xs others behind false e h = (others x e, behind h)

all_back : (P : ℕ → Type 0) (p : ℕ → Bool) → ((x : ℕ) → p x ≡ false → P x) → (xs : List ℕ) → AllByRecursion P (filter p xs) → AllByRecursion P xs
all_back P p others [] h = tt
all_back P p others (x ∷ xs) h = back P p x xs others (all_back P p others xs) (p x) refl h

abbrev Differ : List ℕ → Type 0
Differ = IsDistinct (λ a b. a == b)

behind : (p : ℕ → Bool) (x : ℕ) (xs : List ℕ) (b : Bool) → p x ≡ b → Differ (cond b (x ∷ filter p xs) (filter p xs)) → Differ (filter p xs)
unfolding IsDistinct
behind p x xs true e h = h.1
behind p x xs false e h = h

first : (p : ℕ → Bool) (x : ℕ) (xs : List ℕ) → p x ≡ true → Differ (cond (p x) (x ∷ filter p xs) (filter p xs)) → AllByRecursion (λ y. (x == y) ≡ false) (filter p xs)
unfolding IsDistinct
first p x xs e h = (subst (λ b. Differ (cond b (x ∷ filter p xs) (filter p xs))) e h).0

elsewhere : (x y : ℕ) (b : Bool) → (x == y) ≡ b → (y % 1024 == x % 1024) ≡ false → (x == y) ≡ false
elsewhere x y false e h = e
elsewhere x y true e h = let same : x ≡ y = eqb-true x y e in let no : true ≡ false = sym (eq-eqb (y % 1024) (x % 1024) (ap (λ z. z % 1024) (sym same))) ∙ h in absurd cc

pub all_differ : (hashes : List ℕ) → ((i : ℕ) → i < 1024 → Differ (filter (λ h. h % 1024 == i) hashes)) → Differ hashes
unfolding IsDistinct
all_differ [] each = tt
all_differ (h ∷ hashes) each =
    let k = h % 1024 in
    let own = first (λ x. x % 1024 == k) h hashes (eq-eqb k k refl) (each k (omega arith)) in (
      all_back (λ y. (h == y) ≡ false) (λ x. x % 1024 == k) (λ y e. elsewhere h y (h == y) refl e) hashes own,
      all_differ hashes (λ i lt. behind (λ x. x % 1024 == i) h hashes (h % 1024 == i) refl (each i lt)),
    )

-- ---- the loop over parts

pub parts_differ : {V : Type 0} (f : V → List ℕ) (parts : List V) (hashes : List ℕ) (n : ℕ) → Spreads hashes (map f parts) → length parts ≤ n → ((i : ℕ) → i < n → Differ (get_or (map f parts) i [])) → Differ hashes
parts_differ f parts hashes n s le each = all_differ hashes (λ i lt. subst Differ (s.each i lt) (each i (omega (arith, le, lt, s.many, length-map parts f))))

pub part_more : {V : Type 0} (f : V → List ℕ) (parts : List V) (n : ℕ) (v : V) → n < length parts → v ≡ get_or parts n v → ((i : ℕ) → i < n → Differ (get_or (map f parts) i [])) → Differ (f v) → (i : ℕ) → i < n + 1 → Differ (get_or (map f parts) i [])
part_more f parts n v lt is each own i below = by-case (i == n) refl
  where
    by-case : (b : Bool) → (i == n) ≡ b → Differ (get_or (map f parts) i [])
    by-case true e =
        let same : i ≡ n = eqb-true i n e in
        subst Differ (ap f is ∙ sym (get_or-map f parts n v [] lt) ∙ ap (λ k. get_or (map f parts) k []) (sym same)) own
    by-case false e = each i (omega (arith, below, apart i n e))
      where
        apart : (a b : ℕ) → (a == b) ≡ false → a ≢ b
        apart a b e same = let no : true ≡ false = sym (eq-eqb a b same) ∙ e in absurd cc
