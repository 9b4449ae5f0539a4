-- Numbers that were sorted are those that the definition puts in order.
use Rattle.std.proofs.Common.{◌≡◌, ℕ, suc, ◌+◌, ◌<◌, ◌≤◌, Bool, true, false, cond, List, [], ◌∷◌, length, get_or, slice_get, Option, Some, None, refl, sym, ap, ◌∙◌, arith}
use Rattle.std.specs.Prelude.{nat_le}
use Rattle.std.specs.List.{sum_by}
use Rattle.std.specs.Ordering.{nat_cmp}
use Rattle.std.specs.List.Sorted.{IsPermutation, IsSorted}
use Rattle.std.proofs.lemmas.List.Sorted.{IsNonDecreasingBy-from_sort, sum_by-IsPermutation}
use Rattle.std.proofs.lemmas.List.Sums.{sum_by-cons}
use Rattle.std.proofs.lemmas.Option.{slice_get_past}
use Rattle.pj_faults.specs.declared.fault.Fault.{Fault}
use Rattle.pj_faults.specs.declared.fault.ScopeKind.TheVariants.{Many}
use Rattle.pj_faults.specs.First.{first, when}
use Rattle.pj_faults.specs.Sorted.{put, sorted}
use Rattle.pj_faults.specs.Faults.{too_many}
use Rattle.pj_faults.specs.Found.{crowded_first}
use Rattle.pj_faults.proofs.FirstLaws.{first-none, first-one}

Rising : List ℕ → Type 0
Rising [] = Unit {0}
Rising (x ∷ []) = Unit {0}
Rising (x ∷ (y ∷ zs)) = (x ≤ y) × Rising (y ∷ zs)

rising_tail : (x : ℕ) (xs : List ℕ) → Rising (x ∷ xs) → Rising xs
unfolding Rising
rising_tail x [] h = tt
rising_tail x (y ∷ ys) h = h.1

rising_next : (xs : List ℕ) → ((k d : ℕ) → k + 1 < length xs → get_or xs k d ≤ get_or xs (k + 1) d) → Rising xs
unfolding Rising
rising_next [] f = tt
rising_next (x ∷ []) f = tt
rising_next (x ∷ (y ∷ zs)) f =
    let one : x ≤ y = f 0 0 (omega arith) in
    (one, rising_next (y ∷ zs) (λ k d h. let m : suc k + 1 ≡ suc (k + 1) = omega arith in let g : get_or (x ∷ (y ∷ zs)) (suc k) d ≤ get_or (x ∷ (y ∷ zs)) (suc k + 1) d = f (suc k) d (omega arith) in rw m at g))

-- how many are at most so much
small : ℕ → ℕ → ℕ
small n x = cond (nat_le x n) 1 0

upto : ℕ → List ℕ → ℕ
upto n xs = sum_by (small n) xs

small_is : (n x : ℕ) → x ≤ n → small n x ≡ 1
unfolding small
small_is n x h = grind arith

small_not : (n x : ℕ) → n < x → small n x ≡ 0
unfolding small
small_not n x h = grind arith

none_upto : (n y : ℕ) (ys : List ℕ) → Rising (y ∷ ys) → n < y → upto n (y ∷ ys) ≡ 0
unfolding Rising upto
none_upto n y [] h lt = let e = sum_by-cons (small n) y [] in e ∙ ap (λ k. k + 0) (small_not n y lt)
none_upto n y (z ∷ zs) h lt =
    sum_by-cons (small n) y (z ∷ zs) ∙ ap (λ k. k + upto n (z ∷ zs)) (small_not n y lt) ∙ ap (λ k. 0 + k) (none_upto n z zs h.1 (omega (arith, h.0, lt)))

-- the head of one is no greater than that of the other
head_by : (x y : ℕ) (xs ys : List ℕ) → Rising (y ∷ ys) → upto x (x ∷ xs) ≡ upto x (y ∷ ys) → x < y → ⊥
unfolding upto
head_by x y xs ys h e lt =
    let none = none_upto x y ys h lt in
    let some = sum_by-cons (small x) x xs in
    let one = small_is x x (omega arith) in
    omega (arith, e, none, some, one)

Same : List ℕ → List ℕ → Type 0
Same xs ys = (f : ℕ → ℕ) → sum_by f xs ≡ sum_by f ys

tails : (x y : ℕ) (xs ys : List ℕ) → x ≡ y → Same (x ∷ xs) (y ∷ ys) → Same xs ys
unfolding Same
tails x y xs ys e s f =
    let h = s f in
    let a = sum_by-cons f x xs in
    let b = sum_by-cons f y ys in
    let c : f x ≡ f y = ap f e in
    omega (arith, h, a, b, c)

one_each : List ℕ → ℕ
one_each xs = sum_by (λ x. 1) xs

some_each : (x : ℕ) (xs : List ℕ) → one_each [] ≡ one_each (x ∷ xs) → ⊥
unfolding one_each
some_each x xs e = let a = sum_by-cons (λ n. 1) x xs in omega (arith, e, a)

heads : (x y : ℕ) (xs ys : List ℕ) → Rising (x ∷ xs) → Rising (y ∷ ys) → Same (x ∷ xs) (y ∷ ys) → x ≡ y
unfolding Same upto
heads x y xs ys h k s =
    let f : x < y → ⊥ = head_by x y xs ys k (s (small x)) in
    let g : y < x → ⊥ = head_by y x ys xs h (sym (s (small y))) in
    grind (arith, f, g)

one_order : (xs ys : List ℕ) → Rising xs → Rising ys → Same xs ys → xs ≡ ys
unfolding Same one_each
one_order [] [] h k s = refl
one_order [] (y ∷ ys) h k s = absurd (some_each y ys (s (λ x. 1)))
one_order (x ∷ xs) [] h k s = absurd (some_each x xs (sym (s (λ x. 1))))
one_order (x ∷ xs) (y ∷ ys) h k s =
    let e = heads x y xs ys h k s in
    let rest = one_order xs ys (rising_tail x xs h) (rising_tail y ys k) (tails x y xs ys e s) in
    rw (e, rest) refl

-- putting keeps order and members

under_by : (m n k : ℕ) (ks : List ℕ) (b : Bool) → nat_le n k ≡ b → m ≤ n → m ≤ k → Rising (k ∷ ks) → (k ≤ n → Rising (k ∷ put n ks))
    → Rising (m ∷ cond b (n ∷ (k ∷ ks)) (k ∷ put n ks))
unfolding Rising
under_by m n k ks true e le first h further = let g : n ≤ k = grind (arith, e) in (le, (g, h))
under_by m n k ks false e le first h further = let g : k ≤ n = grind (arith, e) in (first, further g)

under : (m n : ℕ) (ms : List ℕ) → m ≤ n → Rising (m ∷ ms) → Rising (m ∷ put n ms)
unfolding Rising
under m n [] le h = (le, tt)
under m n (k ∷ ks) le h = under_by m n k ks (nat_le n k) refl le h.0 h.1 (λ g. under k n ks g h.1)

rising_put : (n : ℕ) (ms : List ℕ) → Rising ms → Rising (put n ms)
unfolding Rising
rising_put n [] h = tt
rising_put n (k ∷ ks) h = by (nat_le n k) refl
  where
    by : (b : Bool) → nat_le n k ≡ b → Rising (cond b (n ∷ (k ∷ ks)) (k ∷ put n ks))
    by true e = ((let g : n ≤ k = grind (arith, e) in g), h)
    by false e = under k n ks (let g : k ≤ n = grind (arith, e) in g) h

sum_by_put : (f : ℕ → ℕ) (n k : ℕ) (ks : List ℕ) (b : Bool) → sum_by f (put n ks) ≡ f n + sum_by f ks → sum_by f (cond b (n ∷ (k ∷ ks)) (k ∷ put n ks)) ≡ f n + sum_by f (k ∷ ks)
sum_by_put f n k ks true h = sum_by-cons f n (k ∷ ks)
sum_by_put f n k ks false h =
    let a = sum_by-cons f k (put n ks) in
    let c = sum_by-cons f k ks in
    omega (arith, a, h, c)

sum_put : (f : ℕ → ℕ) (n : ℕ) (ms : List ℕ) → sum_by f (put n ms) ≡ f n + sum_by f ms
sum_put f n [] = sum_by-cons f n []
sum_put f n (k ∷ ks) = sum_by_put f n k ks (nat_le n k) (sum_put f n ks)

rising_sorted : (xs : List ℕ) → Rising (sorted xs)
unfolding Rising sorted
rising_sorted [] = tt
rising_sorted (x ∷ xs) = rising_put x (sorted xs) (rising_sorted xs)

sum_sorted : (f : ℕ → ℕ) (xs : List ℕ) → sum_by f (sorted xs) ≡ sum_by f xs
unfolding sorted
sum_sorted f [] = refl
sum_sorted f (x ∷ xs) = sum_put f x (sorted xs) ∙ ap (λ k. f x + k) (sum_sorted f xs) ∙ sym (sum_by-cons f x xs)

pub is_sorted : (xs ys : List ℕ) → IsPermutation xs ys → IsSorted nat_cmp ys → ys ≡ sorted xs
unfolding Same
is_sorted xs ys p s =
    let up = IsNonDecreasingBy-from_sort (λ n. n) ys s in
    one_order ys (sorted xs) (rising_next ys (λ k d lt. up k (k + 1) d (omega arith) lt)) (rising_sorted xs)
    (λ f. sum_by-IsPermutation f xs ys p ∙ sym (sum_sorted f xs))

-- so many at most aren't crowded

len_by : (n k : ℕ) (ks : List ℕ) (b : Bool) → length (put n ks) ≡ suc (length ks) → length (cond b (n ∷ (k ∷ ks)) (k ∷ put n ks)) ≡ suc (length (k ∷ ks))
len_by n k ks true h = refl
len_by n k ks false h = ap suc h

len_put : (n : ℕ) (ms : List ℕ) → length (put n ms) ≡ suc (length ms)
len_put n [] = refl
len_put n (k ∷ ks) = len_by n k ks (nat_le n k) (len_put n ks)

len_sorted : (xs : List ℕ) → length (sorted xs) ≡ length xs
unfolding sorted
len_sorted [] = refl
len_sorted (x ∷ xs) = len_put x (sorted xs) ∙ ap suc (len_sorted xs)

past : Option ℕ → Option Fault
past None = None
past (Some p) = when true Many p

past-is : (p : Option ℕ) → first (too_many p) ≡ past p
unfolding when past
past-is None = first-none
past-is (Some p) = first-one (record { place = p; kind = Many })

get_past : (xs : List ℕ) (n : ℕ) → length xs ≤ n → slice_get xs n ≡ None
get_past xs n h = slice_get_past xs n h

pub few : (places : List ℕ) → length places ≤ 1024 → crowded_first places ≡ None
unfolding crowded_first past
few places h =
    let l : length (sorted places) ≤ 1024 = omega (arith, len_sorted places, h) in
    ap (λ p. first (too_many p)) (get_past (sorted places) 1024 l) ∙ first-none

pub many : (places : List ℕ) (p : ℕ) → slice_get (sorted places) 1024 ≡ Some p → crowded_first places ≡ when true Many p
unfolding crowded_first past
many places p h = past-is (slice_get (sorted places) 1024) ∙ ap past h

pub none : (places : List ℕ) → slice_get (sorted places) 1024 ≡ None → crowded_first places ≡ None
unfolding crowded_first past
none places h = past-is (slice_get (sorted places) 1024) ∙ ap past h

pub ruleset crowded_rules = (few, many, none)
