-- The fault that counts of two lists is the sooner of theirs.
use Rattle.std.proofs.Common.{◌≡◌, ℕ, ◌<◌, Bool, true, false, ◌&&◌, ◌||◌, List, [], ◌∷◌, ◌++◌, Option, Some, None, cond, refl, sym, ap, ◌∙◌, arith, ◌≤◌, ◌⊎◌, inl, inr}
use Rattle.std.specs.Prelude.{nat_lt, ◌==◌}
use Rattle.pj_faults.specs.declared.fault.Fault.{Fault}
use Rattle.pj_faults.specs.First.{rank, before, sooner, first}

pub sooner-none : (a : Option Fault) → sooner a None ≡ a
unfolding sooner
sooner-none None = refl
sooner-none (Some a) = refl

pub none-sooner : (a : Option Fault) → sooner None a ≡ a
unfolding sooner
none-sooner a = refl

-- pairs of numbers in order
unfoldable pub lex : ℕ → ℕ → ℕ → ℕ → Bool
lex p i q j = nat_lt p q || ((p == q) && nat_lt i j)

pub lex_true : (p i q j : ℕ) → lex p i q j ≡ true → (p < q) ⊎ ((p ≡ q) × (i < j))
unfolding lex
lex_true p i q j h = grind arith

lex_false : (p i q j : ℕ) → lex p i q j ≡ false → (q < p) ⊎ ((p ≡ q) × (j ≤ i))
unfolding lex
lex_false p i q j h = grind arith

lex_less : (p i q j : ℕ) → p < q → lex p i q j ≡ true
unfolding lex
lex_less p i q j h = grind arith

lex_same : (p i q j : ℕ) → p ≡ q → i < j → lex p i q j ≡ true
unfolding lex
lex_same p i q j h k = grind arith

pub lex_more : (p i q j : ℕ) → q < p → lex p i q j ≡ false
unfolding lex
lex_more p i q j h = grind arith

pub lex_not : (p i q j : ℕ) → p ≡ q → j ≤ i → lex p i q j ≡ false
unfolding lex
lex_not p i q j h k = grind arith

lex_trans : (p i q j r k : ℕ) → lex p i q j ≡ true → lex q j r k ≡ true → lex p i r k ≡ true
lex_trans p i q j r k h m = by (lex_true p i q j h) (lex_true q j r k m)
  where
    by : (p < q) ⊎ ((p ≡ q) × (i < j)) → (q < r) ⊎ ((q ≡ r) × (j < k)) → lex p i r k ≡ true
    by (inl a) (inl b) = lex_less p i r k (omega (arith, a, b))
    by (inl a) (inr b) = lex_less p i r k (omega (arith, a, b.0))
    by (inr a) (inl b) = lex_less p i r k (omega (arith, a.0, b))
    by (inr a) (inr b) = lex_same p i r k (a.0 ∙ b.0) (omega (arith, a.1, b.1))

lex_none : (p i q j r k : ℕ) → lex p i q j ≡ false → lex q j r k ≡ false → lex p i r k ≡ false
lex_none p i q j r k h m = by (lex_false p i q j h) (lex_false q j r k m)
  where
    by : (q < p) ⊎ ((p ≡ q) × (j ≤ i)) → (r < q) ⊎ ((q ≡ r) × (k ≤ j)) → lex p i r k ≡ false
    by (inl a) (inl b) = lex_more p i r k (omega (arith, a, b))
    by (inl a) (inr b) = lex_more p i r k (omega (arith, a, b.0))
    by (inr a) (inl b) = lex_more p i r k (omega (arith, a.0, b))
    by (inr a) (inr b) = lex_not p i r k (a.0 ∙ b.0) (omega (arith, a.1, b.1))

before-trans : (a b c : Fault) → before b a ≡ true → before c b ≡ true → before c a ≡ true
unfolding before lex
before-trans a b c h k = lex_trans c.place (rank c.kind) b.place (rank b.kind) a.place (rank a.kind) k h

pub before-not : (a b c : Fault) → before b a ≡ false → before c b ≡ false → before c a ≡ false
unfolding before lex
before-not a b c h k = lex_none c.place (rank c.kind) b.place (rank b.kind) a.place (rank a.kind) k h

assoc_by : (a b c : Fault) (p q r : Bool) → before b a ≡ p → before c b ≡ q → before c a ≡ r
    → Some (cond (before c (cond p b a)) c (cond p b a)) ≡ Some (cond (before (cond q c b) a) (cond q c b) a)
assoc_by a b c true true r h k m = rw (k, before-trans a b c h k) refl
assoc_by a b c true false r h k m = rw (k, h) refl
assoc_by a b c false true r h k m = refl
assoc_by a b c false false r h k m = rw (before-not a b c h k, h) refl

pub sooner-assoc : (a b c : Option Fault) → sooner (sooner a b) c ≡ sooner a (sooner b c)
unfolding sooner
sooner-assoc None b c = refl
sooner-assoc (Some a) None c = refl
sooner-assoc (Some a) (Some b) None = refl
sooner-assoc (Some a) (Some b) (Some c) = assoc_by a b c (before b a) (before c b) (before c a) refl refl refl

pub first-none : first [] ≡ None
unfolding first
first-none = refl

pub first-append : (xs ys : List Fault) → first (xs ++ ys) ≡ sooner (first xs) (first ys)
unfolding first
first-append [] ys = sym (none-sooner (first ys))
first-append (x ∷ xs) ys = ap (λ f. sooner (Some x) f) (first-append xs ys) ∙ sym (sooner-assoc (Some x) (first xs) (first ys))

pub first-one : (x : Fault) → first (x ∷ []) ≡ Some x
unfolding first sooner
first-one x = refl
