-- Whether a number stands twice, as far as a loop has come.
use Rattle.std.proofs.Common.{◌≡◌, ℕ, Bool, true, false, ◌||◌, List, [], ◌∷◌, ◌++◌, length, get_or, ◌<◌, arith, refl, ap, ◌∙◌}
use Rattle.std.specs.Prelude.{◌==◌}
use Rattle.std.proofs.Math.ListN.{set}
use Rattle.std.proofs.lemmas.Grind.{common_steps}
use Rattle.pj_rules.specs.Numbering.{is_among, has_twice}

or_assoc : (a b c : Bool) → a || (b || c) ≡ (a || b) || c
or_assoc true b c = refl
or_assoc false b c = refl

or_false : (a : Bool) → a || false ≡ a
or_false true = refl
or_false false = refl

or_swap : (a b c d : Bool) → (a || b) || (c || d) ≡ (a || c) || (b || d)
or_swap true b c d = refl
or_swap false true true d = refl
or_swap false true false d = refl
or_swap false false c d = refl

eq_swap : (n k : ℕ) → (n == k) ≡ (k == n)
eq_swap n k = grind arith

pub is_among-none : (n : ℕ) → is_among n [] ≡ false
unfolding is_among
is_among-none n = refl

pub is_among-snoc : (n : ℕ) (ks : List ℕ) (k : ℕ) → is_among n (ks ++ k ∷ []) ≡ is_among n ks || (n == k)
unfolding is_among
is_among-snoc n [] k = or_false (n == k)
is_among-snoc n (j ∷ ks) k = ap (λ b. (n == j) || b) (is_among-snoc n ks k) ∙ or_assoc (n == j) (is_among n ks) (n == k)

pub has_twice-none : has_twice [] ≡ false
unfolding has_twice
has_twice-none = refl

pub has_twice-snoc : (ks : List ℕ) (k : ℕ) → has_twice (ks ++ k ∷ []) ≡ has_twice ks || is_among k ks
unfolding has_twice is_among
has_twice-snoc [] k = refl
has_twice-snoc (j ∷ ks) k =
    ap (λ b. b || has_twice (ks ++ k ∷ [])) (is_among-snoc j ks k)
    ∙ ap (λ b. (is_among j ks || (j == k)) || b) (has_twice-snoc ks k)
    ∙ or_swap (is_among j ks) (j == k) (has_twice ks) (is_among k ks)
    ∙ ap (λ b. (is_among j ks || has_twice ks) || (b || is_among k ks)) (eq_swap j k)

-- one more is marked
pub marks : (seen : List Bool) (ks : List ℕ) (n : ℕ) (k : ℕ) → k < length seen → get_or seen k false ≡ is_among k ks →
    get_or (set seen n true) k false ≡ is_among k (ks ++ n ∷ [])
marks seen ks n k below h = grind (arith, common_steps, is_among-snoc)

pub found_more : (seen : List Bool) (ks : List ℕ) (n : ℕ) (found before : Bool) → n < length seen → before ≡ get_or seen n before →
    get_or seen n false ≡ is_among n ks → found ≡ has_twice ks → found || before ≡ has_twice (ks ++ n ∷ [])
found_more seen ks n found before below here marked so_far = grind (arith, common_steps, has_twice-snoc)

pub ruleset twice_rules = (is_among-none, is_among-snoc, has_twice-none, has_twice-snoc)
