-- The numbers that trees name well are those of trees that are there.
use Rattle.std.proofs.Common.{◌≡◌, ℕ, zero, suc, ◌<◌, Bool, true, false, ◌&&◌, List, [], ◌∷◌, ◌++◌, length, get_or, arith}
use Rattle.std.specs.Prelude.{slice_get, nat_lt}
use Rattle.std.specs.List.{AllByRecursion}
use Rattle.pj_rules.specs.declared.mentions.Mention.{Mention}
use Rattle.pj_rules.specs.Numbering.{Mentions, named, is_there, names_well, each_names_well, all_name_well, numbers_of, all_numbers, by_tree}
use Rattle.pj_tree.specs.declared.tree.TreeNode.{TreeNode}

abbrev pub AllBelow : ℕ → List ℕ → Type 0
AllBelow most = AllByRecursion (λ n. n < most)

left : (a b : Bool) → a && b ≡ true → a ≡ true
left true b h = cc
left false b h = h

right : (a b : Bool) → a && b ≡ true → b ≡ true
right true b h = h
right false b h = cc

get_there : (trees : List TreeNode) (m : Mention) (n : ℕ) → is_there m (slice_get trees n) ≡ true → n < length trees
get_there [] m n h = absurd (cc)
get_there (t ∷ ts) m zero h = omega arith
get_there (t ∷ ts) m (suc n) h = omega (arith, get_there ts m n h)

appended : (most : ℕ) (xs ys : List ℕ) → AllBelow most xs → AllBelow most ys → AllBelow most (xs ++ ys)
appended most [] ys h k = k
appended most (x ∷ xs) ys h k = (h.0, appended most xs ys h.1 k)

named_below : (trees : List TreeNode) (at : ℕ) (ms : Mentions) → each_names_well trees at ms ≡ true → AllBelow (length trees) (numbers_of ms)
unfolding each_names_well numbers_of names_well
named_below trees at [] h = _
named_below trees at (m ∷ ms) h =
    let well = left (names_well trees at m) (each_names_well trees at ms) h in (
      get_there trees m (named m) (right (nat_lt at (named m)) (is_there m (slice_get trees (named m))) well),
      named_below trees at ms (right (names_well trees at m) (each_names_well trees at ms) h),
    )

all_below : (trees : List TreeNode) (at : ℕ) (ts : List TreeNode) → all_name_well trees at ts ≡ true → AllBelow (length trees) (all_numbers ts)
unfolding all_name_well all_numbers
all_below trees at [] h = _
all_below trees at (t ∷ ts) h =
    appended (length trees) (numbers_of (by_tree t)) (all_numbers ts)
    (named_below trees at (by_tree t) (left (each_names_well trees at (by_tree t)) (all_name_well trees (suc at) ts) h))
    (all_below trees (suc at) ts (right (each_names_well trees at (by_tree t)) (all_name_well trees (suc at) ts) h))

at_each : (most : ℕ) (xs : List ℕ) (k : ℕ) → AllBelow most xs → k < length xs → get_or xs k 0 < most
at_each most [] k h below = absurd (omega (arith, below))
at_each most (x ∷ xs) zero h below = h.0
at_each most (x ∷ xs) (suc k) h below = at_each most xs k h.1 (omega (arith, below))

-- each number that is named
pub each_below : (trees : List TreeNode) → all_name_well trees zero trees ≡ true → (k : ℕ) → k < length (all_numbers trees) → get_or (all_numbers trees) k 0 < length trees
each_below trees h k below = at_each (length trees) (all_numbers trees) k (all_below trees zero trees h) below
