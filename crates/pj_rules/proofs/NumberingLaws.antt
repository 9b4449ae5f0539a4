-- Laws on how trees name one another, as far as a loop has come.
use Rattle.std.proofs.Common.{◌≡◌, ℕ, suc, ◌+◌, Bool, true, false, ◌&&◌, List, [], ◌∷◌, ◌++◌, length, refl, ap, ◌∙◌, arith}
use Rattle.pj_rules.specs.declared.mentions.Mention.{Mention}
use Rattle.pj_rules.specs.Numbering.{Mentions, by_tree, names_well, each_names_well, all_name_well}
use Rattle.pj_tree.specs.declared.tree.TreeNode.{TreeNode}

and_assoc : (a b c : Bool) → a && (b && c) ≡ (a && b) && c
and_assoc true b c = refl
and_assoc false b c = refl

and_true : (a : Bool) → a && true ≡ a
and_true true = refl
and_true false = refl

pub each_names_well-none : (trees : List TreeNode) (at : ℕ) → each_names_well trees at [] ≡ true
unfolding each_names_well
each_names_well-none trees at = refl

pub each_names_well-snoc : (trees : List TreeNode) (at : ℕ) (ms : Mentions) (m : Mention) →
    each_names_well trees at (ms ++ m ∷ []) ≡ each_names_well trees at ms && names_well trees at m
unfolding each_names_well
each_names_well-snoc trees at [] m = and_true (names_well trees at m)
each_names_well-snoc trees at (n ∷ ms) m =
    ap (λ b. names_well trees at n && b) (each_names_well-snoc trees at ms m)
    ∙ and_assoc (names_well trees at n) (each_names_well trees at ms) (names_well trees at m)

pub all_name_well-none : (trees : List TreeNode) (at : ℕ) → all_name_well trees at [] ≡ true
unfolding all_name_well
all_name_well-none trees at = refl

pub all_name_well-snoc : (trees : List TreeNode) (at : ℕ) (ts : List TreeNode) (t : TreeNode) →
    all_name_well trees at (ts ++ t ∷ []) ≡ all_name_well trees at ts && each_names_well trees (at + length ts) (by_tree t)
unfolding all_name_well
all_name_well-snoc trees at [] t = let e : at ≡ at + 0 = omega arith in
    and_true (each_names_well trees at (by_tree t)) ∙ ap (λ k. each_names_well trees k (by_tree t)) e
all_name_well-snoc trees at (u ∷ ts) t =
    let e : suc at + length ts ≡ at + suc (length ts) = omega arith in
    ap (λ b. each_names_well trees at (by_tree u) && b) (all_name_well-snoc trees (suc at) ts t)
    ∙ and_assoc (each_names_well trees at (by_tree u)) (all_name_well trees (suc at) ts) (each_names_well trees (suc at + length ts) (by_tree t))
    ∙ ap (λ k. (each_names_well trees at (by_tree u) && all_name_well trees (suc at) ts) && each_names_well trees k (by_tree t)) e

pub ruleset each_rules = (each_names_well-none, each_names_well-snoc)

pub ruleset all_rules = (all_name_well-none, all_name_well-snoc)
