-- Where trees stand that are put behind those of an image.
use Rattle.std.proofs.Common.{◌≡◌, ◌<◌, ◌≤◌, ℕ, zero, suc, List, [], ◌++◌, arith}
use Rattle.std.proofs.lemmas.List.{get_or-set_same, get_or-set_other}
use Rattle.pj_tree.specs.Forest.{Forest, main_number, trees_of, IsThere, put_behind}
use Rattle.pj_tree.specs.declared.tree.TreeNode.{TreeNode}

pub behind : (f : Forest) (image : ℕ) (ts : List TreeNode) → image ≤ main_number → IsThere f image → trees_of (put_behind image ts f) image ≡ trees_of f image ++ ts
behind f zero ts fits there = let h = there (omega arith) in absurd (omega (arith, h.0))
behind f (suc k) ts fits there = grind (arith, fits, there, get_or-set_same f.images k (trees_of f (suc k) ++ ts) [])

pub beside : (f : Forest) (image other : ℕ) (ts : List TreeNode) → (image ≡ other → ⊥) → 0 < image → trees_of (put_behind image ts f) other ≡ trees_of f other
beside f zero other ts apart positive = absurd (omega (arith, positive))
beside f (suc k) zero ts apart positive = grind (arith, apart)
beside f (suc k) (suc j) ts apart positive = grind (arith, apart, get_or-set_other f.images k j (trees_of f (suc k) ++ ts) [])
