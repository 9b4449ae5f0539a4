-- What a numbered tree means.
use Rattle.std.proofs.Common.{◌≡◌, ℕ, zero, suc, ◌+◌, ◌==◌, Bool, true, false, cond, List, [], ◌∷◌, Some, subst, slice_get, arith}
use Rattle.std.proofs.lemmas.Bool.Decides.{nat_tests}
use Rattle.pj_tree.specs.Reads.{Strings, Parts, Meant, numbered, nodes_of, node_of}
use Rattle.pj_tree.specs.declared.tree.TreeNode.{TreeNode}

chosen : (Q : Meant → Type 0) (b : Bool) (x y : Meant) → b ≡ true → Q x → Q (cond b x y)
chosen Q true x y e q = q
chosen Q false x y e q = absurd cc

other : (Q : Meant → Type 0) (b : Bool) (x y : Meant) → b ≡ false → Q y → Q (cond b x y)
other Q true x y e q = absurd cc
other Q false x y e q = q

-- what holds of what a tree means over any parts holds of what its number means
pub tree_at : (Q : Meant → Type 0) (strings : Strings) (trees : List TreeNode) (n k m : ℕ) (t : TreeNode) → m ≡ k + n → slice_get trees n ≡ Some t → ((parts : Parts) → Q (node_of strings parts t)) → Q (numbered k (nodes_of strings k trees) m)
tree_at Q strings [] n k m t at e q = absurd cc
tree_at Q strings (x ∷ later) zero k m t at e q =
    let same : t ≡ x = cc in
    let parts = numbered (suc k) (nodes_of strings (suc k) later) in
    let is : (k == m) ≡ true = grind (arith, nat_tests) in
    chosen Q (k == m) (node_of strings parts x) (parts m) is (subst (λ (y : TreeNode). Q (node_of strings parts y)) same (q parts))
tree_at Q strings (x ∷ later) (suc n) k m t at e q =
    let parts = numbered (suc k) (nodes_of strings (suc k) later) in
    let is : (k == m) ≡ false = grind (arith, nat_tests) in
    other Q (k == m) (node_of strings parts x) (parts m) is (tree_at Q strings later n (suc k) m t (omega arith) e q)
