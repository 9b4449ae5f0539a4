-- Trees by their numbers, where more trees are appended.
use Rattle.std.proofs.Common.{◌≡◌, refl, ap, ◌<◌, ◌≤◌, ◌+◌, ℕ, suc, List, [], ◌∷◌, ◌++◌, length, arith}
use Rattle.pj_tree.specs.Reads.{Strings, Meant, numbered, nodes_of}
use Rattle.pj_tree.specs.declared.tree.TreeNode.{TreeNode}

-- an older number keeps its meaning
pub numbered-older : (n : ℕ) (xs ys : List Meant) (k : ℕ) → n ≤ k → k < n + length xs → numbered n (xs ++ ys) k ≡ numbered n xs k
numbered-older n [] ys k from to = grind (arith, from, to)
numbered-older n (x ∷ xs) ys k from to = grind (arith, from, to, numbered-older (suc n) xs ys k)

-- a newer number has its meaning among the newer trees
pub numbered-newer : (n : ℕ) (xs ys : List Meant) (k : ℕ) → n + length xs ≤ k → numbered n (xs ++ ys) k ≡ numbered (n + length xs) ys k
numbered-newer n [] ys k from = grind (arith, from)
numbered-newer n (x ∷ xs) ys k from = grind (arith, from, numbered-newer (suc n) xs ys k)

pub length-nodes_of : (strings : Strings) (n : ℕ) (trees : List TreeNode) → length (nodes_of strings n trees) ≡ length trees
length-nodes_of strings n [] = refl
length-nodes_of strings n (t ∷ trees) = ap suc (length-nodes_of strings (suc n) trees)
