-- What holds of the reading of trees.
use Rattle.std.specs.Prelude.{◌≡◌, ◌<◌, ◌≤◌, ◌+◌, ℕ, zero, suc, List, [], ◌++◌, length}
use Rattle.pj_tree.specs.Reads.{Strings, Parts, node_of, nodes_of, numbered, parts_of}
use Rattle.pj_tree.specs.Named.{Agree, NameLater, EachOnce, named_by_node, named_by_all}
use Rattle.pj_tree.specs.Numbering.{laid_out}
use Rattle.pj_tree.specs.Forest.{Forest, main_number, trees_of, IsThere, put_behind}
use Rattle.pj_tree.specs.declared.tree.TreeNode.{TreeNode}

abbrev pub a_tree_means_what_those_it_names_let_it : Type 0
a_tree_means_what_those_it_names_let_it =
    (strings : Strings) (p q : Parts) (t : TreeNode) → Agree p q (named_by_node t) → node_of strings p t ≡ node_of strings q t

abbrev pub older_trees_keep_their_meaning : Type 0
older_trees_keep_their_meaning =
    (strings : Strings) (older newer : List TreeNode) (k : ℕ) → NameLater zero (length older) older → k < length older →
    parts_of strings (older ++ newer) k ≡ parts_of strings older k

abbrev pub newer_trees_mean_what_they_do_by_themselves : Type 0
newer_trees_mean_what_they_do_by_themselves =
    (strings : Strings) (older newer : List TreeNode) (k : ℕ) → length older ≤ k →
    parts_of strings (older ++ newer) k ≡ numbered (length older) (nodes_of strings (length older) newer) k

-- a tree that holds all that it names means what its number does once it is laid out behind others
abbrev pub laid_out_trees_mean_what_the_tree_did : Type 0
laid_out_trees_mean_what_the_tree_did =
    (strings : Strings) (parts : Parts) (older : List TreeNode) (t : TreeNode) → named_by_node t ≡ [] →
    parts_of strings (older ++ laid_out t (length older)) (length older) ≡ node_of strings parts t

-- each of them names later ones alone, and each but the first is named once
abbrev pub laid_out_trees_name_later_ones : Type 0
laid_out_trees_name_later_ones =
    (t : TreeNode) (n : ℕ) → named_by_node t ≡ [] → NameLater n (n + length (laid_out t n)) (laid_out t n)

abbrev pub laid_out_trees_are_named_once : Type 0
laid_out_trees_are_named_once =
    (t : TreeNode) (n : ℕ) → named_by_node t ≡ [] → EachOnce (suc n) (n + length (laid_out t n)) (named_by_all (laid_out t n))

-- what is put behind an image's trees stands there, and no other image has other trees
abbrev pub trees_are_put_behind_those_of_their_image : Type 0
trees_are_put_behind_those_of_their_image =
    (f : Forest) (image : ℕ) (ts : List TreeNode) → image ≤ main_number → IsThere f image →
    trees_of (put_behind image ts f) image ≡ trees_of f image ++ ts

abbrev pub other_images_keep_their_trees : Type 0
other_images_keep_their_trees =
    (f : Forest) (image other : ℕ) (ts : List TreeNode) → (image ≡ other → ⊥) → 0 < image → trees_of (put_behind image ts f) other ≡ trees_of f other
