-- The trees that a program holds: those of each image, and those that the run itself adds.
use Rattle.std.specs.Prelude.{◌<◌, ◌≤◌, ◌-◌, ◌==◌, if◌then◌else◌, ℕ, zero, suc, List, [], ◌++◌, length, slice_set, slice_index_or}
use Rattle.pj_tree.specs.declared.tree.TreeNode.{TreeNode}

-- the lists of the images from image 1 on; the run's own; and for how many more images there is room
pub record Forest : Type 0 where
  pub images : List (List TreeNode)
  pub main : List TreeNode
  pub room : ℕ

-- the number that stands for the run itself
abbrev pub main_number : ℕ
main_number = 4294967295

-- Base, whose number is 0, and an image that isn't there have no trees
abbrev pub of_image : List (List TreeNode) → ℕ → List TreeNode
of_image images zero = []
of_image images (suc k) = slice_index_or images k []

abbrev pub trees_of : Forest → ℕ → List TreeNode
trees_of f image = if image == main_number then f.main else of_image f.images image

-- the run itself, or an image that is there
abbrev pub IsThere : Forest → ℕ → Type 0
IsThere f image = image < main_number → (0 < image) × (image ≤ length f.images)

-- trees put behind those of an image that is there, or of the run itself
abbrev pub put_behind : ℕ → List TreeNode → Forest → Forest
put_behind image ts f =
    if image == main_number
    then record f { main = f.main ++ ts }
    else record f { images = slice_set f.images (image - 1) (trees_of f image ++ ts) }
