-- A tree at the front of bytes, by its laws.
use Rattle.std.proofs.Common.{◌≡◌, ℕ, List, ◌++◌, Option, Some, None, refl, ap, ◌∙◌}
use Rattle.pj_fields.proofs.Laws.{IsBytes}
use Rattle.pj_tree.specs.Bytes.{tree}
use Rattle.pj_tree.specs.Fits.{TreeFits}
use Rattle.pj_tree.specs.Reading.{tree_at}
use Rattle.pj_tree.specs.declared.tree.TreeNode.{TreeNode}
use Rattle.pj_tree.proofs.TreeLaws.{tree_laws}

pub there : (bytes : List ℕ) (t : TreeNode) (rest : List ℕ) → TreeFits t → bytes ≡ tree t ++ rest → tree_at bytes ≡ Some (t, rest)
there bytes t rest fits is = ap tree_at is ∙ tree_laws.again t rest fits

pub not_there : (bytes : List ℕ) → IsBytes bytes → ((t : TreeNode) (rest : List ℕ) → TreeFits t → bytes ≡ tree t ++ rest → ⊥) → tree_at bytes ≡ None
not_there bytes are none = by (tree_at bytes) refl
  where
    by : (read : Option (TreeNode × List ℕ)) → tree_at bytes ≡ read → tree_at bytes ≡ None
    by None e = e
    by (Some x) e =
        let t = tree_laws.takes bytes x.0 x.1 are e in
        absurd (none x.0 x.1 t.fits t.parts)
