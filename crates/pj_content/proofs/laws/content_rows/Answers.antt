-- The row computes, once what the trees mean is read by its equations.
use Rattle.std.specs.Prelude.{refl}
use Rattle.pj_tree.proofs.ExprReads.{expr_reads}
use Rattle.pj_tree.proofs.TreeReads.{tree_reads}
use Rattle.pj_parts.proofs.Values.{value_layers}
use Rattle.pj_content.proofs.laws.content_rows.Goals as goal

pub returns : goal.returns
returns c = record { the_content = simp (tree_reads, expr_reads, value_layers) refl }
