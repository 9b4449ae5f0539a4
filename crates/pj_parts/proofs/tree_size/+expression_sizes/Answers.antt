use Rattle.std.proofs.Common.{arith}
use Rattle.pj_parts.proofs.Sizes.{size_all}
use Rattle.pj_tree.specs.Bytes.{expr}
use Rattle.pj_parts.proofs.tree_size.+expression_sizes.Goals as goal

pub exprs_size-returns : goal.exprs_size-returns
exprs_size-returns t c = size_all expr c.args.all.now c.loop-e.e-index c.loop-e.total (omega arith) c.loop-e.invariant
