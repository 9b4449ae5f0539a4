use Rattle.std.proofs.Common.{arith}
use Rattle.pj_parts.proofs.Sizes.{size_all}
use Rattle.pj_tree.specs.Bytes.{stmt}
use Rattle.pj_parts.proofs.tree_size.+statement_sizes.Goals as goal

pub block_size-returns : goal.block_size-returns
block_size-returns t c = size_all stmt c.args.all.now c.loop-s.s-index c.loop-s.total (omega arith) c.loop-s.invariant
