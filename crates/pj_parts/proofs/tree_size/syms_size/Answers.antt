use Rattle.std.proofs.Common.{arith}
use Rattle.pj_parts.proofs.TreeSizes.{size_syms}
use Rattle.pj_parts.proofs.tree_size.syms_size.Goals as goal

pub returns : goal.returns
returns c = size_syms c.args.all.now c.loop-name.name-index c.loop-name.total (omega arith) c.loop-name.invariant
