use Rattle.std.proofs.Common.{arith}
use Rattle.pj_parts.proofs.TreeSizes.{size_params}
use Rattle.pj_parts.proofs.tree_size.params_size.Goals as goal

pub returns : goal.returns
returns c = size_params c.args.all.now c.loop-p.p-index c.loop-p.total (omega arith) c.loop-p.invariant
