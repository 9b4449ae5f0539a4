use Rattle.std.proofs.Common.{arith}
use Rattle.pj_parts.specs.Spelling.{value}
use Rattle.pj_parts.proofs.Sizes.{size_all}
use Rattle.pj_parts.proofs.bound.+values.Goals as goal

pub values_size-returns : goal.values_size-returns
values_size-returns t c = size_all value c.args.all.now c.loop-of.of-index c.loop-of.total (omega arith) c.loop-of.invariant
