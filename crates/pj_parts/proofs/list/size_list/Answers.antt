use Rattle.std.proofs.Common.{arith}
use Rattle.pj_parts.proofs.Sizes.{size_all}
use Rattle.pj_parts.proofs.list.size_list.Goals as goal

pub returns : goal.returns
returns g c = size_all g.T.Part.bytes c.args.all.now c.loop-part.part-index c.loop-part.total (omega arith) c.loop-part.invariant
