use Rattle.pj_read_operands.proofs.Wants.{below-popped}
use Rattle.pj_read_operands.proofs.finishing.below_top.Goals as goal

pub returns : goal.returns
returns c = below-popped c.args.stack c.pop.new.self c.pop.result c.pop.ensures
