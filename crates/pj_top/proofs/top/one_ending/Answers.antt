-- The law stands over the definitions alone.
use Rattle.pj_top.proofs.Told.{one_ending}
use Rattle.pj_top.proofs.top.one_ending.Goals as goal

pub returns : goal.returns
returns c = one_ending
