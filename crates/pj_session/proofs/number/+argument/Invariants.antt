use Rattle.std.proofs.Common.{length}
use Rattle.pj_session.proofs.number.+argument.Given as goal

abbrev pub decreases-argument : goal.decreases-argument
decreases-argument l = length l.params.now
