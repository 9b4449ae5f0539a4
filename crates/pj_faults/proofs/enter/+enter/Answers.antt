use Rattle.std.proofs.Common.{arith}
use Rattle.std.proofs.lemmas.Grind.{common_steps}
use Rattle.pj_faults.proofs.ScopeLaws.{enter_rules}
use Rattle.pj_faults.proofs.enter.+enter.Goals as goal

pub enter_block-loop-s-preserved : goal.enter_block-loop-s-preserved
enter_block-loop-s-preserved t c = grind (arith, common_steps, enter_rules)
