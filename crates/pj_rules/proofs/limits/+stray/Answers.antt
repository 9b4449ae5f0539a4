use Rattle.std.proofs.Common.{arith}
use Rattle.std.proofs.lemmas.Grind.{common_steps}
use Rattle.pj_rules.proofs.LimitLaws.{stray_rules}
use Rattle.pj_rules.proofs.limits.+stray.Goals as goal

pub block_is_outside-loop-s-preserved : goal.block_is_outside-loop-s-preserved
block_is_outside-loop-s-preserved t c = λ strings parts. grind (arith, common_steps, stray_rules, c.loop-s.invariant strings parts)
