use Rattle.std.proofs.Common.{arith}
use Rattle.std.proofs.lemmas.Grind.{common_steps}
use Rattle.pj_rules.proofs.LimitLaws.{stmt_few_rules}
use Rattle.pj_rules.proofs.limits.+stmt.Goals as goal

pub block_has_few_arguments-loop-s-preserved : goal.block_has_few_arguments-loop-s-preserved
block_has_few_arguments-loop-s-preserved t c = λ strings parts. grind (arith, common_steps, stmt_few_rules, c.loop-s.invariant strings parts)
