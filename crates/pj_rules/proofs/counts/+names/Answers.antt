use Rattle.std.proofs.Common.{arith}
use Rattle.std.proofs.lemmas.Grind.{common_steps}
use Rattle.pj_rules.proofs.CountLaws.{count_rules}
use Rattle.pj_rules.proofs.counts.+names.Goals as goal

pub block_names-loop-s-preserved : goal.block_names-loop-s-preserved
block_names-loop-s-preserved t c = λ strings parts. grind (arith, common_steps, count_rules, c.loop-s.invariant strings parts)
