use Rattle.std.proofs.Common.{arith}
use Rattle.std.proofs.lemmas.Grind.{common_steps}
use Rattle.pj_rules.proofs.LimitLaws.{few_rules}
use Rattle.pj_rules.proofs.limits.+few.Goals as goal

pub all_have_few-loop-e-preserved : goal.all_have_few-loop-e-preserved
all_have_few-loop-e-preserved t c = λ strings. grind (arith, common_steps, few_rules, c.loop-e.invariant strings)
