use Rattle.std.proofs.Common.{arith}
use Rattle.std.proofs.lemmas.Grind.{common_steps}
use Rattle.pj_rules.proofs.CountLaws.{count_rules}
use Rattle.pj_rules.proofs.counts.names_of_params.Goals as goal

pub loop-param-preserved : goal.loop-param-preserved
loop-param-preserved c = grind (arith, common_steps, count_rules)
