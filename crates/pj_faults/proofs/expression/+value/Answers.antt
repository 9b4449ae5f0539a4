use Rattle.std.proofs.Common.{arith}
use Rattle.std.proofs.lemmas.Grind.{common_steps}
use Rattle.pj_faults.proofs.ValueLaws.{value_rules}
use Rattle.pj_faults.proofs.expression.+value.Goals as goal

pub arguments_fault-loop-argument-preserved : goal.arguments_fault-loop-argument-preserved
arguments_fault-loop-argument-preserved t c = grind (arith, common_steps, value_rules)
