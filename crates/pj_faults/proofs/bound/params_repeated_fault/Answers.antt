use Rattle.std.proofs.Common.{arith}
use Rattle.std.proofs.lemmas.Grind.{common_steps}
use Rattle.pj_faults.proofs.BoundLaws.{bound_rules}
use Rattle.pj_faults.proofs.bound.params_repeated_fault.Goals as goal

pub loop-param-preserved : goal.loop-param-preserved
loop-param-preserved c = record {
  seen = grind (arith, common_steps, bound_rules);
  found = grind (arith, common_steps, bound_rules);
}
