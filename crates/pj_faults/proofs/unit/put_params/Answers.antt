use Rattle.std.proofs.Common.{arith}
use Rattle.std.proofs.lemmas.Grind.{common_steps}
use Rattle.pj_faults.proofs.UnitLaws.{param_rules}
use Rattle.pj_faults.proofs.unit.put_params.Goals as goal

pub loop-param-preserved : goal.loop-param-preserved
loop-param-preserved c = record {
  names = grind (arith, common_steps, param_rules);
  out = grind (arith, common_steps, param_rules);
}
