use Rattle.std.proofs.Common.{arith}
use Rattle.std.proofs.lemmas.Grind.{common_steps}
use Rattle.pj_faults.proofs.ScopeLaws.{gather_rules}
use Rattle.pj_faults.proofs.gather.+gather.Goals as goal

pub gather-loop-s-preserved : goal.gather-loop-s-preserved
gather-loop-s-preserved t c = record {
  names = grind (arith, common_steps, gather_rules);
  out = grind (arith, common_steps, gather_rules);
}
