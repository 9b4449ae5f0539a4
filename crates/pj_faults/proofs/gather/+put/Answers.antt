use Rattle.std.proofs.Common.{arith}
use Rattle.std.proofs.lemmas.Grind.{common_steps}
use Rattle.pj_faults.proofs.ScopeLaws.{gather_rules}
use Rattle.pj_faults.proofs.gather.+put.Goals as goal

pub put_block-loop-s-preserved : goal.put_block-loop-s-preserved
put_block-loop-s-preserved t c = record {
  names = grind (arith, common_steps, gather_rules);
  out = grind (arith, common_steps, gather_rules);
}
