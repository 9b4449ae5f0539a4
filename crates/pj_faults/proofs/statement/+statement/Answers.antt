use Rattle.std.proofs.Common.{arith}
use Rattle.std.proofs.lemmas.Grind.{common_steps}
use Rattle.pj_faults.proofs.StatementLaws.{statement_rules}
use Rattle.pj_faults.proofs.statement.+statement.Goals as goal

pub block_fault-loop-s-preserved : goal.block_fault-loop-s-preserved
block_fault-loop-s-preserved t c = record {
  names = grind (arith, common_steps, statement_rules);
  found = grind (arith, common_steps, statement_rules);
}
