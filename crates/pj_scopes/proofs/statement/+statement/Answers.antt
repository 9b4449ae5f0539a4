use Rattle.std.proofs.Common.{arith}
use Rattle.std.proofs.lemmas.Grind.{common_steps}
use Rattle.pj_scopes.proofs.StatementTrees.{statement_trees}
use Rattle.pj_scopes.proofs.statement.+statement.Goals as goal

pub block_of-loop-s-preserved : goal.block_of-loop-s-preserved
block_of-loop-s-preserved t c = record {
  names = grind (arith, common_steps, statement_trees);
  all = grind (arith, common_steps, statement_trees);
}
