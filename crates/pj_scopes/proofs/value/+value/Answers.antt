use Rattle.std.proofs.Common.{arith}
use Rattle.std.proofs.lemmas.Grind.{common_steps}
use Rattle.pj_scopes.proofs.ValueTrees.{value_trees}
use Rattle.pj_scopes.proofs.value.+value.Goals as goal

pub values-loop-argument-preserved : goal.values-loop-argument-preserved
values-loop-argument-preserved t c = grind (arith, common_steps, value_trees)
