use Rattle.std.proofs.Common.{arith}
use Rattle.std.proofs.lemmas.Grind.{common_steps}
use Rattle.pj_faults.proofs.ItemLaws.{item_rules}
use Rattle.pj_faults.proofs.item.module_names.Goals as goal

pub loop-module-preserved : goal.loop-module-preserved
loop-module-preserved c = grind (arith, common_steps, item_rules)
