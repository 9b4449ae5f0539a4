use Rattle.std.proofs.Common.{arith}
use Rattle.std.proofs.lemmas.Grind.{common_steps}
use Rattle.pj_rules.proofs.NumberingLaws.{all_rules}
use Rattle.pj_rules.proofs.numbering.all_name_well_here.Goals as goal

pub loop-at-preserved : goal.loop-at-preserved
loop-at-preserved c = grind (arith, common_steps, all_rules)
