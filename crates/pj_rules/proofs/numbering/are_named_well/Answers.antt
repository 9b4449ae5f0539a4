use Rattle.std.proofs.Common.{arith}
use Rattle.std.proofs.lemmas.Grind.{common_steps}
use Rattle.pj_rules.proofs.NumberingLaws.{each_rules}
use Rattle.pj_rules.proofs.numbering.are_named_well.Goals as goal

pub loop-mention-preserved : goal.loop-mention-preserved
loop-mention-preserved c = grind (arith, common_steps, each_rules)
