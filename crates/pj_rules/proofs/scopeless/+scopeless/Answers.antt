use Rattle.std.proofs.Common.{arith}
use Rattle.std.proofs.lemmas.Grind.{common_steps}
use Rattle.pj_rules.proofs.ScopelessLaws.{scopeless_rules}
use Rattle.pj_rules.proofs.scopeless.+scopeless.Goals as goal

pub none_reads_local-loop-e-preserved : goal.none_reads_local-loop-e-preserved
none_reads_local-loop-e-preserved t c = λ strings. grind (arith, common_steps, scopeless_rules, c.loop-e.invariant strings)
