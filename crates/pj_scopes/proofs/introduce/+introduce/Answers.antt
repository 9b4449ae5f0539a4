use Rattle.std.proofs.Common.{arith}
use Rattle.std.proofs.lemmas.Grind.{common_steps}
use Rattle.pj_scopes.proofs.Introducing.{introduced}
use Rattle.pj_scopes.proofs.introduce.+introduce.Goals as goal

pub introduce-loop-s-preserved : goal.introduce-loop-s-preserved
introduce-loop-s-preserved t c = record {
  names = grind (arith, common_steps, introduced);
  out = grind (arith, common_steps, introduced);
}
