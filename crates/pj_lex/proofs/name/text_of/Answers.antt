use Rattle.std.proofs.Common.{arith}
use Rattle.pj_lex.proofs.Encoding.{pushed}
use Rattle.pj_lex.proofs.name.text_of.Goals as goal

pub loop-character-preserved : goal.loop-character-preserved
loop-character-preserved c =
    pushed _ _ _ _ _ (omega arith) c.character-item.is c.loop-character.invariant c.in_ok-push.ensures.bytes
