use Rattle.std.proofs.Common.{◌≡◌, ◌+◌, length}
use Rattle.pj_lex.specs.Characters.{width}
use Rattle.pj_lex.proofs.characters.width.Given as goal

abbrev pub invariant-loop-rest : goal.invariant-loop-rest
invariant-loop-rest l = l.bytes + width l.rest ≡ width l.fn.characters

abbrev pub decreases-loop-rest : goal.decreases-loop-rest
decreases-loop-rest l = length l.rest
