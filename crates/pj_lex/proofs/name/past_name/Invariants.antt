use Rattle.std.proofs.Common.{◌≡◌, ◌≤◌, length}
use Rattle.pj_lex.specs.Names.{past_name}
use Rattle.pj_lex.proofs.name.past_name.Given as goal

abbrev pub invariant-loop-rest : goal.invariant-loop-rest
invariant-loop-rest l = (past_name l.rest ≡ past_name l.fn.characters) × (length l.rest ≤ length l.fn.characters)

abbrev pub decreases-loop-rest : goal.decreases-loop-rest
decreases-loop-rest l = length l.rest
