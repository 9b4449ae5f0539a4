use Rattle.std.proofs.Common.{◌≡◌, ◌≤◌, length}
use Rattle.pj_lex.specs.Comments.{past_line}
use Rattle.pj_lex.proofs.comment.past_line.Given as goal

abbrev pub invariant-loop-rest : goal.invariant-loop-rest
invariant-loop-rest l = (past_line l.rest ≡ past_line l.fn.characters) × (length l.rest ≤ length l.fn.characters)

abbrev pub decreases-loop-rest : goal.decreases-loop-rest
decreases-loop-rest l = length l.rest
