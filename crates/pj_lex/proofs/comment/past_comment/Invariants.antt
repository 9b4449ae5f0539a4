use Rattle.std.proofs.Common.{◌≡◌, ◌≤◌, ◌<◌, ◌+◌, ◌∷◌, length}
use Rattle.pj_lex.specs.Comments.{past_comments}
use Rattle.pj_lex.proofs.comment.past_comment.Given as goal

abbrev pub invariant-loop-rest : goal.invariant-loop-rest
invariant-loop-rest l = (past_comments l.open_ones (l.last ∷ l.rest) ≡ past_comments 1 l.fn.characters) × (l.open_ones + length l.rest ≤ 1 + length l.fn.characters) × (0 < l.open_ones)

abbrev pub decreases-loop-rest : goal.decreases-loop-rest
decreases-loop-rest l = length l.rest
