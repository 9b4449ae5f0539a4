use Rattle.std.proofs.Common.{◌≡◌, ◌+◌, ◌-◌, ◌*◌}
use Rattle.pj_fields.specs.Fields.{many}
use Rattle.pj_fields.proofs.Loop.{with_front}
use Rattle.pj_tree.specs.Reading.{stmt_at}
use Rattle.pj_tree.proofs.reading.stmt.+statement.Given as goal

abbrev pub decreases-stmt : goal.decreases-stmt
decreases-stmt l = 4 * l.depth

abbrev pub decreases-many_stmts : goal.decreases-many_stmts
decreases-many_stmts l = 4 * l.below + 1

abbrev pub decreases-block : goal.decreases-block
decreases-block l = 4 * l.below + 2

abbrev pub decreases-stmt_node : goal.decreases-stmt_node
decreases-stmt_node l = 4 * l.below + 3

abbrev pub invariant-many_stmts-loop-turn : goal.invariant-many_stmts-loop-turn
invariant-many_stmts-loop-turn l = with_front l.list (many (stmt_at l.fn.below) (l.fn.count - l._turn) l.rest) ≡ many (stmt_at l.fn.below) l.fn.count l.fn.bytes
