use Rattle.std.proofs.Common.{◌≡◌, ◌+◌, ◌-◌, ◌*◌}
use Rattle.pj_fields.specs.Fields.{many}
use Rattle.pj_fields.proofs.Loop.{with_front}
use Rattle.pj_tree.specs.Reading.{expr_at}
use Rattle.pj_tree.proofs.reading.expr.+expression.Given as goal

abbrev pub decreases-expr : goal.decreases-expr
decreases-expr l = 4 * l.depth

abbrev pub decreases-boxed : goal.decreases-boxed
decreases-boxed l = 4 * l.below + 1

abbrev pub decreases-many_exprs : goal.decreases-many_exprs
decreases-many_exprs l = 4 * l.below + 1

abbrev pub decreases-exprs : goal.decreases-exprs
decreases-exprs l = 4 * l.below + 2

abbrev pub decreases-expr_node : goal.decreases-expr_node
decreases-expr_node l = 4 * l.below + 3

abbrev pub invariant-many_exprs-loop-turn : goal.invariant-many_exprs-loop-turn
invariant-many_exprs-loop-turn l = with_front l.list (many (expr_at l.fn.below) (l.fn.count - l._turn) l.rest) ≡ many (expr_at l.fn.below) l.fn.count l.fn.bytes
