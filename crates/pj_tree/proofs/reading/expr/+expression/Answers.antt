use Rattle.std.proofs.lemmas.Result.{err_from_is_err_and}
use Rattle.pj_fields.specs.Fields.{many}
use Rattle.pj_fields.proofs.Loop.{begins, goes_on, is_done}
use Rattle.pj_tree.specs.Reading.{expr_at}
use Rattle.pj_tree.proofs.Loops.{fails}
use Rattle.pj_tree.proofs.reading.expr.+expression.Goals as goal

pub many_exprs-loop-turn-init : goal.many_exprs-loop-turn-init
many_exprs-loop-turn-init t c = rw c.with_some_room-list.ensures (begins (expr_at c.args.below) c.args.count c.args.bytes.now)

pub many_exprs-returns-in_err-member : goal.many_exprs-returns-in_err-member
many_exprs-returns-in_err-member t c =
    let p = err_from_is_err_and c.from_residual.result c.from_residual.ensures.1 in
    rw (p.1, p.2) (fails (expr_at c.args.below) c.in_err-member.field-0.0 c.loop-turn.list c.args.count c.loop-turn._turn c.loop-turn.rest.now (many (expr_at c.args.below) c.args.count c.args.bytes.now) c.loop-turn-test.true c.in_err-member.ensures c.loop-turn.invariant)

pub many_exprs-loop-turn-preserved : goal.many_exprs-loop-turn-preserved
many_exprs-loop-turn-preserved t c =
    rw c.in_ok-push.ensures.ok (goes_on (expr_at c.args.below) c.loop-turn.list c.args.count c.loop-turn._turn c.loop-turn.rest.now c.in_ok-member.member c.in_ok-member.after.now (many (expr_at c.args.below) c.args.count c.args.bytes.now) c.loop-turn-test.true c.in_ok-member.ensures c.loop-turn.invariant)

pub many_exprs-returns : goal.many_exprs-returns
many_exprs-returns t c = is_done (expr_at c.args.below) c.loop-turn.list c.args.count c.loop-turn._turn c.loop-turn.rest.now (many (expr_at c.args.below) c.args.count c.args.bytes.now) c.loop-turn-test.false c.loop-turn.invariant
