use Rattle.std.proofs.lemmas.Result.{err_from_is_err_and}
use Rattle.pj_fields.specs.Fields.{many}
use Rattle.pj_fields.proofs.Loop.{begins, goes_on, is_done}
use Rattle.pj_tree.specs.Reading.{stmt_at}
use Rattle.pj_tree.proofs.Loops.{fails}
use Rattle.pj_tree.proofs.reading.stmt.+statement.Goals as goal

pub many_stmts-loop-turn-init : goal.many_stmts-loop-turn-init
many_stmts-loop-turn-init t c = rw c.with_some_room-list.ensures (begins (stmt_at c.args.below) c.args.count c.args.bytes.now)

pub many_stmts-returns-in_err-member : goal.many_stmts-returns-in_err-member
many_stmts-returns-in_err-member t c =
    let p = err_from_is_err_and c.from_residual.result c.from_residual.ensures.1 in
    rw (p.1, p.2) (fails (stmt_at c.args.below) c.in_err-member.field-0.0 c.loop-turn.list c.args.count c.loop-turn._turn c.loop-turn.rest.now (many (stmt_at c.args.below) c.args.count c.args.bytes.now) c.loop-turn-test.true c.in_err-member.ensures c.loop-turn.invariant)

pub many_stmts-loop-turn-preserved : goal.many_stmts-loop-turn-preserved
many_stmts-loop-turn-preserved t c =
    rw c.in_ok-push.ensures.ok (goes_on (stmt_at c.args.below) c.loop-turn.list c.args.count c.loop-turn._turn c.loop-turn.rest.now c.in_ok-member.member c.in_ok-member.after.now (many (stmt_at c.args.below) c.args.count c.args.bytes.now) c.loop-turn-test.true c.in_ok-member.ensures c.loop-turn.invariant)

pub many_stmts-returns : goal.many_stmts-returns
many_stmts-returns t c = is_done (stmt_at c.args.below) c.loop-turn.list c.args.count c.loop-turn._turn c.loop-turn.rest.now (many (stmt_at c.args.below) c.args.count c.args.bytes.now) c.loop-turn-test.false c.loop-turn.invariant
