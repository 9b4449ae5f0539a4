use Rattle.std.proofs.lemmas.Result.{err_from_is_err_and}
use Rattle.pj_fields.specs.Fields.{many}
use Rattle.pj_fields.proofs.Loop.{begins, goes_on, is_done}
use Rattle.pj_tree.specs.Reading.{sym_at}
use Rattle.pj_tree.proofs.Loops.{fails}
use Rattle.pj_tree.proofs.reading.names.many_syms.Goals as goal

pub loop-turn-init : goal.loop-turn-init
loop-turn-init c = rw c.with_some_room-list.ensures (begins sym_at c.args.count c.args.bytes.now)

pub returns-in_err-member : goal.returns-in_err-member
returns-in_err-member c =
    let p = err_from_is_err_and c.from_residual.result c.from_residual.ensures.1 in
    rw (p.1, p.2) (fails sym_at c.in_err-member.field-0.0 c.loop-turn.list c.args.count c.loop-turn._turn c.loop-turn.rest.now (many sym_at c.args.count c.args.bytes.now) c.loop-turn-test.true c.in_err-member.ensures c.loop-turn.invariant)

pub loop-turn-preserved : goal.loop-turn-preserved
loop-turn-preserved c =
    rw c.in_ok-push.ensures.ok (goes_on sym_at c.loop-turn.list c.args.count c.loop-turn._turn c.loop-turn.rest.now c.in_ok-member.member c.in_ok-member.after.now (many sym_at c.args.count c.args.bytes.now) c.loop-turn-test.true c.in_ok-member.ensures c.loop-turn.invariant)

pub returns : goal.returns
returns c = is_done sym_at c.loop-turn.list c.args.count c.loop-turn._turn c.loop-turn.rest.now (many sym_at c.args.count c.args.bytes.now) c.loop-turn-test.false c.loop-turn.invariant
