use Rattle.std.proofs.lemmas.Result.{err_from_is_err_and}
use Rattle.pj_fields.specs.Fields.{many}
use Rattle.pj_fields.proofs.Loop.{begins, goes_on, is_done}
use Rattle.pj_parts.proofs.Loops.{fails}
use Rattle.pj_parts.proofs.list.take_many.Goals as goal

pub loop-turn-init : goal.loop-turn-init
loop-turn-init g c = rw c.with_room-found.ensures (begins g.T.Part.at c.args.count c.args.source.now)

pub returns-in_err-member : goal.returns-in_err-member
returns-in_err-member g c =
    let p = err_from_is_err_and c.from_residual.result c.from_residual.ensures.1 in
    rw (p.1, p.2) (fails g.T.Part.at c.in_err-member.field-0.0 c.loop-turn.found c.args.count c.loop-turn._turn c.loop-turn.rest.now (many g.T.Part.at c.args.count c.args.source.now) c.loop-turn-test.true c.in_err-member.ensures c.loop-turn.invariant)

pub loop-turn-preserved : goal.loop-turn-preserved
loop-turn-preserved g c =
    rw c.in_ok-push.ensures.ok (goes_on g.T.Part.at c.loop-turn.found c.args.count c.loop-turn._turn c.loop-turn.rest.now c.in_ok-member.member c.in_ok-member.after.now (many g.T.Part.at c.args.count c.args.source.now) c.loop-turn-test.true c.in_ok-member.ensures c.loop-turn.invariant)

pub returns : goal.returns
returns g c = is_done g.T.Part.at c.loop-turn.found c.args.count c.loop-turn._turn c.loop-turn.rest.now (many g.T.Part.at c.args.count c.args.source.now) c.loop-turn-test.false c.loop-turn.invariant
