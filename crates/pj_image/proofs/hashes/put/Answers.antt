use Rattle.pj_image.proofs.Slots.{new, stand}
use Rattle.pj_image.proofs.hashes.put.Goals as goal

pub returns-then-there-eq0-clause-new : goal.returns-then-there-eq0-clause-new
returns-then-there-eq0-clause-new c h =
    new c.args.slots.now c.args.hash c.loop-turn.turn c.requires c.if-hash-eq0.false (rw c.loop-turn.invariant.same at c.if-there-eq0.true) c.loop-turn.invariant.taken c.loop-turn.invariant.others

pub returns-then-there-eq0-clause-stand : goal.returns-then-there-eq0-clause-stand
returns-then-there-eq0-clause-stand c h =
    rw c.loop-turn.invariant.same (stand c.args.slots.now c.args.hash c.loop-turn.turn c.requires c.if-hash-eq0.false (rw c.loop-turn.invariant.same at c.if-there-eq0.true) c.loop-turn.invariant.taken c.loop-turn.invariant.others)
