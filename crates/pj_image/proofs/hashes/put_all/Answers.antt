use Rattle.std.proofs.Common.{take}
use Rattle.pj_image.proofs.Slots.{nothing, none_differ, one_more, differ_more}
use Rattle.pj_image.proofs.hashes.put_all.Goals as goal

pub loop-hash-init : goal.loop-hash-init
loop-hash-init c = record { many = c.requires; stand = nothing c.args.slots.now; differ = none_differ }

pub loop-hash-preserved : goal.loop-hash-preserved
loop-hash-preserved c = record {
  many = c.put.ensures.many;
  stand = one_more c.put.new.slots c.args.part.now c.loop-hash.hash-index _ c.loop-hash-test.true (c.put.ensures.stand c.if-not-put.false (take c.loop-hash.hash-index c.args.part.now) c.loop-hash.invariant.stand);
  differ = differ_more c.args.part.now c.loop-hash.hash-index _ c.loop-hash-test.true c.loop-hash.invariant.differ (c.put.ensures.new c.if-not-put.false (take c.loop-hash.hash-index c.args.part.now) c.loop-hash.invariant.stand);
}
