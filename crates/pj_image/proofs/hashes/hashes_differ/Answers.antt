use Rattle.std.proofs.Common.{map}
use Rattle.pj_image.specs.Hashes.{hash_of}
use Rattle.pj_image.proofs.NewLemmas.{map_hashes}
use Rattle.pj_image.proofs.Spreading.{part_more, parts_differ}
use Rattle.pj_image.proofs.hashes.hashes_differ.Goals as goal

pub loop-part-preserved : goal.loop-part-preserved
loop-part-preserved c = part_more (λ p. p.items) c.as_slice-parts.result.now c.loop-part.part-index c.part-item.result c.loop-part-test.true c.part-item.is c.loop-part.invariant (rw c.as_slice.ensures.value at (c.in_ok-part_differs.ensures c.if-not-branch.false))

pub returns : goal.returns
returns c h =
    map_hashes (λ t. t.now) hash_of c.args.texts.now (parts_differ (λ p. p.items) c.as_slice-parts.result.now (map (λ t. hash_of t.now) c.args.texts.now) c.loop-part.part-index (rw c.as_slice-parts.ensures.value c.in_ok-all.ensures) c.loop-part-test.false c.loop-part.invariant)
