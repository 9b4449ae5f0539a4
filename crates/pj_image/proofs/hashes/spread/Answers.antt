use Rattle.std.proofs.Common.{◌≡◌, ap, ◌∙◌}
use Rattle.pj_image.specs.Hashes.{hash_of}
use Rattle.pj_image.proofs.Spreading.{more}
use Rattle.pj_image.proofs.hashes.spread.Goals as goal

pub loop-text-preserved : goal.loop-text-preserved
loop-text-preserved c =
    let is : c.hash_of-hash.result ≡ hash_of c.text-item.result.now = c.hash_of-hash.ensures ∙ ap hash_of c.as_str.ensures in
    rw is (more (λ p. p.items) (λ t. hash_of t.now) c.loop-text.parts.items c.args.texts.now c.loop-text.text-index c.text-item.result c.index_mut.result.now c.push.new.self c.loop-text.invariant c.loop-text-test.true c.text-item.is
    (rw (← is) c.index_mut.ensures.value) (rw (← is) c.in_ok-push.ensures.items))
