use Rattle.pj_image.proofs.NewLemmas.{same_more}
use Rattle.pj_image.proofs.distinct.Distinct.add_all.Goals as goal

pub loop-text-preserved : goal.loop-text-preserved
loop-text-preserved c = same_more (λ t. t.now) c.args.self.now c.loop-text.self c.add.new.self c.args.texts.now c.loop-text.text-index c.text-item.result c.loop-text-test.true c.text-item.is c.loop-text.invariant c.in_ok-add.ensures.after
