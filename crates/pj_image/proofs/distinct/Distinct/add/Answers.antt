use Rattle.std.proofs.Common.{not, sym, ap, ◌∙◌, refl}
use Rattle.pj_image.proofs.Kept.{has, added}
use Rattle.pj_image.proofs.distinct.Distinct.add.Goals as goal

pub returns-clause-new : goal.returns-clause-new
returns-clause-new c = c.in_ok-insert.ensures.added ∙ ap not (sym (rw (← c.self.view_is) (has (λ k. k.text.now) c.args.text.now c.self.inside.texts.keys)))

pub returns-clause-after : goal.returns-clause-after
returns-clause-after c = rw (← c.self.view_is) (added (λ k. k.text.now) c.args.text.now c.self.inside.texts.keys _ _ c.in_ok-insert.ensures.keys refl)
