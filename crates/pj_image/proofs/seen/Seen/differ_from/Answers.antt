use Rattle.std.proofs.Common.{sym, refl, ◌∙◌}
use Rattle.pj_image.proofs.NewLemmas.{new_behind, cut_whole}
use Rattle.pj_image.proofs.seen.Seen.differ_from.Goals as goal

pub returns-then-branch : goal.returns-then-branch
returns-then-branch c = sym (new_behind c.args.self.now c.args.start (rw (← c.self.view_is, ← c.as_slice-texts.ensures.value) (c.in_ok-hashes_differ.ensures c.if-branch.true)))

pub returns-then-texts-le-FEW : goal.returns-then-texts-le-FEW
returns-then-texts-le-FEW c = rw c.as_slice-texts.ensures.value at c.each_differs.ensures ∙ cut_whole (λ t. t.now) c.self.inside.texts.items c.args.start ∙ rw (← c.self.view_is) refl
