use Rattle.std.proofs.Common.{◌≡◌, subst, IfOk}
use Rattle.pj_image.proofs.NewLemmas.{cut}
use Rattle.pj_image.proofs.seen.exactly.Goals as goal

pub returns : goal.returns
returns c =
    subst (λ b. IfOk c.add_new.result (λ differ. differ ≡ b))
    (cut (λ t. t.now) c.args.texts.now c.args.start c.add_all.new.self (rw (c.in_ok-distinct.ensures, c.split_at.ensures.front) at c.in_ok-add_all.ensures))
    (rw c.split_at.ensures.back at c.add_new.ensures)
