-- The list holds what is noted of the methods so far.
use Rattle.std.proofs.Common.{ℕ, ◌∙◌, ap, None, length, replicate}
use Rattle.pj_session.proofs.Listed.{only_none, start, next, ends}
use Rattle.pj_session.proofs.index.method_list.Goals as goal

pub loop-at-init : goal.loop-at-init
loop-at-init c = start c.as_slice-entries.result.now (length c.args.image.now.functions) c.in_ok-list.list.items (c.in_ok-list.ensures.items_if_clones_equal (only_none _ (λ n h. h)) ∙ ap (λ (n : ℕ). replicate n None) c.len.ensures)

pub loop-at-preserved : goal.loop-at-preserved
loop-at-preserved c =
    next c.as_slice-entries.result.now (length c.args.image.now.functions) c.as_slice-methods.result.now c.loop-at.at c.index-methods-at.result c.loop-at.list.items c.note.new.list.items
    c.loop-at-test.true c.note.ensures.many c.note.ensures.each c.loop-at.invariant

pub returns : goal.returns
returns c =
    let sofar = rw (c.as_slice-entries.ensures, c.as_slice-methods.ensures) at c.loop-at.invariant in
    let past = rw c.as_slice-methods.ensures at c.loop-at-test.false in
    ends c.args.image.now c.loop-at.at c.loop-at.list.items past sofar
