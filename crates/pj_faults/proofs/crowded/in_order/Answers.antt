use Rattle.std.proofs.Common.{◌∙◌, ap}
use Rattle.pj_faults.specs.Sorted.{sorted}
use Rattle.pj_faults.proofs.SortLaws.{is_sorted}
use Rattle.pj_faults.proofs.crowded.in_order.Goals as goal

pub returns : goal.returns
returns c = c.from_vec.ensures ∙ (is_sorted c.in_ok-all.all.items c.sort.new.self.items c.in_ok-sort.ensures.permutation c.in_ok-sort.ensures.sorted ∙ ap sorted c.in_ok-all.ensures.items)
