use Rattle.std.proofs.Common.{◌≡◌, take}
use Rattle.pj_faults.specs.Found.{items_first}
use Rattle.pj_faults.proofs.item.items_fault.Given as goal

abbrev pub invariant-loop-item : goal.invariant-loop-item
invariant-loop-item l = l.found ≡ items_first l.modules (take l.item-index l.items)
