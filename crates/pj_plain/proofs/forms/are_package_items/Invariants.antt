use Rattle.std.proofs.Common.{◌≡◌, [], map, drop}
use Rattle.pj_plain.specs.Forms.{package_items}
use Rattle.pj_plain.specs.Held.{held_item}
use Rattle.pj_plain.proofs.forms.are_package_items.Given as goal

abbrev pub invariant-loop-item : goal.invariant-loop-item
invariant-loop-item l = package_items l.own (map held_item (drop l.item-index l.items)) ≡ package_items [] (map held_item l.items)
