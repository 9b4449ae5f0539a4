use Rattle.std.proofs.Common.{◌≡◌, [], map, drop}
use Rattle.pj_plain.specs.Forms.{script_items}
use Rattle.pj_plain.specs.Held.{held_item}
use Rattle.pj_plain.proofs.forms.are_script_items.Given as goal

abbrev pub invariant-loop-item : goal.invariant-loop-item
invariant-loop-item l = script_items l.own l.used (map held_item (drop l.item-index l.items)) ≡ script_items [] [] (map held_item l.items)
