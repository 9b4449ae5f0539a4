use Rattle.std.proofs.Common.{sym, ◌∙◌}
use Rattle.pj_plain.specs.Held.{held_item}
use Rattle.pj_plain.proofs.FormItems.{script_goes_on}
use Rattle.pj_plain.proofs.forms.are_script_items.Goals as goal

pub loop-item-preserved : goal.loop-item-preserved
loop-item-preserved c =
    script_goes_on held_item c.args.items.now c.loop-item.item-index c.item-item.result c.loop-item-test.true c.item-item.is c.loop-item.own c.add_script_item.new.own c.loop-item.used c.add_script_item.new.used c.loop-item.invariant
    (sym c.is_script_item.ensures ∙ c.if-not-is_script_item.false) c.in_ok-add_script_item.ensures.known c.in_ok-add_script_item.ensures.used
