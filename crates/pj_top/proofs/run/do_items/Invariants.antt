use Rattle.std.proofs.Common.{◌≤◌, map, drop}
use Rattle.pj_plain.specs.Held.{held_item}
use Rattle.pj_top.proofs.RunningItems.{Doing}
use Rattle.pj_top.proofs.run.do_items.Given as goal

-- what is behind the loop and what is to come, and that no count has fallen
abbrev pub invariant-loop-item : goal.invariant-loop-item
invariant-loop-item g l = record {
  doing : Doing l.session l.left l.fn.steps (map held_item l.items) (map held_item (drop l.item-index l.items))
      (g.D.Depot.files l.initial.depot) (g.D.Depot.files l.depot) (g.S.Sink.written l.initial.out) (g.S.Sink.written l.out);
  depot : g.D.Depot.faults l.initial.depot ≤ g.D.Depot.faults l.depot;
  sink : g.S.Sink.faults l.initial.out ≤ g.S.Sink.faults l.out;
}
