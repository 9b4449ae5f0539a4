use Rattle.std.proofs.Common.{map}
use Rattle.pj_plain.specs.Held.{held_item}
use Rattle.pj_build.proofs.Evaluating.{Going, from}
use Rattle.pj_build.proofs.pack.evaluate.Given as goal

abbrev pub invariant-loop-item : goal.invariant-loop-item
invariant-loop-item l = Going (map held_item l.items) (from l.item-index l.items) l.fn.session l.session l.fn.steps l.left
