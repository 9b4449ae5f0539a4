use Rattle.std.proofs.Common.{◌≡◌, ◌++◌, take, flat_map}
use Rattle.pj_outline.specs.Outline.{item}
use Rattle.pj_outline.proofs.items.put_items.Given as goal

abbrev pub invariant-loop-one : goal.invariant-loop-one
invariant-loop-one l = l.out ≡ l.initial.out ++ flat_map (λ x. item l.strings x l.level) (take l.one-index l.all)
