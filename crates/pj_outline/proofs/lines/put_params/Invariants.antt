use Rattle.std.proofs.Common.{◌≡◌, ◌++◌, take, flat_map, codes}
use Rattle.pj_outline.specs.Outline.{param}
use Rattle.pj_outline.proofs.lines.put_params.Given as goal

abbrev pub invariant-loop-one : goal.invariant-loop-one
invariant-loop-one l = l.out ≡ l.initial.out ++ flat_map (λ y. codes ", " ++ param l.strings y) (take l.one-index l.rest)
