use Rattle.std.proofs.Common.{◌≡◌, ◌++◌, take, flat_map, codes}
use Rattle.pj_outline.specs.Outline.{name}
use Rattle.pj_outline.proofs.lines.put_names.Given as goal

abbrev pub invariant-loop-sym : goal.invariant-loop-sym
invariant-loop-sym l = l.out ≡ l.initial.out ++ flat_map (λ y. codes ", " ++ name l.strings y) (take l.sym-index l.rest)
