use Rattle.std.proofs.Common.{◌≡◌, ◌++◌, take, flat_map, codes}
use Rattle.pj_outline.specs.Outline.{type_name}
use Rattle.pj_outline.proofs.lines.put_types.Given as goal

abbrev pub invariant-loop-named : goal.invariant-loop-named
invariant-loop-named l = l.out ≡ l.initial.out ++ flat_map (λ y. codes ", " ++ type_name l.strings y) (take l.named-index l.rest)
