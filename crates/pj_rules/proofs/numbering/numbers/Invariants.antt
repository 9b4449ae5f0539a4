use Rattle.std.proofs.Common.{◌≡◌, take, flat_map}
use Rattle.pj_rules.specs.Numbering.{by_tree, numbers_of}
use Rattle.pj_rules.proofs.numbering.numbers.Given as goal

abbrev pub invariant-loop-t : goal.invariant-loop-t
invariant-loop-t l = l.out ≡ flat_map (λ t. numbers_of (by_tree t)) (take l.t-index l.trees)
