use Rattle.std.proofs.Common.{◌≡◌, ◌++◌, take, flat_map}
use Rattle.pj_outline.specs.Outline.{expr}
use Rattle.pj_outline.proofs.expressions.+expr.Given as goal

abbrev pub invariant-put_exprs-loop-e : goal.invariant-put_exprs-loop-e
invariant-put_exprs-loop-e l = l.out ≡ l.initial.out ++ flat_map (λ x. expr l.strings x l.level) (take l.e-index l.all)
