use Rattle.std.proofs.Common.{◌≡◌, ◌++◌, take, flat_map}
use Rattle.pj_tree.specs.Bytes.{expr}
use Rattle.pj_tree.proofs.encode.+expr.Given as goal

abbrev pub invariant-put_exprs-loop-e : goal.invariant-put_exprs-loop-e
invariant-put_exprs-loop-e l = l.out ≡ l.initial.out ++ flat_map expr (take l.e-index l.all)
