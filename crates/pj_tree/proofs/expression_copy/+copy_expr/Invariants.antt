use Rattle.std.proofs.Common.{◌≡◌, take}
use Rattle.pj_tree.proofs.expression_copy.+copy_expr.Given as goal

abbrev pub invariant-copy_exprs-loop-e : goal.invariant-copy_exprs-loop-e
invariant-copy_exprs-loop-e l = l.copied ≡ take l.e-index l.es
