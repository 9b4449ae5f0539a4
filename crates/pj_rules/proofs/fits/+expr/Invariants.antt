use Rattle.std.proofs.Common.{take, ◌+◌, ◌*◌}
use Rattle.std.specs.List.{AllByRecursion}
use Rattle.pj_tree.specs.Fits.{ExprFits}
use Rattle.pj_rules.proofs.fits.+expr.Given as goal

abbrev pub invariant-exprs_fit-loop-e : goal.invariant-exprs_fit-loop-e
invariant-exprs_fit-loop-e l = AllByRecursion (ExprFits l.below) (take l.e-index l.all)

abbrev pub decreases-expr_fits : goal.decreases-expr_fits
decreases-expr_fits l = 3 * l.depth

abbrev pub decreases-exprs_fit : goal.decreases-exprs_fit
decreases-exprs_fit l = 3 * l.below + 1

abbrev pub decreases-expr_node_fits : goal.decreases-expr_node_fits
decreases-expr_node_fits l = 3 * l.below + 2
