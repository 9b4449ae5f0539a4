use Rattle.std.proofs.Common.{take, ◌+◌, ◌*◌}
use Rattle.std.specs.List.{AllByRecursion}
use Rattle.pj_tree.specs.Fits.{StmtFits}
use Rattle.pj_rules.proofs.fits.+stmt.Given as goal

abbrev pub invariant-stmts_fit-loop-s : goal.invariant-stmts_fit-loop-s
invariant-stmts_fit-loop-s l = AllByRecursion (StmtFits l.below) (take l.s-index l.all)

abbrev pub decreases-stmt_fits : goal.decreases-stmt_fits
decreases-stmt_fits l = 3 * l.depth

abbrev pub decreases-stmts_fit : goal.decreases-stmts_fit
decreases-stmts_fit l = 3 * l.below + 1

abbrev pub decreases-stmt_node_fits : goal.decreases-stmt_node_fits
decreases-stmt_node_fits l = 3 * l.below + 2
