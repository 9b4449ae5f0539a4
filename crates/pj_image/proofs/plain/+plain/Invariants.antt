use Rattle.std.proofs.Common.{◌+◌, ◌*◌}
use Rattle.pj_image.proofs.plain.+plain.Given as goal

abbrev pub decreases-plain_expr : goal.decreases-plain_expr
decreases-plain_expr l = 3 * l.depth

abbrev pub decreases-plain_node : goal.decreases-plain_node
decreases-plain_node l = 3 * l.below + 2

abbrev pub decreases-plain_arguments : goal.decreases-plain_arguments
decreases-plain_arguments l = 3 * l.below + 1
