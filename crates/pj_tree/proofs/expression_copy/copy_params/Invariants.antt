use Rattle.std.proofs.Common.{◌≡◌, take}
use Rattle.pj_tree.proofs.expression_copy.copy_params.Given as goal

abbrev pub invariant-loop-param : goal.invariant-loop-param
invariant-loop-param l = l.copied ≡ take l.param-index l.params
