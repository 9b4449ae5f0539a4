use Rattle.std.proofs.Common.{◌≡◌, take}
use Rattle.pj_read_makers.proofs.copies.+copy_expr.Given as goal

abbrev pub invariant-copy_arguments-loop-e : goal.invariant-copy_arguments-loop-e
invariant-copy_arguments-loop-e l = l.copied ≡ take l.e-index l.es
