use Rattle.std.proofs.Common.{◌≡◌, ◌+◌, length, take, flat_map}
use Rattle.pj_parts.specs.Capped.{capped}
use Rattle.pj_tree.specs.Bytes.{expr}
use Rattle.pj_parts.proofs.tree_size.+expression_sizes.Given as goal

abbrev pub invariant-exprs_size-loop-e : goal.invariant-exprs_size-loop-e
invariant-exprs_size-loop-e l = l.total ≡ capped (4 + length (flat_map expr (take l.e-index l.all)))
