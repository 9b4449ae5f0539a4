use Rattle.std.proofs.Common.{◌≡◌, ◌+◌, length, take, flat_map}
use Rattle.pj_parts.specs.Capped.{capped}
use Rattle.pj_tree.specs.Bytes.{param}
use Rattle.pj_parts.proofs.tree_size.params_size.Given as goal

abbrev pub invariant-loop-p : goal.invariant-loop-p
invariant-loop-p l = l.total ≡ capped (4 + length (flat_map param (take l.p-index l.all)))
