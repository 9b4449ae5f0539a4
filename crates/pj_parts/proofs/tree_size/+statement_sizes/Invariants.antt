use Rattle.std.proofs.Common.{◌≡◌, ◌+◌, length, take, flat_map}
use Rattle.pj_parts.specs.Capped.{capped}
use Rattle.pj_tree.specs.Bytes.{stmt}
use Rattle.pj_parts.proofs.tree_size.+statement_sizes.Given as goal

abbrev pub invariant-block_size-loop-s : goal.invariant-block_size-loop-s
invariant-block_size-loop-s l = l.total ≡ capped (4 + length (flat_map stmt (take l.s-index l.all)))
