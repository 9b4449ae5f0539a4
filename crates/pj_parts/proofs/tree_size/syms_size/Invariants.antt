use Rattle.std.proofs.Common.{◌≡◌, ◌+◌, length, take, flat_map}
use Rattle.pj_parts.specs.Capped.{capped}
use Rattle.pj_tree.specs.Bytes.{sym}
use Rattle.pj_parts.proofs.tree_size.syms_size.Given as goal

abbrev pub invariant-loop-name : goal.invariant-loop-name
invariant-loop-name l = l.total ≡ capped (4 + length (flat_map sym (take l.name-index l.all)))
