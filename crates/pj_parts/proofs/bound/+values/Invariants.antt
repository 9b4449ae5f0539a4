use Rattle.std.proofs.Common.{◌≡◌, ◌+◌, length, take, flat_map}
use Rattle.pj_parts.specs.Capped.{capped}
use Rattle.pj_parts.specs.Spelling.{value}
use Rattle.pj_parts.proofs.bound.+values.Given as goal

abbrev pub invariant-values_size-loop-of : goal.invariant-values_size-loop-of
invariant-values_size-loop-of l = l.total ≡ capped (4 + length (flat_map value (take l.of-index l.all)))
