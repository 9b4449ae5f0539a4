use Rattle.std.proofs.Common.{◌≡◌, ◌+◌, length, take, flat_map}
use Rattle.pj_parts.specs.Capped.{capped}
use Rattle.pj_parts.proofs.list.size_list.Given as goal

abbrev pub invariant-loop-part : goal.invariant-loop-part
invariant-loop-part g l = l.total ≡ capped (4 + length (flat_map g.T.Part.bytes (take l.part-index l.all)))
