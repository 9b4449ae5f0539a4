use Rattle.std.proofs.Common.{◌≡◌, ◌++◌, take, flat_map}
use Rattle.pj_parts.proofs.list.put_list.Given as goal

abbrev pub invariant-loop-part : goal.invariant-loop-part
invariant-loop-part g l = l.out ≡ l.initial.out ++ flat_map g.T.Part.bytes (take l.part-index l.all)
