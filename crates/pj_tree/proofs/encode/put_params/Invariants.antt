use Rattle.std.proofs.Common.{◌≡◌, ◌++◌, take, flat_map}
use Rattle.pj_tree.specs.Bytes.{param}
use Rattle.pj_tree.proofs.encode.put_params.Given as goal

abbrev pub invariant-loop-p : goal.invariant-loop-p
invariant-loop-p l = l.out ≡ l.initial.out ++ flat_map param (take l.p-index l.all)
