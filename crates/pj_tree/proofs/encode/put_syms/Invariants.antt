use Rattle.std.proofs.Common.{◌≡◌, ◌++◌, take, flat_map}
use Rattle.pj_tree.specs.Bytes.{sym}
use Rattle.pj_tree.proofs.encode.put_syms.Given as goal

abbrev pub invariant-loop-name : goal.invariant-loop-name
invariant-loop-name l = l.out ≡ l.initial.out ++ flat_map sym (take l.name-index l.all)
