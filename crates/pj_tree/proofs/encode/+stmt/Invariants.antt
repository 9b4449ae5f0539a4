use Rattle.std.proofs.Common.{◌≡◌, ◌++◌, take, flat_map}
use Rattle.pj_tree.specs.Bytes.{stmt}
use Rattle.pj_tree.proofs.encode.+stmt.Given as goal

abbrev pub invariant-put_block-loop-s : goal.invariant-put_block-loop-s
invariant-put_block-loop-s l = l.out ≡ l.initial.out ++ flat_map stmt (take l.s-index l.all)
