use Rattle.std.proofs.Common.{◌≡◌, take}
use Rattle.pj_tree.proofs.tree_copy.+copy_tree.Given as goal

abbrev pub invariant-copy_block-loop-s : goal.invariant-copy_block-loop-s
invariant-copy_block-loop-s l = l.copied ≡ take l.s-index l.block
