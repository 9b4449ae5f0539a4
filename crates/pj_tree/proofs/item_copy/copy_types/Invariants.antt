use Rattle.std.proofs.Common.{◌≡◌, take}
use Rattle.pj_tree.proofs.item_copy.copy_types.Given as goal

abbrev pub invariant-loop-named : goal.invariant-loop-named
invariant-loop-named l = l.copied ≡ take l.named-index l.types
