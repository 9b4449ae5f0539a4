use Rattle.std.proofs.Common.{◌≡◌, take}
use Rattle.pj_tree.specs.Reads.{Strings, Parts}
use Rattle.pj_rules.specs.Limits.{block_few}
use Rattle.pj_rules.proofs.limits.+stmt.Given as goal

abbrev pub invariant-block_has_few_arguments-loop-s : goal.invariant-block_has_few_arguments-loop-s
invariant-block_has_few_arguments-loop-s l = (strings : Strings) (parts : Parts) → l.so_far ≡ block_few strings parts (take l.s-index l.block)
