use Rattle.std.proofs.Common.{◌≡◌, take}
use Rattle.pj_tree.specs.Reads.{Strings, Parts}
use Rattle.pj_rules.specs.Counts.{capped, names_in_block}
use Rattle.pj_rules.proofs.counts.+names.Given as goal

abbrev pub invariant-block_names-loop-s : goal.invariant-block_names-loop-s
invariant-block_names-loop-s l = (strings : Strings) (parts : Parts) → l.count ≡ capped (names_in_block strings parts (take l.s-index l.block))
