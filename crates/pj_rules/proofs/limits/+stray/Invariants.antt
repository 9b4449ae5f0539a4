use Rattle.std.proofs.Common.{◌≡◌, take}
use Rattle.pj_tree.specs.Reads.{Strings, Parts}
use Rattle.pj_rules.specs.Limits.{block_stray}
use Rattle.pj_rules.proofs.limits.+stray.Given as goal

abbrev pub invariant-block_is_outside-loop-s : goal.invariant-block_is_outside-loop-s
invariant-block_is_outside-loop-s l =
    (strings : Strings) (parts : Parts) → l.so_far ≡ block_stray strings parts l.in_body l.in_loop (take l.s-index l.block)
