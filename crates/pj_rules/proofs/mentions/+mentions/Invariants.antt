use Rattle.std.proofs.Common.{◌≡◌, ◌++◌, take, flat_map}
use Rattle.pj_rules.specs.Numbering.{by_stmt}
use Rattle.pj_rules.proofs.mentions.+mentions.Given as goal

abbrev pub invariant-put_block-loop-s : goal.invariant-put_block-loop-s
invariant-put_block-loop-s l = l.out ≡ l.initial.out ++ flat_map by_stmt (take l.s-index l.block)
