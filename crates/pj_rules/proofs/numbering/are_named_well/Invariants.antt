use Rattle.std.proofs.Common.{◌≡◌, take}
use Rattle.pj_rules.specs.Numbering.{each_names_well}
use Rattle.pj_rules.proofs.numbering.are_named_well.Given as goal

abbrev pub invariant-loop-mention : goal.invariant-loop-mention
invariant-loop-mention l = l.so_far ≡ each_names_well l.trees l.at (take l.mention-index l.mentions)
