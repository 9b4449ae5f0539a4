use Rattle.std.proofs.Common.{◌≡◌, take}
use Rattle.pj_rules.specs.Numbering.{all_name_well}
use Rattle.pj_rules.proofs.numbering.all_name_well_here.Given as goal

abbrev pub invariant-loop-at : goal.invariant-loop-at
invariant-loop-at l = l.so_far ≡ all_name_well l.trees 0 (take l.at l.trees)
