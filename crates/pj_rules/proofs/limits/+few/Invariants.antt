use Rattle.std.proofs.Common.{◌≡◌, take}
use Rattle.pj_tree.specs.Reads.{Strings}
use Rattle.pj_rules.specs.Limits.{all_few}
use Rattle.pj_rules.proofs.limits.+few.Given as goal

abbrev pub invariant-all_have_few-loop-e : goal.invariant-all_have_few-loop-e
invariant-all_have_few-loop-e l = (strings : Strings) → l.so_far ≡ all_few strings (take l.e-index l.all)
