use Rattle.std.proofs.Common.{◌≡◌, take}
use Rattle.pj_tree.specs.Reads.{Strings}
use Rattle.pj_rules.specs.Names.{all_scopeless}
use Rattle.pj_rules.proofs.scopeless.+scopeless.Given as goal

abbrev pub invariant-none_reads_local-loop-e : goal.invariant-none_reads_local-loop-e
invariant-none_reads_local-loop-e l = (strings : Strings) → l.so_far ≡ all_scopeless strings (take l.e-index l.all)
