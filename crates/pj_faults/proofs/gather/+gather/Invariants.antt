use Rattle.std.proofs.Common.{◌≡◌, take}
use Rattle.pj_faults.specs.Found.{gathered, looped_in}
use Rattle.pj_faults.proofs.gather.+gather.Given as goal

abbrev pub invariant-gather-loop-s : goal.invariant-gather-loop-s
invariant-gather-loop-s l = record {
  names : l.names ≡ l.initial.names;
  out : l.out ≡ gathered l.initial.out (looped_in l.initial.names (take l.s-index l.block));
}
