use Rattle.std.proofs.Common.{◌≡◌, take}
use Rattle.pj_faults.specs.Found.{grown, gathered, new_in}
use Rattle.pj_faults.proofs.gather.+put.Given as goal

abbrev pub invariant-put_block-loop-s : goal.invariant-put_block-loop-s
invariant-put_block-loop-s l = record {
  names : l.names ≡ grown l.initial.names (take l.s-index l.block);
  out : l.out ≡ gathered l.initial.out (new_in l.initial.names (take l.s-index l.block));
}
