use Rattle.std.proofs.Common.{◌≡◌, take}
use Rattle.pj_faults.specs.Found.{grown}
use Rattle.pj_faults.proofs.enter.+enter.Given as goal

abbrev pub invariant-enter_block-loop-s : goal.invariant-enter_block-loop-s
invariant-enter_block-loop-s l = l.names ≡ grown l.initial.names (take l.s-index l.block)
