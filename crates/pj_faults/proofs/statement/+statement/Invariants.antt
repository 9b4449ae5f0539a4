use Rattle.std.proofs.Common.{◌≡◌, take}
use Rattle.pj_faults.specs.Found.{block_first}
use Rattle.pj_faults.proofs.statement.+statement.Given as goal

abbrev pub invariant-block_fault-loop-s : goal.invariant-block_fault-loop-s
invariant-block_fault-loop-s l = record {
  names : l.names ≡ l.initial.names;
  found : l.found ≡ block_first l.modules l.loops l.within l.initial.names (take l.s-index l.block);
}
