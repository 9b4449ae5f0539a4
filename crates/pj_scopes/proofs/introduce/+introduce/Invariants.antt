use Rattle.std.proofs.Common.{◌≡◌, ◌++◌, take}
use Rattle.pj_faults.specs.Found.{grown, new_in}
use Rattle.pj_scopes.specs.Resolved.{words}
use Rattle.pj_scopes.proofs.introduce.+introduce.Given as goal

abbrev pub invariant-introduce-loop-s : goal.invariant-introduce-loop-s
invariant-introduce-loop-s l = record {
  names : l.names ≡ grown l.initial.names (take l.s-index l.block);
  out : l.out ≡ l.initial.out ++ words (new_in l.initial.names (take l.s-index l.block));
}
