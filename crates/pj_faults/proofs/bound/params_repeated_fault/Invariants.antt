use Rattle.std.proofs.Common.{◌≡◌, [], take}
use Rattle.pj_faults.specs.Found.{params_repeated, seen_after}
use Rattle.pj_faults.proofs.bound.params_repeated_fault.Given as goal

abbrev pub invariant-loop-param : goal.invariant-loop-param
invariant-loop-param l = record {
  seen : l.seen ≡ seen_after [] (take l.param-index l.params);
  found : l.found ≡ params_repeated [] (take l.param-index l.params);
}
