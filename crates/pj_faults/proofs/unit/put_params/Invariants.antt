use Rattle.std.proofs.Common.{◌≡◌, take}
use Rattle.pj_faults.specs.Found.{seen_after, gathered, new_params}
use Rattle.pj_faults.proofs.unit.put_params.Given as goal

abbrev pub invariant-loop-param : goal.invariant-loop-param
invariant-loop-param l = record {
  names : l.names ≡ seen_after l.initial.names (take l.param-index l.params);
  out : l.out ≡ gathered l.initial.out (new_params l.initial.names (take l.param-index l.params));
}
