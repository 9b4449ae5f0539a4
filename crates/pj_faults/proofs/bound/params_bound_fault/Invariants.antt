use Rattle.std.proofs.Common.{◌≡◌, take}
use Rattle.pj_faults.specs.Found.{params_bound}
use Rattle.pj_faults.proofs.bound.params_bound_fault.Given as goal

abbrev pub invariant-loop-param : goal.invariant-loop-param
invariant-loop-param l = l.found ≡ params_bound l.modules (take l.param-index l.params)
