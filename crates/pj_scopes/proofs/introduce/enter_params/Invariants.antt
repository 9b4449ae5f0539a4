use Rattle.std.proofs.Common.{◌≡◌, take}
use Rattle.pj_faults.specs.Found.{seen_after}
use Rattle.pj_scopes.proofs.introduce.enter_params.Given as goal

abbrev pub invariant-loop-param : goal.invariant-loop-param
invariant-loop-param l = l.names ≡ seen_after l.initial.names (take l.param-index l.params)
