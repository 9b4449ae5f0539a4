use Rattle.std.proofs.Common.{◌≡◌, take}
use Rattle.pj_scopes.specs.Resolved.{params_of}
use Rattle.pj_scopes.proofs.word.all_params.Given as goal

abbrev pub invariant-loop-param : goal.invariant-loop-param
invariant-loop-param l = l.all ≡ params_of (take l.param-index l.params)
