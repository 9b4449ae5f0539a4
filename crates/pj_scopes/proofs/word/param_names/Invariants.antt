use Rattle.std.proofs.Common.{◌≡◌, take}
use Rattle.pj_scopes.specs.Resolved.{names_of}
use Rattle.pj_scopes.proofs.word.param_names.Given as goal

abbrev pub invariant-loop-param : goal.invariant-loop-param
invariant-loop-param l = l.all ≡ names_of (take l.param-index l.params)
