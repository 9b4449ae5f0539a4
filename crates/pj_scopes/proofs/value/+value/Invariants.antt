use Rattle.std.proofs.Common.{◌≡◌, take}
use Rattle.pj_scopes.specs.Made.{values_tree}
use Rattle.pj_scopes.proofs.value.+value.Given as goal

abbrev pub invariant-values-loop-argument : goal.invariant-values-loop-argument
invariant-values-loop-argument l = l.all ≡ values_tree l.names (take l.argument-index l.arguments)
