use Rattle.std.proofs.Common.{◌≡◌, take}
use Rattle.pj_rules.specs.Counts.{capped, named_params}
use Rattle.pj_rules.proofs.counts.names_of_params.Given as goal

abbrev pub invariant-loop-param : goal.invariant-loop-param
invariant-loop-param l = l.count ≡ capped (named_params l.strings (take l.param-index l.params))
