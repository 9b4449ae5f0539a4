use Rattle.std.proofs.Common.{◌≡◌, take}
use Rattle.pj_rules.specs.Names.{stands_among}
use Rattle.pj_rules.proofs.params.is_name_of.Given as goal

abbrev pub invariant-loop-param : goal.invariant-loop-param
invariant-loop-param l = l.found ≡ stands_among l.strings l.name (take l.param-index l.params)
