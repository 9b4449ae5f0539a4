use Rattle.std.proofs.Common.{◌≡◌, take}
use Rattle.pj_rules.specs.Names.{twice_named}
use Rattle.pj_rules.proofs.params.have_name_twice.Given as goal

abbrev pub invariant-loop-at : goal.invariant-loop-at
invariant-loop-at l = l.found ≡ twice_named l.strings (take l.at l.params)
