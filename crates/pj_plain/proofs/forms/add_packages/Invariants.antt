use Rattle.pj_plain.proofs.UsedNames.{Gathered}
use Rattle.pj_plain.proofs.forms.add_packages.Given as goal

abbrev pub invariant-loop-name : goal.invariant-loop-name
invariant-loop-name l = Gathered l.fn.used l.used l.names l.name-index
