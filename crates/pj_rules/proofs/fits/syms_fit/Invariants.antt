use Rattle.std.proofs.Common.{take}
use Rattle.std.specs.List.{AllByRecursion}
use Rattle.pj_tree.specs.Fits.{SymFits}
use Rattle.pj_rules.proofs.fits.syms_fit.Given as goal

abbrev pub invariant-loop-name : goal.invariant-loop-name
invariant-loop-name l = AllByRecursion SymFits (take l.name-index l.all)
