use Rattle.std.proofs.Common.{take}
use Rattle.std.specs.List.{AllByRecursion}
use Rattle.pj_tree.specs.Fits.{ParamFits}
use Rattle.pj_rules.proofs.fits.params_fit.Given as goal

abbrev pub invariant-loop-p : goal.invariant-loop-p
invariant-loop-p l = AllByRecursion ParamFits (take l.p-index l.all)
