use Rattle.std.proofs.Common.{◌≡◌, take, []}
use Rattle.pj_faults.specs.Found.{distinct}
use Rattle.pj_faults.proofs.item.module_names.Given as goal

abbrev pub invariant-loop-module : goal.invariant-loop-module
invariant-loop-module l = l.names ≡ distinct [] (take l.module-index l.modules)
