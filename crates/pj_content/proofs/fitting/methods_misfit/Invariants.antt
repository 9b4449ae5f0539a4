use Rattle.std.proofs.Common.{drop}
use Rattle.pj_content.proofs.Taken.{Left}
use Rattle.pj_content.proofs.fitting.methods_misfit.Given as goal

abbrev pub invariant-loop-m : goal.invariant-loop-m
invariant-loop-m l = Left l.entries l.functions l.methods (drop l.m-index l.methods) l.marks.items
