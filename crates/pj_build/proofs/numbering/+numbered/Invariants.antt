use Rattle.std.proofs.Common.{take}
use Rattle.pj_build.specs.Strings.{Grown}
use Rattle.pj_build.specs.Numbered.{NumberedExprs}
use Rattle.pj_build.proofs.numbering.+numbered.Given as goal

abbrev pub invariant-all_numbered-loop-e : goal.invariant-all_numbered-loop-e
invariant-all_numbered-loop-e l = record {
  is : NumberedExprs l.strings (take l.e-index l.es) l.xs;
  grown : Grown l.fn.strings l.strings;
}
