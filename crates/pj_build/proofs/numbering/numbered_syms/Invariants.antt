use Rattle.std.proofs.Common.{take}
use Rattle.pj_build.specs.Strings.{Grown}
use Rattle.pj_build.specs.Numbered.{NumberedSyms}
use Rattle.pj_build.proofs.numbering.numbered_syms.Given as goal

abbrev pub invariant-loop-name : goal.invariant-loop-name
invariant-loop-name l = record {
  is : NumberedSyms l.strings (take l.name-index l.names) l.xs;
  grown : Grown l.fn.strings l.strings;
}
