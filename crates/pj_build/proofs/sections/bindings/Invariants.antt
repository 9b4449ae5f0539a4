use Rattle.std.proofs.Common.{take}
use Rattle.std.specs.List.{zip}
use Rattle.pj_build.specs.Strings.{Grown}
use Rattle.pj_build.specs.Sections.{KeptBindings}
use Rattle.pj_build.proofs.sections.bindings.Given as goal

abbrev pub invariant-loop-place : goal.invariant-loop-place
invariant-loop-place l = record {
  is : KeptBindings l.strings (take l.place (zip l.names l.things)) l.bs;
  grown : Grown l.fn.strings l.strings;
}
