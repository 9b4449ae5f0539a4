use Rattle.std.proofs.Common.{take}
use Rattle.pj_build.specs.Strings.{Grown}
use Rattle.pj_build.specs.Sections.{KeptTrees}
use Rattle.pj_build.proofs.sections.trees.Given as goal

abbrev pub invariant-loop-thing : goal.invariant-loop-thing
invariant-loop-thing l = record {
  is : KeptTrees l.strings (take l.thing-index l.things) l.ts;
  grown : Grown l.fn.strings l.strings;
}
