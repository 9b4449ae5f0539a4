use Rattle.std.proofs.Common.{◌≡◌, ◌++◌, length, drop}
use Rattle.pj_build.specs.Own.{counts_in}
use Rattle.pj_build.specs.Wiring.{all_methods, all_entries}
use Rattle.pj_build.proofs.wiring.wired.Given as goal

abbrev pub invariant-loop-thing : goal.invariant-loop-thing
invariant-loop-thing l = record {
  methods : l.w.methods ++ all_methods (length l.w.entries) (length l.w.methods) (counts_in (drop l.thing-index l.things)) ≡ all_methods 0 0 (counts_in l.things);
  entries : l.w.entries ++ all_entries l.w.at (length l.w.methods) (counts_in (drop l.thing-index l.things)) ≡ all_entries l.fn.place 0 (counts_in l.things);
}
