use Rattle.std.proofs.Common.{◌≡◌, ◌+◌, ◌*◌, ◌++◌, length}
use Rattle.pj_image.specs.Mentions.{count_from}
use Rattle.pj_build.specs.Wiring.{int_entries}
use Rattle.pj_build.proofs.wiring.types.Given as goal

abbrev pub invariant-loop-turn : goal.invariant-loop-turn
invariant-loop-turn l = record {
  numbers : l.types ≡ count_from (length l.fn.w.entries) l._turn;
  entries : l.w.entries ≡ l.fn.w.entries ++ int_entries l.fn.w.at l._turn;
  at : l.w.at ≡ l.fn.w.at + 4 * l._turn;
  methods : l.w.methods ≡ l.fn.w.methods;
}
