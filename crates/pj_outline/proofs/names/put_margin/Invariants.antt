use Rattle.std.proofs.Common.{◌≡◌, ◌++◌}
use Rattle.pj_outline.specs.Outline.{margin}
use Rattle.pj_outline.proofs.names.put_margin.Given as goal

abbrev pub invariant-loop-each : goal.invariant-loop-each
invariant-loop-each l = l.out ≡ l.initial.out ++ margin l._each
