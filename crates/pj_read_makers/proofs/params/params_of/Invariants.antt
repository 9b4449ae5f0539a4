use Rattle.std.proofs.Common.{◌≡◌, length, reverse}
use Rattle.pj_grammar.specs.Frames.{params_of}
use Rattle.pj_read_makers.proofs.Turning.{behind}
use Rattle.pj_read_makers.proofs.params.params_of.Given as goal

abbrev pub invariant-loop-path : goal.invariant-loop-path
invariant-loop-path l = behind l.made (params_of (reverse l.rest)) ≡ params_of (reverse l.initial.rest)

abbrev pub decreases-loop-path : goal.decreases-loop-path
decreases-loop-path l = length l.rest
