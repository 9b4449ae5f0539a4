use Rattle.std.proofs.Common.{◌≡◌, ◌++◌, length, reverse}
use Rattle.pj_read_makers.proofs.paths.reversed.Given as goal

abbrev pub invariant-loop-path : goal.invariant-loop-path
invariant-loop-path l = l.turned ++ reverse l.rest ≡ reverse l.initial.rest

abbrev pub decreases-loop-path : goal.decreases-loop-path
decreases-loop-path l = length l.rest
