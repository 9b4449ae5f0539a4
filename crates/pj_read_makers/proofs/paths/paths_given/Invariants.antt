use Rattle.std.proofs.Common.{◌≡◌, length, reverse}
use Rattle.pj_grammar.specs.Makers.{paths_given}
use Rattle.pj_grammar.proofs.Adding.{join}
use Rattle.pj_read_makers.proofs.paths.paths_given.Given as goal

abbrev pub invariant-loop-path : goal.invariant-loop-path
invariant-loop-path l = join l.given (paths_given (reverse l.rest)) ≡ paths_given (reverse l.initial.rest)

abbrev pub decreases-loop-path : goal.decreases-loop-path
decreases-loop-path l = length l.rest
