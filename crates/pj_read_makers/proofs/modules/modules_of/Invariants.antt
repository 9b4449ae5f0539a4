use Rattle.std.proofs.Common.{◌≡◌, ◌++◌, drop}
use Rattle.pj_grammar.specs.Modules.{modules_of, names_used}
use Rattle.pj_read_makers.specs.Runs.{run_of}
use Rattle.pj_read_makers.proofs.modules.modules_of.Given as goal

abbrev pub invariant-loop-token : goal.invariant-loop-token
invariant-loop-token l = l.modules ++ names_used (run_of l.run) (drop l.token-index l.tokens) ≡ modules_of l.own l.tokens
