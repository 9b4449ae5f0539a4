use Rattle.std.proofs.Common.{◌≡◌, take}
use Rattle.pj_faults.specs.Found.{arguments_first}
use Rattle.pj_faults.proofs.expression.+value.Given as goal

abbrev pub invariant-arguments_fault-loop-argument : goal.invariant-arguments_fault-loop-argument
invariant-arguments_fault-loop-argument l = l.found ≡ arguments_first l.names l.loops (take l.argument-index l.arguments)
