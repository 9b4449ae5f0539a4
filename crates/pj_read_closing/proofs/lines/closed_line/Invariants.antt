use Rattle.std.proofs.Common.{◌≡◌, length}
use Rattle.pj_grammar.specs.Closing.{closed_line}
use Rattle.pj_read_closing.proofs.lines.closed_line.Given as goal

abbrev pub invariant-loop-alloc : goal.invariant-loop-alloc
invariant-loop-alloc l = closed_line l.standing.line l.standing.stack ≡ closed_line l.fn.line l.fn.stack

abbrev pub decreases-loop-alloc : goal.decreases-loop-alloc
decreases-loop-alloc l = length l.standing.stack
