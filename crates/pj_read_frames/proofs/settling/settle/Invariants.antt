use Rattle.std.proofs.Common.{◌≡◌, length}
use Rattle.pj_grammar.specs.Frames.{settle}
use Rattle.pj_read_frames.proofs.settling.settle.Given as goal

abbrev pub invariant-loop-alloc : goal.invariant-loop-alloc
invariant-loop-alloc l = settle l.level l.operand.head l.operand.stack ≡ settle l.fn.level l.fn.head l.fn.stack

abbrev pub decreases-loop-alloc : goal.decreases-loop-alloc
decreases-loop-alloc l = length l.operand.stack
