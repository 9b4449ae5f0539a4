use Rattle.std.proofs.Common.{rules}
use Rattle.pj_grammar.specs.Need.{depth}
use Rattle.pj_read_frames.proofs.Stacking.{more_keeps}
use Rattle.pj_read_frames.proofs.stack.Stack.push.Goals as goal

-- src/stack.rt:85:5
pub invariant_of-self-2 : goal.invariant_of-self-2
invariant_of-self-2 c =
    more_keeps c.self.inside.layers c.push.new.self c.args.frame c.frame_depth-reach.result c.args.self.now c.self.invariant c.self.view_is
    (c.frame_depth-reach.ensures (depth c.args.self.now) c.reach.ensures) (search rules)
