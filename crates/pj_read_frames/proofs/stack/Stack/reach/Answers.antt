use Rattle.std.proofs.Common.{◌≡◌, ◌∷◌, [], ◌++◌}
use Rattle.pj_read_frames.proofs.Stacking.{no_reach, top_reach}
use Rattle.pj_read_frames.proofs.stack.Stack.reach.Goals as goal

-- src/stack.rt:74:5
pub returns-in-Some : goal.returns-in-Some
returns-in-Some c =
    let e : c.self.inside.layers ≡ c.in-Some.field-0-1.now ++ c.in-Some.last.now ∷ [] = (cc c.in-Some.ensures.cases.0) in
    top_reach c.self.inside.layers c.in-Some.field-0-1.now c.in-Some.last.now c.args.self.now e c.self.invariant c.self.view_is

-- src/stack.rt:74:5
pub returns-in-None : goal.returns-in-None
returns-in-None c =
    no_reach c.self.inside.layers c.args.self.now (rw c.as_slice.ensures at c.in-None.ensures.cases) c.self.view_is
