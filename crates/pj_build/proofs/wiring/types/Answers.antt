use Rattle.std.proofs.Common.{arith, ◌∙◌}
use Rattle.pj_build.proofs.Wires.{numbers_turn, entries_turn}
use Rattle.pj_build.proofs.wiring.types.Goals as goal

pub loop-turn-preserved : goal.loop-turn-preserved
loop-turn-preserved c =
    let was = c.loop-turn.invariant in
    let told = c.in_ok-mention.ensures in
    record {
      numbers = numbers_turn c.args.w.now.entries c.loop-turn.w.entries c.args.w.now.at c.loop-turn._turn c.loop-turn.types c.push.new.self c.in_ok-mention.field-0 was.entries was.numbers told.number c.in_ok-push.ensures.ok;
      entries = entries_turn c.args.w.now.entries c.loop-turn.w.entries c.mention.new.w.entries c.args.w.now.at c.loop-turn.w.at c.loop-turn._turn was.entries was.at told.entries;
      at = (let a = was.at in let b = told.at in omega (arith, a, b));
      methods = told.methods ∙ was.methods;
    }
