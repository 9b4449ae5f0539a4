use Rattle.std.proofs.Common.{map, arith}
use Rattle.pj_image.specs.Pieces.{Mention, walk, walk_from}
use Rattle.pj_image.proofs.Walking.{goes_on, ends, is_done}
use Rattle.pj_image.proofs.methods.past_mentions.Goals as goal

pub returns-in_err-rest-clause-is : goal.returns-in_err-rest-clause-is
returns-in_err-rest-clause-is c = rw c.from_residual.ensures (ends c.args.numbers.now c.args.next c.args.at c.loop-i.i c.loop-i.rest.now (walk (map Mention c.args.numbers.now) (walk_from c.args.next c.args.at c.args.left.now)) c.loop-i-test.true c.in_err-rest.ensures.is c.loop-i.invariant.walked)

pub loop-i-preserved : goal.loop-i-preserved
loop-i-preserved c = record {
  walked = goes_on c.args.numbers.now c.args.next c.args.at c.loop-i.i c.loop-i.rest.now c.in_ok-rest.rest.now (walk (map Mention c.args.numbers.now) (walk_from c.args.next c.args.at c.args.left.now)) c.loop-i-test.true c.in_ok-rest.ensures.is c.loop-i.invariant.walked;
  each = omega (arith, c.in_ok-rest.ensures.one);
}

pub returns-clause-is : goal.returns-clause-is
returns-clause-is c = is_done c.args.numbers.now c.args.next c.args.at c.loop-i.i c.loop-i.rest.now (walk (map Mention c.args.numbers.now) (walk_from c.args.next c.args.at c.args.left.now)) (omega arith) c.loop-i.invariant.walked
