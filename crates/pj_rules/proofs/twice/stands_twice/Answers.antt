use Rattle.std.proofs.Common.{◌≡◌, ◌<◌, ◌||◌, length, arith, take, get_or, ◌∙◌, sym}
use Rattle.std.proofs.lemmas.Grind.{common_steps}
use Rattle.std.proofs.lemmas.List.{take_more}
use Rattle.pj_rules.proofs.TwiceLaws.{marks, found_more, is_among-none, has_twice-none}
use Rattle.pj_rules.proofs.twice.stands_twice.Goals as goal
use Rattle.pj_rules.proofs.twice.stands_twice.Goals.{then-found, else-found}

pub loop-number-init : goal.loop-number-init
loop-number-init c = record {
  all = omega (arith, c.in_ok-seen.ensures.len);
  marked = λ k below. grind (arith, common_steps, is_among-none, c.in_ok-seen.ensures);
  so_far = sym has_twice-none;
}

pub loop-number-preserved : goal.loop-number-preserved
loop-number-preserved c =
    let i = c.loop-number.number-index in
    let xs = c.args.numbers.now in
    let n = get_or c.args.numbers.now c.loop-number.number-index 0 in
    let more = take_more c.args.numbers.now c.loop-number.number-index 0 c.loop-number-test.true in
    let within : n < c.args.count = c.requires c.loop-number.number-index c.loop-number-test.true in
    let below_all : n < length c.loop-number.seen.items = omega (arith, within) in
    let joined : c.if-found.found ≡ c.loop-number.found || c.index-before.result.now =
    elim c.if-found.branch [ then-found w ↦ grind (arith, w.found-is, w.if-found) | else-found w ↦ grind (arith, w.found-is, w.if-found) ] in
    record {
      all = omega arith;
      marked = λ k below. rw more (marks c.loop-number.seen.items (take c.loop-number.number-index c.args.numbers.now) n k (omega (arith, below)) (c.loop-number.invariant.marked k below));
      so_far = rw more (joined ∙ found_more c.loop-number.seen.items (take c.loop-number.number-index c.args.numbers.now) n c.loop-number.found c.index-before.result.now below_all c.index-before.ensures (c.loop-number.invariant.marked n within) c.loop-number.invariant.so_far);
    }
