use Rattle.std.proofs.Common.{◌≡◌, ◌+◌, ◌*◌, length, sym, ap, ◌∙◌, arith}
use Rattle.std.specs.List.{flat_map}
use Rattle.pj_image.specs.Pieces.{method_pieces, walk, walk_from, is_over}
use Rattle.pj_image.proofs.Walking.{length-method, size_within, size_more, behind_method, method_goes_on, method_ends, methods_done}
use Rattle.pj_image.proofs.methods.entries_fit.Goals as goal

pub past_method-requires-clause-places : goal.past_method-requires-clause-places
past_method-requires-clause-places c =
    let within = size_within c.args.methods.now c.loop-m.m-index c.m-item.result c.loop-m-test.true c.m-item.is in
    omega (arith, within, c.loop-m.invariant.place, c.requires.places)

pub overflow_add-place-in-loop-m : goal.overflow_add-place-in-loop-m
overflow_add-place-in-loop-m c =
    let within = size_within c.args.methods.now c.loop-m.m-index c.m-item.result c.loop-m-test.true c.m-item.is in
    omega (arith, within, length-method c.m-item.result, c.len-count.ensures, c.loop-m.invariant.place, c.requires.places)

pub returns-in_default : goal.returns-in_default
returns-in_default c =
    sym (ap is_over (method_ends c.args.methods.now c.args.at c.loop-m.m-index c.m-item.result (walk_from c.loop-m.next c.loop-m.place c.loop-m.rest.now) (walk (flat_map method_pieces c.args.methods.now) (walk_from 0 c.args.at c.args.entries.now)) c.loop-m-test.true c.m-item.is c.in_default.ensures.is c.loop-m.invariant.walked))

pub loop-m-preserved : goal.loop-m-preserved
loop-m-preserved c =
    let m = c.m-item.result in
    let count-is : c.len-count.result ≡ length m.types = c.len-count.ensures in
    let on = behind_method m c.loop-m.next c.loop-m.place (walk_from c.loop-m.next c.loop-m.place c.loop-m.rest.now) c.in-Some.behind.now c.in-Some.ensures.is in
    record {
      walked = rw count-is (method_goes_on c.args.methods.now c.args.at c.loop-m.m-index m (walk_from c.loop-m.next c.loop-m.place c.loop-m.rest.now) (walk_from (c.loop-m.next + (1 + length m.types)) (c.loop-m.place + (12 + 4 * length m.types)) c.in-Some.behind.now) (walk (flat_map method_pieces c.args.methods.now) (walk_from 0 c.args.at c.args.entries.now)) c.loop-m-test.true c.m-item.is on c.loop-m.invariant.walked);
      each = omega (arith, c.in-Some.ensures.each, c.loop-m.invariant.each, count-is);
      place = omega (arith, size_more c.args.methods.now c.loop-m.m-index m c.loop-m-test.true c.m-item.is, length-method m, c.loop-m.invariant.place, count-is);
    }

pub returns : goal.returns
returns c =
    c.is_empty.ensures ∙ sym (ap is_over (methods_done c.args.methods.now c.args.at c.loop-m.m-index (walk_from c.loop-m.next c.loop-m.place c.loop-m.rest.now) (walk (flat_map method_pieces c.args.methods.now) (walk_from 0 c.args.at c.args.entries.now)) c.loop-m-test.false c.loop-m.invariant.walked))
