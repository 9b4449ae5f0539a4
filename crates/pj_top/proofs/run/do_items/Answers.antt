-- Each item goes on from what is behind it.
use Rattle.std.proofs.Common.{◌+◌, arith, map, drop}
use Rattle.pj_plain.specs.Held.{held_item}
use Rattle.pj_top.proofs.RunningItems.{at_item, at_last, doing_begins, doing_evaluates, doing_on, doing_over_ends, doing_over_told, doing_end_told, doing_stopped_told}
use Rattle.pj_top.proofs.run.do_items.Goals as goal

pub loop-item-init : goal.loop-item-init
loop-item-init g c = record {
  doing = doing_begins c.args.session.now c.args.steps (map held_item c.args.items.now) (g.D.Depot.files c.args.depot.now) (g.S.Sink.written c.args.out.now) c.requires.new c.requires.form;
  depot = omega arith;
  sink = omega arith;
}

pub do_item-requires : goal.do_item-requires
do_item-requires g c =
    let doing = at_item c.loop-item.session c.loop-item.left c.args.steps held_item c.args.items.now c.loop-item.item-index c.item-item.result (g.D.Depot.files c.args.depot.now) (g.D.Depot.files c.loop-item.depot)
    (g.S.Sink.written c.args.out.now) (g.S.Sink.written c.loop-item.out) c.loop-item-test.true c.item-item.is c.loop-item.invariant.doing in
    record {
      good = doing.good;
      form = doing_evaluates c.loop-item.session c.loop-item.left c.args.steps (held_item c.item-item.result) (map held_item c.args.items.now) (map held_item (drop (c.loop-item.item-index + 1) c.args.items.now))
          (g.D.Depot.files c.args.depot.now) (g.D.Depot.files c.loop-item.depot) (g.S.Sink.written c.args.out.now) (g.S.Sink.written c.loop-item.out) doing;
    }

pub loop-item-preserved : goal.loop-item-preserved
loop-item-preserved g c =
    let doing = at_item c.loop-item.session c.loop-item.left c.args.steps held_item c.args.items.now c.loop-item.item-index c.item-item.result (g.D.Depot.files c.args.depot.now) (g.D.Depot.files c.loop-item.depot)
    (g.S.Sink.written c.args.out.now) (g.S.Sink.written c.loop-item.out) c.loop-item-test.true c.item-item.is c.loop-item.invariant.doing in
    record {
      doing = doing_on c.loop-item.session c.do_item.new.session c.loop-item.left c.do_item.new.left c.args.steps (held_item c.item-item.result) (map held_item c.args.items.now)
          (map held_item (drop (c.loop-item.item-index + 1) c.args.items.now)) (g.D.Depot.files c.args.depot.now) (g.D.Depot.files c.loop-item.depot) (g.D.Depot.files c.do_item.new.depot)
          (g.S.Sink.written c.args.out.now) (g.S.Sink.written c.loop-item.out) (g.S.Sink.written c.do_item.new.out) doing c.do_item.ensures.stays (rw c.in_default.is at c.in_ok-came.ensures.adds) c.do_item.ensures.same
          (rw c.in_default.is at c.in_ok-came.ensures.goes) c.in_ok-came.ensures.told;
      depot = omega (arith, c.do_item.ensures.depot.later);
      sink = omega (arith, c.do_item.ensures.sink.later);
    }

pub returns-in_err-came-clause-told : goal.returns-in_err-came-clause-told
returns-in_err-came-clause-told g c =
    let doing = at_item c.loop-item.session c.loop-item.left c.args.steps held_item c.args.items.now c.loop-item.item-index c.item-item.result (g.D.Depot.files c.args.depot.now) (g.D.Depot.files c.loop-item.depot)
    (g.S.Sink.written c.args.out.now) (g.S.Sink.written c.loop-item.out) c.loop-item-test.true c.item-item.is c.loop-item.invariant.doing in
    doing_stopped_told c.loop-item.session c.do_item.new.session c.loop-item.left c.do_item.new.left c.args.steps (held_item c.item-item.result) (map held_item c.args.items.now)
    (map held_item (drop (c.loop-item.item-index + 1) c.args.items.now)) (g.D.Depot.files c.args.depot.now) (g.D.Depot.files c.loop-item.depot)
    (g.S.Sink.written c.args.out.now) (g.S.Sink.written c.loop-item.out) (g.S.Sink.written c.do_item.new.out) c.in_err-came.field-0.0 doing c.in_err-came.ensures.goes c.in_err-came.ensures.told
    c.from_residual.result c.from_residual.ensures.0

pub returns-in-Some-clause-told : goal.returns-in-Some-clause-told
returns-in-Some-clause-told g c =
    let doing = at_item c.loop-item.session c.loop-item.left c.args.steps held_item c.args.items.now c.loop-item.item-index c.item-item.result (g.D.Depot.files c.args.depot.now) (g.D.Depot.files c.loop-item.depot)
    (g.S.Sink.written c.args.out.now) (g.S.Sink.written c.loop-item.out) c.loop-item-test.true c.item-item.is c.loop-item.invariant.doing in
    doing_over_told c.loop-item.session c.do_item.new.session c.loop-item.left c.do_item.new.left c.args.steps (held_item c.item-item.result) (map held_item c.args.items.now)
    (map held_item (drop (c.loop-item.item-index + 1) c.args.items.now)) (g.D.Depot.files c.args.depot.now) (g.D.Depot.files c.loop-item.depot)
    (g.S.Sink.written c.args.out.now) (g.S.Sink.written c.loop-item.out) (g.S.Sink.written c.do_item.new.out) c.in-Some.ending doing (rw c.in-Some.is at c.in_ok-came.ensures.goes) c.in_ok-came.ensures.told

pub returns-in-Some-clause-ends : goal.returns-in-Some-clause-ends
returns-in-Some-clause-ends g c =
    let doing = at_item c.loop-item.session c.loop-item.left c.args.steps held_item c.args.items.now c.loop-item.item-index c.item-item.result (g.D.Depot.files c.args.depot.now) (g.D.Depot.files c.loop-item.depot)
    (g.S.Sink.written c.args.out.now) (g.S.Sink.written c.loop-item.out) c.loop-item-test.true c.item-item.is c.loop-item.invariant.doing in
    doing_over_ends c.loop-item.session c.do_item.new.session c.loop-item.left c.do_item.new.left c.args.steps (held_item c.item-item.result) (map held_item c.args.items.now)
    (map held_item (drop (c.loop-item.item-index + 1) c.args.items.now)) (g.D.Depot.files c.args.depot.now) (g.D.Depot.files c.loop-item.depot)
    (g.S.Sink.written c.args.out.now) (g.S.Sink.written c.loop-item.out) (g.S.Sink.written c.do_item.new.out) c.in-Some.ending doing (rw c.in-Some.is at c.in_ok-came.ensures.goes) c.in_ok-came.ensures.told

pub returns-clause-told : goal.returns-clause-told
returns-clause-told g c =
    doing_end_told c.loop-item.session c.loop-item.left c.args.steps (map held_item c.args.items.now) (g.D.Depot.files c.args.depot.now) (g.D.Depot.files c.loop-item.depot)
    (g.S.Sink.written c.args.out.now) (g.S.Sink.written c.loop-item.out) c.at_end.result
    (at_last c.loop-item.session c.loop-item.left c.args.steps held_item c.args.items.now c.loop-item.item-index (g.D.Depot.files c.args.depot.now) (g.D.Depot.files c.loop-item.depot)
    (g.S.Sink.written c.args.out.now) (g.S.Sink.written c.loop-item.out) c.loop-item-test.false c.loop-item.invariant.doing)
    c.at_end.ensures.line c.at_end.ensures.status
