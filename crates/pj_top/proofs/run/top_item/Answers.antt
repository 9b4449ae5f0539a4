-- The item ends as the meaning says, and what it printed more was put.
use Rattle.pj_plain.specs.Held.{held_item}
use Rattle.pj_top.proofs.RunningItems.{top_goes, top_stops, put_front, put_whole}
use Rattle.pj_top.proofs.run.top_item.Goals as goal

pub returns-in-Ok-clause-goes : goal.returns-in-Ok-clause-goes
returns-in-Ok-clause-goes g c =
    top_goes (held_item c.args.item.now) c.args.session.now c.top-came.new.self c.args.left.now c.top-came.new.left c.top-came.result c.item_ending.result (c.top-came.ensures.tops c.requires.good) c.item_ending.ensures.told

pub returns-in-Ok-clause-told : goal.returns-in-Ok-clause-told
returns-in-Ok-clause-told g c =
    put_whole c.args.session.now.printed c.top-came.new.self.printed c.top-came.ensures.printed.0 c.top-came.ensures.printed.1 (g.S.Sink.written c.args.out.now) (g.S.Sink.written c.put_more.new.out)
    (rw c.printed-before.ensures at c.in-Ok.ensures.told) c.item_ending.result

pub returns-in-Err-clause-goes : goal.returns-in-Err-clause-goes
returns-in-Err-clause-goes g c =
    top_stops (held_item c.args.item.now) c.args.session.now c.top-came.new.self c.args.left.now c.top-came.new.left c.top-came.result c.in-Err.stop (c.top-came.ensures.tops c.requires.good)

pub returns-in-Err-clause-told : goal.returns-in-Err-clause-told
returns-in-Err-clause-told g c =
    put_front c.args.session.now.printed c.top-came.new.self.printed c.top-came.ensures.printed.0 c.top-came.ensures.printed.1 (g.S.Sink.written c.args.out.now) (g.S.Sink.written c.put_more.new.out)
    (rw c.printed-before.ensures at c.in-Err.ensures.told) c.in-Err.stop
