-- A line of `using` prints nothing.
use Rattle.pj_top.proofs.RunningItems.{puts_nothing}
use Rattle.pj_top.proofs.run.do_item.Goals as goal

pub returns-in-Using-clause-told : goal.returns-in-Using-clause-told
returns-in-Using-clause-told g c =
    puts_nothing c.args.session.now.printed c.use_names.new.session.printed c.use_names.ensures.loads.printed (g.S.Sink.written c.args.out.now) c.use_names.result
