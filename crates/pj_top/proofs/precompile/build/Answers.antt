-- All that was printed is put, or a front of it where the sink fails.
use Rattle.pj_top.proofs.PrecompilingBuilt.{cut, leads}
use Rattle.pj_top.proofs.precompile.build.Goals as goal

pub returns-in-Ok-clause-told : goal.returns-in-Ok-clause-told
returns-in-Ok-clause-told g c =
    leads c.args.tree.now c.args.steps c.pack-printed.result.printed c.pack-printed.result.outcome c.pack-printed.ensures (g.S.Sink.written c.args.out.now) (g.S.Sink.written c.put_printed.new.out)
    c.conclude.result (rw c.as_slice.ensures at c.in-Ok.ensures.told) c.conclude.ensures.ends

pub returns-clause-told : goal.returns-clause-told
returns-clause-told g c =
    cut c.args.tree.now c.args.steps c.pack-printed.result.printed c.pack-printed.result.outcome c.pack-printed.ensures (g.S.Sink.written c.args.out.now) (g.S.Sink.written c.put_printed.new.out)
    c.in-Err.stop (rw c.as_slice.ensures at c.in-Err.ensures.told)
