-- The line that is put is that of the depot's fault.
use Rattle.std.proofs.Common.{◌∙◌}
use Rattle.pj_top.proofs.Driven.{depot_finished}
use Rattle.pj_top.proofs.top.tell_fault.Goals as goal

pub returns-in-Ok-clause-told : goal.returns-in-Ok-clause-told
returns-in-Ok-clause-told g c =
    depot_finished (g.S.Sink.written c.args.out.now) (g.S.Sink.written c.finish.new.out) _ c.args.file.now c.finish.result (c.as_slice.ensures ∙ c.in-Ok.ensures) c.finish.ensures.told
