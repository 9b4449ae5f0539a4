-- The fault that stopped the call is told with its file.
use Rattle.std.proofs.Common.{◌≡◌, Err}
use Rattle.pj_top.specs.declared.stop.Stop.TheVariants as stop
use Rattle.pj_top.proofs.Driven.{depot_concluded}
use Rattle.pj_top.proofs.top.conclude.Goals as goal

pub returns-in-Err-DepotFailed-clause-told : goal.returns-in-Err-DepotFailed-clause-told
returns-in-Err-DepotFailed-clause-told g c =
    let stopped : c.args.came ≡ Err (stop.DepotFailed c.in-Err-DepotFailed.file) = cc in
    depot_concluded (g.S.Sink.written c.args.out.now) (g.S.Sink.written c.tell_fault.new.out) c.in-Err-DepotFailed.file _ c.args.came c.tell_fault.result stopped c.as_str.ensures c.tell_fault.ensures.told
