-- Without memory for a session nothing was put.
use Rattle.pj_plain.specs.Held.{held_script}
use Rattle.pj_top.specs.Endings.{meaning}
use Rattle.pj_top.specs.Running.{EndsAs}
use Rattle.pj_top.specs.declared.stop.Stop.TheVariants as stop
use Rattle.pj_top.proofs.RunningRead.{stop_told}
use Rattle.pj_top.proofs.run.run_tree.Goals as goal

pub returns-in-Err-clause-told : goal.returns-in-Err-clause-told
returns-in-Err-clause-told g c =
    stop_told (λ files. EndsAs (meaning files (held_script c.args.tree.now) c.args.steps)) (g.D.Depot.files c.args.depot.now) (g.S.Sink.written c.args.out.now) stop.NoMemory
