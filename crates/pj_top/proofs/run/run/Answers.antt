-- The run of the script that was read is that of its file.
use Rattle.pj_top.proofs.RunningRead.{early_ends, early_told, nothing_added, run_ends, run_told, stop_told}
use Rattle.pj_top.specs.Endings.{ScriptEnds}
use Rattle.pj_top.proofs.run.run.Goals as goal

pub returns-in-Ok-Runs-clause-told : goal.returns-in-Ok-Runs-clause-told
returns-in-Ok-Runs-clause-told g c =
    run_told (g.D.Depot.files c.args.depot.now) (g.D.Depot.files c.read_script.new.depot) (g.S.Sink.written c.args.out.now) (g.S.Sink.written c.run_tree.new.out) c.args.name.now c.args.steps c.in-Ok-Runs.tree c.run_tree.result
    c.read_script.ensures.same (rw c.in-Ok-Runs.field-0-is at c.in-Ok-Runs.ensures.told) (rw c.in-Ok-Runs.field-0-is at c.in-Ok-Runs.ensures.form) c.run_tree.ensures.told

pub returns-in-Ok-Runs-clause-ends : goal.returns-in-Ok-Runs-clause-ends
returns-in-Ok-Runs-clause-ends g c =
    run_ends (g.D.Depot.files c.args.depot.now) (g.D.Depot.files c.read_script.new.depot) c.args.name.now c.args.steps c.in-Ok-Runs.tree c.run_tree.result
    c.read_script.ensures.same (rw c.in-Ok-Runs.field-0-is at c.in-Ok-Runs.ensures.told) (rw c.in-Ok-Runs.field-0-is at c.in-Ok-Runs.ensures.form) c.run_tree.ensures.ends

pub returns-in-Ok-Ends-clause-told : goal.returns-in-Ok-Ends-clause-told
returns-in-Ok-Ends-clause-told g c =
    early_told (g.D.Depot.files c.args.depot.now) (g.S.Sink.written c.args.out.now) c.args.name.now c.args.steps c.in-Ok-Ends.ending (rw c.in-Ok-Ends.field-0-is at c.in-Ok-Ends.ensures.told)

pub returns-in-Ok-Ends-clause-ends : goal.returns-in-Ok-Ends-clause-ends
returns-in-Ok-Ends-clause-ends g c =
    early_ends (g.D.Depot.files c.args.depot.now) c.args.name.now c.args.steps c.in-Ok-Ends.ending (rw c.in-Ok-Ends.field-0-is at c.in-Ok-Ends.ensures.told)

pub returns-in-Ok-Ends-clause-untold : goal.returns-in-Ok-Ends-clause-untold
returns-in-Ok-Ends-clause-untold g c = nothing_added (g.S.Sink.written c.args.out.now)

pub returns-in-Err-clause-told : goal.returns-in-Err-clause-told
returns-in-Err-clause-told g c =
    stop_told (λ files. ScriptEnds files c.args.name.now c.args.steps) (g.D.Depot.files c.args.depot.now) (g.S.Sink.written c.args.out.now) c.in-Err.stop

pub returns-in-Err-clause-untold : goal.returns-in-Err-clause-untold
returns-in-Err-clause-untold g c = nothing_added (g.S.Sink.written c.args.out.now)
