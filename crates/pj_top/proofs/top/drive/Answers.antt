-- Each end of the command, by the calls that lead to it.
use Rattle.std.proofs.Common.{map, string_bytes}
use Rattle.pj_top.specs.Commands.{IsPrecompile, IsRun, Command}
use Rattle.pj_top.specs.Stops.{IsOfPackage, IsRead}
use Rattle.pj_top.proofs.Driven.{usage_runs, usage_reached, usage_begins, usage_told, command_runs, command_reached, command_begins, command_usage, run_leaves, precompile_leaves, run_touches, precompile_touches, of_run, of_precompile, run_to, run_from, precompile_to, precompile_from}
use Rattle.pj_top.proofs.top.drive.Goals as goal

pub returns-in-None-clause-runs : goal.returns-in-None-clause-runs
returns-in-None-clause-runs g c =
    usage_runs (map string_bytes c.args.words.now) (g.D.Depot.files c.args.depot.now) (g.S.Sink.written c.args.out.now) (g.S.Sink.written c.finish.new.out) c.finish.result c.in-None.ensures
    (rw c.as_bytes.ensures.value at c.finish.ensures.told) c.finish.ensures.status

pub returns-in-None-clause-begins : goal.returns-in-None-clause-begins
returns-in-None-clause-begins g c =
    usage_begins (map string_bytes c.args.words.now) (g.D.Depot.files c.args.depot.now) (g.S.Sink.written c.args.out.now) (g.S.Sink.written c.finish.new.out) c.finish.result c.in-None.ensures
    (rw c.as_bytes.ensures.value at c.finish.ensures.told) c.finish.ensures.status _ _

pub returns-in-None-clause-ends : goal.returns-in-None-clause-ends
returns-in-None-clause-ends g c =
    usage_reached (map string_bytes c.args.words.now) (g.D.Depot.files c.args.depot.now) (g.S.Sink.written c.args.out.now) (g.S.Sink.written c.finish.new.out) c.finish.result c.in-None.ensures
    (rw c.as_bytes.ensures.value at c.finish.ensures.told) c.finish.ensures.status

pub returns-in-None-clause-usage : goal.returns-in-None-clause-usage
returns-in-None-clause-usage g c =
    usage_told (map string_bytes c.args.words.now) (g.D.Depot.files c.args.depot.now) (g.S.Sink.written c.args.out.now) (g.S.Sink.written c.finish.new.out) c.finish.result c.in-None.ensures
    (rw c.as_bytes.ensures.value at c.finish.ensures.told) c.finish.ensures.status

pub returns-in-Some-Run-clause-runs : goal.returns-in-Some-Run-clause-runs
returns-in-Some-Run-clause-runs g c =
    let asked : IsRun (map string_bytes c.args.words.now) c.in-Some-Run.steps c.in-Some-Run.script.now = rw c.in-Some-Run.field-0-is at c.in-Some-Run.ensures in
    command_runs (map string_bytes c.args.words.now) (of_run c.in-Some-Run.script.now c.in-Some-Run.steps) (run_to _ _ _ asked) (run_from _ _ _ asked)
    (g.D.Depot.files c.args.depot.now) (g.S.Sink.written c.args.out.now) (g.S.Sink.written c.run-came.new.out) (g.S.Sink.written c.conclude.new.out) c.run-came.result c.conclude.result c.run-came.ensures.told c.conclude.ensures.told

pub returns-in-Some-Run-clause-begins : goal.returns-in-Some-Run-clause-begins
returns-in-Some-Run-clause-begins g c =
    let asked : IsRun (map string_bytes c.args.words.now) c.in-Some-Run.steps c.in-Some-Run.script.now = rw c.in-Some-Run.field-0-is at c.in-Some-Run.ensures in
    command_begins (map string_bytes c.args.words.now) (of_run c.in-Some-Run.script.now c.in-Some-Run.steps) (run_to _ _ _ asked) (run_from _ _ _ asked)
    (IsRead c.in-Some-Run.script.now) (run_touches _ _ _ asked) (g.D.Depot.files c.args.depot.now) (g.S.Sink.written c.args.out.now) (g.S.Sink.written c.run-came.new.out) (g.S.Sink.written c.conclude.new.out) c.run-came.result c.conclude.result (g.D.Depot.faults c.args.depot.now) (g.D.Depot.faults c.run-came.new.depot)
    c.run-came.ensures.ending c.run-came.ensures.told c.run-came.ensures.untold c.conclude.ensures.told c.conclude.ensures.status c.run-came.ensures.depot

pub returns-in-Some-Run-clause-ends : goal.returns-in-Some-Run-clause-ends
returns-in-Some-Run-clause-ends g c =
    let asked : IsRun (map string_bytes c.args.words.now) c.in-Some-Run.steps c.in-Some-Run.script.now = rw c.in-Some-Run.field-0-is at c.in-Some-Run.ensures in
    command_reached (map string_bytes c.args.words.now) (of_run c.in-Some-Run.script.now c.in-Some-Run.steps) (run_to _ _ _ asked) (run_from _ _ _ asked)
    (g.D.Depot.files c.args.depot.now) c.run-came.result c.conclude.result c.run-came.ensures.ends c.conclude.ensures.status

pub returns-in-Some-Run-clause-usage : goal.returns-in-Some-Run-clause-usage
returns-in-Some-Run-clause-usage g c =
    let asked : IsRun (map string_bytes c.args.words.now) c.in-Some-Run.steps c.in-Some-Run.script.now = rw c.in-Some-Run.field-0-is at c.in-Some-Run.ensures in
    command_usage (map string_bytes c.args.words.now) (g.S.Sink.written c.args.out.now) (g.S.Sink.written c.conclude.new.out) c.run-came.result c.conclude.result (Command.runs _ _ asked) c.run-came.ensures.ending c.conclude.ensures.status

pub returns-in-Some-Run-clause-files : goal.returns-in-Some-Run-clause-files
returns-in-Some-Run-clause-files g c =
    let asked : IsRun (map string_bytes c.args.words.now) c.in-Some-Run.steps c.in-Some-Run.script.now = rw c.in-Some-Run.field-0-is at c.in-Some-Run.ensures in
    run_leaves (map string_bytes c.args.words.now) (g.D.Depot.files c.args.depot.now) (g.D.Depot.files c.run-came.new.depot) c.conclude.result _ _ asked c.run-came.ensures.same

pub returns-in-Some-Precompile-clause-runs : goal.returns-in-Some-Precompile-clause-runs
returns-in-Some-Precompile-clause-runs g c =
    let asked : IsPrecompile (map string_bytes c.args.words.now) c.in-Some-Precompile.steps c.in-Some-Precompile.name.now = rw c.in-Some-Precompile.field-0-is at c.in-Some-Precompile.ensures in
    command_runs (map string_bytes c.args.words.now) (of_precompile c.in-Some-Precompile.name.now c.in-Some-Precompile.steps) (precompile_to _ _ _ asked) (precompile_from _ _ _ asked)
    (g.D.Depot.files c.args.depot.now) (g.S.Sink.written c.args.out.now) (g.S.Sink.written c.precompile-came.new.out) (g.S.Sink.written c.conclude-in-Some-Precompile.new.out) c.precompile-came.result c.conclude-in-Some-Precompile.result c.precompile-came.ensures.told c.conclude-in-Some-Precompile.ensures.told

pub returns-in-Some-Precompile-clause-begins : goal.returns-in-Some-Precompile-clause-begins
returns-in-Some-Precompile-clause-begins g c =
    let asked : IsPrecompile (map string_bytes c.args.words.now) c.in-Some-Precompile.steps c.in-Some-Precompile.name.now = rw c.in-Some-Precompile.field-0-is at c.in-Some-Precompile.ensures in
    command_begins (map string_bytes c.args.words.now) (of_precompile c.in-Some-Precompile.name.now c.in-Some-Precompile.steps) (precompile_to _ _ _ asked) (precompile_from _ _ _ asked)
    (IsOfPackage c.in-Some-Precompile.name.now) (precompile_touches _ _ _ asked) (g.D.Depot.files c.args.depot.now) (g.S.Sink.written c.args.out.now) (g.S.Sink.written c.precompile-came.new.out) (g.S.Sink.written c.conclude-in-Some-Precompile.new.out) c.precompile-came.result c.conclude-in-Some-Precompile.result (g.D.Depot.faults c.args.depot.now) (g.D.Depot.faults c.precompile-came.new.depot)
    c.precompile-came.ensures.ending c.precompile-came.ensures.told c.precompile-came.ensures.untold c.conclude-in-Some-Precompile.ensures.told c.conclude-in-Some-Precompile.ensures.status c.precompile-came.ensures.depot

pub returns-in-Some-Precompile-clause-ends : goal.returns-in-Some-Precompile-clause-ends
returns-in-Some-Precompile-clause-ends g c =
    let asked : IsPrecompile (map string_bytes c.args.words.now) c.in-Some-Precompile.steps c.in-Some-Precompile.name.now = rw c.in-Some-Precompile.field-0-is at c.in-Some-Precompile.ensures in
    command_reached (map string_bytes c.args.words.now) (of_precompile c.in-Some-Precompile.name.now c.in-Some-Precompile.steps) (precompile_to _ _ _ asked) (precompile_from _ _ _ asked)
    (g.D.Depot.files c.args.depot.now) c.precompile-came.result c.conclude-in-Some-Precompile.result c.precompile-came.ensures.ends c.conclude-in-Some-Precompile.ensures.status

pub returns-in-Some-Precompile-clause-usage : goal.returns-in-Some-Precompile-clause-usage
returns-in-Some-Precompile-clause-usage g c =
    let asked : IsPrecompile (map string_bytes c.args.words.now) c.in-Some-Precompile.steps c.in-Some-Precompile.name.now = rw c.in-Some-Precompile.field-0-is at c.in-Some-Precompile.ensures in
    command_usage (map string_bytes c.args.words.now) (g.S.Sink.written c.args.out.now) (g.S.Sink.written c.conclude-in-Some-Precompile.new.out) c.precompile-came.result c.conclude-in-Some-Precompile.result (Command.precompiles _ _ asked) c.precompile-came.ensures.ending c.conclude-in-Some-Precompile.ensures.status

pub returns-in-Some-Precompile-clause-files : goal.returns-in-Some-Precompile-clause-files
returns-in-Some-Precompile-clause-files g c =
    let asked : IsPrecompile (map string_bytes c.args.words.now) c.in-Some-Precompile.steps c.in-Some-Precompile.name.now = rw c.in-Some-Precompile.field-0-is at c.in-Some-Precompile.ensures in
    precompile_leaves (map string_bytes c.args.words.now) (g.D.Depot.files c.args.depot.now) (g.D.Depot.files c.precompile-came.new.depot) c.precompile-came.result c.conclude-in-Some-Precompile.result _ _ asked c.precompile-came.ensures.builds c.conclude-in-Some-Precompile.ensures.status
