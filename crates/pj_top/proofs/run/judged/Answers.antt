-- A tree of another form is told so.
use Rattle.std.proofs.Common.{sym, ◌∙◌}
use Rattle.pj_top.proofs.RunningRead.{unbuilt_ends}
use Rattle.pj_top.proofs.run.judged.Goals as goal

pub returns-in_ok-unbuilt-clause-told : goal.returns-in_ok-unbuilt-clause-told
returns-in_ok-unbuilt-clause-told c =
    unbuilt_ends c.args.name.now c.args.tree c.in_ok-unbuilt.field-0 (sym c.in_ok-script_runs.ensures ∙ c.if-branch.false) c.in_ok-unbuilt.ensures.line c.in_ok-unbuilt.ensures.status
