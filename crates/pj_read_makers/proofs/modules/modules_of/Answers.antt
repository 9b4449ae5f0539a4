use Rattle.std.proofs.Common.{◌≡◌, ◌++◌, sym, ap, ◌∙◌, append-nil}
use Rattle.pj_grammar.specs.Modules.{modules_of, name_in_run}
use Rattle.pj_read_makers.specs.Runs.{run_of}
use Rattle.pj_read_makers.proofs.Used.{used-all, used-more}
use Rattle.pj_read_makers.proofs.modules.modules_of.Goals as goal
use Rattle.pj_read_makers.proofs.modules.modules_of.Goals.{in-Some+in_ok-modules-2, in_default}

pub loop-token-preserved : goal.loop-token-preserved
loop-token-preserved c =
    let before = c.loop-token.modules in
    let named = name_in_run (run_of c.loop-token.run) c.token-item.result.what in
    let more : c.match-name_in_run.modules ≡ before ++ named =
    elim c.match-name_in_run.branch [
      | in-Some+in_ok-modules-2 w ↦ w.modules-is ∙ w.in_ok-modules-2.ensures ∙ ap (λ ms. before ++ ms) (sym w.in-Some.ensures)
      | in_default w ↦ w.modules-is ∙ sym (append-nil before) ∙ ap (λ ms. before ++ ms) (sym w.in_default.ensures)
    ] in
    used-more before c.match-name_in_run.modules (run_of c.loop-token.run) (run_of c.run_after-run.result) c.args.tokens.now
    c.loop-token.token-index c.token-item.result (modules_of c.args.own.now c.args.tokens.now)
    c.loop-token-test.true c.token-item.is more c.run_after-run.ensures c.loop-token.invariant

pub returns : goal.returns
returns c =
    used-all c.loop-token.modules (run_of c.loop-token.run) c.args.tokens.now c.loop-token.token-index (modules_of c.args.own.now c.args.tokens.now)
    c.loop-token-test.false c.loop-token.invariant
