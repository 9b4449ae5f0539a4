use Rattle.std.proofs.Common.{◌≡◌, ◌∙◌, sym}
use Rattle.std.proofs.lemmas.Result.{err_from_is_err_and}
use Rattle.pj_parse.proofs.Scripts.{one-script}
use Rattle.pj_parse.proofs.Readings.{no-script}
use Rattle.pj_parse.proofs.script.Goals as goal

pub returns-in_err-syntax-clause-refused : goal.returns-in_err-syntax-clause-refused
returns-in_err-syntax-clause-refused c =
    let p = err_from_is_err_and c.from_residual.result c.from_residual.ensures.1 in
    rw (p.1, p.2) (no-script c.in_err-syntax.field-0.0 c.in_err-syntax.ensures.fault)

pub returns-clause-only : goal.returns-clause-only
returns-clause-only c = λ other h. one-script h (c.in_ok-syntax.syntax, c.in_ok-syntax.ensures.syntax, sym c.in_ok-resolved_script.ensures)
