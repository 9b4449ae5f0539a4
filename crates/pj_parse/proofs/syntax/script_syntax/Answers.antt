use Rattle.std.proofs.Common.{◌≡◌, codes}
use Rattle.std.proofs.lemmas.Result.{err_from_is_err_and}
use Rattle.pj_grammar.specs.declared.mode.Parsed.TheVariants as parsed
use Rattle.pj_grammar.specs.Texts.{script}
use Rattle.pj_parse.proofs.Readings.{kept-refuse, kept-syntax, lex-refuses, read-refuses}
use Rattle.pj_parse.proofs.syntax.script_syntax.Goals as goal

pub returns-in_err-tokens-clause-fault : goal.returns-in_err-tokens-clause-fault
returns-in_err-tokens-clause-fault c =
    let p = err_from_is_err_and c.from_residual.result c.from_residual.ensures.1 in
    rw (p.1, p.2) (lex-refuses script (codes "Main") c.args.bytes.now c.in_err-tokens.field-0.0 c.in_err-tokens.ensures.fault)

pub returns-in_err-read-clause-fault : goal.returns-in_err-read-clause-fault
returns-in_err-read-clause-fault c =
    let p = err_from_is_err_and c.from_residual-in_err-read.result c.from_residual-in_err-read.ensures.1 in
    rw (p.1, p.2) (read-refuses script (codes "Main") c.args.bytes.now c.in_ok-tokens.tokens c.in_ok-tokens.ensures.lexed c.in_err-read.field-0.0 _ (rw c.as_slice.ensures at c.in_ok-modules.ensures) c.in_err-read.ensures.fault)

pub returns-clause-syntax : goal.returns-clause-syntax
returns-clause-syntax c =
    kept-syntax script (codes "Main") c.args.bytes.now c.in_ok-tokens.tokens c.in_ok-tokens.ensures.lexed (λ s. parsed.Script s) c.in_ok-read.read c.scoped_script.result _
    (rw c.as_slice.ensures at c.in_ok-modules.ensures) c.in_ok-read.ensures.read c.scoped_script.ensures.kept

pub returns-clause-fault : goal.returns-clause-fault
returns-clause-fault c =
    kept-refuse script (codes "Main") c.args.bytes.now c.in_ok-tokens.tokens c.in_ok-tokens.ensures.lexed (λ s. parsed.Script s) c.in_ok-read.read c.scoped_script.result _
    (rw c.as_slice.ensures at c.in_ok-modules.ensures) c.in_ok-read.ensures.read c.scoped_script.ensures.fault
