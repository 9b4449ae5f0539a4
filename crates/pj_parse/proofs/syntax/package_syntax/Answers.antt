use Rattle.std.proofs.Common.{◌≡◌}
use Rattle.std.proofs.lemmas.Result.{err_from_is_err_and}
use Rattle.pj_grammar.specs.declared.mode.Parsed.TheVariants as parsed
use Rattle.pj_grammar.specs.Texts.{«package»}
use Rattle.pj_parse.proofs.Readings.{kept-refuse, kept-syntax, lex-refuses, read-refuses}
use Rattle.pj_parse.proofs.syntax.package_syntax.Goals as goal

pub returns-in_err-tokens-clause-fault : goal.returns-in_err-tokens-clause-fault
returns-in_err-tokens-clause-fault c =
    let p = err_from_is_err_and c.from_residual.result c.from_residual.ensures.1 in
    rw (p.1, p.2) (lex-refuses «package» c.args.name.now c.args.bytes.now c.in_err-tokens.field-0.0 c.in_err-tokens.ensures.fault)

pub returns-in_err-read-clause-fault : goal.returns-in_err-read-clause-fault
returns-in_err-read-clause-fault c =
    let p = err_from_is_err_and c.from_residual-in_err-read.result c.from_residual-in_err-read.ensures.1 in
    rw (p.1, p.2) (read-refuses «package» c.args.name.now c.args.bytes.now c.in_ok-tokens.tokens c.in_ok-tokens.ensures.lexed c.in_err-read.field-0.0 _ (rw c.as_slice.ensures at c.in_ok-modules.ensures) c.in_err-read.ensures.fault)

pub returns-clause-syntax : goal.returns-clause-syntax
returns-clause-syntax c =
    kept-syntax «package» c.args.name.now c.args.bytes.now c.in_ok-tokens.tokens c.in_ok-tokens.ensures.lexed (λ s. parsed.Package s) c.in_ok-read.read c.scoped_package.result _
    (rw c.as_slice.ensures at c.in_ok-modules.ensures) c.in_ok-read.ensures.read c.scoped_package.ensures.kept

pub returns-clause-fault : goal.returns-clause-fault
returns-clause-fault c =
    kept-refuse «package» c.args.name.now c.args.bytes.now c.in_ok-tokens.tokens c.in_ok-tokens.ensures.lexed (λ s. parsed.Package s) c.in_ok-read.read c.scoped_package.result _
    (rw c.as_slice.ensures at c.in_ok-modules.ensures) c.in_ok-read.ensures.read c.scoped_package.ensures.fault
