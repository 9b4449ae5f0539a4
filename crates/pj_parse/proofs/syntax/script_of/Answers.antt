use Rattle.std.proofs.Common.{◌≡◌, subst}
use Rattle.pj_grammar.specs.Texts.{script}
use Rattle.pj_reader.specs.Read.{Accepts}
use Rattle.pj_parse.proofs.Readings.{script-alone}
use Rattle.pj_parse.proofs.syntax.script_of.Goals as goal

pub unreachable-requires : goal.unreachable-requires
unreachable-requires c =
    script-alone c.args.modules.now c.args.tokens.now c.in-Package.field-0 c.requires.base
    (subst (λ t. Accepts c.args.modules.now script c.args.tokens.now t) c.in-Package.is c.in-Ok.ensures.read)
