use Rattle.std.proofs.Common.{◌≡◌, subst}
use Rattle.pj_grammar.specs.Texts.{«package»}
use Rattle.pj_reader.specs.Read.{Accepts}
use Rattle.pj_parse.proofs.Readings.{package-alone}
use Rattle.pj_parse.proofs.syntax.package_of.Goals as goal

pub unreachable-requires : goal.unreachable-requires
unreachable-requires c =
    package-alone c.args.modules.now c.args.tokens.now c.in-Script.field-0 c.requires.base
    (subst (λ t. Accepts c.args.modules.now «package» c.args.tokens.now t) c.in-Script.is c.in-Ok.ensures.read)
