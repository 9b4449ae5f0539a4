use Rattle.std.proofs.Common.{sym, ◌∙◌}
use Rattle.pj_plain.proofs.Shapes.{among_names}
use Rattle.pj_plain.proofs.definition_form.is_parameter.Goals as goal

pub returns : goal.returns
returns c = c.any_is_named.ensures ∙ sym (among_names c.args.params.now c.args.word.now)
