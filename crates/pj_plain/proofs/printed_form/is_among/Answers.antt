use Rattle.std.proofs.Common.{◌∙◌}
use Rattle.pj_plain.proofs.UsedNames.{is_there}
use Rattle.pj_plain.proofs.printed_form.is_among.Goals as goal

pub returns : goal.returns
returns c = c.is_some.ensures ∙ is_there c.find.result c.args.name.now c.args.names.now c.find.ensures
