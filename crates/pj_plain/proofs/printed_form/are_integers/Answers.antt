use Rattle.std.proofs.Common.{sym, ◌∙◌}
use Rattle.pj_plain.proofs.Shapes.{all_integers}
use Rattle.pj_plain.proofs.printed_form.are_integers.Goals as goal

pub returns : goal.returns
returns c = c.each_is_integer.ensures ∙ sym (all_integers c.args.arguments.now)
