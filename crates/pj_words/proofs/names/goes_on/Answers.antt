use Rattle.std.proofs.Common.{sym, ap, ◌∙◌}
use Rattle.std.specs.List.{list_all}
use Rattle.pj_words.specs.Words.{is_plain}
use Rattle.pj_words.proofs.Plain.{plain}
use Rattle.pj_words.proofs.names.goes_on.Goals as goal

pub returns-then-are_plain : goal.returns-then-are_plain
returns-then-are_plain c = c.if-are_plain.true ∙ sym (plain c.args.text.now (ap (list_all is_plain) (sym c.as_bytes.ensures.value) ∙ sym c.are_plain.ensures.is ∙ c.if-are_plain.true))
