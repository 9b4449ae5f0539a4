use Rattle.std.proofs.Common.{string_bytes, sym, ◌∙◌}
use Rattle.pj_faults.proofs.NameLaws.{among-map}
use Rattle.pj_faults.proofs.names.NameSet.contains.Goals as goal

pub returns : goal.returns
returns c = rw (← c.self.view_is) (c.contains.ensures ∙ sym (among-map string_bytes c.args.text.now c.self.inside.texts.keys))
