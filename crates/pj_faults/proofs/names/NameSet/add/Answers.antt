use Rattle.std.proofs.Common.{string_bytes, sym, ◌∙◌}
use Rattle.pj_faults.proofs.NameLaws.{added-map}
use Rattle.pj_faults.proofs.names.NameSet.add.Goals as goal

pub returns-clause-added : goal.returns-clause-added
returns-clause-added c =
    rw (← c.self.view_is) (added-map string_bytes c.args.text.now c.self.inside.texts.keys c.in_ok-from_str.field-0 c.insert.new.self.keys c.in_ok-from_str.ensures.ok (rw c.self.view_is (sym c.if-contains.false ∙ c.contains.ensures)) c.in_ok-insert.ensures.keys)
