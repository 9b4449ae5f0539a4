-- The map's change at a string is the table's change at its bytes.
use Rattle.pj_outside.proofs.FileLemmas.{inserted}
use Rattle.pj_outside.proofs.file_map.FileMap.insert.Goals as goal

pub returns-clause-added : goal.returns-clause-added
returns-clause-added c =
    rw (← c.self.view_is) (inserted c.self.inside.files c.insert.new.self c.in_ok-name.name c.args.name.now c.in_ok-bytes.bytes c.args.bytes.now c.in_ok-name.ensures.ok c.in_ok-bytes.ensures.items c.in_ok-insert.ensures.updates)
