-- The map's change at a name is the table's.
use Rattle.pj_outside.proofs.FileLemmas.{removed}
use Rattle.pj_outside.proofs.file_map.FileMap.remove.Goals as goal

pub returns : goal.returns
returns c = rw (← c.self.view_is) (removed c.self.inside.files c.remove.new.self c.args.name.now c.remove.ensures.updates)
