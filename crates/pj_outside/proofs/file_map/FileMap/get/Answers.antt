-- The table of the map's entries has what the map has.
use Rattle.std.proofs.Common.{refl}
use Rattle.pj_outside.proofs.FileLemmas.{get_table}
use Rattle.pj_outside.proofs.file_map.FileMap.get.Goals as goal

pub returns-in-Some : goal.returns-in-Some
returns-in-Some c =
    rw (← c.self.view_is, get_table c.self.inside.files c.args.name.now, ← c.in-Some.ensures.value, c.as_slice.ensures.value) refl

pub returns-in-None : goal.returns-in-None
returns-in-None c =
    rw (← c.self.view_is, get_table c.self.inside.files c.args.name.now, ← c.in-None.ensures.value) refl
