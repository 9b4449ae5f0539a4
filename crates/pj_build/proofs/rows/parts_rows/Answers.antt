-- Each row computes.
use Rattle.std.specs.Prelude.{refl}
use Rattle.pj_build.proofs.rows.parts_rows.Goals as goal

pub returns : goal.returns
returns c = record { its_functions = refl; its_constants = refl; its_method = refl; its_entries = refl }
