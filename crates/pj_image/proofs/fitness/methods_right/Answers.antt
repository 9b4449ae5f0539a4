use Rattle.std.proofs.Common.{arith}
use Rattle.pj_image.proofs.Lengths.{place_within}
use Rattle.pj_image.proofs.fitness.methods_right.Goals as goal

pub entries_placed-requires : goal.entries_placed-requires
entries_placed-requires c = rw (c.place_of_methods.ensures, c.as_slice-then-methods_fine.ensures) (omega (arith, place_within c.args.image.now, c.requires))
