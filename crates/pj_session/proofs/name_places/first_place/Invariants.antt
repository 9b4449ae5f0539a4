use Rattle.std.proofs.Common.{◌≡◌, false, take}
use Rattle.pj_base.specs.Interned.{has_text}
use Rattle.pj_session.specs.Indexed.{names_in_image}
use Rattle.pj_session.proofs.name_places.first_place.Given as goal

abbrev pub invariant-loop-place : goal.invariant-loop-place
invariant-loop-place l = has_text l.name (take l.place (names_in_image l.image)) ≡ false
