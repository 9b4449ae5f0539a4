-- A place that has the name is its first one.
use Rattle.std.proofs.Common.{sym}
use Rattle.pj_session.proofs.FirstPlaces.{stands_alone}
use Rattle.pj_session.proofs.name_places.find_place.Goals as goal

pub returns-in-Some : goal.returns-in-Some
returns-in-Some c = λ formed. sym (stands_alone c.args.image.now c.args.name.now c.in-Some.place formed c.in-Some.ensures)
