-- What `using` of an image without dependencies does after events.
use Rattle.std.specs.Prelude.{ℕ, zero, suc, Bool, true, false, not, ◌&&◌, ◌||◌, List, [], ◌∷◌, Option, Some, None, is_some, nat_le, if◌then◌else◌}
use Rattle.std.specs.Str.{bytes_eq}
use Rattle.pj_meaning.specs.Tree.{Text}
use Rattle.pj_meaning.specs.Names.{main_name}
use Rattle.pj_meaning.specs.State.{State}
use Rattle.pj_meaning.specs.Script.{Refusal, Format, Relocation, Full, Ending, Absent, TooLong, Refused}
use Rattle.pj_meaning.specs.Packages.{Held}
use Rattle.pj_meaning.specs.Using.{Image, Reading, NoFile, TooMuch, Faulty, Holds, image_file}
use Rattle.pj_session.specs.Events.{Event, Defines, Binds, Loads}
use Rattle.pj_session.specs.Things.{image_in}

-- the module that runs is a package that is being built
abbrev pub builds : Text → Bool
builds here = not (bytes_eq here main_name)

-- such a package counts as loaded
abbrev pub counts_loaded : Text → List Event → Text → Bool
counts_loaded here events name = is_some (image_in events name) || (builds here && bytes_eq here name)

abbrev pub image_count : List Event → ℕ
image_count [] = zero
image_count (Defines f ps e ∷ es) = image_count es
image_count (Binds x z ∷ es) = image_count es
image_count (Loads held ∷ es) = suc (image_count es)

-- so many images are loaded that there is no room for one more
abbrev pub no_room : Text → List Event → Bool
no_room here events = nat_le 1024 (if builds here then suc (image_count events) else image_count events)

-- Why an image that isn't loaded is refused: an entry that doesn't fit comes before the want of room.
abbrev pub refused_for : Option ℕ → Bool → Option Refusal
refused_for (Some entry) full = Some (Relocation entry)
refused_for None true = Some Full
refused_for None false = None

-- why what was read is no image of this name
abbrev pub read_fault : Reading → Text → Option Ending
read_fault NoFile name = Some (Absent (image_file name))
read_fault TooMuch name = Some (TooLong (image_file name))
read_fault (Faulty n) name = Some (Refused (image_file name) (Format n))
read_fault (Holds image) name = if bytes_eq image.name name then None else Some (Refused (image_file name) (Format 1))

-- the image's content, which may depend on what was loaded before it, with its identity
abbrev pub held_by : Image → State → Held
held_by image s = record { content = image.content s; identity = image.identity }
