-- What loading a file does to a session.
use Rattle.std.specs.Prelude.{◌≡◌, ℕ, true, List, [], ◌∷◌, ◌++◌, Option, Some, None, Err, ⊤}
use Rattle.pj_meaning.specs.Script as script
use Rattle.pj_meaning.specs.Script.{Refusal}
use Rattle.pj_meaning.specs.Using as loading
use Rattle.pj_meaning.specs.Using.{Faulty, Holds, refusal}
use Rattle.pj_image.specs.File.{file_at}
use Rattle.pj_content.specs.Readings.{reading_of}
use Rattle.pj_session.specs.Events.{Loads}
use Rattle.pj_session.specs.Good.{Good}
use Rattle.pj_session.specs.Uses.{counts_loaded, image_count, held_by}
use Rattle.pj_session.specs.Seen.{events_of, state_seen}
use Rattle.pj_session.specs.declared.state.Session.{Session}
use Rattle.pj_session.specs.declared.load.LoadFault.{LoadFault}
use Rattle.pj_session.specs.declared.load.LoadFault.TheVariants as faults

-- an image of this name without dependencies was read, and refused for this reason or for none
pub record Judged (before : Session) (name bytes : List ℕ) (image : loading.Image) (why : Option Refusal) : Type 0 where
  pub read : reading_of name (Some bytes) ≡ Holds image
  pub called : image.name ≡ name
  pub alone : image.needs ≡ []
  pub refused : Good before.here (events_of before) → refusal image (state_seen before) ≡ why

-- the image that was read isn't refused, and is the last of so many; events that are good stay so
pub record Added (before : Session) (name bytes : List ℕ) (count : ℕ) (after : Session) : Type 0 where
  pub image : loading.Image
  pub judged : Judged before name bytes image None
  pub events : events_of after ≡ events_of before ++ Loads (held_by image (state_seen before)) ∷ []
  pub many : count ≡ image_count (events_of after)
  pub good : Good before.here (events_of before) → Good before.here (events_of after)

-- the image that was read is refused for this reason
pub record Kept (before : Session) (name bytes : List ℕ) (why : Refusal) : Type 0 where
  pub image : loading.Image
  pub judged : Judged before name bytes image (Some why)

-- A fault tells what the read or the image is refused for, or that there was no memory. An image is told to be loaded only
-- where one of the name counts as loaded.
abbrev pub Refuses : Session → List ℕ → List ℕ → LoadFault → Type 0
Refuses before name bytes (faults.Format k) = reading_of name (Some bytes) ≡ Faulty k
Refuses before name bytes faults.Loaded = Kept before name bytes script.IsLoaded × (counts_loaded before.here (events_of before) name ≡ true)
Refuses before name bytes (faults.Relocation k) = Kept before name bytes (script.Relocation k)
Refuses before name bytes faults.Full = Kept before name bytes script.Full
Refuses before name bytes faults.NoMemory = ⊤

-- the same by the parts of the image, while it is read and judged

abbrev pub Reads : List ℕ → List ℕ → LoadFault → Type 0
Reads name bytes (faults.Format k) = file_at name bytes ≡ Err k
Reads name bytes faults.NoMemory = ⊤
Reads name bytes fault = ⊥

abbrev pub Tells : LoadFault → Option Refusal → Type 0
Tells (faults.Format k) why = ⊥
Tells faults.Loaded why = why ≡ Some script.IsLoaded
Tells (faults.Relocation k) why = why ≡ Some (script.Relocation k)
Tells faults.Full why = why ≡ Some script.Full
Tells faults.NoMemory why = ⊤
