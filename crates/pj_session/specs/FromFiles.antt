-- What the file of a package brings to a session.
use Rattle.std.specs.Prelude.{◌≡◌, ◌≤◌, ◌<◌, ℕ, false, List, [], ◌∷◌, ◌++◌, length, slice_index_or, Option, Some, None, Ok, if◌then◌else◌}
use Rattle.std.specs.Str.{bytes_eq}
use Rattle.pj_meaning.specs.Tree.{Text}
use Rattle.pj_meaning.specs.Script.{Refusal, IsLoaded, ended}
use Rattle.pj_meaning.specs.Content.{Content}
use Rattle.pj_meaning.specs.Packages.{Held}
use Rattle.pj_meaning.specs.Using as loading
use Rattle.pj_meaning.specs.Using.{Holds, image_file, refusal, use_from}
use Rattle.pj_image.specs.declared.image.Image.{Image}
use Rattle.pj_image.specs.File.{file_at}
use Rattle.pj_image.specs.Formed.{IsFileOf}
use Rattle.pj_content.specs.Content.{content_of}
use Rattle.pj_content.specs.Misfit.{misfit}
use Rattle.pj_content.specs.Readings.{identity_in, image_of, reading_of, readings}
use Rattle.pj_content.specs.Plainly as content
use Rattle.pj_session.specs.States.{run}
use Rattle.pj_session.specs.Events.{Event, Loads, state_of}
use Rattle.pj_session.specs.Things.{thing_of, thing_in, method_for}
use Rattle.pj_session.specs.Good.{Good, GoodEvent, New, Plainly}
use Rattle.pj_session.specs.Items.{got_ends, started, init_name}
use Rattle.pj_session.specs.Uses.{counts_loaded, no_room, refused_for, held_by}
use Rattle.pj_session.specs.Laws.{AfterEvents}

-- a content of plain parts is a plain one of each session whose module has another name
abbrev pub a_plain_content_is_plain_in_a_session : Type 0
a_plain_content_is_plain_in_a_session = (here : Text) (c : Content) → content.Plainly c → bytes_eq here c.name ≡ false → Plainly here c

-- what an image's file adds to a state
abbrev pub held_of : List ℕ → Image → Held
held_of bytes i = record { content = content_of i; identity = identity_in bytes }

-- what is loaded is plain, and new among the events, which stay good
pub record LoadsWell (here : Text) (events : List Event) (held : Held) : Type 0 where
  pub event : GoodEvent here (Loads held)
  pub new : New (Loads held) events
  pub after : Good here (events ++ Loads held ∷ [])

abbrev pub a_file_without_a_misfit_loads_well : Type 0
a_file_without_a_misfit_loads_well =
    (here : Text) (events : List Event) → Good here events → (name bytes : List ℕ) (i : Image) → IsFileOf name bytes i
    → misfit i ≡ None → counts_loaded here events name ≡ false → LoadsWell here events (held_of bytes i)

-- why an image of this name is refused: it is loaded, its first misfit, or the want of room
abbrev pub why_refused : Text → List Event → Text → Option ℕ → Option Refusal
why_refused here events name wrong = if counts_loaded here events name then Some IsLoaded else refused_for wrong (no_room here events)

abbrev pub a_file_is_refused_as_the_events_say : Type 0
a_file_is_refused_as_the_events_say =
    AfterEvents (λ here events s. (name bytes : List ℕ) (i : Image) → IsFileOf name bytes i
    → refusal (image_of (identity_in bytes) i) s ≡ why_refused here events name (misfit i))

-- no number is 256 or more
abbrev pub AreBytes : List ℕ → Type 0
AreBytes bytes = (place : ℕ) → slice_index_or bytes place 0 < 256

abbrev pub what_is_read_and_not_refused_loads_well : Type 0
what_is_read_and_not_refused_loads_well =
    AfterEvents (λ here events s. (name bytes : List ℕ) (image : loading.Image) → AreBytes bytes → reading_of name (Some bytes) ≡ Holds image
    → refusal image s ≡ None → LoadsWell here events (held_by image s))

-- the names of an image that was loaded last are its own
abbrev pub the_last_image_has_its_names : Type 0
the_last_image_has_its_names =
    (here : Text) (events : List Event) (held : Held) → LoadsWell here events held
    → (name : Text) → thing_in here (events ++ Loads held ∷ []) held.content.name name ≡ thing_of held.content name

abbrev pub a_file_is_loaded_and_started : Type 0
a_file_is_loaded_and_started =
    (here : Text) (events : List Event) (printed : Text) → Good here events → (files : Text → Option (List ℕ)) (name bytes : List ℕ) (i : Image) (left : ℕ)
    → files (image_file name) ≡ Some bytes → length bytes ≤ 67108864 → file_at name bytes ≡ Ok i → IsFileOf name bytes i
    → why_refused here events name (misfit i) ≡ None
    → use_from (readings files) name (run (state_of here events printed) left)
    ≡ ended (got_ends (state_of here (events ++ Loads (held_of bytes i) ∷ []) printed) (started (method_for 0 (thing_of (content_of i) init_name)) left))
