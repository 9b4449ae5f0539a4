-- `using` over files: what is read, what refuses a load, and how an image is loaded and started.
use Rattle.std.specs.Prelude.{ℕ, suc, Bool, false, List, [], ◌∷◌, ◌++◌, ◌&&◌, ◌||◌, Option, Some, None, find, option_map, unwrap_or, nat_le, length, codes, if◌then◌else◌}
use Rattle.std.specs.List.{list_any}
use Rattle.std.specs.Str.{bytes_eq}
use Rattle.pj_meaning.specs.Tree.{Text}
use Rattle.pj_meaning.specs.Names.{Id, id, same_id, same_ids}
use Rattle.pj_meaning.specs.Methods.{seen}
use Rattle.pj_meaning.specs.State.{State, Loaded, is_building}
use Rattle.pj_meaning.specs.Outcome.{Run, choose, in_state}
use Rattle.pj_meaning.specs.Calls.{call_function}
use Rattle.pj_meaning.specs.Evaluation.{enter_at}
use Rattle.pj_meaning.specs.Script.{Refusal, Format, IsLoaded, Dependency, Relocation, Full, Ending, AtEnd, Absent, TooLong, Refused, Ended, Uses, then_run, ended}
use Rattle.pj_meaning.specs.Content.{Content}
use Rattle.pj_meaning.specs.Packages.{add}

-- An image that was decoded. Its content, and the first entry that doesn't fit, if one doesn't, may depend on the
-- images that were loaded before it.
pub record Image : Type 0 where
  pub name : Text
  pub needs : List Loaded
  pub identity : List ℕ
  pub misfit : State → Option ℕ
  pub content : State → Content

-- what a read of a package's image gives: nothing, too much, a form that is wrong in this section, or an image
pub data Reading : Type 0 where
  NoFile : Reading
  TooMuch : Reading
  Faulty : ℕ → Reading
  Holds : Image → Reading

abbrev pub Files : Type 0
Files = Text → Reading

abbrev pub image_file : Text → Text
image_file name = name ++ codes ".pimg"

-- a package that is being built counts as loaded
abbrev pub has_image : State → Text → Bool
has_image s name = list_any (λ image. bytes_eq image.name name) s.images || (is_building s && bytes_eq s.here name)

abbrev pub loaded_identity : State → Text → Option (List ℕ)
loaded_identity s name = option_map (λ image. image.identity) (find (λ image. bytes_eq image.name name) s.images)

-- the first recorded dependency that isn't loaded, or is loaded with another identity
abbrev pub dependency_refusal : State → List Loaded → Option Refusal
dependency_refusal s [] = None
dependency_refusal s (need ∷ needs) =
    let found = loaded_identity s need.name in
    if unwrap_or (option_map (bytes_eq need.identity) found) false then dependency_refusal s needs else Some (Dependency need.name need.identity found)

abbrev pub or_refusal : Option Refusal → Option Refusal → Option Refusal
or_refusal (Some why) other = Some why
or_refusal None other = other

abbrev pub is_full : State → Bool
is_full s = nat_le 1024 (if is_building s then suc (length s.images) else length s.images)

-- The first reason that applies: the image is loaded, a dependency isn't as it was recorded, an entry doesn't fit, or too
-- many images are loaded. A wrong form is told at the read.
abbrev pub refusal : Image → State → Option Refusal
refusal image s =
    or_refusal (if has_image s image.name then Some IsLoaded else None)
    (or_refusal (dependency_refusal s image.needs) (or_refusal (option_map Relocation (image.misfit s)) (if is_full s then Some Full else None)))

abbrev pub at_end : Run → Ended
at_end r = record { ending = AtEnd; last = r }

abbrev pub ends : Ending → Run → Ended
ends ending r = record { ending = ending; last = r }

abbrev pub load_unless : Option Refusal → Image → Run → Ended
load_unless (Some why) image r = ends (Refused (image_file image.name) why) r
load_unless None image r =
    at_end (in_state r (add (record { content = image.content r.state; identity = image.identity }) r.state))

abbrev pub init_of : Text → Id
init_of name = id name (codes "__init__")

-- the package's function `__init__` has a method without parameters that is seen at the newest world
abbrev pub has_init : State → Text → Bool
has_init s name = list_any (λ m. same_id m.fun (init_of name) && same_ids m.signature []) (seen s.methods s.newest)

-- A loaded image is started by a call of its `__init__` at the newest world, where it has one.
abbrev pub start_image : Text → Run → Ended
start_image name r =
    choose (has_init r.state name) (λ q. ended (call_function (enter_at q.left) q.state.newest 0 (init_of name) [] q)) at_end r

abbrev pub load_and_start : Image → Run → Ended
load_and_start image r = then_run (load_unless (refusal image r.state) image r) (start_image image.name)

-- goes on with the image that was read; one of another name has a wrong first section
abbrev pub with_image : Reading → Text → (Image → Run → Ended) → Run → Ended
with_image NoFile name next r = ends (Absent (image_file name)) r
with_image TooMuch name next r = ends (TooLong (image_file name)) r
with_image (Faulty n) name next r = ends (Refused (image_file name) (Format n)) r
with_image (Holds image) name next r =
    choose (bytes_eq image.name name) (next image) (ends (Refused (image_file name) (Format 1))) r

-- does nothing where the package is loaded
abbrev pub unless_loaded : Text → (Run → Ended) → Run → Ended
unless_loaded name next r = choose (has_image r.state name) at_end next r

abbrev pub load_needs : Files → List Loaded → Run → Ended
load_needs files [] r = at_end r
load_needs files (need ∷ needs) r =
    then_run (unless_loaded need.name (with_image (files need.name) need.name load_and_start) r) (load_needs files needs)

-- `using` of one package: its image is read first, then each recorded dependency that isn't loaded is read, loaded and
-- started, and then the package itself is loaded and started.
abbrev pub use_from : Files → Uses
use_from files name r =
    unless_loaded name (with_image (files name) name (λ image q. then_run (load_needs files image.needs q) (load_and_start image))) r
