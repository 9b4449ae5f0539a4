-- How the building of a package goes on, from its text to its image.
use Rattle.std.specs.Prelude.{◌≡◌, ℕ, ◌≤◌, ⊤, true, false, [], length, Option, Some, Result, Ok, Err}
use Rattle.pj_base.specs.declared.memory.NoMemory.{NoMemory}
use Rattle.pj_meaning.specs.Tree.{Text}
use Rattle.pj_meaning.specs.Content.{Content}
use Rattle.pj_meaning.specs.Outcome.{Outcome}
use Rattle.pj_meaning.specs.Using.{image_file}
use Rattle.pj_outside.specs.Stored.{Files, Keeps, KeepsRest, Stores}
use Rattle.pj_tree.specs.declared.item.PackageTree.{PackageTree}
use Rattle.pj_plain.specs.Forms.{package_form}
use Rattle.pj_plain.specs.Held.{held_package}
use Rattle.pj_parse.specs.Texts.{IsPackage}
use Rattle.pj_session.specs.declared.end.End.{End as StatementsEnd}
use Rattle.pj_session.specs.declared.end.End.TheVariants as statements
use Rattle.pj_build.specs.declared.pack.BuildFault.{BuildFault}
use Rattle.pj_build.specs.declared.pack.BuildFault.TheVariants as build
use Rattle.pj_top.specs.Claims.{IsBuilt}
use Rattle.pj_top.specs.Endings.{PackageEnds, building, built_line, built_printed, built_status, text_file, text_limit, unbuilt_line}
use Rattle.pj_top.specs.declared.precompile.Found.{Found}
use Rattle.pj_top.specs.declared.precompile.Found.TheVariants as found
use Rattle.pj_top.specs.declared.status.Status.{Status}
use Rattle.pj_top.specs.declared.status.Status.TheVariants as ends
use Rattle.pj_top.specs.declared.stop.Stop.{Stop}
use Rattle.pj_top.specs.declared.stop.Stop.TheVariants as stop
use Rattle.pj_top.specs.declared.stop.Ending.{Ending}

-- a stop is for want of memory
abbrev pub LacksMemory : {T : Type 0} → Result T Stop → Type 0
LacksMemory (Ok _) = ⊤
LacksMemory (Err stop.SinkFailed) = ⊥
LacksMemory (Err (stop.DepotFailed file)) = ⊥
LacksMemory (Err stop.NoMemory) = ⊤

-- ---- what reading gives

-- an ending, or there was no memory for its line
abbrev pub TellsEnding : Result Ending NoMemory → Result Found Stop → Type 0
TellsEnding (Ok told) (Ok (found.Ends e)) = e ≡ told
TellsEnding (Ok told) (Ok (found.Tree tree)) = ⊥
TellsEnding (Ok told) (Err why) = ⊥
TellsEnding (Err none) (Ok answer) = ⊥
TellsEnding (Err none) (Err stop.NoMemory) = ⊤
TellsEnding (Err none) (Err stop.SinkFailed) = ⊥
TellsEnding (Err none) (Err (stop.DepotFailed file)) = ⊥

-- a tree of the form that is built, and else the line that tells of another form, in the file of this name
abbrev pub OfForm : Text → PackageTree → Result Found Stop → Type 0
OfForm file tree (Ok (found.Tree t)) = (t ≡ tree) × (package_form (held_package tree) ≡ true)
OfForm file tree (Ok (found.Ends e)) = (package_form (held_package tree) ≡ false) × ((e.line ≡ unbuilt_line file) × (e.status ≡ ends.Syntax))
OfForm file tree (Err stop.NoMemory) = ⊤
OfForm file tree (Err stop.SinkFailed) = ⊥
OfForm file tree (Err (stop.DepotFailed file')) = ⊥

-- the file has the text of the package, within the limit and of the form that is built, with this tree
pub record TreeIn (files : Files) (name : Text) (tree : PackageTree) : Type 0 where
  pub bytes : Text
  pub is : files (text_file name) ≡ Some bytes
  pub short : length bytes ≤ text_limit
  pub spelled : IsPackage name bytes tree
  pub form : package_form (held_package tree) ≡ true

-- the package's tree, or an ending of its building, which prints nothing
abbrev pub FoundIn : Files → Text → Found → Type 0
FoundIn files name (found.Tree tree) = TreeIn files name tree
FoundIn files name (found.Ends e) = (steps : ℕ) → PackageEnds files name steps [] e.line e.status

-- the statuses of a package that isn't built, as its text isn't there or is no text that is built
abbrev pub IsUnbuilt : Status → Type 0
IsUnbuilt ends.Syntax = ⊤
IsUnbuilt ends.Missing = ⊤
IsUnbuilt ends.TooLong = ⊤
IsUnbuilt status = ⊥

-- whatever the depot tells, the tree is one that is built, of the package of this name, and an ending has such a status
abbrev pub Serves : Text → Found → Type 0
Serves name (found.Tree tree) = (tree.name ≡ name) × (package_form (held_package tree) ≡ true)
Serves name (found.Ends e) = IsUnbuilt e.status

-- ---- what building comes to

-- the end of the building of a tree
pub record TreeEnds (tree : PackageTree) (steps : ℕ) (printed line : Text) (status : Status) : Type 0 where
  pub prints : printed ≡ built_printed (building tree steps)
  pub tells : line ≡ built_line (building tree steps)
  pub ends : status ≡ built_status (building tree steps)

-- nothing more is to be told, and all was done
pub record IsSilent (e : Ending) : Type 0 where
  pub line : e.line ≡ []
  pub status : e.status ≡ ends.Ok

-- the line of the statements' end, with its status
abbrev pub EndsSo : StatementsEnd → Text → Result Ending Stop → Type 0
EndsSo (statements.Error told) line (Ok e) = (e.line ≡ line) × (e.status ≡ ends.Error)
EndsSo statements.Steps line (Ok e) = (e.line ≡ line) × (e.status ≡ ends.Steps)
EndsSo statements.Trap line (Ok e) = ⊥
EndsSo statements.NoMemory line (Ok e) = ⊥
EndsSo end line (Err stop.NoMemory) = ⊤
EndsSo end line (Err stop.SinkFailed) = ⊥
EndsSo end line (Err (stop.DepotFailed file)) = ⊥

-- the end of what building gave
abbrev pub Concludes : Result Text BuildFault → Result Ending Stop → Type 0
Concludes (Ok image) (Ok e) = IsSilent e
Concludes (Err (build.Ended end line)) (Ok e) = EndsSo end line (Ok e)
Concludes (Err build.NoMemory) (Ok e) = ⊥
Concludes outcome (Err why) = ⊤

-- ---- what is written

-- the package's image has these bytes where the call ends well, and no other file has changed
abbrev pub WritesFile : Files → Text → Text → Result Ending Stop → Option Files → Type 0
WritesFile files name image (Ok e) now = Stores files (image_file name) image now
WritesFile files name image (Err why) now = KeepsRest (image_file name) files now

-- the image is written where there is one, and else no file has changed
abbrev pub Stored : Files → Text → Result Text BuildFault → Result Ending Stop → Option Files → Type 0
Stored files name (Ok image) result now = WritesFile files name image result now
Stored files name (Err why) result now = Keeps files now

-- the image was written, and holds what the building gives
pub record WritesBuilt (files : Files) (name : Text) (outcome : Outcome Content) (now : Option Files) : Type 0 where
  pub image : Text
  pub stores : Stores files (image_file name) image now
  pub holds : IsBuilt name image outcome

-- the image is written where the building ended well, and only then
abbrev pub BuildsAs : Files → Text → Outcome Content → Result Ending Stop → Option Files → Type 0
BuildsAs files name outcome (Ok e) now =
    KeepsRest (image_file name) files now × ((e.status ≡ ends.Ok → WritesBuilt files name outcome now) × ((e.status ≡ ends.Ok → ⊥) → Keeps files now))
BuildsAs files name outcome (Err why) now = KeepsRest (image_file name) files now

abbrev pub TreeBuilds : Files → PackageTree → ℕ → Result Ending Stop → Option Files → Type 0
TreeBuilds files tree steps result now = BuildsAs files tree.name (building tree steps) result now
