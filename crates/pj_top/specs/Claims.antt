-- What the top call promises, over depots that tell their files and sinks that tell what was put.
use Rattle.std.specs.Prelude.{◌≡◌, ℕ, ◌≤◌, ◌⊎◌, List, ◌++◌, take, Option, Some, None}
use Rattle.std.specs.Option.{IfSome}
use Rattle.pj_meaning.specs.Tree.{Text}
use Rattle.pj_meaning.specs.Content.{Content}
use Rattle.pj_meaning.specs.Outcome.{Outcome, Gives, Raises, Stops}
use Rattle.pj_meaning.specs.State.{State}
use Rattle.pj_meaning.specs.Using.{Image, Holds, image_file}
use Rattle.pj_content.specs.Readings.{reading_of}
use Rattle.pj_tree.specs.declared.item.PackageTree.{PackageTree}
use Rattle.pj_parse.specs.Texts.{IsPackage}
use Rattle.pj_outside.specs.Stored.{Files, Keeps, KeepsRest, Stores}
use Rattle.pj_outside.specs.Faults.{Rose}
use Rattle.pj_top.specs.Commands.{Command, IsPrecompile, IsRun}
use Rattle.pj_top.specs.Endings.{CommandEnds, building, depot_line, text_file, usage_line}
use Rattle.pj_top.specs.declared.status.Status.{Status}
use Rattle.pj_top.specs.declared.status.Status.TheVariants as ends

-- the text stands behind what was put before
abbrev pub Adds : Text → Text → Option Text → Type 0
Adds old text now = now ≡ Some (old ++ text)

-- a front of the text does
abbrev pub AddsFront : Text → Text → Option Text → Type 0
AddsFront old text now = (n : ℕ) × Adds old (take n text) now

-- Where no fault and no want of memory is answered, what is put and the status are those of the command.
pub record Ends (words : List Text) (files : Files) (old : Text) (now : Option Text) (status : Status) : Type 0 where
  pub printed : Text
  pub line : Text
  pub added : Adds old (printed ++ line) now
  pub command : CommandEnds files words printed line status

abbrev pub Runs : List Text → Option Files → Option Text → Option Text → Status → Type 0
Runs words files before now status =
    (told : Files) (old : Text) → files ≡ Some told → before ≡ Some old
    → (status ≡ ends.DepotFailed → ⊥) → (status ≡ ends.SinkFailed → ⊥) → (status ≡ ends.NoMemory → ⊥)
    → Ends words told old now status

-- The status is that of the command, whatever the sink tells, where no fault and no want of memory is answered.
abbrev pub Reached : List Text → Option Files → Status → Type 0
Reached words files status =
    (told : Files) → files ≡ Some told → (status ≡ ends.DepotFailed → ⊥) → (status ≡ ends.SinkFailed → ⊥) → (status ≡ ends.NoMemory → ⊥)
    → (printed line : Text) × CommandEnds told words printed line status

-- A command has one ending: one printed text, one line and one status.
abbrev pub OneEnding : Type 0
OneEnding =
    (files : Files) (words : List Text) (p l q m : Text) (s t : Status) → CommandEnds files words p l s → CommandEnds files words q m t → (p ≡ q) × (l ≡ m) × (s ≡ t)

-- a count of faults doesn't fall, and has risen where the status says that it failed
pub record FaultCause (kind : Status) (before now : ℕ) (status : Status) : Type 0 where
  pub later : before ≤ now
  pub failed : status ≡ kind → Rose before now

-- the files that a command reads or writes
pub data Touches (words : List Text) : Text → Type 0 where
  reads_script : (steps : ℕ) (script : Text) → IsRun words steps script → Touches words script
  reads_image : (steps : ℕ) (script name : Text) → IsRun words steps script → Touches words (image_file name)
  reads_text : (steps : ℕ) (name : Text) → IsPrecompile words steps name → Touches words (text_file name)
  writes_image : (steps : ℕ) (name : Text) → IsPrecompile words steps name → Touches words (image_file name)

-- the text is a front of what the command prints, whatever the files are that are told
abbrev pub IsPrintedFront : List Text → Option Files → Text → Type 0
IsPrintedFront words files text =
    (told : Files) (printed line : Text) (end : Status) → files ≡ Some told → CommandEnds told words printed line end → (n : ℕ) × (text ≡ take n printed)

-- After a depot's fault at a file of the command, a front of what the command prints was put, and then the line that tells the file.
pub record TellsFault (words : List Text) (files : Option Files) (old : Text) (now : Option Text) : Type 0 where
  pub file : Text
  pub text : Text
  pub touched : Touches words file
  pub front : IsPrintedFront words files text
  pub added : Adds old (text ++ depot_line file) now

-- a sink's fault at the line that tells of a depot's fault
pub record CutsFault (words : List Text) (files : Option Files) (old : Text) (now : Option Text) : Type 0 where
  pub file : Text
  pub text : Text
  pub touched : Touches words file
  pub front : IsPrintedFront words files text
  pub added : AddsFront old (text ++ depot_line file) now

-- Whatever fails, what was put is a front of what the command puts: of its printed text alone after want of memory, and
-- of this and its line after a sink's fault, unless the depot had failed before.
pub record Begins (words : List Text) (files : Option Files) (before now : Option Text) (depot_before depot_now : ℕ) (status : Status) : Type 0 where
  pub memory : (told : Files) (old printed line : Text) (end : Status) → files ≡ Some told → before ≡ Some old → status ≡ ends.NoMemory
      → CommandEnds told words printed line end → AddsFront old printed now
  pub sink : (told : Files) (old printed line : Text) (end : Status) → files ≡ Some told → before ≡ Some old → status ≡ ends.SinkFailed
      → CommandEnds told words printed line end → AddsFront old (printed ++ line) now ⊎ (Rose depot_before depot_now × CutsFault words files old now)
  pub depot : (old : Text) → before ≡ Some old → status ≡ ends.DepotFailed → TellsFault words files old now

-- Words that are no command are told so, exactly then, whatever the depot tells: the usage line is put, unless the sink
-- fails at it.
pub record TellsUsage (words : List Text) (before now : Option Text) (status : Status) : Type 0 where
  pub exactly : status ≡ ends.Usage → Command words → ⊥
  pub always : (Command words → ⊥)
      → ((status ≡ ends.Usage) × IfSome before (λ old. Adds old usage_line now)) ⊎ ((status ≡ ends.SinkFailed) × IfSome before (λ old. AddsFront old usage_line now))

-- ---- what a command leaves in the files

-- The bytes are an image of this name that holds what building gives, of which no entry is refused, whatever is loaded before it.
pub record HoldsContent (name bytes : Text) (content : Content) : Type 0 where
  pub image : Image
  pub read : reading_of name (Some bytes) ≡ Holds image
  pub holds : (s : State) → image.content s ≡ content
  pub fits : (s : State) → image.misfit s ≡ None

abbrev pub IsBuilt : Text → Text → Outcome Content → Type 0
IsBuilt name bytes (Gives content r) = HoldsContent name bytes content
IsBuilt name bytes (Raises e r) = ⊥
IsBuilt name bytes (Stops r) = ⊥

-- the image was written, and holds what building the package of the text gives
pub record WritesImage (files : Files) (name : Text) (steps : ℕ) (now : Option Files) : Type 0 where
  pub image : Text
  pub stores : Stores files (image_file name) image now
  pub holds : (bytes : Text) (tree : PackageTree) → files (text_file name) ≡ Some bytes → IsPackage name bytes tree → IsBuilt name image (building tree steps)

-- No file but the package's image is changed. It is written where the package was built, and is as it was before, unless the depot
-- or the sink failed or there was no memory.
pub record Precompiles (files : Files) (name : Text) (steps : ℕ) (now : Option Files) (status : Status) : Type 0 where
  pub rest : KeepsRest (image_file name) files now
  pub written : status ≡ ends.Ok → WritesImage files name steps now
  pub kept : (status ≡ ends.Ok → ⊥) → (status ≡ ends.DepotFailed → ⊥) → (status ≡ ends.SinkFailed → ⊥) → (status ≡ ends.NoMemory → ⊥) → Keeps files now

-- only the building of a package changes a file
pub record Leaves (words : List Text) (files : Files) (now : Option Files) (status : Status) : Type 0 where
  pub builds : (steps : ℕ) (name : Text) → IsPrecompile words steps name → Precompiles files name steps now status
  pub others : ((steps : ℕ) (name : Text) → IsPrecompile words steps name → ⊥) → Keeps files now

-- the statuses that there are today: no other is answered, whatever the depot and the sink tell
abbrev pub IsToday : Status → Type 0
IsToday ends.Trap = ⊥
IsToday ends.Cycle = ⊥
IsToday status = Unit {0}
