-- How the inner calls end and stop, and what they have put by then.
use Rattle.std.specs.Prelude.{◌≡◌, ◌⊎◌, ℕ, ◌≤◌, ⊤, [], Option, Result, Ok, Err, take}
use Rattle.pj_meaning.specs.Tree.{Text}
use Rattle.pj_meaning.specs.Using.{image_file}
use Rattle.pj_outside.specs.Faults.{Rose}
use Rattle.pj_outside.specs.Stored.{Files, Keeps, KeepsRest}
use Rattle.pj_top.specs.Claims.{Adds, AddsFront, WritesImage}
use Rattle.pj_top.specs.Endings.{depot_line, text_file}
use Rattle.pj_top.specs.declared.status.Status.{Status}
use Rattle.pj_top.specs.declared.status.Status.TheVariants as ends
use Rattle.pj_top.specs.declared.stop.Stop.{Stop}
use Rattle.pj_top.specs.declared.stop.Stop.TheVariants as stop
use Rattle.pj_top.specs.declared.stop.Ending.{Ending}

-- How a command ends: what it prints, the line of its status, and the status.
abbrev pub Ends : Type 1
Ends = Text → Text → Status → Type 0

-- ---- faults of the sink and of the depot

abbrev pub IfSinkFailed : {T : Type 0} → Result T Stop → Type 0 → Type 0
IfSinkFailed (Ok _) P = ⊤
IfSinkFailed (Err stop.SinkFailed) P = P
IfSinkFailed (Err (stop.DepotFailed file)) P = ⊤
IfSinkFailed (Err stop.NoMemory) P = ⊤

-- the sink's count doesn't fall, and it rose where the sink is said to have failed
pub record SinkCause {T : Type 0} (before now : ℕ) (result : Result T Stop) : Type 0 where
  pub later : before ≤ now
  pub failed : IfSinkFailed result (Rose before now)

abbrev pub IfDepotFailed : {T : Type 0} → Result T Stop → (Text → Type 0) → Type 0
IfDepotFailed (Ok _) P = ⊤
IfDepotFailed (Err stop.SinkFailed) P = ⊤
IfDepotFailed (Err (stop.DepotFailed file)) P = P file
IfDepotFailed (Err stop.NoMemory) P = ⊤

-- the depot's count doesn't fall, and it rose where the depot is said to have failed, at such a file
pub record DepotCause {T : Type 0} (Is : Text → Type 0) (before now : ℕ) (result : Result T Stop) : Type 0 where
  pub later : before ≤ now
  pub failed : IfDepotFailed result (λ file. Rose before now × Is file)

-- the script, or the image of a package
abbrev pub IsRead : Text → Text → Type 0
IsRead script file = (file ≡ script) ⊎ ((name : Text) × (file ≡ image_file name))

-- the text of a package, or its image
abbrev pub IsOfPackage : Text → Text → Type 0
IsOfPackage name file = (file ≡ text_file name) ⊎ (file ≡ image_file name)

-- ---- what was put

-- What a command's inner call leaves: its printed text, with the line and the status of its ending, which are still to be told. Where
-- it is stopped, a front of what it would print was put.
abbrev pub Leads : Ends → Text → Result Ending Stop → Option Text → Type 0
Leads E old (Ok e) now = (printed : Text) × Adds old printed now × E printed e.line e.status
Leads E old (Err why) now = (text : Text) × Adds old text now × ((printed line : Text) (status : Status) → E printed line status → (n : ℕ) × (text ≡ take n printed))

-- the ending of a call that wasn't stopped, whatever the sink tells
abbrev pub Reaches : Ends → Result Ending Stop → Type 0
Reaches E (Ok e) = (printed : Text) × E printed e.line e.status
Reaches E (Err why) = ⊤

-- something was put behind what was put before, whatever the depot tells
abbrev pub AddsSome : Text → Option Text → Type 0
AddsSome old now = (text : Text) × Adds old text now

-- the statuses with which an inner call ends that isn't stopped
abbrev pub IsEnding : Status → Type 0
IsEnding ends.Ok = ⊤
IsEnding ends.Error = ⊤
IsEnding ends.Usage = ⊥
IsEnding ends.Syntax = ⊤
IsEnding ends.Refused = ⊤
IsEnding ends.Missing = ⊤
IsEnding ends.Steps = ⊤
IsEnding ends.DepotFailed = ⊥
IsEnding ends.SinkFailed = ⊥
IsEnding ends.NoMemory = ⊥
IsEnding ends.Trap = ⊥
IsEnding ends.TooLong = ⊤
IsEnding ends.Cycle = ⊥
IsEnding ends.Full = ⊤

-- ---- what was written

-- The image is written where the building ended well, and only then; a fault of the depot leaves no more than it unknown.
abbrev pub Builds : Files → Text → ℕ → Result Ending Stop → Option Files → Type 0
Builds files name steps (Ok e) now =
    KeepsRest (image_file name) files now × ((e.status ≡ ends.Ok → WritesImage files name steps now) × ((e.status ≡ ends.Ok → ⊥) → Keeps files now))
Builds files name steps (Err why) now = KeepsRest (image_file name) files now

-- the line stands and the status is answered, or the sink failed and a front of the line stands
abbrev pub Finishes : Text → Text → Status → Status → Option Text → Type 0
Finishes old line status answered now =
    ((answered ≡ status) × Adds old line now) ⊎ ((answered ≡ ends.SinkFailed) × AddsFront old line now)

-- ---- what is told at the end

-- the line that tells of the depot's fault is put, where there is memory for it
abbrev pub TellsDepot : Text → Text → Status → Option Text → Type 0
TellsDepot old file answered now =
    Finishes old (depot_line file) ends.DepotFailed answered now ⊎ ((answered ≡ ends.NoMemory) × Adds old [] now)

-- What is put behind what an inner call left, and the status that is answered.
abbrev pub Concludes : Text → Result Ending Stop → Status → Option Text → Type 0
Concludes old (Ok e) answered now = Finishes old e.line e.status answered now
Concludes old (Err stop.SinkFailed) answered now = (answered ≡ ends.SinkFailed) × Adds old [] now
Concludes old (Err (stop.DepotFailed file)) answered now = TellsDepot old file answered now
Concludes old (Err stop.NoMemory) answered now = (answered ≡ ends.NoMemory) × Adds old [] now

-- the status that is answered, whatever the sink tells
abbrev pub Answers : Result Ending Stop → Status → Type 0
Answers (Ok e) answered = (answered ≡ e.status) ⊎ (answered ≡ ends.SinkFailed)
Answers (Err stop.SinkFailed) answered = answered ≡ ends.SinkFailed
Answers (Err (stop.DepotFailed file)) answered = (answered ≡ ends.DepotFailed) ⊎ ((answered ≡ ends.SinkFailed) ⊎ (answered ≡ ends.NoMemory))
Answers (Err stop.NoMemory) answered = answered ≡ ends.NoMemory

-- the sink failed before the end was told
abbrev pub CameCut : Result Ending Stop → Type 0
CameCut (Ok _) = ⊥
CameCut (Err stop.SinkFailed) = ⊤
CameCut (Err (stop.DepotFailed file)) = ⊥
CameCut (Err stop.NoMemory) = ⊥
