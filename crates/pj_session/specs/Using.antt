-- How `using` a package ends, beside what the meaning says.
use Rattle.std.specs.Prelude.{◌≡◌, ◌≤◌, ℕ, Bool, true, false, Option, Some, None, Result, Ok, Err, ⊤}
use Rattle.pj_meaning.specs.Tree.{Text}
use Rattle.pj_meaning.specs.State.{State}
use Rattle.pj_meaning.specs.Script as script
use Rattle.pj_meaning.specs.Script.{Refusal, Ended, AtEnd, Uncaught, OutOfSteps, Absent, TooLong, Refused}
use Rattle.pj_meaning.specs.Using.{image_file}
use Rattle.pj_outside.specs.Faults.{Rose}
use Rattle.pj_session.specs.Spoken.{error_of}
use Rattle.pj_session.specs.declared.end.End.{End}
use Rattle.pj_session.specs.declared.end.End.TheVariants as ends
use Rattle.pj_session.specs.declared.load.LoadFault.{LoadFault}
use Rattle.pj_session.specs.declared.load.LoadFault.TheVariants as faults
use Rattle.pj_session.specs.declared.using.UsingFault.{UsingFault}
use Rattle.pj_session.specs.declared.using.UsingFault.TheVariants as used

-- the reason that a fault of a load tells
abbrev pub refusal_of : LoadFault → Option Refusal
refusal_of (faults.Format k) = Some (script.Format k)
refusal_of faults.Loaded = Some script.IsLoaded
refusal_of (faults.Relocation k) = Some (script.Relocation k)
refusal_of faults.Full = Some script.Full
refusal_of faults.NoMemory = None

-- the run ends at this file, which was refused for the reason that the fault tells
abbrev pub RefusedFor : Text → LoadFault → script.Ending → Type 0
RefusedFor file fault ending = (why : Refusal) × (refusal_of fault ≡ Some why) × (ending ≡ Refused file why)

-- The ending is the meaning's, and so are the state and the budget behind it. Where the depot failed, at the package's
-- image, nothing has changed. Without memory nothing was printed.
abbrev pub UsesAs : {A : Type 0} → Ended → Result A UsingFault → State → State → ℕ → Type 0
UsesAs e (Ok done) old new left = (e.ending ≡ AtEnd) × (new ≡ e.last.state) × (left ≡ e.last.left)
UsesAs e (Err (used.Ended (ends.Error told))) old new left = (e.ending ≡ Uncaught (error_of told)) × (new ≡ e.last.state)
UsesAs e (Err (used.Ended ends.Steps)) old new left = (e.ending ≡ OutOfSteps) × (new ≡ e.last.state)
UsesAs e (Err (used.Ended ends.Trap)) old new left = ⊥
UsesAs e (Err (used.Ended ends.NoMemory)) old new left = ⊥
UsesAs e (Err (used.Refused file fault)) old new left = RefusedFor file fault e.ending × (new ≡ e.last.state)
UsesAs e (Err (used.Missing file)) old new left = (e.ending ≡ Absent file) × (new ≡ e.last.state)
UsesAs e (Err (used.TooLong file)) old new left = (e.ending ≡ TooLong file) × (new ≡ e.last.state)
UsesAs e (Err (used.DepotFailed file)) old new left = new ≡ old
UsesAs e (Err used.NoMemory) old new left = new.printed ≡ old.printed

-- this holds where the depot is said to have failed
abbrev pub IfDepotFailed : {A : Type 0} → Result A UsingFault → (Text → Type 0) → Type 0
IfDepotFailed (Ok done) P = ⊤
IfDepotFailed (Err (used.Ended end)) P = ⊤
IfDepotFailed (Err (used.Refused file fault)) P = ⊤
IfDepotFailed (Err (used.Missing file)) P = ⊤
IfDepotFailed (Err (used.TooLong file)) P = ⊤
IfDepotFailed (Err (used.DepotFailed file)) P = P file
IfDepotFailed (Err used.NoMemory) P = ⊤

-- the depot's count of faults doesn't fall, and has risen where it is said to have failed, at the package's image
pub record UsingCause {A : Type 0} (name : Text) (before now : ℕ) (result : Result A UsingFault) : Type 0 where
  pub later : before ≤ now
  pub failed : IfDepotFailed result (λ file. Rose before now × (file ≡ image_file name))

-- An end that is told is never for want of memory, and neither is a refusal, which is never told of an image that is loaded.
abbrev pub Proper : {A : Type 0} → Result A UsingFault → Type 0
Proper (Err (used.Ended ends.NoMemory)) = ⊥
Proper (Err (used.Refused file faults.NoMemory)) = ⊥
Proper (Err (used.Refused file faults.Loaded)) = ⊥
Proper result = ⊤

-- the answer is that there was no memory
abbrev pub lacks_memory : {A : Type 0} → Result A UsingFault → Bool
lacks_memory (Err used.NoMemory) = true
lacks_memory result = false

-- A session that has run out of memory answers only that there is none. It has run out of it exactly behind this answer.
pub record SpentBehind {A : Type 0} (was : Bool) (result : Result A UsingFault) (now : Bool) : Type 0 where
  pub stays : was ≡ true → lacks_memory result ≡ true
  pub behind : now ≡ lacks_memory result
