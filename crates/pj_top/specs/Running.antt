-- How the items of a script are run one after another, and in which session each leaves the run.
use Rattle.std.specs.Prelude.{◌≡◌, ℕ, ◌≤◌, true, [], ◌++◌, length, Option, Some, None, option_map, Result, Ok, Err, ⊤}
use Rattle.pj_meaning.specs.Tree.{Text, TopItem}
use Rattle.pj_meaning.specs.Names.{main_name}
use Rattle.pj_meaning.specs.State.{State}
use Rattle.pj_meaning.specs.Script as script
use Rattle.pj_meaning.specs.Script.{AtEnd, Uncaught, OutOfSteps, Absent, TooLong, Refused, Ended}
use Rattle.pj_meaning.specs.Using.{image_file}
use Rattle.pj_meaning.specs.Endings.{ending_line}
use Rattle.pj_outside.specs.Stored.{Files}
use Rattle.pj_tree.specs.declared.item.ScriptTree.{ScriptTree}
use Rattle.pj_plain.specs.Forms.{known_behind, script_form, used_behind}
use Rattle.pj_plain.specs.Held.{held_script}
use Rattle.pj_parse.specs.Texts.{IsScript}
use Rattle.pj_session.specs.Good.{Good}
use Rattle.pj_session.specs.OwnItems.{known_in}
use Rattle.pj_session.specs.Seen.{events_of}
use Rattle.pj_session.specs.SessionItems.{all_loaded}
use Rattle.pj_session.specs.Spoken.{error_of}
use Rattle.pj_session.specs.Uses.{counts_loaded}
use Rattle.pj_session.specs.Using.{refusal_of}
use Rattle.pj_session.specs.declared.state.Session.{Session}
use Rattle.pj_session.specs.declared.end.End.{End}
use Rattle.pj_session.specs.declared.end.End.TheVariants as ends
use Rattle.pj_session.specs.declared.using.UsingFault.{UsingFault}
use Rattle.pj_session.specs.declared.using.UsingFault.TheVariants as used
use Rattle.pj_top.specs.Claims.{Adds}
use Rattle.pj_top.specs.Endings.{ScriptEnds, status_of, text_limit}
use Rattle.pj_top.specs.Stops.{Ends, IsEnding}
use Rattle.pj_top.specs.declared.run.Reading.{Reading}
use Rattle.pj_top.specs.declared.run.Reading.TheVariants as reading
use Rattle.pj_top.specs.declared.stop.Stop.{Stop}
use Rattle.pj_top.specs.declared.stop.Stop.TheVariants as stop
use Rattle.pj_top.specs.declared.stop.Ending.{Ending}

-- ---- endings that are told

-- how a run has ended; want of memory is no ending of it
abbrev pub ending_of_end : End → Option script.Ending
ending_of_end (ends.Error told) = Some (Uncaught (error_of told))
ending_of_end ends.Steps = Some OutOfSteps
ending_of_end ends.Trap = None
ending_of_end ends.NoMemory = None

-- nor is a fault of the depot
abbrev pub ending_of_fault : UsingFault → Option script.Ending
ending_of_fault (used.Ended end) = ending_of_end end
ending_of_fault (used.Refused file fault) = option_map (Refused file) (refusal_of fault)
ending_of_fault (used.Missing file) = Some (Absent file)
ending_of_fault (used.TooLong file) = Some (TooLong file)
ending_of_fault (used.DepotFailed file) = None
ending_of_fault used.NoMemory = None

-- the line and the status of an ending
pub record TellsEnding (x : script.Ending) (e : Ending) : Type 0 where
  pub line : e.line ≡ ending_line x
  pub status : e.status ≡ status_of x

-- an ending is told, and there is one
abbrev pub Tells : Option script.Ending → Ending → Type 0
Tells (Some x) e = TellsEnding x e
Tells None e = ⊥

-- a stop tells a fault of the depot with its file, or that there was no memory
abbrev pub StopsBy : UsingFault → Stop → Type 0
StopsBy (used.DepotFailed file) (stop.DepotFailed told) = told ≡ file
StopsBy fault (stop.DepotFailed told) = ⊥
StopsBy fault stop.SinkFailed = ⊥
StopsBy fault stop.NoMemory = ⊤

-- a stop at this file, or for want of memory
abbrev pub IsStopAt : Text → Stop → Type 0
IsStopAt file (stop.DepotFailed told) = told ≡ file
IsStopAt file stop.SinkFailed = ⊥
IsStopAt file stop.NoMemory = ⊤

-- a stop that is no fault of the sink
abbrev pub IsNoSink : Stop → Type 0
IsNoSink (stop.DepotFailed told) = ⊤
IsNoSink stop.SinkFailed = ⊥
IsNoSink stop.NoMemory = ⊤

-- a stop that is no fault of the depot
abbrev pub IsNoDepot : Stop → Type 0
IsNoDepot (stop.DepotFailed told) = ⊥
IsNoDepot stop.SinkFailed = ⊤
IsNoDepot stop.NoMemory = ⊤

-- ---- sessions

-- a new session of a script
pub record IsNew (s : Session) : Type 0 where
  pub here : s.here ≡ main_name
  pub events : events_of s ≡ []
  pub printed : s.printed ≡ []

-- Good events stay so, and each package that counts as loaded does so later.
pub record StaysGood (old new : Session) : Type 0 where
  pub good : Good new.here (events_of new)
  pub here : new.here ≡ old.here
  pub kept : (other : Text) → counts_loaded old.here (events_of old) other ≡ true → counts_loaded new.here (events_of new) other ≡ true

-- images may have been loaded, and nothing else was added
pub record OnlyLoads (old new : Session) : Type 0 where
  pub stays : StaysGood old new
  pub known : known_in (events_of new) ≡ known_in (events_of old)
  pub printed : new.printed ≡ old.printed

-- what an item defines is known, and the packages that it uses are loaded
pub record AddsItem (item : TopItem) (old new : Session) : Type 0 where
  pub known : known_in (events_of new) ≡ known_behind (known_in (events_of old)) item
  pub loaded : all_loaded new.here (events_of new) (used_behind [] item) ≡ true

-- ---- calls that go on, end the run, or are stopped

-- this holds where the run goes on
abbrev pub IfOn : Result (Option Ending) Stop → Type 0 → Type 0
IfOn (Ok None) P = P
IfOn (Ok (Some told)) P = ⊤
IfOn (Err why) P = ⊤

-- an item's end is told, where it has ended so
abbrev pub TellsCame : {T : Type 0} → Result T End → Result (Option Ending) Stop → Type 0
TellsCame (Ok done) (Ok None) = ⊤
TellsCame (Err end) (Ok (Some told)) = Tells (ending_of_end end) told
TellsCame came (Err why) = ⊤
TellsCame came result = ⊥

-- this holds of the ending that was answered
abbrev pub IfOver : Result (Option Ending) Stop → (Ending → Type 0) → Type 0
IfOver (Ok None) P = ⊤
IfOver (Ok (Some told)) P = P told
IfOver (Err why) P = ⊤

-- the text's end is the only ending after which a run goes on
abbrev pub IsOver : script.Ending → Type 0
IsOver AtEnd = ⊥
IsOver ending = ⊤

-- The run goes on in the state and with the budget that the meaning leaves, or its ending is told, in the state that it leaves.
-- Where the call is stopped, a front of what the meaning prints was printed.
abbrev pub Goes : Ended → Result (Option Ending) Stop → State → ℕ → Type 0
Goes e (Ok None) new left = (e.ending ≡ AtEnd) × (new ≡ e.last.state) × (left ≡ e.last.left)
Goes e (Ok (Some told)) new left = IsOver e.ending × TellsEnding e.ending told × (new ≡ e.last.state)
Goes e (Err why) new left = (more : Text) × (e.last.state.printed ≡ new.printed ++ more)

-- what a session printed more than before was put, or a front of it where the call was stopped
abbrev pub PutsMore : {T : Type 0} → Text → Text → Text → Result T Stop → Option Text → Type 0
PutsMore before after old (Ok _) now = (text : Text) × (after ≡ before ++ text) × Adds old text now
PutsMore before after old (Err _) now = (text more : Text) × (after ≡ before ++ (text ++ more)) × Adds old text now

-- a run that has ended so, with the line and the status that tell it
abbrev pub EndsAs : Ended → Ends
EndsAs e printed line status = (printed ≡ e.last.state.printed) × (line ≡ ending_line e.ending) × (status ≡ status_of e.ending)

-- the image of a package
abbrev pub IsImage : Text → Type 0
IsImage file = (name : Text) × (file ≡ image_file name)

-- ---- what was read

-- the file has this script, which is of the form that runs
pub record HasScript (files : Files) (name : Text) (tree : ScriptTree) : Type 0 where
  pub bytes : Text
  pub found : files name ≡ Some bytes
  pub short : length bytes ≤ text_limit
  pub spelled : IsScript bytes tree

-- the script in the file of this name, or the ending of its run, with whichever budget
abbrev pub ReadsAs : Files → Text → Result Reading Stop → Type 0
ReadsAs files name (Ok (reading.Runs tree)) = HasScript files name tree
ReadsAs files name (Ok (reading.Ends e)) = (steps : ℕ) → ScriptEnds files name steps [] e.line e.status
ReadsAs files name (Err why) = ⊤

-- a script that was read is of the form that runs, and an ending has a status
abbrev pub IsOfForm : Result Reading Stop → Type 0
IsOfForm (Ok (reading.Runs tree)) = script_form (held_script tree) ≡ true
IsOfForm (Ok (reading.Ends e)) = IsEnding e.status
IsOfForm (Err why) = ⊤
