-- A run of a script: its items in order, up to the first that ends it.
use Rattle.std.specs.Prelude.{ℕ, List, [], ◌∷◌, Option}
use Rattle.pj_meaning.specs.Tree.{Text, TopItem, Using}
use Rattle.pj_meaning.specs.Names.{main_name}
use Rattle.pj_meaning.specs.Values.{Value}
use Rattle.pj_meaning.specs.Outcome.{Error, Run, Outcome, Gives, Raises, Stops}
use Rattle.pj_meaning.specs.Base.{start}
use Rattle.pj_meaning.specs.Top.{top}

-- why a load is refused
pub data Refusal : Type 0 where
  Format : ℕ → Refusal
  IsLoaded : Refusal
  Dependency : Text → List ℕ → Option (List ℕ) → Refusal
  Relocation : ℕ → Refusal
  Full : Refusal

-- how a run ends: at the text's end, by an error, for want of steps, or at a file that can't be loaded
pub data Ending : Type 0 where
  AtEnd : Ending
  Uncaught : Error → Ending
  OutOfSteps : Ending
  Absent : Text → Ending
  TooLong : Text → Ending
  Refused : Text → Refusal → Ending

pub record Ended : Type 0 where
  pub ending : Ending
  pub last : Run

abbrev pub onward_ending : Ending → Run → (Run → Ended) → Ended
onward_ending AtEnd r next = next r
onward_ending ending r next = record { ending = ending; last = r }

-- goes on where nothing has ended the run
unfoldable pub then_run : Ended → (Run → Ended) → Ended
then_run e next = onward_ending e.ending e.last next

unfoldable pub ended : Outcome Value → Ended
ended (Gives v r) = record { ending = AtEnd; last = r }
ended (Raises e r) = record { ending = Uncaught e; last = r }
ended (Stops r) = record { ending = OutOfSteps; last = r }

-- what `using` one package does
abbrev pub Uses : Type 0
Uses = Text → Run → Ended

abbrev pub use_all : Uses → List Text → Run → Ended
use_all uses [] r = record { ending = AtEnd; last = r }
use_all uses (name ∷ names) r = then_run (uses name r) (use_all uses names)

abbrev pub run_item : Uses → TopItem → Run → Ended
run_item uses (Using names) r = use_all uses names r
run_item uses item r = ended (top item r)

abbrev pub run_items : Uses → List TopItem → Run → Ended
run_items uses [] r = record { ending = AtEnd; last = r }
run_items uses (item ∷ items) r = then_run (run_item uses item r) (run_items uses items)

-- a script from Base alone, with a budget
abbrev pub run_script : Uses → List TopItem → ℕ → Ended
run_script uses items steps = run_items uses items (record { state = start main_name; left = steps })
