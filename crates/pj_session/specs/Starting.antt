-- How the start of an image ends, beside what the meaning says.
use Rattle.std.specs.Prelude.{◌≡◌, ℕ, Result, Ok, Err, ⊤}
use Rattle.pj_meaning.specs.State.{State}
use Rattle.pj_meaning.specs.Script.{Ended, AtEnd, Uncaught, OutOfSteps}
use Rattle.pj_session.specs.Items.{Got, Has, Fails, Short}
use Rattle.pj_session.specs.Spoken.{error_of}
use Rattle.pj_session.specs.declared.end.End.{End}
use Rattle.pj_session.specs.declared.end.End.TheVariants as ends

-- The value is let go; the error, and what is left of the budget, are told. There may be no memory.
abbrev pub Finishes : {A B : Type 0} → Got A → Result B End → ℕ → Type 0
Finishes (Has a l) (Ok done) left = left ≡ l
Finishes (Fails e l) (Err (ends.Error told)) left = (error_of told ≡ e) × (left ≡ l)
Finishes Short (Err ends.Steps) left = ⊤
Finishes got (Err ends.NoMemory) left = ⊤
Finishes got result left = ⊥

-- The ending is the meaning's, and so are the state and the budget behind it. Without memory the state stays as it was.
abbrev pub Starts : {A : Type 0} → Ended → Result A End → State → State → ℕ → Type 0
Starts e (Ok done) old new left = (e.ending ≡ AtEnd) × ((new ≡ e.last.state) × (left ≡ e.last.left))
Starts e (Err (ends.Error told)) old new left = (e.ending ≡ Uncaught (error_of told)) × ((new ≡ e.last.state) × (left ≡ e.last.left))
Starts e (Err ends.Steps) old new left = (e.ending ≡ OutOfSteps) × (new ≡ e.last.state)
Starts e (Err ends.NoMemory) old new left = new ≡ old
Starts e (Err ends.Trap) old new left = ⊥
