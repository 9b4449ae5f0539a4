-- How calls end, beside what is got by the meaning.
use Rattle.std.specs.Prelude.{◌≡◌, ℕ, ◌++◌, Result, Ok, Err, ⊤}
use Rattle.pj_meaning.specs.Tree.{Text}
use Rattle.pj_meaning.specs.Values.{Value}
use Rattle.pj_meaning.specs.Outcome as outcome
use Rattle.pj_session.specs.Items.{Got, Has, Fails, Short, line_of}
use Rattle.pj_session.specs.Spoken.{error_of}
use Rattle.pj_session.specs.declared.end.End.{End}
use Rattle.pj_session.specs.declared.end.End.TheVariants as ends

-- the end tells this error, or there was no memory
abbrev pub Tells : outcome.Error → End → Type 0
Tells e (ends.Error told) = error_of told ≡ e
Tells e ends.NoMemory = ⊤
Tells e end = ⊥

-- The value, or the error, and what is left of the budget; or that the budget wasn't enough. There may be no memory.
abbrev pub Answers : {A : Type 0} → Got A → Result A End → ℕ → Type 0
Answers (Has a l) (Ok v) left = (v ≡ a) × (left ≡ l)
Answers (Fails e l) (Err (ends.Error told)) left = (error_of told ≡ e) × (left ≡ l)
Answers Short (Err ends.Steps) left = ⊤
Answers got (Err ends.NoMemory) left = ⊤
Answers got result left = ⊥

-- The value's line is printed, or nothing is: by an error, for want of charges, or for want of memory.
abbrev pub Prints : {A : Type 0} → Got Value → Result A End → Text → Text → ℕ → Type 0
Prints (Has v l) (Ok done) old new left = (new ≡ old ++ line_of v) × (left ≡ l)
Prints (Fails e l) (Err (ends.Error told)) old new left = (error_of told ≡ e) × ((new ≡ old) × (left ≡ l))
Prints Short (Err ends.Steps) old new left = new ≡ old
Prints got (Err ends.NoMemory) old new left = new ≡ old
Prints got result old new left = ⊥
