-- What an item does, beside what the meaning says that it does.
use Rattle.std.specs.Prelude.{◌≡◌, ℕ, Result, Ok, Err}
use Rattle.pj_meaning.specs.Values.{Value}
use Rattle.pj_meaning.specs.State.{State}
use Rattle.pj_meaning.specs.Outcome.{Outcome, Gives, Raises, Stops}
use Rattle.pj_session.specs.Spoken.{error_of}
use Rattle.pj_session.specs.declared.end.End.{End}
use Rattle.pj_session.specs.declared.end.End.TheVariants as ends

-- The same end, with the state and the budget that the meaning leaves. Without memory the state stays as it was.
abbrev pub Tops : {A : Type 0} → Outcome Value → Result A End → State → State → ℕ → Type 0
Tops (Gives v r) (Ok done) old new left = (new ≡ r.state) × (left ≡ r.left)
Tops (Raises e r) (Err (ends.Error told)) old new left = (error_of told ≡ e) × ((new ≡ r.state) × (left ≡ r.left))
Tops (Stops r) (Err ends.Steps) old new left = new ≡ r.state
Tops outcome (Err ends.NoMemory) old new left = new ≡ old
Tops outcome result old new left = ⊥
