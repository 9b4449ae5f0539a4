-- From what a start gives to how the meaning's start ends.
use Rattle.std.proofs.Common.{◌≡◌, ℕ, false, List, Result, Ok, Err, refl, sym, ap, subst}
use Rattle.std.specs.Str.{bytes_eq}
use Rattle.pj_meaning.specs.Tree.{Text}
use Rattle.pj_meaning.specs.Names.{base_name}
use Rattle.pj_meaning.specs.Values.{Value}
use Rattle.pj_meaning.specs.State.{State}
use Rattle.pj_meaning.specs.Script.{Ended, ended, Uncaught}
use Rattle.pj_meaning.specs.Using.{start_image}
use Rattle.pj_session.specs.States.{run}
use Rattle.pj_session.specs.Events.{Event, state_of}
use Rattle.pj_session.specs.Things.{method_for, thing_in}
use Rattle.pj_session.specs.Good.{Good}
use Rattle.pj_session.specs.Items.{Got, Has, Fails, Short, got_ends, started, init_name}
use Rattle.pj_session.specs.Starting.{Finishes, Starts}
use Rattle.pj_session.specs.declared.end.End.{End}
use Rattle.pj_session.specs.declared.end.End.TheVariants as ends
use Rattle.pj_session.proofs.Stated.{start_law}

ended_as : {B : Type 0} (s : State) (got : Got Value) (result : Result B End) (after : ℕ) → Finishes got result after → Starts (ended (got_ends s got)) result s s after
unfolding ended
ended_as s (Has v l) (Ok done) after h = (refl, (refl, h))
ended_as s (Has v l) (Err (ends.Error told)) after h = absurd h
ended_as s (Has v l) (Err ends.Steps) after h = absurd h
ended_as s (Has v l) (Err ends.Trap) after h = absurd h
ended_as s (Has v l) (Err ends.NoMemory) after h = refl
ended_as s (Fails e l) (Ok done) after h = absurd h
ended_as s (Fails e l) (Err (ends.Error told)) after h = (ap Uncaught (sym h.0), (refl, h.1))
ended_as s (Fails e l) (Err ends.Steps) after h = absurd h
ended_as s (Fails e l) (Err ends.Trap) after h = absurd h
ended_as s (Fails e l) (Err ends.NoMemory) after h = refl
ended_as s Short (Ok done) after h = absurd h
ended_as s Short (Err (ends.Error told)) after h = absurd h
ended_as s Short (Err ends.Steps) after h = (refl, refl)
ended_as s Short (Err ends.Trap) after h = absurd h
ended_as s Short (Err ends.NoMemory) after h = refl

pub starts_as : {B : Type 0} (here : Text) (es : List Event) (printed name : Text) (left : ℕ) (result : Result B End) (after : ℕ)
    → Finishes (started (method_for 0 (thing_in here es name init_name)) left) result after
    → bytes_eq base_name name ≡ false → Good here es
    → Starts (start_image name (run (state_of here es printed) left)) result (state_of here es printed) (state_of here es printed) after
starts_as here es printed name left result after h other good =
    subst (λ (e : Ended). Starts e result (state_of here es printed) (state_of here es printed) after) (sym (start_law here es printed good name left other))
    (ended_as (state_of here es printed) (started (method_for 0 (thing_in here es name init_name)) left) result after h)
