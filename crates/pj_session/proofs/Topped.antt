-- From what is printed to what the meaning's items do.
use Rattle.std.proofs.Common.{◌≡◌, ℕ, false, List, [], ◌++◌, ◌∷◌, None, Result, Ok, Err, refl, sym, ap, ◌∙◌, subst}
use Rattle.pj_meaning.specs.Tree.{Text}
use Rattle.pj_meaning.specs.Values.{Value}
use Rattle.pj_meaning.specs.Outcome.{Outcome, Gives, Raises, Stops}
use Rattle.pj_meaning.specs.Top.{top}
use Rattle.pj_session.specs.States.{run}
use Rattle.pj_session.specs.Events.{Parts, Event, Defines, state_of}
use Rattle.pj_words.specs.Words.{is_base_name}
use Rattle.pj_session.specs.Things.{own_in}
use Rattle.pj_session.specs.Good.{Good, PlainFunction}
use Rattle.pj_session.specs.Items.{Got, Has, Fails, Short, line_ends, line_of, define_item}
use Rattle.pj_session.specs.Ending.{Prints}
use Rattle.pj_session.specs.Tops.{Tops}
use Rattle.pj_session.specs.declared.end.End.{End}
use Rattle.pj_session.specs.declared.end.End.TheVariants as ends
use Rattle.pj_session.proofs.More.{state_printed, state_more, good_more}
use Rattle.pj_session.proofs.Defines.{defines}

module _ (here : Text) (es : List Event) (old new : Text) (good : Good here es) where
  same_state : new ≡ old → state_of here es new ≡ state_of here es old
  same_state e = ap (state_of here es) e

  pub line_tops : {A : Type 0} (got : Got Value) (result : Result A End) (left : ℕ) → Prints got result old new left
      → Tops (line_ends (state_of here es old) got) result (state_of here es old) (state_of here es new) left
  line_tops (Has v l) (Ok done) left h = (ap (state_of here es) h.0 ∙ sym (state_printed here es old (line_of v) good), h.1)
  line_tops (Has v l) (Err (ends.Error told)) left h = absurd h
  line_tops (Has v l) (Err ends.Steps) left h = absurd h
  line_tops (Has v l) (Err ends.Trap) left h = absurd h
  line_tops (Has v l) (Err ends.NoMemory) left h = same_state h
  line_tops (Fails e l) (Ok done) left h = absurd h
  line_tops (Fails e l) (Err (ends.Error told)) left h = (h.0, (same_state h.1.0, h.1.1))
  line_tops (Fails e l) (Err ends.Steps) left h = absurd h
  line_tops (Fails e l) (Err ends.Trap) left h = absurd h
  line_tops (Fails e l) (Err ends.NoMemory) left h = same_state h
  line_tops Short (Ok done) left h = absurd h
  line_tops Short (Err (ends.Error told)) left h = absurd h
  line_tops Short (Err ends.Steps) left h = same_state h
  line_tops Short (Err ends.Trap) left h = absurd h
  line_tops Short (Err ends.NoMemory) left h = same_state h

-- a definition adds its event
pub define_tops : {A : Type 0} (here here' : Text) (es es' : List Event) (printed printed' : Text) (name : Text) (d : Parts) (done : A) → here' ≡ here → printed' ≡ printed → es' ≡ es ++ Defines name d.0 d.1 ∷ [] → own_in es name ≡ None
    → Good here es → is_base_name name ≡ false → (left : ℕ) → Tops {A = A} (top (define_item name d) (run (state_of here es printed) left)) (Ok done) (state_of here es printed) (state_of here' es' printed') left
define_tops {A} here here' es es' printed printed' name d done same_here same_printed events new good free left =
    rw (same_here, same_printed, events)
    (subst (λ (o : Outcome Value). Tops {A = A} o (Ok done) (state_of here es printed) (state_of here (es ++ Defines name d.0 d.1 ∷ []) printed) left) (sym (defines here es printed good name d left free new))
    (sym (state_more here es (Defines name d.0 d.1) printed), refl))

pub no_memory_keeps : (A : Type 0) (outcome : Outcome Value) (here here' : Text) (es es' : List Event) (printed printed' : Text) (left : ℕ) → here' ≡ here → printed' ≡ printed → es' ≡ es
    → Tops {A = A} outcome (Err ends.NoMemory) (state_of here es printed) (state_of here' es' printed') left
no_memory_keeps A outcome here here' es es' printed printed' left same_here same_printed events = kept outcome (rw (same_here, same_printed, events) refl)
  where
    kept : (o : Outcome Value) → state_of here' es' printed' ≡ state_of here es printed → Tops {A = A} o (Err ends.NoMemory) (state_of here es printed) (state_of here' es' printed') left
    kept (Gives v r) e = e
    kept (Raises f r) e = e
    kept (Stops r) e = e

pub good_behind : (here here' : Text) (es es' : List Event) (name : Text) (d : Parts) → here' ≡ here → es' ≡ es ++ Defines name d.0 d.1 ∷ [] → own_in es name ≡ None → Good here es → PlainFunction name d → Good here' es'
good_behind here here' es es' name d same_here events new good plain = rw (same_here, events) (good_more here es (Defines name d.0 d.1) good plain new)
