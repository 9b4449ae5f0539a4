-- From an answer to the line that is printed of it.
use Rattle.std.proofs.Common.{◌≡◌, ℕ, ℤ, true, List, Result, Ok, Err, refl, sym, ap, subst}
use Rattle.pj_meaning.specs.Tree.{Text, Expr}
use Rattle.pj_meaning.specs.Values.{Value, Whole}
use Rattle.pj_meaning.specs.Outcome.{Outcome}
use Rattle.pj_meaning.specs.Top.{top}
use Rattle.pj_session.specs.States.{run}
use Rattle.pj_session.specs.Events.{Event, state_of}
use Rattle.pj_session.specs.Good.{Good}
use Rattle.pj_session.specs.Items.{Got, Has, Fails, Short, got_value, is_asked, asked, printed_of, println_item}
use Rattle.pj_session.specs.Ending.{Answers, Prints}
use Rattle.pj_session.specs.Tops.{Tops}
use Rattle.pj_session.specs.declared.end.End.{End}
use Rattle.pj_session.specs.declared.end.End.TheVariants as ends
use Rattle.pj_session.proofs.Shows.{shows}
use Rattle.pj_session.proofs.Topped.{line_tops}

-- an answer that is a value is printed
pub value_prints : {A : Type 0} (got : Got Value) (v : Value) (result : Result A End) (old new : Text) (left after : ℕ) → Answers got (Ok v) left
    → Prints (printed_of (Has v left)) result old new after → Prints (printed_of got) result old new after
value_prints {A} (Has a l) v result old new left after h prints =
    subst (λ (k : ℕ). Prints {A = A} (printed_of (Has a k)) result old new after) h.1 (subst (λ (u : Value). Prints {A = A} (printed_of (Has u left)) result old new after) h.0 prints)
value_prints (Fails e l) v result old new left after h prints = absurd h
value_prints Short v result old new left after h prints = absurd h

no_memory_prints : (A : Type 0) (got : Got Value) (old : Text) (left : ℕ) → Prints {A = A} got (Err ends.NoMemory) old old left
no_memory_prints A (Has v l) old left = refl
no_memory_prints A (Fails e l) old left = refl
no_memory_prints A Short old left = refl

-- any other answer prints nothing
pub end_prints : (A : Type 0) (got : Got Value) (end : End) (old : Text) (left : ℕ) → Answers {A = Value} got (Err end) left → Prints {A = A} (printed_of got) (Err end) old old left
end_prints A (Has v l) (ends.Error told) old left h = absurd h
end_prints A (Has v l) ends.Steps old left h = absurd h
end_prints A (Has v l) ends.Trap old left h = absurd h
end_prints A (Has v l) ends.NoMemory old left h = no_memory_prints A (printed_of (Has v l)) old left
end_prints A (Fails e l) (ends.Error told) old left h = (h.0, (refl, h.1))
end_prints A (Fails e l) ends.Steps old left h = absurd h
end_prints A (Fails e l) ends.Trap old left h = absurd h
end_prints A (Fails e l) ends.NoMemory old left h = refl
end_prints A Short (ends.Error told) old left h = absurd h
end_prints A Short ends.Steps old left h = refl
end_prints A Short ends.Trap old left h = absurd h
end_prints A Short ends.NoMemory old left h = refl

pub whole_reads : (got : Got ℤ) (z : ℤ) (left : ℕ) → Answers got (Ok z) left → Answers (got_value got) (Ok (Whole z)) left
whole_reads (Has a l) z left h = (ap Whole h.0, h.1)
whole_reads (Fails e l) z left h = absurd h
whole_reads Short z left h = absurd h

pub end_reads : (got : Got ℤ) (end : End) (left : ℕ) → Answers {A = ℤ} got (Err end) left → Answers {A = Value} (got_value got) (Err end) left
end_reads (Has a l) (ends.Error told) left h = absurd h
end_reads (Has a l) ends.Steps left h = absurd h
end_reads (Has a l) ends.Trap left h = absurd h
end_reads (Has a l) ends.NoMemory left h = tt
end_reads (Fails e l) (ends.Error told) left h = h
end_reads (Fails e l) ends.Steps left h = absurd h
end_reads (Fails e l) ends.Trap left h = absurd h
end_reads (Fails e l) ends.NoMemory left h = tt
end_reads Short (ends.Error told) left h = absurd h
end_reads Short ends.Steps left h = tt
end_reads Short ends.Trap left h = absurd h
end_reads Short ends.NoMemory left h = tt

-- the line of what is asked
module _ (here here' : Text) (es es' : List Event) (old new : Text) (same_here : here' ≡ here) (same_events : es' ≡ es) (e : Expr) (before : ℕ) (is : is_asked e ≡ true) (good : Good here es) where
  pub asked_tops : {A : Type 0} (result : Result A End) (after : ℕ) → Prints (printed_of (asked here es e before)) result old new after
      → Tops (top (println_item e) (run (state_of here es old) before)) result (state_of here es old) (state_of here' es' new) after
  asked_tops {A} result after prints =
      rw (same_here, same_events)
      (subst (λ (o : Outcome Value). Tops {A = A} o result (state_of here es old) (state_of here es new) after) (sym (shows here es old good e before is)) (line_tops here es old new good (printed_of (asked here es e before)) result after prints))
