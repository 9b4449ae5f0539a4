-- Constants, as the meaning binds them.
use Rattle.std.proofs.Common.{◌≡◌, ◌<◌, to_z, of_z, w64, ℕ, ℤ, true, false, List, [], ◌∷◌, ◌++◌, None, Result, Ok, Err, IfErr, OnOk, OnErr, refl, sym, ap, ◌∙◌, subst}
use Rattle.pj_meaning.specs.Tree.{Text, Exprs, Call, Const}
use Rattle.pj_meaning.specs.Values.{Value}
use Rattle.pj_meaning.specs.Outcome.{Outcome}
use Rattle.pj_meaning.specs.Top.{top}
use Rattle.pj_words.specs.Words.{is_base_name}
use Rattle.pj_session.specs.States.{run}
use Rattle.pj_session.specs.Events.{Event, Binds, state_of}
use Rattle.pj_session.specs.Things.{own_in}
use Rattle.pj_session.specs.Good.{Good}
use Rattle.pj_session.specs.Items.{Got, Has, Fails, Short, called_in, integers, is_call, const_ends}
use Rattle.pj_session.specs.Ending.{Answers}
use Rattle.pj_session.specs.Tops.{Tops}
use Rattle.pj_session.specs.declared.end.End.{End}
use Rattle.pj_session.specs.declared.end.End.TheVariants as ends
use Rattle.std.specs.Int.Signed.{mag}
use Rattle.pj_session.proofs.Operands.{same_integer}
use Rattle.pj_session.proofs.More.{state_more, good_more}
use Rattle.pj_session.proofs.Defines.{binds}
use Rattle.pj_session.proofs.Topped.{no_memory_keeps}

module _ (here : Text) (es : List Event) (printed x : Text) where
  pub bound_tops : {A : Type 0} (got : Got ℤ) (v : ℤ) (done : A) (left : ℕ) → Answers got (Ok v) left
      → Tops {A = A} (const_ends (state_of here es printed) x got) (Ok done) (state_of here es printed) (state_of here (es ++ Binds x v ∷ []) printed) left
  bound_tops (Has z l) v done left h = (ap (λ u. state_of here (es ++ Binds x u ∷ []) printed) h.0 ∙ sym (state_more here es (Binds x z) printed), h.1)
  bound_tops (Fails e l) v done left h = absurd h
  bound_tops Short v done left h = absurd h

  pub failed_tops : (A : Type 0) (got : Got ℤ) (end : End) (left : ℕ) → Answers {A = ℤ} got (Err end) left
      → Tops {A = A} (const_ends (state_of here es printed) x got) (Err end) (state_of here es printed) (state_of here es printed) left
  failed_tops A (Has z l) (ends.Error told) left h = absurd h
  failed_tops A (Has z l) ends.Steps left h = absurd h
  failed_tops A (Has z l) ends.Trap left h = absurd h
  failed_tops A (Has z l) ends.NoMemory left h = refl
  failed_tops A (Fails e l) (ends.Error told) left h = (h.0, (refl, h.1))
  failed_tops A (Fails e l) ends.Steps left h = absurd h
  failed_tops A (Fails e l) ends.Trap left h = absurd h
  failed_tops A (Fails e l) ends.NoMemory left h = refl
  failed_tops A Short (ends.Error told) left h = absurd h
  failed_tops A Short ends.Steps left h = refl
  failed_tops A Short ends.Trap left h = absurd h
  failed_tops A Short ends.NoMemory left h = refl

  module _ (f : Text) (args : Exprs) (zs : List ℤ) (left : ℕ) (same : zs ≡ integers args) (is : is_call (Call [] f args) ≡ true) (free : is_base_name x ≡ false) (new : own_in es x ≡ None) (good : Good here es) where
    as_called : const_ends (state_of here es printed) x (called_in here es [] f zs left) ≡ top (Const x (Call [] f args)) (run (state_of here es printed) left)
    as_called = ap (λ l. const_ends (state_of here es printed) x (called_in here es [] f l left)) same ∙ sym (binds here es printed good x (Call [] f args) left is free new)

    pub call_bound : {A : Type 0} (here' printed' : Text) (es' : List Event) (v z : ℤ) (result : Result A End) (after : ℕ) → mag z < 9223372036854775808 → v ≡ to_z w64 (of_z w64 z) → here' ≡ here → printed' ≡ printed → OnOk result (es' ≡ es ++ Binds x v ∷ []) → OnErr result (es' ≡ es) → IfErr result (λ end. end ≡ ends.NoMemory)
        → Answers (called_in here es [] f zs left) (Ok z) after → Tops {A = A} (top (Const x (Call [] f args)) (run (state_of here es printed) left)) result (state_of here es printed) (state_of here' es' printed') after
    call_bound {A} here' printed' es' v z (Ok done) after small same_v same_here same_printed added fails only h =
        rw (same_here, same_printed, added) (subst (λ (o : Outcome Value). Tops {A = A} o (Ok done) (state_of here es printed) (state_of here (es ++ Binds x v ∷ []) printed) after) as_called (bound_tops (called_in here es [] f zs left) v done after (subst (λ (u : ℤ). Answers (called_in here es [] f zs left) (Ok u) after) (sym (same_v ∙ same_integer z small)) h)))
    call_bound {A} here' printed' es' v z (Err end) after small same_v same_here same_printed added fails only h =
        rw only (no_memory_keeps A _ here here' es es' printed printed' after same_here same_printed fails)

    pub call_failed : (A : Type 0) (end : End) (after : ℕ) → Answers {A = ℤ} (called_in here es [] f zs left) (Err end) after
        → Tops {A = A} (top (Const x (Call [] f args)) (run (state_of here es printed) left)) (Err end) (state_of here es printed) (state_of here es printed) after
    call_failed A end after h =
        subst (λ (o : Outcome Value). Tops {A = A} o (Err end) (state_of here es printed) (state_of here es printed) after) as_called (failed_tops A (called_in here es [] f zs left) end after h)

pub bound_good : {A : Type 0} (here here' x : Text) (es es' : List Event) (v : ℤ) (result : Result A End) → here' ≡ here → OnOk result (es' ≡ es ++ Binds x v ∷ []) → own_in es x ≡ None → OnOk result (Good here es → is_base_name x ≡ false → Good here' es')
bound_good here here' x es es' v (Ok done) same added new = λ good free. rw (same, added) (good_more here es (Binds x v) good free new)
bound_good here here' x es es' v (Err end) same added new = tt
