-- Constants of expressions, as the meaning binds them.
use Rattle.std.proofs.Common.{◌≡◌, ◌<◌, to_z, of_z, w64, ℕ, ℤ, true, false, ◌||◌, List, [], ◌∷◌, ◌++◌, None, Result, Ok, Err, IfErr, OnOk, OnErr, refl, sym, ap, ◌∙◌, subst}
use Rattle.pj_meaning.specs.Tree.{Text, Expr, Const}
use Rattle.pj_meaning.specs.Values.{Value}
use Rattle.pj_meaning.specs.Outcome.{Outcome}
use Rattle.pj_meaning.specs.Top.{top}
use Rattle.pj_plain.specs.Plain.{plain_expr}
use Rattle.pj_words.specs.Words.{is_base_name}
use Rattle.pj_session.specs.Numbers.{number_in}
use Rattle.pj_session.specs.States.{run}
use Rattle.pj_session.specs.Events.{Event, Binds, state_of}
use Rattle.pj_session.specs.Things.{own_in}
use Rattle.pj_session.specs.Good.{Good}
use Rattle.pj_session.specs.Items.{Got, got_number, is_call, is_valued, valued, const_ends}
use Rattle.pj_session.specs.Ending.{Answers}
use Rattle.pj_session.specs.Tops.{Tops}
use Rattle.pj_session.specs.declared.end.End.{End}
use Rattle.pj_session.specs.declared.end.End.TheVariants as ends
use Rattle.std.specs.Int.Signed.{mag}
use Rattle.pj_session.proofs.Operands.{same_integer}
use Rattle.pj_session.proofs.Defines.{binds}
use Rattle.pj_session.proofs.Topped.{no_memory_keeps}
use Rattle.pj_session.proofs.Bound.{bound_tops, failed_tops}

module _ (here : Text) (es : List Event) (printed x : Text) (e : Expr) (left : ℕ) (plain : plain_expr [] e ≡ true) (free : is_base_name x ≡ false) (new : own_in es x ≡ None) (good : Good here es) where
  abbrev got : Got ℤ
  got = got_number (number_in [] [] e left)

  may_be : is_valued e ≡ true
  may_be = ap (λ b. b || is_call e) plain

  as_valued : const_ends (state_of here es printed) x got ≡ top (Const x e) (run (state_of here es printed) left)
  as_valued = sym (binds here es printed good x e left may_be free new ∙ ap (const_ends (state_of here es printed) x) by_number)
    where
      by_number : valued here es e left ≡ got
      by_number = rw plain refl

  pub value_bound : {A : Type 0} (here' printed' : Text) (es' : List Event) (v z : ℤ) (result : Result A End) (after : ℕ) → mag z < 9223372036854775808 → v ≡ to_z w64 (of_z w64 z) → here' ≡ here → printed' ≡ printed → OnOk result (es' ≡ es ++ Binds x v ∷ []) → OnErr result (es' ≡ es) → IfErr result (λ end. end ≡ ends.NoMemory)
      → Answers got (Ok z) after → Tops {A = A} (top (Const x e) (run (state_of here es printed) left)) result (state_of here es printed) (state_of here' es' printed') after
  value_bound {A} here' printed' es' v z (Ok done) after small same_v same_here same_printed added fails only h =
      rw (same_here, same_printed, added) (subst (λ (o : Outcome Value). Tops {A = A} o (Ok done) (state_of here es printed) (state_of here (es ++ Binds x v ∷ []) printed) after) as_valued (bound_tops here es printed x got v done after (subst (λ (u : ℤ). Answers got (Ok u) after) (sym (same_v ∙ same_integer z small)) h)))
  value_bound {A} here' printed' es' v z (Err end) after small same_v same_here same_printed added fails only h =
      rw only (no_memory_keeps A _ here here' es es' printed printed' after same_here same_printed fails)

  pub value_failed : (A : Type 0) (end : End) (after : ℕ) → Answers {A = ℤ} got (Err end) after
      → Tops {A = A} (top (Const x e) (run (state_of here es printed) left)) (Err end) (state_of here es printed) (state_of here es printed) after
  value_failed A end after h =
      subst (λ (o : Outcome Value). Tops {A = A} o (Err end) (state_of here es printed) (state_of here es printed) after) as_valued (failed_tops here es printed x A got end after h)
