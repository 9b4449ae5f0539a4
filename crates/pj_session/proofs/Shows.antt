-- println of a call or of a name, after good events.
use Rattle.std.proofs.Common.{◌≡◌, ℕ, zero, suc, ◌≤◌, ℤ, true, List, [], ◌∷◌, Result, Ok, Err, Option, Some, None, length, refl, sym, ap, subst, ◌∙◌, arith}
use Rattle.std.specs.Prelude.{codes}
use Rattle.pj_meaning.specs.Tree.{Text, Expr}
use Rattle.pj_meaning.specs.Tree as tree
use Rattle.pj_meaning.specs.Names.{Id, base}
use Rattle.pj_meaning.specs.Values.{Value}
use Rattle.pj_meaning.specs.State.{State, FunctionName}
use Rattle.pj_meaning.specs.Outcome.{Error, Outcome, Gives, after}
use Rattle.pj_meaning.specs.Calls.{call_named}
use Rattle.pj_meaning.specs.Evaluation.{falls, flow_value, enter_at}
use Rattle.pj_meaning.specs.Lookup.{role_at}
use Rattle.pj_meaning.specs.Top.{top}
use Rattle.pj_words.specs.Words.{base_names, is_among}
use Rattle.pj_session.specs.Numbers.{Counted, charge, number_in}
use Rattle.pj_session.specs.States.{run}
use Rattle.pj_session.specs.Events.{Parts, Event, state_of}
use Rattle.pj_session.specs.Things.{Thing, Calls, Holds, method_for}
use Rattle.pj_session.specs.Good.{Good}
use Rattle.pj_session.specs.Items.{Got, Has, Fails, Short, got_number, got_value, got_ends, has_or, thing_at, entered, call_of, read_of, integers, is_asked, asked, printed_of, line_of, line_ends, println_item}
use Rattle.pj_session.proofs.Evaluates.{falls as number_falls}
use Rattle.pj_session.proofs.Closed.{closed_state, closed}
use Rattle.pj_session.proofs.Prints.{Shown, whole_shown, function_shown, printed_as, lines}
use Rattle.pj_session.proofs.Known.{like, base_at}
use Rattle.pj_session.proofs.Called.{asks}

-- a value that is shown, with no more charges than there were
abbrev pub Fits : ℕ → Got Value → Type 0
Fits most (Has v left) = Shown v × (left ≤ most)
Fits most (Fails e left) = Unit {0}
Fits most Short = Unit {0}

number_fits : (d : Parts) (zs : List ℤ) (left : ℕ) → Fits left (got_value (got_number (charge left (number_in d.0 zs d.1))))
unfolding charge
number_fits d zs zero = tt
number_fits d zs (suc n) = one (number_in d.0 zs d.1 n) refl
  where
    one : (o : Counted) → number_in d.0 zs d.1 n ≡ o → Fits (suc n) (got_value (got_number o))
    one None is = tt
    one (Some p) is = (whole_shown p.0, let below = number_falls d.0 zs d.1 n p.0 p.1 is in omega (arith, below))

entered_fits : (o : Option Parts) (f : Id) (zs : List ℤ) (left : ℕ) → Fits left (got_value (entered o f zs left))
entered_fits None f zs left = tt
entered_fits (Some d) f zs left = number_fits d zs left

call_fits : (t : Result Thing Error) (f : Id) (zs : List ℤ) (left : ℕ) → Fits left (got_value (call_of t f zs left))
call_fits (Err e) f zs left = tt
call_fits (Ok (Holds z)) f zs left = tt
call_fits (Ok (Calls d)) f zs left = entered_fits (method_for (length zs) (Some (Calls d))) f zs left

read_fits : (t : Result Thing Error) (f : Id) (left : ℕ) → Fits left (read_of t f left)
read_fits (Err e) f left = tt
read_fits (Ok (Holds z)) f left = (whole_shown z, omega arith)
read_fits (Ok (Calls d)) f left = (function_shown f, omega arith)

asked_fits : (here : Text) (es : List Event) (e : Expr) (left : ℕ) → Fits left (asked here es e left)
asked_fits here es (tree.Call m f as_) left = call_fits (thing_at here es m f) _ (integers as_) left
asked_fits here es (tree.Global m x) left = read_fits (thing_at here es m x) _ left
asked_fits here es tree.Nothing left = tt
asked_fits here es tree.False left = tt
asked_fits here es tree.True left = tt
asked_fits here es (tree.Int z) left = tt
asked_fits here es (tree.Str t) left = tt
asked_fits here es (tree.Local x) left = tt
asked_fits here es (tree.Field a x) left = tt
asked_fits here es (tree.CallLocal x as_) left = tt
asked_fits here es (tree.Latest a as_) left = tt
asked_fits here es (tree.And a b) left = tt
asked_fits here es (tree.Or a b) left = tt
asked_fits here es (tree.Cond a b c) left = tt
asked_fits here es (tree.Same a b) left = tt
asked_fits here es (tree.Intrin i as_) left = tt

abbrev ended_line : Outcome Value → Outcome Value
ended_line o = after (after o (λ v q. falls v [] q)) (λ w q. Gives (flow_value w.flow) q)

module _ (here : Text) (es : List Event) (printed : Text) (good : Good here es) where
  abbrev s : State
  s = closed_state here es printed

  println_means : role_at s here [] (codes "println") ≡ Ok (FunctionName (base (codes "println")))
  unfolding base_names is_among
  println_means = base_at here es printed good (codes "println") (FunctionName (base (codes "println"))) refl refl

  abbrev wrapped : ℕ → Outcome Value → Outcome Value
  wrapped n o = ended_line (after (after o (λ v q. Gives (v ∷ []) q)) (λ vs q. call_named (enter_at n) s.newest 0 here [] (codes "println") vs q))

  line_is : (v : Value) (o : Option ℕ) → ended_line (printed_as s (line_of v) o) ≡ line_ends s (has_or v o)
  unfolding after
  line_is v None = refl
  line_is v (Some left) = refl

  prints_value : (n : ℕ) (g : Got Value) → Fits n g → wrapped n (got_ends s g) ≡ line_ends s (printed_of g)
  unfolding after
  prints_value n (Has v left) fits =
      ap ended_line (lines s (like here es printed good) v fits.0 here println_means 0 n left refl refl fits.1)
      ∙ line_is v (charge left (λ l. charge l (λ k. Some k)))
  prints_value n (Fails e left) fits = refl
  prints_value n Short fits = refl

  shows_closed : (e : Expr) (left : ℕ) → is_asked e ≡ true → top (println_item e) (run s left) ≡ line_ends s (printed_of (asked here es e left))
  unfolding after
  shows_closed e left is =
      ap (wrapped left) (asks here es printed good e [] left left is (omega arith))
      ∙ prints_value left (asked here es e left) (asked_fits here es e left)

pub shows : (here : Text) (es : List Event) (printed : Text) → Good here es → (e : Expr) (left : ℕ) → is_asked e ≡ true
    → top (println_item e) (run (state_of here es printed) left) ≡ line_ends (state_of here es printed) (printed_of (asked here es e left))
shows here es printed good e left is =
    subst (λ s. top (println_item e) (run s left) ≡ line_ends s (printed_of (asked here es e left))) (sym (closed here es printed good.each)) (shows_closed here es printed good e left is)
