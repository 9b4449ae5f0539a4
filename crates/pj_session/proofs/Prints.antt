-- println of a number or of a function.
use Rattle.std.proofs.Common.{◌≡◌, ℕ, zero, suc, ◌≤◌, ℤ, false, [], ◌∷◌, ◌++◌, Ok, Option, Some, None, nat_le, refl, ap, ◌∙◌, arith, append_assoc}
use Rattle.std.specs.Prelude.{codes}
use Rattle.pj_meaning.specs.Tree.{Text}
use Rattle.pj_meaning.specs.Tree as tree
use Rattle.pj_meaning.specs.Names.{Id, base_name, base}
use Rattle.pj_meaning.specs.Values.{Value, Nil, Whole, Function, type_of}
use Rattle.pj_meaning.specs.State.{State, FunctionName, with_printed}
use Rattle.pj_meaning.specs.Methods.{One, pick}
use Rattle.pj_meaning.specs.Lookup.{role_at}
use Rattle.pj_meaning.specs.Outcome.{Outcome, Gives, Stops, after}
use Rattle.pj_meaning.specs.Calls.{Enter, call_named}
use Rattle.pj_meaning.specs.Evaluation.{Frame, Locals, block, onward, flow_value, falls, in_body, enter_at}
use Rattle.pj_meaning.specs.Base.{base_types, base_methods}
use Rattle.pj_meaning.specs.Printing.{text_of}
use Rattle.pj_session.specs.Numbers.{charge}
use Rattle.pj_session.specs.States.{BaseLike, run}
use Rattle.pj_session.specs.Items.{line_of}
use Rattle.pj_session.proofs.Operations.{print_method, println_method, print_number, println_number, print_function, println_function}
use Rattle.pj_session.proofs.Entering.{named, called, stopped, entered}
use Rattle.pj_session.proofs.Evaluates.{means_base, picks_base}

-- a value that Base's own methods print
pub record Shown (v : Value) : Type 0 where
  pub print : pick base_types base_methods 1 (base (codes "print")) (type_of [] v ∷ []) ≡ One print_method
  pub println : pick base_types base_methods 1 (base (codes "println")) (type_of [] v ∷ []) ≡ One println_method

pub whole_shown : (z : ℤ) → Shown (Whole z)
whole_shown z = record { print = print_number; println = println_number }

pub function_shown : (f : Id) → Shown (Function f)
function_shown f = record { print = print_function; println = println_function }

-- this text was printed, or nothing was for want of a charge
abbrev pub printed_as : State → Text → Option ℕ → Outcome Value
printed_as s text None = Stops (run s 0)
printed_as s text (Some left) = Gives Nil (run (with_printed s text) left)

-- what follows an expression's value in a body
abbrev pub finished : Enter → Frame → Locals → tree.Block → Outcome Value → Outcome Value
finished enter fr ls rest o =
    after (after (after o (λ v q. falls v ls q)) (λ w q. onward w.flow w.locals (λ u us p. block enter fr us u rest p) q)) (λ w q. Gives (flow_value w.flow) q)

pub printed_twice : (s : State) (a b : Text) → with_printed (with_printed s a) b ≡ with_printed s (a ++ b)
printed_twice s a b = ap (λ t. record s { printed = t }) (append_assoc s.printed a b)

module _ (s : State) (like : BaseLike s) (v : Value) (shown : Shown v) where
  -- print takes a charge and prints the value
  printing : (home : Text) (depth n left : ℕ) → nat_le 20000 depth ≡ false → left ≤ n
      → call_named (enter_at n) s.newest depth home base_name (codes "print") (v ∷ []) (run s left)
      ≡ printed_as s (text_of [] v) (charge left (λ l. Some l))
  unfolding charge after
  printing home depth n zero shallow fuel =
      named (enter_at n) s.newest depth home base_name (codes "print") (v ∷ []) (run s 0) (base (codes "print")) (means_base s like depth shallow home (codes "print") refl)
      ∙ called (enter_at n) s.newest depth (base (codes "print")) (v ∷ []) (run s 0) print_method (picks_base s like depth shallow home (codes "print") (v ∷ []) print_method shown.print)
      ∙ stopped n s.newest depth print_method (v ∷ []) s
  printing home depth zero (suc left) shallow fuel = absurd (omega (arith, fuel))
  printing home depth (suc n) (suc left) shallow fuel =
      named (enter_at (suc n)) s.newest depth home base_name (codes "print") (v ∷ []) (run s (suc left)) (base (codes "print")) (means_base s like depth shallow home (codes "print") refl)
      ∙ called (enter_at (suc n)) s.newest depth (base (codes "print")) (v ∷ []) (run s (suc left)) print_method (picks_base s like depth shallow home (codes "print") (v ∷ []) print_method shown.print)
      ∙ entered n s.newest depth print_method (v ∷ []) s left shallow
      ∙ ap (λ os. Gives Nil (run (with_printed s (text_of os v)) left)) like.objects

  -- println's body prints the value by print, and then a line end
  body_prints : (n left depth : ℕ) → nat_le 20000 depth ≡ false → left ≤ n
      → in_body (enter_at n) (record { home = base_name; world = s.newest; depth = depth }) println_method.code (v ∷ []) (run s left)
      ≡ printed_as s (line_of v) (charge left (λ l. Some l))
  unfolding after
  body_prints n left depth shallow fuel =
      ap (finished (enter_at n) (record { home = base_name; world = s.newest; depth = depth }) ((codes "a", Some v) ∷ []) (tree.step (tree.Value (tree.Intrin tree.NewLine tree.none)) tree.end))
      (printing base_name depth n left shallow fuel)
      ∙ ends (charge left (λ l. Some l))
    where
      ends : (o : Option ℕ)
          → finished (enter_at n) (record { home = base_name; world = s.newest; depth = depth }) ((codes "a", Some v) ∷ []) (tree.step (tree.Value (tree.Intrin tree.NewLine tree.none)) tree.end) (printed_as s (text_of [] v) o)
          ≡ printed_as s (line_of v) o
      ends None = refl
      ends (Some l) = ap (λ q. Gives Nil (run q l)) (printed_twice s (text_of [] v) (codes "\n"))

  -- println takes a charge of its own before
  pub lines : (home : Text) → role_at s home [] (codes "println") ≡ Ok (FunctionName (base (codes "println"))) → (depth n left : ℕ)
      → nat_le 20000 depth ≡ false → nat_le 20000 (suc depth) ≡ false → left ≤ n
      → call_named (enter_at n) s.newest depth home [] (codes "println") (v ∷ []) (run s left)
      ≡ printed_as s (line_of v) (charge left (λ l. charge l (λ k. Some k)))
  unfolding charge
  lines home means depth n zero shallow next fuel =
      named (enter_at n) s.newest depth home [] (codes "println") (v ∷ []) (run s 0) (base (codes "println")) means
      ∙ called (enter_at n) s.newest depth (base (codes "println")) (v ∷ []) (run s 0) println_method (picks_base s like depth shallow home (codes "println") (v ∷ []) println_method shown.println)
      ∙ stopped n s.newest depth println_method (v ∷ []) s
  lines home means depth zero (suc left) shallow next fuel = absurd (omega (arith, fuel))
  lines home means depth (suc n) (suc left) shallow next fuel =
      named (enter_at (suc n)) s.newest depth home [] (codes "println") (v ∷ []) (run s (suc left)) (base (codes "println")) means
      ∙ called (enter_at (suc n)) s.newest depth (base (codes "println")) (v ∷ []) (run s (suc left)) println_method (picks_base s like depth shallow home (codes "println") (v ∷ []) println_method shown.println)
      ∙ entered n s.newest depth println_method (v ∷ []) s left shallow
      ∙ body_prints n left (suc depth) next (omega (arith, fuel))
