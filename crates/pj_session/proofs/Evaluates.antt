-- Direct evaluation of a plain expression gives the number that `number_in` tells.
use Rattle.std.proofs.Common.{◌≡◌, ℕ, zero, suc, ◌≤◌, ℤ, Bool, true, false, cond, ◌&&◌, ◌||◌, List, [], ◌∷◌, Ok, Option, Some, None, map, length, nat_le, refl, ap, ◌∙◌, arith}
use Rattle.std.specs.Prelude.{codes}
use Rattle.std.specs.Str.{bytes_eq}
use Rattle.std.proofs.lemmas.Bool.{false≢true}
use Rattle.pj_meaning.specs.Tree.{Text, Intrinsic, Expr, Exprs}
use Rattle.pj_meaning.specs.Tree as tree
use Rattle.pj_meaning.specs.Names.{base_name, base}
use Rattle.pj_meaning.specs.Values.{Value, Whole}
use Rattle.pj_meaning.specs.State.{State, FunctionName, role_of}
use Rattle.pj_meaning.specs.Methods.{Method, One, pick}
use Rattle.pj_meaning.specs.Lookup.{role_at, role_or}
use Rattle.pj_meaning.specs.Outcome.{Run, Outcome, Gives, Stops, Undefined, after}
use Rattle.pj_meaning.specs.Calls.{Enter, types_of, intrinsic, call_named}
use Rattle.pj_meaning.specs.Evaluation.{Frame, Locals, lookup, parameters, expr, exprs, in_body, enter_at}
use Rattle.pj_meaning.specs.Base.{base_types, base_methods, base_bindings}
use Rattle.pj_plain.specs.Names.{is_among}
use Rattle.pj_plain.specs.Plain.{plain_expr, is_operator}
use Rattle.pj_session.specs.Numbers.{Counted, applied, argument_of, charge, with_number, number_in}
use Rattle.pj_session.specs.States.{BaseLike, run}
use Rattle.pj_session.proofs.Texts.{same_text, bytes_eq-comm, and_left, and_right}
use Rattle.pj_session.proofs.Operations.{pick_add, pick_sub, pick_mul, operation}
use Rattle.pj_session.proofs.Entering.{named, called, stopped, entered}

-- what the evaluator computed, as an outcome of direct evaluation
abbrev pub lifted : State → Counted → Outcome Value
lifted s None = Stops (run s 0)
lifted s (Some p) = Gives (Whole p.0) (run s p.1)

-- parameters and their values

pub lookup_at : (ps : List Text) (zs : List ℤ) (x : Text) → is_among x ps ≡ true → length zs ≡ length ps
    → lookup (parameters ps (map Whole zs)) x ≡ Some (Whole (argument_of ps zs x))
lookup_at [] zs x among count = absurd (false≢true among)
lookup_at (p ∷ ps) [] x among count = absurd (omega (arith, count))
lookup_at (p ∷ ps) (z ∷ zs) x among count = here (bytes_eq p x) (bytes_eq-comm x p) (lookup_at ps zs x)
  where
    here : (t : Bool) → bytes_eq x p ≡ t → (is_among x ps ≡ true → length zs ≡ length ps → lookup (parameters ps (map Whole zs)) x ≡ Some (Whole (argument_of ps zs x)))
        → cond t (Some (Whole z)) (lookup (parameters ps (map Whole zs)) x) ≡ Some (Whole (cond t z (argument_of ps zs x)))
    here true e rest = refl
    here false e rest = rest (rw e at among) (omega (arith, count))

-- the budget never grows

left_is : {A : Type 0} (a x : A) (n most l : ℕ) → ◌≡◌ {A = Option (A × ℕ)} (Some (a, n)) (Some (x, l)) → n ≤ most → l ≤ most
left_is {A} a x n most l e below =
    let second : A × ℕ → ℕ = λ q. q.1 in
    let pair : ◌≡◌ {A = A × ℕ} (a, n) (x, l) = cc in
    omega (arith, ap second pair)

charge_falls : {A : Type 0} (left : ℕ) (a : ℕ → A) (x : A) (l : ℕ) → charge {A = A × ℕ} left (λ n. Some (a n, n)) ≡ Some (x, l) → l ≤ left
unfolding charge
charge_falls zero a x l e = cc
charge_falls (suc n) a x l e = left_is (a n) x n (suc n) l e (omega arith)

abbrev Falls : List Text → List ℤ → Expr → Type 0
Falls ps zs e = (left : ℕ) (z : ℤ) (l : ℕ) → number_in ps zs e left ≡ Some (z, l) → l ≤ left

pair_falls : (ps : List Text) (zs : List ℤ) (f : Text) (a b : Expr) → Falls ps zs a → Falls ps zs b → (left : ℕ) (z : ℤ) (l : ℕ)
    → with_number {A = ℤ × ℕ} (number_in ps zs a left) (λ x m. with_number (number_in ps zs b m) (λ y k. charge k (λ n. Some (applied f x y, n)))) ≡ Some (z, l) → l ≤ left
unfolding with_number
pair_falls ps zs f a b fa fb left z l e = first (number_in ps zs a left) refl e
  where
    second : (m : ℕ) (x : ℤ) (o : Counted) → number_in ps zs b m ≡ o → with_number {A = ℤ × ℕ} o (λ y k. charge k (λ n. Some (applied f x y, n))) ≡ Some (z, l) → m ≤ left → l ≤ left
    second m x None is e' below = cc
    second m x (Some r) is e' below =
        let f1 = fb m r.0 r.1 is in
        let f2 = charge_falls r.1 (λ _. applied f x r.0) z l e' in
        omega (arith, f1, f2, below)

    first : (o : Counted) → number_in ps zs a left ≡ o → with_number {A = ℤ × ℕ} o (λ x m. with_number (number_in ps zs b m) (λ y k. charge k (λ n. Some (applied f x y, n)))) ≡ Some (z, l) → l ≤ left
    first None is e' = cc
    first (Some r) is e' = second r.1 r.0 (number_in ps zs b r.1) refl e' (fa left r.0 r.1 is)

pub falls : (ps : List Text) (zs : List ℤ) (e : Expr) → Falls ps zs e
falls ps zs (tree.Int y) left z l e = left_is y z left left l e (omega arith)
falls ps zs (tree.Local x) left z l e = left_is (argument_of ps zs x) z left left l e (omega arith)
falls ps zs (tree.Call m f (tree.also a (tree.also b tree.none))) left z l e = pair_falls ps zs f a b (falls ps zs a) (falls ps zs b) left z l e
falls ps zs (tree.Call m f tree.none) left z l e = cc
falls ps zs (tree.Call m f (tree.also a tree.none)) left z l e = cc
falls ps zs (tree.Call m f (tree.also a (tree.also b (tree.also c es)))) left z l e = cc
falls ps zs tree.Nothing left z l e = cc
falls ps zs tree.False left z l e = cc
falls ps zs tree.True left z l e = cc
falls ps zs (tree.Str s) left z l e = cc
falls ps zs (tree.Global m x) left z l e = cc
falls ps zs (tree.Field a x) left z l e = cc
falls ps zs (tree.CallLocal x es) left z l e = cc
falls ps zs (tree.Latest a es) left z l e = cc
falls ps zs (tree.And a b) left z l e = cc
falls ps zs (tree.Or a b) left z l e = cc
falls ps zs (tree.Cond a b c) left z l e = cc
falls ps zs (tree.Same a b) left z l e = cc
falls ps zs (tree.Intrin i es) left z l e = cc

-- a call of `+`, `-` or `*` on two integers takes a charge and gives the wrapped number

module _ (s : State) (like : BaseLike s) (depth : ℕ) (shallow : nat_le 20000 depth ≡ false) (home : Text) where
  -- what a name of Base that is written with its module means
  pub means_base : (name : Text) → role_of base_bindings base_name name ≡ Some (FunctionName (base name)) → role_at s home base_name name ≡ Ok (FunctionName (base name))
  means_base name is = ap (λ o. role_or o (Undefined base_name name)) (like.roles name ∙ is)

  -- the types of two integers, or of any values, where there are no objects
  pub picks_base : (name : Text) (vs : List Value) (m : Method) → pick base_types base_methods 1 (base name) (types_of [] vs) ≡ One m
      → pick s.types s.methods s.newest (base name) (types_of s.objects vs) ≡ One m
  picks_base name vs m is =
      ap (λ objects. pick s.types s.methods s.newest (base name) (types_of objects vs)) like.objects
      ∙ like.picks name (types_of [] vs) ∙ is

  -- an operation of Base whose body is computed
  operates : (name : Text) (m : Method) (z : ℤ) (vs : List Value) (n left : ℕ) → left ≤ n
      → role_of base_bindings base_name name ≡ Some (FunctionName (base name))
      → pick base_types base_methods 1 (base name) (types_of [] vs) ≡ One m
      → ((enter : Enter) (fr : Frame) (r : Run) → in_body enter fr m.code vs r ≡ Gives (Whole z) r)
      → call_named (enter_at n) s.newest depth home base_name name vs (run s left) ≡ lifted s (charge left (λ k. Some (z, k)))
  unfolding charge
  operates name m z vs n zero fuel means picks gives =
      named (enter_at n) s.newest depth home base_name name vs (run s 0) (base name) (means_base name means)
      ∙ called (enter_at n) s.newest depth (base name) vs (run s 0) m (picks_base name vs m picks)
      ∙ stopped n s.newest depth m vs s
  operates name m z vs zero (suc left) fuel means picks gives = absurd (omega (arith, fuel))
  operates name m z vs (suc n) (suc left) fuel means picks gives =
      named (enter_at (suc n)) s.newest depth home base_name name vs (run s (suc left)) (base name) (means_base name means)
      ∙ called (enter_at (suc n)) s.newest depth (base name) vs (run s (suc left)) m (picks_base name vs m picks)
      ∙ entered n s.newest depth m vs s left shallow
      ∙ gives (enter_at n) (record { home = m.home; world = s.newest; depth = suc depth }) (run s left)

  computes : (i : Intrinsic) (name : Text) (x y z : ℤ) → ((r : Run) → intrinsic i (Whole x ∷ Whole y ∷ []) r ≡ Gives (Whole z) r)
      → (enter : Enter) (fr : Frame) (r : Run) → in_body enter fr (operation name i).code (Whole x ∷ Whole y ∷ []) r ≡ Gives (Whole z) r
  unfolding after
  computes i name x y z is enter fr r = rw (is r) refl

  abbrev Applies : Text → Type 0
  Applies f = (x y : ℤ) (n left : ℕ) → left ≤ n
      → call_named (enter_at n) s.newest depth home base_name f (Whole x ∷ Whole y ∷ []) (run s left)
      ≡ lifted s (charge left (λ k. Some (applied f x y, k)))

  adds : Applies (codes "+")
  adds x y n left fuel =
      operates (codes "+") (operation (codes "+") tree.Add) (applied (codes "+") x y) (Whole x ∷ Whole y ∷ []) n left fuel refl pick_add (computes tree.Add (codes "+") x y (applied (codes "+") x y) (λ r. refl))

  subtracts : Applies (codes "-")
  subtracts x y n left fuel =
      operates (codes "-") (operation (codes "-") tree.Sub) (applied (codes "-") x y) (Whole x ∷ Whole y ∷ []) n left fuel refl pick_sub (computes tree.Sub (codes "-") x y (applied (codes "-") x y) (λ r. refl))

  multiplies : Applies (codes "*")
  multiplies x y n left fuel =
      operates (codes "*") (operation (codes "*") tree.Mul) (applied (codes "*") x y) (Whole x ∷ Whole y ∷ []) n left fuel refl pick_mul (computes tree.Mul (codes "*") x y (applied (codes "*") x y) (λ r. refl))

  pub applies : (f : Text) → is_operator f ≡ true → Applies f
  applies f op = which (bytes_eq f (codes "+")) (bytes_eq f (codes "-")) refl refl op
    where
      which : (t u : Bool) → bytes_eq f (codes "+") ≡ t → bytes_eq f (codes "-") ≡ u → (t || (u || bytes_eq f (codes "*"))) ≡ true → Applies f
      which true u e d op' = rw (same_text f (codes "+") e) adds
      which false true e d op' = rw (same_text f (codes "-") d) subtracts
      which false false e d op' = rw (same_text f (codes "*") op') multiplies

  module _ (ps : List Text) (zs : List ℤ) (count : length zs ≡ length ps) where
    abbrev fr : Frame
    fr = record { home = home; world = s.newest; depth = depth }

    abbrev ls : Locals
    ls = parameters ps (map Whole zs)

    abbrev Evaluates : Expr → Type 0
    Evaluates e = (n left : ℕ) → left ≤ n → expr (enter_at n) fr ls e (run s left) ≡ lifted s (number_in ps zs e left)

    -- the second operand, and then the operation
    after_first : (n : ℕ) (f : Text) → is_operator f ≡ true → (b : Expr) (x : ℤ) (m : ℕ) → m ≤ n → Evaluates b
        → after (exprs (enter_at n) fr ls (Whole x ∷ []) (tree.also b tree.none) (run s m)) (λ vs q. call_named (enter_at n) s.newest depth home base_name f vs q)
        ≡ lifted s (with_number (number_in ps zs b m) (λ y k. charge k (λ j. Some (applied f x y, j))))
    unfolding after with_number
    after_first n f op b x m fuel then_b = rw (then_b n m fuel) (second (number_in ps zs b m) refl)
      where
        second : (o : Counted) → number_in ps zs b m ≡ o
            → after (after (lifted s o) (λ v q. Gives (Whole x ∷ v ∷ []) q)) (λ vs q. call_named (enter_at n) s.newest depth home base_name f vs q)
            ≡ lifted s (with_number o (λ y k. charge k (λ j. Some (applied f x y, j))))
        second None is = refl
        second (Some r) is = applies f op x r.0 n r.1 (let below = falls ps zs b m r.0 r.1 is in omega (arith, below, fuel))

    pair : (f : Text) → is_operator f ≡ true → (a b : Expr) → Evaluates a → Evaluates b → (n left : ℕ) → left ≤ n
        → expr (enter_at n) fr ls (tree.Call base_name f (tree.also a (tree.also b tree.none))) (run s left)
        ≡ lifted s (with_number (number_in ps zs a left) (λ x l. with_number (number_in ps zs b l) (λ y m. charge m (λ k. Some (applied f x y, k)))))
    unfolding after with_number
    pair f op a b then_a then_b n left fuel = rw (then_a n left fuel) (first (number_in ps zs a left) refl)
      where
        first : (o : Counted) → number_in ps zs a left ≡ o
            → after (after (lifted s o) (λ v q. exprs (enter_at n) fr ls (v ∷ []) (tree.also b tree.none) q)) (λ vs q. call_named (enter_at n) s.newest depth home base_name f vs q)
            ≡ lifted s (with_number o (λ x l. with_number (number_in ps zs b l) (λ y m. charge m (λ k. Some (applied f x y, k)))))
        first None is = refl
        first (Some r) is = after_first n f op b r.0 r.1 (let below = falls ps zs a left r.0 r.1 is in omega (arith, below, fuel)) then_b

    pub evaluates : (e : Expr) → plain_expr ps e ≡ true → Evaluates e
    evaluates (tree.Int z) plain n left fuel = refl
    evaluates (tree.Local x) plain n left fuel = rw (lookup_at ps zs x plain count) refl
    evaluates (tree.Call m f (tree.also a (tree.also b tree.none))) plain n left fuel =
        let inner = and_right (bytes_eq m (codes "Base")) _ plain in
        let both = and_right (is_operator f) _ inner in
        rw (same_text m (codes "Base") (and_left _ _ plain))
        (pair f (and_left (is_operator f) _ inner) a b
        (evaluates a (and_left (plain_expr ps a) _ both)) (evaluates b (and_right (plain_expr ps a) _ both)) n left fuel)
    evaluates (tree.Call m f tree.none) plain n left fuel = absurd (no_pair (bytes_eq m (codes "Base")) (is_operator f) plain)
      where
        no_pair : (t u : Bool) → (t && (u && false)) ≡ true → ⊥
        no_pair true true e = false≢true e
        no_pair true false e = false≢true e
        no_pair false u e = false≢true e
    evaluates (tree.Call m f (tree.also a tree.none)) plain n left fuel = absurd (no_pair (bytes_eq m (codes "Base")) (is_operator f) (plain_expr ps a) plain)
      where
        no_pair : (t u v : Bool) → (t && (u && (v && false))) ≡ true → ⊥
        no_pair true true true e = false≢true e
        no_pair true true false e = false≢true e
        no_pair true false v e = false≢true e
        no_pair false u v e = false≢true e
    evaluates (tree.Call m f (tree.also a (tree.also b (tree.also c es)))) plain n left fuel = absurd (no_pair (bytes_eq m (codes "Base")) (is_operator f) (plain_expr ps a) plain)
      where
        no_pair : (t u v : Bool) → (t && (u && (v && false))) ≡ true → ⊥
        no_pair true true true e = false≢true e
        no_pair true true false e = false≢true e
        no_pair true false v e = false≢true e
        no_pair false u v e = false≢true e
    evaluates tree.Nothing plain n left fuel = absurd (false≢true plain)
    evaluates tree.False plain n left fuel = absurd (false≢true plain)
    evaluates tree.True plain n left fuel = absurd (false≢true plain)
    evaluates (tree.Str t) plain n left fuel = absurd (false≢true plain)
    evaluates (tree.Global m x) plain n left fuel = absurd (false≢true plain)
    evaluates (tree.Field a x) plain n left fuel = absurd (false≢true plain)
    evaluates (tree.CallLocal x es) plain n left fuel = absurd (false≢true plain)
    evaluates (tree.Latest a es) plain n left fuel = absurd (false≢true plain)
    evaluates (tree.And a b) plain n left fuel = absurd (false≢true plain)
    evaluates (tree.Or a b) plain n left fuel = absurd (false≢true plain)
    evaluates (tree.Cond a b c) plain n left fuel = absurd (false≢true plain)
    evaluates (tree.Same a b) plain n left fuel = absurd (false≢true plain)
    evaluates (tree.Intrin i es) plain n left fuel = absurd (false≢true plain)
