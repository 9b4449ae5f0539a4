-- Calls with integers, and names that are read, after good events.
use Rattle.std.proofs.Common.{◌≡◌, ℕ, zero, suc, ◌≤◌, ℤ, true, false, List, [], ◌∷◌, ◌++◌, Result, Ok, Err, Option, Some, None, map, length, refl, sym, ap, ◌∙◌, arith, append_assoc}
use Rattle.std.specs.Str.{bytes_eq}
use Rattle.std.proofs.lemmas.Bool.{false≢true}
use Rattle.std.proofs.lemmas.List.{append-nil}
use Rattle.pj_meaning.specs.Tree.{Text, Expr, Exprs}
use Rattle.pj_meaning.specs.Tree as tree
use Rattle.pj_meaning.specs.Names.{Id, id, base_name, int_type}
use Rattle.pj_meaning.specs.Values.{Value, Whole}
use Rattle.pj_meaning.specs.Methods.{NoneMatch, pick}
use Rattle.pj_meaning.specs.State.{State, Role, TypeName, FunctionName, Constant, Variable}
use Rattle.pj_meaning.specs.Outcome.{Error, NoMethod, OfFunction, NotCallable, Undefined, Run, Gives, Raises, after}
use Rattle.pj_meaning.specs.Lookup.{role_at, named_home, then_check, value_of_role, read_name}
use Rattle.pj_meaning.specs.Calls.{Enter, checked, types_of, enter_picked, call_function, call_role, call_sought, call_named}
use Rattle.pj_meaning.specs.Evaluation.{Frame, Locals, expr, exprs, parameters, in_body, enter_at}
use Rattle.pj_meaning.specs.Content.{held_in}
use Rattle.pj_plain.specs.Plain.{literals_only}
use Rattle.pj_session.specs.Numbers.{Counted, charge, number_in}
use Rattle.pj_session.specs.States.{BaseLike, run}
use Rattle.pj_session.specs.Events.{Parts, ints, body_of, method_of, Event}
use Rattle.pj_session.specs.Things.{Thing, Calls, Holds, thing_in, method_for, PickAs}
use Rattle.pj_session.specs.Good.{Good, PlainParts}
use Rattle.pj_session.specs.Items.{got_number, got_value, got_ends, may_name, thing_at, entered, call_of, called_in, read_of, read_in, integers, is_asked, asked}
use Rattle.pj_session.proofs.Texts.{and_left, and_right}
use Rattle.pj_session.proofs.Entering.{named, called, stopped}
use Rattle.pj_session.proofs.Entering as entering
use Rattle.pj_session.proofs.Evaluates.{lifted, evaluates}
use Rattle.pj_session.proofs.Closed.{closed_state}
use Rattle.pj_session.proofs.Picks.{picks}
use Rattle.pj_session.proofs.Prints.{finished}
use Rattle.pj_session.proofs.Known.{like, RoleOr, PlainFor, named_at, not_base_home, thing_there, thing_plain, method_plain}

pub arguments_given : (enter : Enter) (fr : Frame) (ls : Locals) (vs : List Value) (es : Exprs) (r : Run) → literals_only es ≡ true → exprs enter fr ls vs es r ≡ Gives (vs ++ map Whole (integers es)) r
unfolding after
arguments_given enter fr ls vs tree.none r only = ap (λ us. Gives us r) (sym (append-nil vs))
arguments_given enter fr ls vs (tree.also (tree.Int z) es) r only =
    arguments_given enter fr ls (vs ++ Whole z ∷ []) es r only ∙ ap (λ us. Gives us r) (append_assoc vs (Whole z ∷ []) (map Whole (integers es)))
arguments_given enter fr ls vs (tree.also tree.Nothing es) r only = absurd (false≢true only)
arguments_given enter fr ls vs (tree.also tree.False es) r only = absurd (false≢true only)
arguments_given enter fr ls vs (tree.also tree.True es) r only = absurd (false≢true only)
arguments_given enter fr ls vs (tree.also (tree.Str t) es) r only = absurd (false≢true only)
arguments_given enter fr ls vs (tree.also (tree.Local x) es) r only = absurd (false≢true only)
arguments_given enter fr ls vs (tree.also (tree.Global m x) es) r only = absurd (false≢true only)
arguments_given enter fr ls vs (tree.also (tree.Field a x) es) r only = absurd (false≢true only)
arguments_given enter fr ls vs (tree.also (tree.Call m f as_) es) r only = absurd (false≢true only)
arguments_given enter fr ls vs (tree.also (tree.CallLocal x as_) es) r only = absurd (false≢true only)
arguments_given enter fr ls vs (tree.also (tree.Latest a as_) es) r only = absurd (false≢true only)
arguments_given enter fr ls vs (tree.also (tree.And a b) es) r only = absurd (false≢true only)
arguments_given enter fr ls vs (tree.also (tree.Or a b) es) r only = absurd (false≢true only)
arguments_given enter fr ls vs (tree.also (tree.Cond a b c) es) r only = absurd (false≢true only)
arguments_given enter fr ls vs (tree.also (tree.Same a b) es) r only = absurd (false≢true only)
arguments_given enter fr ls vs (tree.also (tree.Intrin i as_) es) r only = absurd (false≢true only)

pub types_are : (zs : List ℤ) → types_of [] (map Whole zs) ≡ ints (length zs)
types_are [] = refl
types_are (z ∷ zs) = ap (λ ts. int_type ∷ ts) (types_are zs)

-- a function's body over integers
pub body_gives : (s : State) → BaseLike s → (home : Text) (d : Parts) (zs : List ℤ) (n left : ℕ) → PlainParts d → length zs ≡ length d.0 → left ≤ n
    → in_body (enter_at n) (record { home = home; world = s.newest; depth = 1 }) (body_of d) (map Whole zs) (run s left) ≡ lifted s (number_in d.0 zs d.1 left)
unfolding after
body_gives s base_like home d zs n left plain count fuel =
    ap (finished (enter_at n) (record { home = home; world = s.newest; depth = 1 }) (parameters d.0 (map Whole zs)) tree.end)
    (evaluates s base_like 1 refl home d.0 zs count d.1 plain n left fuel)
    ∙ ends (number_in d.0 zs d.1 left)
  where
    ends : (o : Counted) → finished (enter_at n) (record { home = home; world = s.newest; depth = 1 }) (parameters d.0 (map Whole zs)) tree.end (lifted s o) ≡ lifted s o
    ends None = refl
    ends (Some p) = refl

pub as_got : (s : State) (o : Counted) → lifted s o ≡ got_ends s (got_value (got_number o))
as_got s None = refl
as_got s (Some p) = refl

-- a method that is entered at the top level
enters : (s : State) → BaseLike s → (home name : Text) (d : Parts) (birth : ℕ) (zs : List ℤ) (n left : ℕ) → PlainParts d → length zs ≡ length d.0 → left ≤ n
    → enter_at n s.newest 0 (method_of home name d birth) (map Whole zs) (run s left) ≡ got_ends s (got_value (got_number (charge left (number_in d.0 zs d.1))))
unfolding charge
enters s base_like home name d birth zs n zero plain count fuel = stopped n s.newest 0 (method_of home name d birth) (map Whole zs) s
enters s base_like home name d birth zs zero (suc left) plain count fuel = absurd (omega (arith, fuel))
enters s base_like home name d birth zs (suc n) (suc left) plain count fuel =
    entering.entered n s.newest 0 (method_of home name d birth) (map Whole zs) s left refl
    ∙ body_gives s base_like home d zs n left plain count (omega (arith, fuel))
    ∙ as_got s (number_in d.0 zs d.1 left)

not_matched : (enter : Enter) (world depth : ℕ) (f : Id) (vs : List Value) (r : Run) → pick r.state.types r.state.methods world f (types_of r.state.objects vs) ≡ NoneMatch
    → call_function enter world depth f vs r ≡ Raises (NoMethod (OfFunction f) (types_of r.state.objects vs)) r
unfolding call_function
not_matched enter world depth f vs r e = ap (λ p. enter_picked p enter world depth f vs r) e

sought : (enter : Enter) (world depth : ℕ) (home m name : Text) (vs : List Value) (r : Run) (role : Result Role Error) → role_at r.state home m name ≡ role
    → call_named enter world depth home m name vs r ≡ call_sought role enter world depth vs r
unfolding call_named
sought enter world depth home m name vs r role e = ap (λ found. call_sought found enter world depth vs r) e

-- a number isn't called
not_called : (role : Role) (z : ℤ) → held_in role ≡ Some (Whole z) → (enter : Enter) (world depth : ℕ) (vs : List Value) (r : Run)
    → call_role role enter world depth vs r ≡ Raises (NotCallable int_type) r
not_called (TypeName t) z is enter world depth vs r = cc
not_called (FunctionName f) z is enter world depth vs r = cc
not_called (Constant v) z is enter world depth vs r = let same : v ≡ Whole z = cc in rw same refl
not_called (Variable v) z is enter world depth vs r = let same : v ≡ Whole z = cc in rw same refl

-- and is read as itself
number_read : (role : Role) (z : ℤ) (e : Error) → held_in role ≡ Some (Whole z) → value_of_role role e ≡ Ok (Whole z)
number_read (TypeName t) z e is = cc
number_read (FunctionName f) z e is = cc
number_read (Constant v) z e is = let same : v ≡ Whole z = cc in ap Ok same
number_read (Variable v) z e is = let same : v ≡ Whole z = cc in ap Ok same

module _ (here : Text) (es : List Event) (printed : Text) (good : Good here es) where
  abbrev s : State
  s = closed_state here es printed

  pub function_called : (home name : Text) (zs : List ℤ) (n left : ℕ) → bytes_eq base_name home ≡ false → left ≤ n
      → call_function (enter_at n) s.newest 0 (id home name) (map Whole zs) (run s left)
      ≡ got_ends s (got_value (entered (method_for (length zs) (thing_in here es home name)) (id home name) zs left))
  function_called home name zs n left other fuel =
      one (method_for (length zs) (thing_in here es home name)) (picks here home name (length zs) es good.each other)
      (method_plain (length zs) (thing_in here es home name) (thing_plain here home name es good.each))
    where
      one : (o : Option Parts) → PickAs home name o (pick s.types s.methods s.newest (id home name) (ints (length zs))) → PlainFor (length zs) o
          → call_function (enter_at n) s.newest 0 (id home name) (map Whole zs) (run s left) ≡ got_ends s (got_value (entered o (id home name) zs left))
      one None picked plain =
          not_matched (enter_at n) s.newest 0 (id home name) (map Whole zs) (run s left) (ap (pick s.types s.methods s.newest (id home name)) (types_are zs) ∙ picked)
          ∙ ap (λ ts. Raises (NoMethod (OfFunction (id home name)) ts) (run s left)) (types_are zs)
      one (Some d) picked plain =
          called (enter_at n) s.newest 0 (id home name) (map Whole zs) (run s left) (method_of home name d picked.0) (ap (pick s.types s.methods s.newest (id home name)) (types_are zs) ∙ picked.1)
          ∙ enters s (like here es printed good) home name d picked.0 zs n left plain.0 plain.1 fuel

  pub name_called : (m name : Text) (zs : List ℤ) (n left : ℕ) → may_name m name ≡ true → left ≤ n
      → call_named (enter_at n) s.newest 0 here m name (map Whole zs) (run s left) ≡ got_ends s (got_value (called_in here es m name zs left))
  name_called m name zs n left may fuel = one (thing_at here es m name) refl (named_at here es printed good m name may)
    where
      one : (t : Result Thing Error) → thing_at here es m name ≡ t → RoleOr (named_home here m) name t (role_at s here m name)
          → call_named (enter_at n) s.newest 0 here m name (map Whole zs) (run s left) ≡ got_ends s (got_value (call_of t (id (named_home here m) name) zs left))
      one (Err e) is role = sought (enter_at n) s.newest 0 here m name (map Whole zs) (run s left) (Err e) role
      one (Ok (Holds z)) is role =
          sought (enter_at n) s.newest 0 here m name (map Whole zs) (run s left) (Ok role.0) role.1.0
          ∙ not_called role.0 z role.1.1 (enter_at n) s.newest 0 (map Whole zs) (run s left)
      one (Ok (Calls d)) is role =
          named (enter_at n) s.newest 0 here m name (map Whole zs) (run s left) (id (named_home here m) name) role
          ∙ function_called (named_home here m) name zs n left (not_base_home here m name good.home may) fuel
          ∙ ap (λ o. got_ends s (got_value (entered (method_for (length zs) o) (id (named_home here m) name) zs left))) (thing_there here es m name (Calls d) is)

  pub name_read : (m name : Text) (left : ℕ) → may_name m name ≡ true → checked (read_name s here m name) (run s left) ≡ got_ends s (read_in here es m name left)
  name_read m name left may = one (thing_at here es m name) (named_at here es printed good m name may)
    where
      one : (t : Result Thing Error) → RoleOr (named_home here m) name t (role_at s here m name)
          → checked (read_name s here m name) (run s left) ≡ got_ends s (read_of t (id (named_home here m) name) left)
      one (Err e) role = ap (λ r. checked (then_check r (λ role. value_of_role role (Undefined (named_home here m) name))) (run s left)) role
      one (Ok (Calls d)) role = ap (λ r. checked (then_check r (λ role. value_of_role role (Undefined (named_home here m) name))) (run s left)) role
      one (Ok (Holds z)) role =
          ap (λ r. checked (then_check r (λ role. value_of_role role (Undefined (named_home here m) name))) (run s left)) role.1.0
          ∙ ap (λ r. checked r (run s left)) (number_read role.0 z (Undefined (named_home here m) name) role.1.1)

  -- an expression that may be printed, at the top level
  pub asks : (e : Expr) (ls : Locals) (n left : ℕ) → is_asked e ≡ true → left ≤ n
      → expr (enter_at n) (record { home = here; world = s.newest; depth = 0 }) ls e (run s left) ≡ got_ends s (asked here es e left)
  unfolding after
  asks (tree.Call m f as_) ls n left is fuel =
      ap (λ o. after o (λ vs q. call_named (enter_at n) s.newest 0 here m f vs q))
      (arguments_given (enter_at n) (record { home = here; world = s.newest; depth = 0 }) ls [] as_ (run s left) (and_right (may_name m f) _ is))
      ∙ name_called m f (integers as_) n left (and_left (may_name m f) _ is) fuel
  asks (tree.Global m x) ls n left is fuel = name_read m x left is
  asks tree.Nothing ls n left is fuel = absurd (false≢true is)
  asks tree.False ls n left is fuel = absurd (false≢true is)
  asks tree.True ls n left is fuel = absurd (false≢true is)
  asks (tree.Int z) ls n left is fuel = absurd (false≢true is)
  asks (tree.Str t) ls n left is fuel = absurd (false≢true is)
  asks (tree.Local x) ls n left is fuel = absurd (false≢true is)
  asks (tree.Field a x) ls n left is fuel = absurd (false≢true is)
  asks (tree.CallLocal x as_) ls n left is fuel = absurd (false≢true is)
  asks (tree.Latest a as_) ls n left is fuel = absurd (false≢true is)
  asks (tree.And a b) ls n left is fuel = absurd (false≢true is)
  asks (tree.Or a b) ls n left is fuel = absurd (false≢true is)
  asks (tree.Cond a b c) ls n left is fuel = absurd (false≢true is)
  asks (tree.Same a b) ls n left is fuel = absurd (false≢true is)
  asks (tree.Intrin i as_) ls n left is fuel = absurd (false≢true is)
