-- Direct evaluation of expressions, statements and bodies.
use Rattle.std.specs.Prelude.{ℕ, zero, suc, ℤ, pos, ◌+ℤ◌, int_lt, true, false, not, List, [], ◌∷◌, ◌++◌, ◌&&◌, Option, Some, None, Result, Ok, Err, nat_le, length, drop, if◌then◌else◌}
use Rattle.std.specs.Str.{bytes_eq}
use Rattle.pj_meaning.specs.Tree.{Text, Param, Body, body, Block, end, step}
use Rattle.pj_meaning.specs.Tree as tree
use Rattle.pj_meaning.specs.Names.{Id}
use Rattle.pj_meaning.specs.Values.{Value, Nil, Truth, Whole, String, Function, egal, type_of}
use Rattle.pj_meaning.specs.State.{State, is_loaded, is_building, with_method}
use Rattle.pj_meaning.specs.Outcome.{Error, LocalUndefined, StackOverflow, NonBoolean, RangeBound, Overwriting, ClosedModule, ModuleNotLoaded, Run, Outcome, Gives, Raises, Stops, after, charged, choose, in_state}
use Rattle.pj_meaning.specs.Lookup.{then_check, read_name, types_at, get_field, set_field, assign, Target, target_of, with_function, has_signature}
use Rattle.pj_meaning.specs.Calls.{Enter, checked, changed, call_value, call_named, intrinsic}

-- The module of the text, the world in which it runs, and how many entries are open.
pub record Frame : Type 0 where
  pub home : Text
  pub world : ℕ
  pub depth : ℕ

-- the innermost scope's names first, each with its value where it has one
abbrev pub Locals : Type 0
Locals = List (Text × Option Value)

abbrev pub lookup : Locals → Text → Option Value
lookup [] name = None
lookup (l ∷ ls) name = if bytes_eq l.0 name then l.1 else lookup ls name

abbrev pub with_local : Locals → Text → Value → Locals
with_local [] name v = []
with_local (l ∷ ls) name v = if bytes_eq l.0 name then (l.0, Some v) ∷ ls else l ∷ with_local ls name v

-- names without a value
abbrev pub unset : List Text → Locals
unset [] = []
unset (name ∷ names) = (name, None) ∷ unset names

abbrev pub parameters : List Text → List Value → Locals
parameters [] vs = []
parameters (p ∷ ps) [] = (p, None) ∷ parameters ps []
parameters (p ∷ ps) (v ∷ vs) = (p, Some v) ∷ parameters ps vs

abbrev pub local_value : Option Value → Text → Run → Outcome Value
local_value None name r = Raises (LocalUndefined name) r
local_value (Some v) name r = Gives v r

-- a condition has to be a Bool
abbrev pub on_truth : {A : Type 0} → Value → (Run → Outcome A) → (Run → Outcome A) → Run → Outcome A
on_truth (Truth b) yes_ no_ r = choose b yes_ no_ r
on_truth v yes_ no_ r = Raises (NonBoolean (type_of r.state.objects v)) r

-- Arguments are evaluated from left to right, and the callee is read after them.
abbrev mutual
  pub expr : Enter → Frame → Locals → tree.Expr → Run → Outcome Value
  expr enter fr ls tree.Nothing r = Gives Nil r
  expr enter fr ls tree.False r = Gives (Truth false) r
  expr enter fr ls tree.True r = Gives (Truth true) r
  expr enter fr ls (tree.Int z) r = Gives (Whole z) r
  expr enter fr ls (tree.Str s) r = Gives (String s) r
  expr enter fr ls (tree.Local x) r = local_value (lookup ls x) x r
  expr enter fr ls (tree.Global m x) r = checked (read_name r.state fr.home m x) r
  expr enter fr ls (tree.Field e x) r =
      after (expr enter fr ls e r) (λ v q. checked (get_field q.state v x) q)
  expr enter fr ls (tree.Call m f es) r =
      after (exprs enter fr ls [] es r) (λ vs q. call_named enter fr.world fr.depth fr.home m f vs q)
  expr enter fr ls (tree.CallLocal x es) r =
      after (exprs enter fr ls [] es r) (λ vs q. after (local_value (lookup ls x) x q) (λ v p. call_value enter fr.world fr.depth v vs p))
  expr enter fr ls (tree.Latest e es) r =
      after (expr enter fr ls e r) (λ v q. after (exprs enter fr ls [] es q) (λ vs p. call_value enter p.state.newest fr.depth v vs p))
  expr enter fr ls (tree.And a b) r =
      after (expr enter fr ls a r) (λ v q. on_truth v (expr enter fr ls b) (λ p. Gives (Truth false) p) q)
  expr enter fr ls (tree.Or a b) r =
      after (expr enter fr ls a r) (λ v q. on_truth v (λ p. Gives (Truth true) p) (expr enter fr ls b) q)
  expr enter fr ls (tree.Cond c a b) r =
      after (expr enter fr ls c r) (λ v q. on_truth v (expr enter fr ls a) (expr enter fr ls b) q)
  expr enter fr ls (tree.Same a b) r =
      after (expr enter fr ls a r) (λ v q. after (expr enter fr ls b q) (λ w p. Gives (Truth (egal v w)) p))
  expr enter fr ls (tree.Intrin i es) r =
      after (exprs enter fr ls [] es r) (λ vs q. intrinsic i vs q)

  -- the values so far, and then those of the expressions
  pub exprs : Enter → Frame → Locals → List Value → tree.Exprs → Run → Outcome (List Value)
  exprs enter fr ls vs tree.none r = Gives vs r
  exprs enter fr ls vs (tree.also e es) r =
      after (expr enter fr ls e r) (λ v q. exprs enter fr ls (vs ++ v ∷ []) es q)

-- how a statement goes on
pub data Flow : Type 0 where
  Falls : Value → Flow
  Breaks : Flow
  Continues : Flow
  Returns : Value → Flow

pub record Went : Type 0 where
  pub flow : Flow
  pub locals : Locals

abbrev pub falls : Value → Locals → Run → Outcome Went
falls v ls r = Gives (record { flow = Falls v; locals = ls }) r

-- Loops. A turn introduces its names without a value, and they are gone after it.

abbrev pub turn : (Locals → Run → Outcome Went) → Locals → Locals → Run → Outcome Went
turn inside introduced ls r =
    after (inside (introduced ++ ls) r) (λ w q. Gives (record { flow = w.flow; locals = drop (length introduced) w.locals }) q)

abbrev pub after_flow : (Locals → Run → Outcome Went) → Flow → Locals → Run → Outcome Went
after_flow again (Falls v) ls r = again ls r
after_flow again Continues ls r = again ls r
after_flow again Breaks ls r = falls Nil ls r
after_flow again (Returns v) ls r = Gives (record { flow = Returns v; locals = ls }) r

abbrev pub after_turn : (Locals → Run → Outcome Went) → Went → Run → Outcome Went
after_turn again w r = after_flow again w.flow w.locals r

-- a charge before each turn, after its condition; the number is one more than the charges that are left
unfoldable pub while_turns : ℕ → (Locals → Run → Outcome Value) → (Locals → Run → Outcome Went) → Locals → Run → Outcome Went
while_turns zero condition inside ls r = Stops r
while_turns (suc n) condition inside ls r =
    after (condition ls r) (λ v q. on_truth v
    (λ p. charged p.left p.state (λ o. after (inside ls o) (after_turn (while_turns n condition inside))))
    (falls Nil ls) q)

unfoldable pub for_turns : ℕ → ℤ → ℤ → (ℤ → Locals → Run → Outcome Went) → Locals → Run → Outcome Went
for_turns zero i last inside ls r = Stops r
for_turns (suc n) i last inside ls r =
    choose (int_lt last i) (falls Nil ls)
    (λ p. charged p.left p.state (λ o. after (inside i ls o) (after_turn (for_turns n (i +ℤ pos 1) last inside)))) r

-- the first bound is checked before the second
abbrev pub on_bounds : Value → Value → (ℤ → ℤ → Run → Outcome Went) → Run → Outcome Went
on_bounds (Whole a) (Whole b) next r = next a b r
on_bounds (Whole a) b next r = Raises (RangeBound (type_of r.state.objects b)) r
on_bounds a b next r = Raises (RangeBound (type_of r.state.objects a)) r

-- Definitions of methods, in a module.

abbrev pub added : State → Text → Target → List Id → Body → Result State Error
added s home target types code =
    if is_building s && has_signature s.methods target.fun types then Err (Overwriting target.fun types)
    else Ok (with_method (with_function s target) (λ birth. record { fun = target.fun; signature = types; code = code; home = home; birth = birth }))

abbrev pub defined : Result (State × Id) Error → Run → Outcome Value
defined (Ok (s, f)) r = Gives (Function f) (in_state r s)
defined (Err e) r = Raises e r

-- the function's name is checked first, then the parameters' types, then that no method is overwritten
abbrev pub define : Text → Text → Text → List Param → Body → Run → Outcome Value
define home qualifier name params code r =
    defined (then_check (target_of r.state home qualifier name) (λ target.
    then_check (types_at r.state home params) (λ types.
    then_check (added r.state home target types code) (λ s. Ok (s, target.fun))))) r

-- the module of an evaluation: the one that is written, or that of the text
abbrev pub eval_home : Text → Text → Text
eval_home home [] = home
eval_home home (c ∷ cs) = c ∷ cs

-- it has to be loaded, and to be the package that is built where one is
abbrev pub eval_check : State → Text → Result Text Error
eval_check s home =
    if is_loaded s home then (if is_building s && not (bytes_eq home s.here) then Err (ClosedModule home) else Ok home)
    else Err (ModuleNotLoaded home)

-- what follows a statement: the rest of the block, unless the flow leaves it
abbrev pub onward : Flow → Locals → (Value → Locals → Run → Outcome Went) → Run → Outcome Went
onward (Falls v) ls next r = next v ls r
onward Breaks ls next r = Gives (record { flow = Breaks; locals = ls }) r
onward Continues ls next r = Gives (record { flow = Continues; locals = ls }) r
onward (Returns v) ls next r = Gives (record { flow = Returns v; locals = ls }) r

abbrev mutual
  pub stmt : Enter → Frame → Locals → tree.Stmt → Run → Outcome Went
  stmt enter fr ls (tree.Value e) r = after (expr enter fr ls e r) (λ v q. falls v ls q)
  stmt enter fr ls (tree.SetLocal x e) r = after (expr enter fr ls e r) (λ v q. falls v (with_local ls x v) q)
  stmt enter fr ls (tree.SetGlobal x e) r =
      after (expr enter fr ls e r) (λ v q. changed (assign q.state fr.home x v) (record { flow = Falls v; locals = ls }) q)
  stmt enter fr ls (tree.SetField e x new) r =
      after (expr enter fr ls e r) (λ v q. after (expr enter fr ls new q) (λ w p. changed (set_field p.state v x w) (record { flow = Falls w; locals = ls }) p))
  stmt enter fr ls (tree.If c a b) r =
      after (expr enter fr ls c r) (λ v q. on_truth v (block enter fr ls Nil a) (block enter fr ls Nil b) q)
  stmt enter fr ls (tree.While introduced c inside) r =
      while_turns (suc r.left) (λ us q. expr enter fr us c q) (turn (λ us q. block enter fr us Nil inside q) (unset introduced)) ls r
  stmt enter fr ls (tree.For x a b introduced inside) r =
      after (expr enter fr ls a r) (λ v q. after (expr enter fr ls b q) (λ w p. on_bounds v w
      (λ i last o. for_turns (suc o.left) i last (λ k. turn (λ us n. block enter fr us Nil inside n) ((x, Some (Whole k)) ∷ unset introduced)) ls o) p))
  stmt enter fr ls tree.Break r = Gives (record { flow = Breaks; locals = ls }) r
  stmt enter fr ls tree.Continue r = Gives (record { flow = Continues; locals = ls }) r
  stmt enter fr ls (tree.Return e) r = after (expr enter fr ls e r) (λ v q. Gives (record { flow = Returns v; locals = ls }) q)
  stmt enter fr ls (tree.Eval m what) r =
      after (checked (eval_check r.state (eval_home fr.home m)) r) (λ home q.
      after (payload enter (record { home = home; world = q.state.newest; depth = fr.depth }) what q) (λ v p. falls v ls p))

  -- the value of a block is that of its last statement, and `nothing` where it is empty
  pub block : Enter → Frame → Locals → Value → Block → Run → Outcome Went
  block enter fr ls v end r = falls v ls r
  block enter fr ls v (step s b) r = after (stmt enter fr ls s r) (λ w q. onward w.flow w.locals (λ u us p. block enter fr us u b p) q)

  -- evaluated as at top level: it sees no locals
  pub payload : Enter → Frame → tree.Payload → Run → Outcome Value
  payload enter fr (tree.Define m f params code) r = define fr.home m f params code r
  payload enter fr (tree.SetBinding x e) r =
      after (expr enter fr [] e r) (λ v q. changed (assign q.state fr.home x v) v q)
  payload enter fr (tree.Evaluate e) r = expr enter fr [] e r

abbrev pub flow_value : Flow → Value
flow_value (Falls v) = v
flow_value (Returns v) = v
flow_value Breaks = Nil
flow_value Continues = Nil

-- a body over its arguments: what it returns, or its block's value; a parameter without a name hides no name
abbrev pub in_body : Enter → Frame → Body → List Value → Run → Outcome Value
in_body enter fr (body params introduced code) vs r =
    after (block enter fr (unset introduced ++ parameters params vs) Nil code r) (λ w q. Gives (flow_value w.flow) q)

abbrev pub most_open : ℕ
most_open = 20000

-- Entering a method: a charge, then the check that not too many entries are open, then its body at the same
-- world. The number bounds how deep this goes; what is left of the budget always suffices.
unfoldable pub enter_at : ℕ → Enter
enter_at zero world depth m vs r = Stops r
enter_at (suc n) world depth m vs r =
    charged r.left r.state (λ q. choose (nat_le most_open depth) (λ p. Raises StackOverflow p)
    (λ p. in_body (enter_at n) (record { home = m.home; world = world; depth = suc depth }) m.code vs p) q)
