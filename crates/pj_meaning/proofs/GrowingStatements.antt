-- Statements only add.
use Rattle.std.proofs.Common.{◌≡◌, ℕ, zero, suc, ℤ, pos, ◌+ℤ◌, int_lt, Bool, true, false, List, [], ◌∷◌, ◌++◌, Option, Some, None, Result, Ok, Err, refl, sym, append-nil, arith, if◌then◌else◌}
use Rattle.pj_meaning.specs.Tree.{Text, Param, Body, body, Block, end, step, Stmt, Payload, Define, SetBinding, Evaluate, SetLocal, SetGlobal, SetField, If, While, For, Break, Continue, Return, Eval}
use Rattle.pj_meaning.specs.Tree as tree
use Rattle.pj_meaning.specs.Names.{Id}
use Rattle.pj_meaning.specs.Types.{Field}
use Rattle.pj_meaning.specs.Methods.{Method}
use Rattle.pj_meaning.specs.Values.{Value, Nil, Truth, Whole, String, Function, Object, Struct}
use Rattle.pj_meaning.specs.State.{State, Role, TypeName, FunctionName, Constant, Variable, bound, reassigned, role_of, with_method}
use Rattle.pj_meaning.specs.Outcome.{Error, Run, Outcome}
use Rattle.pj_meaning.specs.Lookup.{then_check, assign, assigned, set_field, store, Target, target_of, types_at, with_function}
use Rattle.pj_meaning.specs.Calls.{Enter}
use Rattle.pj_meaning.specs.Evaluation.{Frame, Locals, unset, Flow, Falls, Breaks, Continues, Returns, Went, turn, after_flow, while_turns, for_turns, on_bounds, added, defined, define, eval_home, eval_check, onward, stmt, block, payload, in_body, enter_at}
use Rattle.pj_meaning.proofs.Keeping.{more_bindings, rebound_roles, stored_types}
use Rattle.pj_meaning.proofs.Growing.{Grows, kept, same, same_roles, same_objects, both, Ends, after_ends, charged_ends, choose_ends, gives, raises, stops, checked_ends, Changes, changed_ends, check_changes, either_changes}
use Rattle.pj_meaning.proofs.GrowingCalls.{Steady, truth_ends, expr_ends}

-- changes of the state

pub changes_to : (s t : State) → Grows s t → Changes s (Ok t)
changes_to s t g = record { if_ok = g }

pub no_change : (s : State) (e : Error) → Changes s (Err e)
no_change s e = record { if_ok = tt }

pub bound_grows : (s : State) (home name : Text) (role : Role) → Grows s (bound s home name role)
bound_grows s home name role =
    kept s (bound s home name role) refl refl refl refl refl refl (more_bindings s.bindings _) (same_objects s.objects)

assigned_changes : (role : Option Role) (s : State) (home name : Text) (v : Value) → role_of s.bindings home name ≡ role → Changes s (assigned role s home name v)
assigned_changes None s home name v e = changes_to s _ (bound_grows s home name (Variable v))
assigned_changes (Some (Variable old)) s home name v e =
    changes_to s _
    (kept s (reassigned s home name (Variable v)) refl refl refl refl refl refl (rebound_roles s.bindings home name v old e) (same_objects s.objects))
assigned_changes (Some (TypeName t)) s home name v e = no_change s _
assigned_changes (Some (FunctionName f)) s home name v e = no_change s _
assigned_changes (Some (Constant c)) s home name v e = no_change s _

pub assign_changes : (s : State) (home name : Text) (v : Value) → Changes s (assign s home name v)
assign_changes s home name v =
    either_changes s _ _ _ (no_change s _) (assigned_changes (role_of s.bindings home name) s home name v refl)

store_changes : (s : State) (v : Value) (f : Field) (new : Value) → Changes s (store s v f new)
store_changes s (Object o) f new = either_changes s _ _ _ (changes_to s _ (kept s _ refl refl refl refl refl refl (same_roles s.bindings) (stored_types s.objects o _))) (no_change s _)
store_changes s Nil f new = no_change s _
store_changes s (Truth b) f new = no_change s _
store_changes s (Whole z) f new = no_change s _
store_changes s (String t) f new = no_change s _
store_changes s (Function g) f new = no_change s _
store_changes s (Struct t vs) f new = no_change s _

field_changes : (s : State) (v : Value) (name : Text) (new : Value) → Changes s (set_field s v name new)
field_changes s v name new = check_changes s _ _ (λ f. store_changes s v f new)

-- definitions

either_grows : (s : State) (b : Bool) (t u : State) → Grows s t → Grows s u → Grows s (if b then t else u)
either_grows s true t u g h = g
either_grows s false t u g h = h

pub function_grows : (s : State) (target : Target) → Grows s (with_function s target)
function_grows s target = either_grows s target.is_new _ _ (bound_grows s target.fun.home target.fun.name (FunctionName target.fun)) (same s)

method_grows : (s : State) (born : ℕ → Method) → (born (suc s.newest)).birth ≡ suc s.newest → Grows s (with_method s born)
method_grows s born e = record {
  newest = omega arith;
  new_types = [];
  types = sym (append-nil s.types);
  new_methods = born (suc s.newest) ∷ [];
  methods = refl;
  born = (omega arith, omega arith, tt);
  here = refl;
  new_images = [];
  images = sym (append-nil s.images);
  text = [];
  printed = sym (append-nil s.printed);
  roles = same_roles s.bindings;
  objects = same_objects s.objects;
}

added_changes : (s : State) (home : Text) (target : Target) (types : List Id) (code : Body) → Changes s (added s home target types code)
added_changes s home target types code =
    either_changes s _ _ _ (no_change s _)
    (changes_to s _ (both s (with_function s target) _ (function_grows s target)
    (method_grows (with_function s target) (λ birth. record { fun = target.fun; signature = types; code = code; home = home; birth = birth }) refl)))

abbrev IfPair : State → Result (State × Id) Error → Type 0
IfPair s (Ok (t, f)) = Grows s t
IfPair s (Err e) = Unit {0}

record PairChanges (s : State) (x : Result (State × Id) Error) : Type 0 where
  if_ok : IfPair s x

with_id : (s : State) (f : Id) (x : Result State Error) → Changes s x → PairChanges s (then_check x (λ t. Ok (t, f)))
with_id s f (Ok t) c = record { if_ok = c.if_ok }
with_id s f (Err e) c = record { if_ok = tt }

check_pair : {A : Type 0} (s : State) (x : Result A Error) (next : A → Result (State × Id) Error) → ((a : A) → PairChanges s (next a)) → PairChanges s (then_check x next)
check_pair s (Ok a) next f = f a
check_pair s (Err e) next f = record { if_ok = tt }

defined_ends : (x : Result (State × Id) Error) (r : Run) → PairChanges r.state x → Ends r (defined x r)
defined_ends (Ok (t, f)) r c = record { goes = record { left = omega arith; state = c.if_ok } }
defined_ends (Err e) r c = raises e r

pub define_ends : (home m f : Text) (ps : List Param) (code : Body) (r : Run) → Ends r (define home m f ps code r)
define_ends home m f ps code r =
    defined_ends _ r
    (check_pair r.state (target_of r.state home m f) _
    (λ target. check_pair r.state (types_at r.state home ps) _
    (λ types. with_id r.state target.fun (added r.state home target types code) (added_changes r.state home target types code))))

-- loops

-- what a part of a statement does, whatever the locals
abbrev Steps : {A : Type 0} → (Locals → Run → Outcome A) → Type 0
Steps inside = (ls : Locals) (r : Run) → Ends r (inside ls r)

pub turn_ends : (inside : Locals → Run → Outcome Went) → ((ls : Locals) (r : Run) → Ends r (inside ls r)) → (us ls : Locals) (r : Run) → Ends r (turn inside us ls r)
turn_ends inside h us ls r = after_ends r _ _ (h (us ++ ls) r) (λ w q. gives _ q)

flow_ends : (again : Locals → Run → Outcome Went) → ((ls : Locals) (r : Run) → Ends r (again ls r)) → (flow : Flow) (ls : Locals) (r : Run) → Ends r (after_flow again flow ls r)
flow_ends again h (Falls v) ls r = h ls r
flow_ends again h Continues ls r = h ls r
flow_ends again h Breaks ls r = gives _ r
flow_ends again h (Returns v) ls r = gives _ r

while_ends : (n : ℕ) (c : Locals → Run → Outcome Value) (inside : Locals → Run → Outcome Went) → ((ls : Locals) (r : Run) → Ends r (c ls r)) → ((ls : Locals) (r : Run) → Ends r (inside ls r)) → (ls : Locals) (r : Run) → Ends r (while_turns n c inside ls r)
unfolding while_turns
while_ends zero c inside hc hi ls r = stops r
while_ends (suc n) c inside hc hi ls r =
    after_ends r _ _ (hc ls r) (λ v q. truth_ends v _ _ q
    (charged_ends q.left q.state _ (λ o. after_ends o _ _ (hi ls o) (λ w p. flow_ends (while_turns n c inside) (while_ends n c inside hc hi) w.flow w.locals p)))
    (gives _ q))

for_ends : (n : ℕ) (i last : ℤ) (inside : ℤ → Locals → Run → Outcome Went) → ((k : ℤ) (ls : Locals) (r : Run) → Ends r (inside k ls r)) → (ls : Locals) (r : Run) → Ends r (for_turns n i last inside ls r)
unfolding for_turns
for_ends zero i last inside h ls r = stops r
for_ends (suc n) i last inside h ls r =
    choose_ends (int_lt last i) _ _ r (gives _ r)
    (charged_ends r.left r.state _ (λ o. after_ends o _ _ (h i ls o) (λ w p. flow_ends (for_turns n (i +ℤ pos 1) last inside) (for_ends n (i +ℤ pos 1) last inside h) w.flow w.locals p)))

bounds_end : (a b : Value) (next : ℤ → ℤ → Run → Outcome Went) → ((x y : ℤ) (r : Run) → Ends r (next x y r)) → (r : Run) → Ends r (on_bounds a b next r)
bounds_end (Whole a) (Whole b) next h r = h a b r
bounds_end (Whole a) b next h r = raises _ r
bounds_end a b next h r = raises _ r

onward_ends : (flow : Flow) (ls : Locals) (next : Value → Locals → Run → Outcome Went) → ((v : Value) (us : Locals) (r : Run) → Ends r (next v us r)) → (r : Run) → Ends r (onward flow ls next r)
onward_ends (Falls v) ls next h r = h v ls r
onward_ends Breaks ls next h r = gives _ r
onward_ends Continues ls next h r = gives _ r
onward_ends (Returns v) ls next h r = gives _ r

mutual
  pub stmt_ends : (enter : Enter) → Steady enter → (fr : Frame) (ls : Locals) (s : Stmt) (r : Run) → Ends r (stmt enter fr ls s r)
  stmt_ends enter h fr ls (tree.Value e) r = after_ends r _ _ (expr_ends enter h fr ls e r) (λ v q. gives _ q)
  stmt_ends enter h fr ls (SetLocal x e) r = after_ends r _ _ (expr_ends enter h fr ls e r) (λ v q. gives _ q)
  stmt_ends enter h fr ls (SetGlobal x e) r =
      after_ends r _ _ (expr_ends enter h fr ls e r) (λ v q. changed_ends _ _ q (assign_changes q.state fr.home x v))
  stmt_ends enter h fr ls (SetField e x new) r =
      after_ends r _ _ (expr_ends enter h fr ls e r)
      (λ v q. after_ends q _ _ (expr_ends enter h fr ls new q) (λ w p. changed_ends _ _ p (field_changes p.state v x w)))
  stmt_ends enter h fr ls (If c a b) r =
      after_ends r _ _ (expr_ends enter h fr ls c r)
      (λ v q. truth_ends v _ _ q (block_ends enter h fr ls Nil a q) (block_ends enter h fr ls Nil b q))
  stmt_ends enter h fr ls (While us c inside) r =
      while_ends (suc r.left) _ _ (λ vs q. expr_ends enter h fr vs c q)
      (turn_ends _ (λ vs q. block_ends enter h fr vs Nil inside q) (unset us)) ls r
  stmt_ends enter h fr ls (For x a b us inside) r =
      after_ends r _ _ (expr_ends enter h fr ls a r)
      (λ v q. after_ends q _ _ (expr_ends enter h fr ls b q)
      (λ w p. bounds_end v w _ (λ i last o. for_ends (suc o.left) i last _
      (λ k. turn_ends _ (λ vs n. block_ends enter h fr vs Nil inside n) ((x, Some (Whole k)) ∷ unset us)) ls o) p))
  stmt_ends enter h fr ls Break r = gives _ r
  stmt_ends enter h fr ls Continue r = gives _ r
  stmt_ends enter h fr ls (Return e) r = after_ends r _ _ (expr_ends enter h fr ls e r) (λ v q. gives _ q)
  stmt_ends enter h fr ls (Eval m what) r =
      after_ends r _ _ (checked_ends (eval_check r.state (eval_home fr.home m)) r)
      (λ home q. after_ends q _ _ (payload_ends enter h (record { home = home; world = q.state.newest; depth = fr.depth }) what q) (λ v p. gives _ p))

  pub block_ends : (enter : Enter) → Steady enter → (fr : Frame) (ls : Locals) (v : Value) (b : Block) (r : Run) → Ends r (block enter fr ls v b r)
  block_ends enter h fr ls v end r = gives _ r
  block_ends enter h fr ls v (step s b) r =
      after_ends r _ _ (stmt_ends enter h fr ls s r)
      (λ w q. onward_ends w.flow w.locals _ (λ u us p. block_ends enter h fr us u b p) q)

  pub payload_ends : (enter : Enter) → Steady enter → (fr : Frame) (what : Payload) (r : Run) → Ends r (payload enter fr what r)
  payload_ends enter h fr (Define m f ps code) r = define_ends fr.home m f ps code r
  payload_ends enter h fr (SetBinding x e) r =
      after_ends r _ _ (expr_ends enter h fr [] e r) (λ v q. changed_ends _ _ q (assign_changes q.state fr.home x v))
  payload_ends enter h fr (Evaluate e) r = expr_ends enter h fr [] e r

body_ends : (enter : Enter) → Steady enter → (fr : Frame) (code : Body) (vs : List Value) (r : Run) → Ends r (in_body enter fr code vs r)
body_ends enter h fr (body ps us code) vs r = after_ends r _ _ (block_ends enter h fr _ Nil code r) (λ w q. gives _ q)

pub enter_ends : (n : ℕ) → Steady (enter_at n)
unfolding enter_at
enter_ends zero w d m vs r = stops r
enter_ends (suc n) w d m vs r =
    charged_ends r.left r.state _
    (λ q. choose_ends _ _ _ q (raises _ q)
    (body_ends (enter_at n) (enter_ends n) (record { home = m.home; world = w; depth = suc d }) m.code vs q))
