-- A run stops only where no step is left, if there was as much fuel as steps.
use Rattle.std.proofs.Common.{◌≡◌, ℕ, zero, suc, ℤ, pos, ◌+ℤ◌, int_lt, ◌≤◌, ◌<◌, Bool, true, false, List, [], ◌∷◌, ◌++◌, Option, Some, None, Result, Ok, Err, refl, subst, arith}
use Rattle.pj_meaning.specs.Tree.{Text, Param, Expr, Exprs, Nothing, False, True, Int, Str, Local, Global, Field, Call, CallLocal, Latest, And, Or, Cond, Same, Intrin, none, also, Intrinsic, Add, Sub, Mul, Div, Rem, Neg, Less, LessEq, Not, Identical, Print, NewLine, Fail, Body, body, Block, end, step, Stmt, Payload, Define, SetBinding, Evaluate, SetLocal, SetGlobal, SetField, If, While, For, Break, Continue, Return, Eval}
use Rattle.pj_meaning.specs.Tree as tree
use Rattle.pj_meaning.specs.Names.{Id}
use Rattle.pj_meaning.specs.Types.{TypeRow, Form, Abstract, Immutable, Mutable, Builtin, row_of}
use Rattle.pj_meaning.specs.Methods.{Method, Pick, One, NoneMatch, Ambiguous, pick}
use Rattle.pj_meaning.specs.Values.{Value, Nil, Truth, Whole, String, Function, Object, Struct}
use Rattle.pj_meaning.specs.State.{State, Role, TypeName, FunctionName, Constant, Variable}
use Rattle.pj_meaning.specs.Outcome.{Error, Run, Outcome, Gives, Raises, Stops, after, charged, choose}
use Rattle.pj_meaning.specs.Lookup.{role_at}
use Rattle.pj_meaning.specs.Calls.{Enter, types_of, checked, changed, enter_picked, call_function, made, made_as, construct, call_value, call_role, call_sought, call_named, on_ints, on_one, negated, inverted, failed, identical, intrinsic}
use Rattle.pj_meaning.specs.Evaluation.{Frame, Locals, lookup, local_value, unset, parameters, on_truth, expr, exprs, Flow, Falls, Breaks, Continues, Returns, Went, turn, after_flow, while_turns, for_turns, on_bounds, defined, eval_home, eval_check, onward, stmt, block, payload, in_body, enter_at}
use Rattle.pj_meaning.specs.Laws.{a_run_stops_without_a_step}
use Rattle.pj_meaning.proofs.Growing.{Ends, checked_ends}
use Rattle.pj_meaning.proofs.GrowingCalls.{Steady, local_ends, expr_ends, exprs_end}
use Rattle.pj_meaning.proofs.GrowingStatements.{turn_ends, stmt_ends, block_ends, payload_ends, enter_ends}

abbrev IfStops : {A : Type 0} → Outcome A → Type 0
IfStops (Gives a q) = Unit {0}
IfStops (Raises e q) = Unit {0}
IfStops (Stops q) = q.left ≡ 0

record Dry {A : Type 0} (o : Outcome A) : Type 0 where
  dry : IfStops o

given : {A : Type 0} (a : A) (r : Run) → Dry (Gives a r)
given a r = record { dry = tt }

raised : {A : Type 0} (e : Error) (r : Run) → Dry {A = A} (Raises e r)
raised e r = record { dry = tt }

-- entering is dry where so few steps are left
abbrev Enters : ℕ → Enter → Type 0
Enters k enter = (w d : ℕ) (m : Method) (vs : List Value) (r : Run) → r.left ≤ k → Dry (enter w d m vs r)

after_dry : {A B : Type 0} (k : ℕ) (r : Run) (o : Outcome A) (f : A → Run → Outcome B) → Dry o → Ends r o → r.left ≤ k → ((a : A) (q : Run) → q.left ≤ k → Dry (f a q)) → Dry (after o f)
unfolding after
after_dry k r (Gives a q) f d e h n = n a q (let l : q.left ≤ r.left = e.goes.left in omega arith)
after_dry k r (Raises x q) f d e h n = raised x q
after_dry k r (Stops q) f d e h n = record { dry = d.dry }

charged_dry : {A : Type 0} (n : ℕ) (s : State) (f : Run → Outcome A) → ((q : Run) → q.left < n → Dry (f q)) → Dry (charged n s f)
unfolding charged
charged_dry zero s f h = record { dry = refl }
charged_dry (suc n) s f h = h (record { state = s; left = n }) (omega arith)

choose_dry : {A : Type 0} (b : Bool) (f g : Run → Outcome A) (r : Run) → Dry (f r) → Dry (g r) → Dry (choose b f g r)
unfolding choose
choose_dry true f g r h k = h
choose_dry false f g r h k = k

truth_dry : {A : Type 0} (v : Value) (f g : Run → Outcome A) (r : Run) → Dry (f r) → Dry (g r) → Dry (on_truth v f g r)
truth_dry (Truth b) f g r h k = choose_dry b f g r h k
truth_dry Nil f g r h k = raised _ r
truth_dry (Whole z) f g r h k = raised _ r
truth_dry (String s) f g r h k = raised _ r
truth_dry (Function t) f g r h k = raised _ r
truth_dry (Object o) f g r h k = raised _ r
truth_dry (Struct t vs) f g r h k = raised _ r

-- what enters nothing

checked_dry : {A : Type 0} (x : Result A Error) (r : Run) → Dry (checked x r)
checked_dry (Ok a) r = given a r
checked_dry (Err e) r = raised e r

changed_dry : {A : Type 0} (x : Result State Error) (a : A) (r : Run) → Dry (changed x a r)
changed_dry (Ok s) a r = given a _
changed_dry (Err e) a r = raised e r

defined_dry : (x : Result (State × Id) Error) (r : Run) → Dry (defined x r)
defined_dry (Ok (s, f)) r = given _ _
defined_dry (Err e) r = raised e r

local_dry : (v : Option Value) (x : Text) (r : Run) → Dry (local_value v x r)
local_dry None x r = raised _ r
local_dry (Some v) x r = given v r

made_dry : (form : Form) (t : Id) (vs : List Value) (r : Run) → Dry (made form t vs r)
made_dry Abstract t vs r = raised _ r
made_dry Builtin t vs r = raised _ r
made_dry Immutable t vs r = choose_dry _ _ _ r (given _ r) (raised _ r)
made_dry Mutable t vs r = given _ _

made_as_dry : (row : Option TypeRow) (t : Id) (vs : List Value) (r : Run) → Dry (made_as row t vs r)
made_as_dry None t vs r = raised _ r
made_as_dry (Some row) t vs r = choose_dry _ _ _ r (made_dry row.form t vs r) (raised _ r)

construct_dry : (t : Id) (vs : List Value) (r : Run) → Dry (construct t vs r)
unfolding construct
construct_dry t vs r = made_as_dry (row_of r.state.types t) t vs r

on_ints_dry : (f : ℤ → ℤ → Run → Outcome Value) → ((x y : ℤ) (r : Run) → Dry (f x y r)) → (vs : List Value) (r : Run) → Dry (on_ints f vs r)
on_ints_dry f h (Whole x ∷ Whole y ∷ vs) r = h x y r
on_ints_dry f h _ r = given Nil r

on_one_dry : (f : Value → Run → Outcome Value) → ((v : Value) (r : Run) → Dry (f v r)) → (vs : List Value) (r : Run) → Dry (on_one f vs r)
on_one_dry f h [] r = given Nil r
on_one_dry f h (v ∷ vs) r = h v r

negated_dry : (v : Value) (r : Run) → Dry (negated v r)
negated_dry (Whole x) r = given _ r
negated_dry _ r = given Nil r

inverted_dry : (v : Value) (r : Run) → Dry (inverted v r)
inverted_dry (Truth b) r = given _ r
inverted_dry _ r = given Nil r

failed_dry : (v : Value) (r : Run) → Dry (failed v r)
failed_dry (String s) r = raised _ r
failed_dry _ r = given Nil r

identical_dry : (vs : List Value) (r : Run) → Dry (identical vs r)
identical_dry [] r = given Nil r
identical_dry (v ∷ []) r = given Nil r
identical_dry (v ∷ w ∷ vs) r = given _ r

intrinsic_dry : (i : Intrinsic) (vs : List Value) (r : Run) → Dry (intrinsic i vs r)
intrinsic_dry Add vs r = on_ints_dry _ (λ x y q. given _ q) vs r
intrinsic_dry Sub vs r = on_ints_dry _ (λ x y q. given _ q) vs r
intrinsic_dry Mul vs r = on_ints_dry _ (λ x y q. given _ q) vs r
intrinsic_dry Div vs r = on_ints_dry _ (λ x y q. choose_dry _ _ _ q (raised _ q) (given _ q)) vs r
intrinsic_dry Rem vs r = on_ints_dry _ (λ x y q. choose_dry _ _ _ q (raised _ q) (given _ q)) vs r
intrinsic_dry Neg vs r = on_one_dry _ negated_dry vs r
intrinsic_dry Less vs r = on_ints_dry _ (λ x y q. given _ q) vs r
intrinsic_dry LessEq vs r = on_ints_dry _ (λ x y q. given _ q) vs r
intrinsic_dry Not vs r = on_one_dry _ inverted_dry vs r
intrinsic_dry Identical vs r = identical_dry vs r
intrinsic_dry Print vs r = on_one_dry _ (λ v q. given _ _) vs r
intrinsic_dry NewLine vs r = given _ _
intrinsic_dry Fail vs r = on_one_dry _ failed_dry vs r

-- calls

picked_dry : (p : Pick) (k : ℕ) (enter : Enter) → Enters k enter → (w d : ℕ) (f : Id) (vs : List Value) (r : Run) → r.left ≤ k → Dry (enter_picked p enter w d f vs r)
picked_dry (One m) k enter e w d f vs r h = e w d m vs r h
picked_dry NoneMatch k enter e w d f vs r h = raised _ r
picked_dry Ambiguous k enter e w d f vs r h = raised _ r

function_dry : (k : ℕ) (enter : Enter) → Enters k enter → (w d : ℕ) (f : Id) (vs : List Value) (r : Run) → r.left ≤ k → Dry (call_function enter w d f vs r)
unfolding call_function
function_dry k enter e w d f vs r h = picked_dry (pick r.state.types r.state.methods w f (types_of r.state.objects vs)) k enter e w d f vs r h

value_dry : (v : Value) (k : ℕ) (enter : Enter) → Enters k enter → (w d : ℕ) (vs : List Value) (r : Run) → r.left ≤ k → Dry (call_value enter w d v vs r)
value_dry (Function f) k enter e w d vs r h = function_dry k enter e w d f vs r h
value_dry Nil k enter e w d vs r h = raised _ r
value_dry (Truth t) k enter e w d vs r h = raised _ r
value_dry (Whole z) k enter e w d vs r h = raised _ r
value_dry (String s) k enter e w d vs r h = raised _ r
value_dry (Object o) k enter e w d vs r h = raised _ r
value_dry (Struct t us) k enter e w d vs r h = raised _ r

role_dry : (role : Role) (k : ℕ) (enter : Enter) → Enters k enter → (w d : ℕ) (vs : List Value) (r : Run) → r.left ≤ k → Dry (call_role role enter w d vs r)
role_dry (TypeName t) k enter e w d vs r h = construct_dry t vs r
role_dry (FunctionName f) k enter e w d vs r h = function_dry k enter e w d f vs r h
role_dry (Constant v) k enter e w d vs r h = value_dry v k enter e w d vs r h
role_dry (Variable v) k enter e w d vs r h = value_dry v k enter e w d vs r h

sought_dry : (x : Result Role Error) (k : ℕ) (enter : Enter) → Enters k enter → (w d : ℕ) (vs : List Value) (r : Run) → r.left ≤ k → Dry (call_sought x enter w d vs r)
sought_dry (Ok role) k enter e w d vs r h = role_dry role k enter e w d vs r h
sought_dry (Err x) k enter e w d vs r h = raised x r

named_dry : (k : ℕ) (enter : Enter) → Enters k enter → (w d : ℕ) (home m f : Text) (vs : List Value) (r : Run) → r.left ≤ k → Dry (call_named enter w d home m f vs r)
unfolding call_named
named_dry k enter e w d home m f vs r h = sought_dry (role_at r.state home m f) k enter e w d vs r h

-- expressions
mutual
  expr_dry : (k : ℕ) (a : Enter) → Enters k a → Steady a → (fr : Frame) (ls : Locals) (x : Expr) (r : Run) → r.left ≤ k → Dry (expr a fr ls x r)
  expr_dry k a e s fr ls Nothing r h = given _ r
  expr_dry k a e s fr ls False r h = given _ r
  expr_dry k a e s fr ls True r h = given _ r
  expr_dry k a e s fr ls (Int z) r h = given _ r
  expr_dry k a e s fr ls (Str t) r h = given _ r
  expr_dry k a e s fr ls (Local x) r h = local_dry (lookup ls x) x r
  expr_dry k a e s fr ls (Global m x) r h = checked_dry _ r
  expr_dry k a e s fr ls (Field x f) r h =
      after_dry k r _ _ (expr_dry k a e s fr ls x r h) (expr_ends a s fr ls x r) h (λ v q l. checked_dry _ q)
  expr_dry k a e s fr ls (Call m f xs) r h =
      after_dry k r _ _ (exprs_dry k a e s fr ls [] xs r h) (exprs_end a s fr ls [] xs r) h
      (λ vs q l. named_dry k a e fr.world fr.depth fr.home m f vs q l)
  expr_dry k a e s fr ls (CallLocal x xs) r h =
      after_dry k r _ _ (exprs_dry k a e s fr ls [] xs r h) (exprs_end a s fr ls [] xs r) h
      (λ vs q l. after_dry k q _ _ (local_dry (lookup ls x) x q) (local_ends (lookup ls x) x q) l (λ v p g. value_dry v k a e fr.world fr.depth vs p g))
  expr_dry k a e s fr ls (Latest x xs) r h =
      after_dry k r _ _ (expr_dry k a e s fr ls x r h) (expr_ends a s fr ls x r) h
      (λ v q l. after_dry k q _ _ (exprs_dry k a e s fr ls [] xs q l) (exprs_end a s fr ls [] xs q) l (λ vs p g. value_dry v k a e p.state.newest fr.depth vs p g))
  expr_dry k a e s fr ls (And x y) r h =
      after_dry k r _ _ (expr_dry k a e s fr ls x r h) (expr_ends a s fr ls x r) h
      (λ v q l. truth_dry v _ _ q (expr_dry k a e s fr ls y q l) (given _ q))
  expr_dry k a e s fr ls (Or x y) r h =
      after_dry k r _ _ (expr_dry k a e s fr ls x r h) (expr_ends a s fr ls x r) h
      (λ v q l. truth_dry v _ _ q (given _ q) (expr_dry k a e s fr ls y q l))
  expr_dry k a e s fr ls (Cond c x y) r h =
      after_dry k r _ _ (expr_dry k a e s fr ls c r h) (expr_ends a s fr ls c r) h
      (λ v q l. truth_dry v _ _ q (expr_dry k a e s fr ls x q l) (expr_dry k a e s fr ls y q l))
  expr_dry k a e s fr ls (Same x y) r h =
      after_dry k r _ _ (expr_dry k a e s fr ls x r h) (expr_ends a s fr ls x r) h
      (λ v q l. after_dry k q _ _ (expr_dry k a e s fr ls y q l) (expr_ends a s fr ls y q) l (λ w p g. given _ p))
  expr_dry k a e s fr ls (Intrin i xs) r h =
      after_dry k r _ _ (exprs_dry k a e s fr ls [] xs r h) (exprs_end a s fr ls [] xs r) h (λ vs q l. intrinsic_dry i vs q)

  exprs_dry : (k : ℕ) (a : Enter) → Enters k a → Steady a → (fr : Frame) (ls : Locals) (vs : List Value) (xs : Exprs) (r : Run) → r.left ≤ k → Dry (exprs a fr ls vs xs r)
  exprs_dry k a e s fr ls vs none r h = given vs r
  exprs_dry k a e s fr ls vs (also x xs) r h =
      after_dry k r _ _ (expr_dry k a e s fr ls x r h) (expr_ends a s fr ls x r) h
      (λ v q l. exprs_dry k a e s fr ls (vs ++ v ∷ []) xs q l)

-- loops, whose fuel is above what is left

turn_dry : (k : ℕ) (f : Locals → Run → Outcome Went) → ((ls : Locals) (r : Run) → r.left ≤ k → Dry (f ls r)) → ((ls : Locals) (r : Run) → Ends r (f ls r)) → (us ls : Locals) (r : Run) → r.left ≤ k → Dry (turn f us ls r)
turn_dry k f e s us ls r h = after_dry k r _ _ (e (us ++ ls) r h) (s (us ++ ls) r) h (λ w q l. given _ q)

flow_dry : (f : Locals → Run → Outcome Went) (flow : Flow) (ls : Locals) (r : Run) → Dry (f ls r) → Dry (after_flow f flow ls r)
flow_dry f (Falls v) ls r e = e
flow_dry f Continues ls r e = e
flow_dry f Breaks ls r e = given _ r
flow_dry f (Returns v) ls r e = given _ r

while_dry : (n k : ℕ) (c : Locals → Run → Outcome Value) (f : Locals → Run → Outcome Went) → ((ls : Locals) (r : Run) → r.left ≤ k → Dry (c ls r)) → ((ls : Locals) (r : Run) → r.left ≤ k → Dry (f ls r)) → ((ls : Locals) (r : Run) → Ends r (c ls r)) → ((ls : Locals) (r : Run) → Ends r (f ls r)) → (ls : Locals) (r : Run) → r.left ≤ k → r.left < n → Dry (while_turns n c f ls r)
unfolding while_turns
while_dry zero k c f dc df sc sf ls r h b = absurd (let no : ⊥ = omega arith in no)
while_dry (suc n) k c f dc df sc sf ls r h b =
    after_dry r.left r _ _ (dc ls r h) (sc ls r) (omega arith)
    (λ v q l. truth_dry v _ _ q
    (charged_dry q.left q.state _ (λ o t. let u : o.left ≤ k = omega arith in
    after_dry o.left o _ _ (df ls o u) (sf ls o) (omega arith)
    (λ w p g. flow_dry _ w.flow w.locals p (while_dry n k c f dc df sc sf w.locals p (omega arith) (omega arith)))))
    (given _ q))

for_dry : (n k : ℕ) (i last : ℤ) (f : ℤ → Locals → Run → Outcome Went) → ((j : ℤ) (ls : Locals) (r : Run) → r.left ≤ k → Dry (f j ls r)) → ((j : ℤ) (ls : Locals) (r : Run) → Ends r (f j ls r)) → (ls : Locals) (r : Run) → r.left ≤ k → r.left < n → Dry (for_turns n i last f ls r)
unfolding for_turns
for_dry zero k i last f df sf ls r h b = absurd (let no : ⊥ = omega arith in no)
for_dry (suc n) k i last f df sf ls r h b =
    choose_dry (int_lt last i) _ _ r (given _ r)
    (charged_dry r.left r.state _ (λ o t. let u : o.left ≤ k = omega arith in
    after_dry o.left o _ _ (df i ls o u) (sf i ls o) (omega arith)
    (λ w p g. flow_dry _ w.flow w.locals p (for_dry n k (i +ℤ pos 1) last f df sf w.locals p (omega arith) (omega arith)))))

bounds_dry : (v w : Value) (f : ℤ → ℤ → Run → Outcome Went) (r : Run) → ((x y : ℤ) → Dry (f x y r)) → Dry (on_bounds v w f r)
bounds_dry (Whole x) (Whole y) f r e = e x y
bounds_dry (Whole x) w f r e = raised _ r
bounds_dry v w f r e = raised _ r

onward_dry : (k : ℕ) (flow : Flow) (ls : Locals) (f : Value → Locals → Run → Outcome Went) (r : Run) → r.left ≤ k → ((v : Value) (us : Locals) (q : Run) → q.left ≤ k → Dry (f v us q)) → Dry (onward flow ls f r)
onward_dry k (Falls v) ls f r h e = e v ls r h
onward_dry k Breaks ls f r h e = given _ r
onward_dry k Continues ls f r h e = given _ r
onward_dry k (Returns v) ls f r h e = given _ r

-- statements
mutual
  stmt_dry : (k : ℕ) (a : Enter) → Enters k a → Steady a → (fr : Frame) (ls : Locals) (x : Stmt) (r : Run) → r.left ≤ k → Dry (stmt a fr ls x r)
  stmt_dry k a e s fr ls (tree.Value x) r h =
      after_dry k r _ _ (expr_dry k a e s fr ls x r h) (expr_ends a s fr ls x r) h (λ v q l. given _ q)
  stmt_dry k a e s fr ls (SetLocal y x) r h =
      after_dry k r _ _ (expr_dry k a e s fr ls x r h) (expr_ends a s fr ls x r) h (λ v q l. given _ q)
  stmt_dry k a e s fr ls (SetGlobal y x) r h =
      after_dry k r _ _ (expr_dry k a e s fr ls x r h) (expr_ends a s fr ls x r) h (λ v q l. changed_dry _ _ q)
  stmt_dry k a e s fr ls (SetField x y new) r h =
      after_dry k r _ _ (expr_dry k a e s fr ls x r h) (expr_ends a s fr ls x r) h
      (λ v q l. after_dry k q _ _ (expr_dry k a e s fr ls new q l) (expr_ends a s fr ls new q) l (λ w p g. changed_dry _ _ p))
  stmt_dry k a e s fr ls (If c x y) r h =
      after_dry k r _ _ (expr_dry k a e s fr ls c r h) (expr_ends a s fr ls c r) h
      (λ v q l. truth_dry v _ _ q (block_dry k a e s fr ls Nil x q l) (block_dry k a e s fr ls Nil y q l))
  stmt_dry k a e s fr ls (While us c inside) r h =
      while_dry (suc r.left) k _ _ (λ vs q l. expr_dry k a e s fr vs c q l)
      (turn_dry k _ (λ vs q l. block_dry k a e s fr vs Nil inside q l) (λ vs q. block_ends a s fr vs Nil inside q) (unset us))
      (λ vs q. expr_ends a s fr vs c q)
      (turn_ends _ (λ vs q. block_ends a s fr vs Nil inside q) (unset us)) ls r h (omega arith)
  stmt_dry k a e s fr ls (For x y z us inside) r h =
      after_dry k r _ _ (expr_dry k a e s fr ls y r h) (expr_ends a s fr ls y r) h
      (λ v q l. after_dry k q _ _ (expr_dry k a e s fr ls z q l) (expr_ends a s fr ls z q) l
      (λ w p g. bounds_dry v w _ p (λ i last. for_dry (suc p.left) k i last _
      (λ j. turn_dry k _ (λ vs n t. block_dry k a e s fr vs Nil inside n t) (λ vs n. block_ends a s fr vs Nil inside n) ((x, Some (Whole j)) ∷ unset us))
      (λ j. turn_ends _ (λ vs n. block_ends a s fr vs Nil inside n) ((x, Some (Whole j)) ∷ unset us)) ls p g (omega arith))))
  stmt_dry k a e s fr ls Break r h = given _ r
  stmt_dry k a e s fr ls Continue r h = given _ r
  stmt_dry k a e s fr ls (Return x) r h =
      after_dry k r _ _ (expr_dry k a e s fr ls x r h) (expr_ends a s fr ls x r) h (λ v q l. given _ q)
  stmt_dry k a e s fr ls (Eval m what) r h =
      after_dry k r _ _ (checked_dry (eval_check r.state (eval_home fr.home m)) r) (checked_ends (eval_check r.state (eval_home fr.home m)) r) h
      (λ home q l. after_dry k q _ _
      (payload_dry k a e s (record { home = home; world = q.state.newest; depth = fr.depth }) what q l)
      (payload_ends a s (record { home = home; world = q.state.newest; depth = fr.depth }) what q) l (λ v p g. given _ p))

  block_dry : (k : ℕ) (a : Enter) → Enters k a → Steady a → (fr : Frame) (ls : Locals) (v : Value) (x : Block) (r : Run) → r.left ≤ k → Dry (block a fr ls v x r)
  block_dry k a e s fr ls v end r h = given _ r
  block_dry k a e s fr ls v (step x xs) r h =
      after_dry k r _ _ (stmt_dry k a e s fr ls x r h) (stmt_ends a s fr ls x r) h
      (λ w q l. onward_dry k w.flow w.locals _ q l (λ u us p g. block_dry k a e s fr us u xs p g))

  payload_dry : (k : ℕ) (a : Enter) → Enters k a → Steady a → (fr : Frame) (what : Payload) (r : Run) → r.left ≤ k → Dry (payload a fr what r)
  payload_dry k a e s fr (Define m f ps code) r h = defined_dry _ r
  payload_dry k a e s fr (SetBinding y x) r h =
      after_dry k r _ _ (expr_dry k a e s fr [] x r h) (expr_ends a s fr [] x r) h (λ v q l. changed_dry _ _ q)
  payload_dry k a e s fr (Evaluate x) r h = expr_dry k a e s fr [] x r h

body_dry : (k : ℕ) (a : Enter) → Enters k a → Steady a → (fr : Frame) (code : Body) (vs : List Value) (r : Run) → r.left ≤ k → Dry (in_body a fr code vs r)
body_dry k a e s fr (body ps us code) vs r h =
    after_dry k r _ _ (block_dry k a e s fr (unset us ++ parameters ps vs) Nil code r h) (block_ends a s fr (unset us ++ parameters ps vs) Nil code r) h (λ w q l. given _ q)

enter_dry : (n w d : ℕ) (f : Method) (vs : List Value) (r : Run) → r.left ≤ n → Dry (enter_at n w d f vs r)
unfolding enter_at
enter_dry zero w d f vs r h = record { dry = omega arith }
enter_dry (suc n) w d f vs r h =
    charged_dry r.left r.state _
    (λ q l. choose_dry _ _ _ q (raised _ q)
    (body_dry q.left (enter_at n) (λ w' d' f' vs' p g. enter_dry n w' d' f' vs' p (omega arith)) (enter_ends n)
    (record { home = f.home; world = w; depth = suc d }) f.code vs q (omega arith)))

dry_at : {A : Type 0} (o : Outcome A) (q : Run) → Dry o → o ≡ Stops q → q.left ≡ 0
dry_at o q d e = subst IfStops e d.dry

pub stop_law : a_run_stops_without_a_step
stop_law n fr ls s r q h e = dry_at _ q (stmt_dry r.left (enter_at n) (λ w d f vs p l. enter_dry n w d f vs p (omega arith)) (enter_ends n) fr ls s r (omega arith)) e
