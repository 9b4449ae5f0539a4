-- More fuel changes nothing: two ways to enter that agree on runs with few steps left evaluate alike there.
use Rattle.std.proofs.Common.{◌≡◌, ℕ, zero, suc, ℤ, pos, ◌+ℤ◌, int_lt, ◌≤◌, ◌<◌, Bool, true, false, List, [], ◌∷◌, ◌++◌, Some, Result, Ok, Err, refl, sym, ap, ◌∙◌, arith}
use Rattle.pj_meaning.specs.Tree.{Text, Expr, Exprs, Nothing, False, True, Int, Str, Local, Global, Field, Call, CallLocal, Latest, And, Or, Cond, Same, Intrin, none, also, Body, body, Block, end, step, Stmt, Payload, Define, SetBinding, Evaluate, SetLocal, SetGlobal, SetField, If, While, For, Break, Continue, Return, Eval}
use Rattle.pj_meaning.specs.Tree as tree
use Rattle.pj_meaning.specs.Names.{Id}
use Rattle.pj_meaning.specs.Methods.{Method, Pick, One, NoneMatch, Ambiguous, pick}
use Rattle.pj_meaning.specs.Values.{Value, Nil, Truth, Whole, String, Function, Object, Struct}
use Rattle.pj_meaning.specs.State.{State, Role, TypeName, FunctionName, Constant, Variable}
use Rattle.pj_meaning.specs.Outcome.{Error, Run, Outcome, Gives, Raises, Stops, after, charged, choose}
use Rattle.pj_meaning.specs.Lookup.{role_at}
use Rattle.pj_meaning.specs.Calls.{Enter, types_of, checked, enter_picked, call_function, call_value, call_role, call_sought, call_named}
use Rattle.pj_meaning.specs.Evaluation.{Frame, Locals, lookup, local_value, unset, parameters, on_truth, expr, exprs, Flow, Falls, Breaks, Continues, Returns, Went, turn, after_flow, while_turns, for_turns, on_bounds, eval_home, eval_check, onward, stmt, block, payload, in_body, enter_at}
use Rattle.pj_meaning.specs.Laws.{more_fuel_changes_nothing}
use Rattle.pj_meaning.proofs.Growing.{Ends, checked_ends}
use Rattle.pj_meaning.proofs.GrowingCalls.{Steady, local_ends, expr_ends, exprs_end}
use Rattle.pj_meaning.proofs.GrowingStatements.{turn_ends, stmt_ends, block_ends, payload_ends, enter_ends}

-- they agree on runs with so few steps left
abbrev pub Agree : ℕ → Enter → Enter → Type 0
Agree k a b = (w d : ℕ) (m : Method) (vs : List Value) (r : Run) → r.left ≤ k → a w d m vs r ≡ b w d m vs r

-- combinators

after_same : {A B : Type 0} (k : ℕ) (r : Run) (o : Outcome A) (f g : A → Run → Outcome B) → Ends r o → r.left ≤ k → ((a : A) (q : Run) → q.left ≤ k → f a q ≡ g a q) → after o f ≡ after o g
unfolding after
after_same k r (Gives a q) f g e h n = n a q (let l : q.left ≤ r.left = e.goes.left in omega arith)
after_same k r (Raises x q) f g e h n = refl
after_same k r (Stops q) f g e h n = refl

pub after_alike : {A B : Type 0} (k : ℕ) (r : Run) (o p : Outcome A) (f g : A → Run → Outcome B) → o ≡ p → Ends r o → r.left ≤ k → ((a : A) (q : Run) → q.left ≤ k → f a q ≡ g a q) → after o f ≡ after p g
after_alike k r o p f g e ends h n = after_same k r o f g ends h n ∙ ap (λ x. after x g) e

pub charged_alike : {A : Type 0} (n : ℕ) (s : State) (f g : Run → Outcome A) → ((q : Run) → q.left < n → f q ≡ g q) → charged n s f ≡ charged n s g
unfolding charged
charged_alike zero s f g h = refl
charged_alike (suc n) s f g h = h (record { state = s; left = n }) (omega arith)

pub choose_alike : {A : Type 0} (b : Bool) (f g f' g' : Run → A) (r : Run) → f r ≡ f' r → g r ≡ g' r → choose b f g r ≡ choose b f' g' r
unfolding choose
choose_alike true f g f' g' r h k = h
choose_alike false f g f' g' r h k = k

pub truth_alike : {A : Type 0} (v : Value) (f g f' g' : Run → Outcome A) (r : Run) → f r ≡ f' r → g r ≡ g' r → on_truth v f g r ≡ on_truth v f' g' r
truth_alike (Truth b) f g f' g' r h k = choose_alike b f g f' g' r h k
truth_alike Nil f g f' g' r h k = refl
truth_alike (Whole z) f g f' g' r h k = refl
truth_alike (String s) f g f' g' r h k = refl
truth_alike (Function t) f g f' g' r h k = refl
truth_alike (Object o) f g f' g' r h k = refl
truth_alike (Struct t vs) f g f' g' r h k = refl

-- calls

picked_alike : (p : Pick) (k : ℕ) (a b : Enter) → Agree k a b → (w d : ℕ) (f : Id) (vs : List Value) (r : Run) → r.left ≤ k → enter_picked p a w d f vs r ≡ enter_picked p b w d f vs r
picked_alike (One m) k a b e w d f vs r h = e w d m vs r h
picked_alike NoneMatch k a b e w d f vs r h = refl
picked_alike Ambiguous k a b e w d f vs r h = refl

pub function_alike : (k : ℕ) (a b : Enter) → Agree k a b → (w d : ℕ) (f : Id) (vs : List Value) (r : Run) → r.left ≤ k → call_function a w d f vs r ≡ call_function b w d f vs r
unfolding call_function
function_alike k a b e w d f vs r h = picked_alike (pick r.state.types r.state.methods w f (types_of r.state.objects vs)) k a b e w d f vs r h

pub value_alike : (v : Value) (k : ℕ) (a b : Enter) → Agree k a b → (w d : ℕ) (vs : List Value) (r : Run) → r.left ≤ k → call_value a w d v vs r ≡ call_value b w d v vs r
value_alike (Function f) k a b e w d vs r h = function_alike k a b e w d f vs r h
value_alike Nil k a b e w d vs r h = refl
value_alike (Truth t) k a b e w d vs r h = refl
value_alike (Whole z) k a b e w d vs r h = refl
value_alike (String s) k a b e w d vs r h = refl
value_alike (Object o) k a b e w d vs r h = refl
value_alike (Struct t us) k a b e w d vs r h = refl

role_alike : (role : Role) (k : ℕ) (a b : Enter) → Agree k a b → (w d : ℕ) (vs : List Value) (r : Run) → r.left ≤ k → call_role role a w d vs r ≡ call_role role b w d vs r
role_alike (TypeName t) k a b e w d vs r h = refl
role_alike (FunctionName f) k a b e w d vs r h = function_alike k a b e w d f vs r h
role_alike (Constant v) k a b e w d vs r h = value_alike v k a b e w d vs r h
role_alike (Variable v) k a b e w d vs r h = value_alike v k a b e w d vs r h

sought_alike : (x : Result Role Error) (k : ℕ) (a b : Enter) → Agree k a b → (w d : ℕ) (vs : List Value) (r : Run) → r.left ≤ k → call_sought x a w d vs r ≡ call_sought x b w d vs r
sought_alike (Ok role) k a b e w d vs r h = role_alike role k a b e w d vs r h
sought_alike (Err x) k a b e w d vs r h = refl

pub named_alike : (k : ℕ) (a b : Enter) → Agree k a b → (w d : ℕ) (home m f : Text) (vs : List Value) (r : Run) → r.left ≤ k → call_named a w d home m f vs r ≡ call_named b w d home m f vs r
unfolding call_named
named_alike k a b e w d home m f vs r h = sought_alike (role_at r.state home m f) k a b e w d vs r h

-- Expressions. The ways to enter are a and b, and a only goes on.
mutual
  pub expr_alike : (k : ℕ) (a b : Enter) → Agree k a b → Steady a → (fr : Frame) (ls : Locals) (x : Expr) (r : Run) → r.left ≤ k → expr a fr ls x r ≡ expr b fr ls x r
  expr_alike k a b e s fr ls Nothing r h = refl
  expr_alike k a b e s fr ls False r h = refl
  expr_alike k a b e s fr ls True r h = refl
  expr_alike k a b e s fr ls (Int z) r h = refl
  expr_alike k a b e s fr ls (Str t) r h = refl
  expr_alike k a b e s fr ls (Local x) r h = refl
  expr_alike k a b e s fr ls (Global m x) r h = refl
  expr_alike k a b e s fr ls (Field x f) r h =
      after_alike k r _ _ _ _ (expr_alike k a b e s fr ls x r h) (expr_ends a s fr ls x r) h (λ v q l. refl)
  expr_alike k a b e s fr ls (Call m f xs) r h =
      after_alike k r _ _ _ _ (exprs_alike k a b e s fr ls [] xs r h) (exprs_end a s fr ls [] xs r) h
      (λ vs q l. named_alike k a b e fr.world fr.depth fr.home m f vs q l)
  expr_alike k a b e s fr ls (CallLocal x xs) r h =
      after_alike k r _ _ _ _ (exprs_alike k a b e s fr ls [] xs r h) (exprs_end a s fr ls [] xs r) h
      (λ vs q l. after_alike k q (local_value (lookup ls x) x q) _ _ _ refl (local_ends (lookup ls x) x q) l (λ v p g. value_alike v k a b e fr.world fr.depth vs p g))
  expr_alike k a b e s fr ls (Latest x xs) r h =
      after_alike k r _ _ _ _ (expr_alike k a b e s fr ls x r h) (expr_ends a s fr ls x r) h
      (λ v q l. after_alike k q _ _ _ _ (exprs_alike k a b e s fr ls [] xs q l) (exprs_end a s fr ls [] xs q) l (λ vs p g. value_alike v k a b e p.state.newest fr.depth vs p g))
  expr_alike k a b e s fr ls (And x y) r h =
      after_alike k r _ _ _ _ (expr_alike k a b e s fr ls x r h) (expr_ends a s fr ls x r) h
      (λ v q l. truth_alike v _ _ _ _ q (expr_alike k a b e s fr ls y q l) refl)
  expr_alike k a b e s fr ls (Or x y) r h =
      after_alike k r _ _ _ _ (expr_alike k a b e s fr ls x r h) (expr_ends a s fr ls x r) h
      (λ v q l. truth_alike v _ _ _ _ q refl (expr_alike k a b e s fr ls y q l))
  expr_alike k a b e s fr ls (Cond c x y) r h =
      after_alike k r _ _ _ _ (expr_alike k a b e s fr ls c r h) (expr_ends a s fr ls c r) h
      (λ v q l. truth_alike v _ _ _ _ q (expr_alike k a b e s fr ls x q l) (expr_alike k a b e s fr ls y q l))
  expr_alike k a b e s fr ls (Same x y) r h =
      after_alike k r _ _ _ _ (expr_alike k a b e s fr ls x r h) (expr_ends a s fr ls x r) h
      (λ v q l. after_alike k q _ _ _ _ (expr_alike k a b e s fr ls y q l) (expr_ends a s fr ls y q) l (λ w p g. refl))
  expr_alike k a b e s fr ls (Intrin i xs) r h =
      after_alike k r _ _ _ _ (exprs_alike k a b e s fr ls [] xs r h) (exprs_end a s fr ls [] xs r) h (λ vs q l. refl)

  pub exprs_alike : (k : ℕ) (a b : Enter) → Agree k a b → Steady a → (fr : Frame) (ls : Locals) (vs : List Value) (xs : Exprs) (r : Run) → r.left ≤ k → exprs a fr ls vs xs r ≡ exprs b fr ls vs xs r
  exprs_alike k a b e s fr ls vs none r h = refl
  exprs_alike k a b e s fr ls vs (also x xs) r h =
      after_alike k r _ _ _ _ (expr_alike k a b e s fr ls x r h) (expr_ends a s fr ls x r) h
      (λ v q l. exprs_alike k a b e s fr ls (vs ++ v ∷ []) xs q l)

-- loops

pub turn_alike : (k : ℕ) (f g : Locals → Run → Outcome Went) → ((ls : Locals) (r : Run) → r.left ≤ k → f ls r ≡ g ls r) → ((ls : Locals) (r : Run) → Ends r (f ls r)) → (us ls : Locals) (r : Run) → r.left ≤ k → turn f us ls r ≡ turn g us ls r
turn_alike k f g e s us ls r h = after_alike k r _ _ _ _ (e (us ++ ls) r h) (s (us ++ ls) r) h (λ w q l. refl)

pub flow_alike : (k : ℕ) (f g : Locals → Run → Outcome Went) → ((ls : Locals) (r : Run) → r.left ≤ k → f ls r ≡ g ls r) → (flow : Flow) (ls : Locals) (r : Run) → r.left ≤ k → after_flow f flow ls r ≡ after_flow g flow ls r
flow_alike k f g e (Falls v) ls r h = e ls r h
flow_alike k f g e Continues ls r h = e ls r h
flow_alike k f g e Breaks ls r h = refl
flow_alike k f g e (Returns v) ls r h = refl

pub while_alike : (n k : ℕ) (c c' : Locals → Run → Outcome Value) (f g : Locals → Run → Outcome Went) → ((ls : Locals) (r : Run) → r.left ≤ k → c ls r ≡ c' ls r) → ((ls : Locals) (r : Run) → r.left ≤ k → f ls r ≡ g ls r) → ((ls : Locals) (r : Run) → Ends r (c ls r)) → ((ls : Locals) (r : Run) → Ends r (f ls r)) → (ls : Locals) (r : Run) → r.left ≤ k → while_turns n c f ls r ≡ while_turns n c' g ls r
unfolding while_turns
while_alike zero k c c' f g ec ef sc sf ls r h = refl
while_alike (suc n) k c c' f g ec ef sc sf ls r h =
    after_alike k r _ _ _ _ (ec ls r h) (sc ls r) h
    (λ v q l. truth_alike v _ _ _ _ q
    (charged_alike q.left q.state _ _ (λ o b. let u : o.left ≤ k = omega arith in
    after_alike k o _ _ _ _ (ef ls o u) (sf ls o) u (λ w p g'. flow_alike k _ _ (λ us t i. while_alike n k c c' f g ec ef sc sf us t i) w.flow w.locals p g')))
    refl)

pub for_alike : (n k : ℕ) (i last : ℤ) (f g : ℤ → Locals → Run → Outcome Went) → ((j : ℤ) (ls : Locals) (r : Run) → r.left ≤ k → f j ls r ≡ g j ls r) → ((j : ℤ) (ls : Locals) (r : Run) → Ends r (f j ls r)) → (ls : Locals) (r : Run) → r.left ≤ k → for_turns n i last f ls r ≡ for_turns n i last g ls r
unfolding for_turns
for_alike zero k i last f g ef sf ls r h = refl
for_alike (suc n) k i last f g ef sf ls r h =
    choose_alike (int_lt last i) _ _ _ _ r refl
    (charged_alike r.left r.state _ _ (λ o b. let u : o.left ≤ k = omega arith in
    after_alike k o _ _ _ _ (ef i ls o u) (sf i ls o) u (λ w p g'. flow_alike k _ _ (λ us t j. for_alike n k (i +ℤ pos 1) last f g ef sf us t j) w.flow w.locals p g')))

pub bounds_alike : (v w : Value) (f g : ℤ → ℤ → Run → Outcome Went) (r : Run) → ((x y : ℤ) → f x y r ≡ g x y r) → on_bounds v w f r ≡ on_bounds v w g r
bounds_alike (Whole x) (Whole y) f g r e = e x y
bounds_alike (Whole x) w f g r e = refl
bounds_alike v w f g r e = refl

pub onward_alike : (k : ℕ) (flow : Flow) (ls : Locals) (f g : Value → Locals → Run → Outcome Went) (r : Run) → r.left ≤ k → ((v : Value) (us : Locals) (q : Run) → q.left ≤ k → f v us q ≡ g v us q) → onward flow ls f r ≡ onward flow ls g r
onward_alike k (Falls v) ls f g r h e = e v ls r h
onward_alike k Breaks ls f g r h e = refl
onward_alike k Continues ls f g r h e = refl
onward_alike k (Returns v) ls f g r h e = refl

-- statements
mutual
  pub stmt_alike : (k : ℕ) (a b : Enter) → Agree k a b → Steady a → (fr : Frame) (ls : Locals) (x : Stmt) (r : Run) → r.left ≤ k → stmt a fr ls x r ≡ stmt b fr ls x r
  stmt_alike k a b e s fr ls (tree.Value x) r h =
      after_alike k r _ _ _ _ (expr_alike k a b e s fr ls x r h) (expr_ends a s fr ls x r) h (λ v q l. refl)
  stmt_alike k a b e s fr ls (SetLocal y x) r h =
      after_alike k r _ _ _ _ (expr_alike k a b e s fr ls x r h) (expr_ends a s fr ls x r) h (λ v q l. refl)
  stmt_alike k a b e s fr ls (SetGlobal y x) r h =
      after_alike k r _ _ _ _ (expr_alike k a b e s fr ls x r h) (expr_ends a s fr ls x r) h (λ v q l. refl)
  stmt_alike k a b e s fr ls (SetField x y new) r h =
      after_alike k r _ _ _ _ (expr_alike k a b e s fr ls x r h) (expr_ends a s fr ls x r) h
      (λ v q l. after_alike k q _ _ _ _ (expr_alike k a b e s fr ls new q l) (expr_ends a s fr ls new q) l (λ w p g. refl))
  stmt_alike k a b e s fr ls (If c x y) r h =
      after_alike k r _ _ _ _ (expr_alike k a b e s fr ls c r h) (expr_ends a s fr ls c r) h
      (λ v q l. truth_alike v _ _ _ _ q (block_alike k a b e s fr ls Nil x q l) (block_alike k a b e s fr ls Nil y q l))
  stmt_alike k a b e s fr ls (While us c inside) r h =
      while_alike (suc r.left) k _ _ _ _ (λ vs q l. expr_alike k a b e s fr vs c q l)
      (turn_alike k _ _ (λ vs q l. block_alike k a b e s fr vs Nil inside q l) (λ vs q. block_ends a s fr vs Nil inside q) (unset us))
      (λ vs q. expr_ends a s fr vs c q)
      (turn_ends _ (λ vs q. block_ends a s fr vs Nil inside q) (unset us)) ls r h
  stmt_alike k a b e s fr ls (For x y z us inside) r h =
      after_alike k r _ _ _ _ (expr_alike k a b e s fr ls y r h) (expr_ends a s fr ls y r) h
      (λ v q l. after_alike k q _ _ _ _ (expr_alike k a b e s fr ls z q l) (expr_ends a s fr ls z q) l
      (λ w p g. bounds_alike v w _ _ p (λ i last. for_alike (suc p.left) k i last _ _
      (λ j. turn_alike k _ _ (λ vs n t. block_alike k a b e s fr vs Nil inside n t) (λ vs n. block_ends a s fr vs Nil inside n) ((x, Some (Whole j)) ∷ unset us))
      (λ j. turn_ends _ (λ vs n. block_ends a s fr vs Nil inside n) ((x, Some (Whole j)) ∷ unset us)) ls p g)))
  stmt_alike k a b e s fr ls Break r h = refl
  stmt_alike k a b e s fr ls Continue r h = refl
  stmt_alike k a b e s fr ls (Return x) r h =
      after_alike k r _ _ _ _ (expr_alike k a b e s fr ls x r h) (expr_ends a s fr ls x r) h (λ v q l. refl)
  stmt_alike k a b e s fr ls (Eval m what) r h =
      after_alike k r (checked (eval_check r.state (eval_home fr.home m)) r) _ _ _ refl (checked_ends (eval_check r.state (eval_home fr.home m)) r) h
      (λ home q l. after_alike k q _ _ _ _
      (payload_alike k a b e s (record { home = home; world = q.state.newest; depth = fr.depth }) what q l)
      (payload_ends a s (record { home = home; world = q.state.newest; depth = fr.depth }) what q) l (λ v p g. refl))

  pub block_alike : (k : ℕ) (a b : Enter) → Agree k a b → Steady a → (fr : Frame) (ls : Locals) (v : Value) (x : Block) (r : Run) → r.left ≤ k → block a fr ls v x r ≡ block b fr ls v x r
  block_alike k a b e s fr ls v end r h = refl
  block_alike k a b e s fr ls v (step x xs) r h =
      after_alike k r _ _ _ _ (stmt_alike k a b e s fr ls x r h) (stmt_ends a s fr ls x r) h
      (λ w q l. onward_alike k w.flow w.locals _ _ q l (λ u us p g. block_alike k a b e s fr us u xs p g))

  pub payload_alike : (k : ℕ) (a b : Enter) → Agree k a b → Steady a → (fr : Frame) (what : Payload) (r : Run) → r.left ≤ k → payload a fr what r ≡ payload b fr what r
  payload_alike k a b e s fr (Define m f ps code) r h = refl
  payload_alike k a b e s fr (SetBinding y x) r h =
      after_alike k r _ _ _ _ (expr_alike k a b e s fr [] x r h) (expr_ends a s fr [] x r) h (λ v q l. refl)
  payload_alike k a b e s fr (Evaluate x) r h = expr_alike k a b e s fr [] x r h

pub body_alike : (k : ℕ) (a b : Enter) → Agree k a b → Steady a → (fr : Frame) (code : Body) (vs : List Value) (r : Run) → r.left ≤ k → in_body a fr code vs r ≡ in_body b fr code vs r
body_alike k a b e s fr (body ps us code) vs r h =
    after_alike k r _ _ _ _ (block_alike k a b e s fr (unset us ++ parameters ps vs) Nil code r h) (block_ends a s fr (unset us ++ parameters ps vs) Nil code r) h (λ w q l. refl)

none_left : {A : Type 0} (n : ℕ) (s : State) (f : Run → Outcome A) → n ≤ 0 → charged n s f ≡ Stops (record { state = s; left = n })
unfolding charged
none_left zero s f h = refl
none_left (suc n) s f h = absurd (let no : ⊥ = omega arith in no)

pub enter_alike : (n m w d : ℕ) (f : Method) (vs : List Value) (r : Run) → r.left ≤ n → r.left ≤ m → enter_at n w d f vs r ≡ enter_at m w d f vs r
unfolding enter_at
enter_alike zero zero w d f vs r h k = refl
enter_alike zero (suc m) w d f vs r h k = sym (none_left r.left r.state _ h)
enter_alike (suc n) zero w d f vs r h k = none_left r.left r.state _ k
enter_alike (suc n) (suc m) w d f vs r h k =
    charged_alike r.left r.state _ _
    (λ q l. choose_alike _ _ _ _ _ q refl
    (body_alike q.left (enter_at n) (enter_at m)
    (λ w' d' f' vs' p g. enter_alike n m w' d' f' vs' p (omega arith) (omega arith))
    (enter_ends n) (record { home = f.home; world = w; depth = suc d }) f.code vs q (omega arith)))

pub fuel_law : more_fuel_changes_nothing
fuel_law n m fr ls s r h k =
    stmt_alike r.left (enter_at n) (enter_at m) (λ w d f vs q l. enter_alike n m w d f vs q (omega arith) (omega arith)) (enter_ends n) fr ls s r (omega arith)

-- the same of the parts

pub agree_at : (n m k : ℕ) → k ≤ n → k ≤ m → Agree k (enter_at n) (enter_at m)
agree_at n m k h g w d f vs q l = enter_alike n m w d f vs q (omega arith) (omega arith)

pub expr_fuel : (n m : ℕ) (fr : Frame) (ls : Locals) (x : Expr) (r : Run) → r.left ≤ n → r.left ≤ m → expr (enter_at n) fr ls x r ≡ expr (enter_at m) fr ls x r
expr_fuel n m fr ls x r h k = expr_alike r.left (enter_at n) (enter_at m) (agree_at n m r.left h k) (enter_ends n) fr ls x r (omega arith)

pub exprs_fuel : (n m : ℕ) (fr : Frame) (ls : Locals) (vs : List Value) (xs : Exprs) (r : Run) → r.left ≤ n → r.left ≤ m → exprs (enter_at n) fr ls vs xs r ≡ exprs (enter_at m) fr ls vs xs r
exprs_fuel n m fr ls vs xs r h k = exprs_alike r.left (enter_at n) (enter_at m) (agree_at n m r.left h k) (enter_ends n) fr ls vs xs r (omega arith)

pub block_fuel : (n m : ℕ) (fr : Frame) (ls : Locals) (v : Value) (x : Block) (r : Run) → r.left ≤ n → r.left ≤ m → block (enter_at n) fr ls v x r ≡ block (enter_at m) fr ls v x r
block_fuel n m fr ls v x r h k = block_alike r.left (enter_at n) (enter_at m) (agree_at n m r.left h k) (enter_ends n) fr ls v x r (omega arith)

pub payload_fuel : (n m : ℕ) (fr : Frame) (what : Payload) (r : Run) → r.left ≤ n → r.left ≤ m → payload (enter_at n) fr what r ≡ payload (enter_at m) fr what r
payload_fuel n m fr what r h k = payload_alike r.left (enter_at n) (enter_at m) (agree_at n m r.left h k) (enter_ends n) fr what r (omega arith)

pub call_fuel : (n m w d : ℕ) (f : Id) (vs : List Value) (r : Run) → r.left ≤ n → r.left ≤ m → call_function (enter_at n) w d f vs r ≡ call_function (enter_at m) w d f vs r
call_fuel n m w d f vs r h k = function_alike r.left (enter_at n) (enter_at m) (agree_at n m r.left h k) w d f vs r (omega arith)
