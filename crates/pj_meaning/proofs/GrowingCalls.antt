-- Calls and expressions only add.
use Rattle.std.proofs.Common.{ℕ, ℤ, List, [], ◌∷◌, ◌++◌, Option, Some, None, Result, Ok, Err, refl, sym, append-nil, arith}
use Rattle.pj_meaning.specs.Tree.{Text, Expr, Exprs, Nothing, False, True, Int, Str, Local, Global, Field, Call, CallLocal, Latest, And, Or, Cond, Same, Intrin, none, also, Intrinsic, Add, Sub, Mul, Div, Rem, Neg, Less, LessEq, Not, Identical, Print, NewLine, Fail}
use Rattle.pj_meaning.specs.Names.{Id}
use Rattle.pj_meaning.specs.Types.{TypeRow, Form, Abstract, Immutable, Mutable, Builtin, row_of}
use Rattle.pj_meaning.specs.Methods.{Method, Pick, One, NoneMatch, Ambiguous, pick}
use Rattle.pj_meaning.specs.Values.{Value, Nil, Truth, Whole, String, Function, Object, Struct}
use Rattle.pj_meaning.specs.State.{State, Role, TypeName, FunctionName, Constant, Variable}
use Rattle.pj_meaning.specs.Outcome.{Error, Run, Outcome, Gives, DivideError, in_state}
use Rattle.pj_meaning.specs.Lookup.{read_name, get_field, role_at}
use Rattle.pj_meaning.specs.Calls.{Enter, types_of, enter_picked, call_function, made, made_as, allocated, construct, call_value, call_role, call_sought, call_named, print, divided, remainder, on_ints, on_one, negated, inverted, failed, identical, intrinsic}
use Rattle.pj_meaning.specs.Evaluation.{Frame, Locals, lookup, local_value, on_truth, expr, exprs}
use Rattle.pj_meaning.proofs.Keeping.{more_objects}
use Rattle.pj_meaning.proofs.Growing.{Grows, kept, same_roles, same_objects, Ends, after_ends, choose_ends, gives, raises, checked_ends}

-- what entering a method does
abbrev pub Steady : Enter → Type 0
Steady enter = (w d : ℕ) (m : Method) (vs : List Value) (r : Run) → Ends r (enter w d m vs r)

-- another state with the same types, methods and text
pub gives_in : {A : Type 0} (a : A) (r : Run) (t : State) → Grows r.state t → Ends r (Gives a (in_state r t))
gives_in a r t g = record { goes = record { left = omega arith; state = g } }

pub picked_ends : (p : Pick) (enter : Enter) → Steady enter → (w d : ℕ) (f : Id) (vs : List Value) (r : Run) → Ends r (enter_picked p enter w d f vs r)
picked_ends (One m) enter h w d f vs r = h w d m vs r
picked_ends NoneMatch enter h w d f vs r = raises _ r
picked_ends Ambiguous enter h w d f vs r = raises _ r

pub function_ends : (enter : Enter) → Steady enter → (w d : ℕ) (f : Id) (vs : List Value) (r : Run) → Ends r (call_function enter w d f vs r)
unfolding call_function
function_ends enter h w d f vs r =
    picked_ends (pick r.state.types r.state.methods w f (types_of r.state.objects vs)) enter h w d f vs r

made_ends : (form : Form) (t : Id) (vs : List Value) (r : Run) → Ends r (made form t vs r)
made_ends Abstract t vs r = raises _ r
made_ends Builtin t vs r = raises _ r
made_ends Immutable t vs r = choose_ends _ _ _ r (gives _ r) (raises _ r)
made_ends Mutable t vs r = gives_in _ r (allocated r.state t vs) (kept r.state (allocated r.state t vs) refl refl refl refl refl refl (same_roles r.state.bindings) (more_objects r.state.objects _))

made_as_ends : (row : Option TypeRow) (t : Id) (vs : List Value) (r : Run) → Ends r (made_as row t vs r)
made_as_ends None t vs r = raises _ r
made_as_ends (Some row) t vs r = choose_ends _ _ _ r (made_ends row.form t vs r) (raises _ r)

pub construct_ends : (t : Id) (vs : List Value) (r : Run) → Ends r (construct t vs r)
unfolding construct
construct_ends t vs r = made_as_ends (row_of r.state.types t) t vs r

pub value_ends : (enter : Enter) → Steady enter → (w d : ℕ) (v : Value) (vs : List Value) (r : Run) → Ends r (call_value enter w d v vs r)
value_ends enter h w d (Function f) vs r = function_ends enter h w d f vs r
value_ends enter h w d Nil vs r = raises _ r
value_ends enter h w d (Truth b) vs r = raises _ r
value_ends enter h w d (Whole z) vs r = raises _ r
value_ends enter h w d (String s) vs r = raises _ r
value_ends enter h w d (Object o) vs r = raises _ r
value_ends enter h w d (Struct t us) vs r = raises _ r

role_ends : (role : Role) (enter : Enter) → Steady enter → (w d : ℕ) (vs : List Value) (r : Run) → Ends r (call_role role enter w d vs r)
role_ends (TypeName t) enter h w d vs r = construct_ends t vs r
role_ends (FunctionName f) enter h w d vs r = function_ends enter h w d f vs r
role_ends (Constant v) enter h w d vs r = value_ends enter h w d v vs r
role_ends (Variable v) enter h w d vs r = value_ends enter h w d v vs r

sought_ends : (x : Result Role Error) (enter : Enter) → Steady enter → (w d : ℕ) (vs : List Value) (r : Run) → Ends r (call_sought x enter w d vs r)
sought_ends (Ok role) enter h w d vs r = role_ends role enter h w d vs r
sought_ends (Err e) enter h w d vs r = raises e r

pub named_ends : (enter : Enter) → Steady enter → (w d : ℕ) (home m f : Text) (vs : List Value) (r : Run) → Ends r (call_named enter w d home m f vs r)
unfolding call_named
named_ends enter h w d home m f vs r = sought_ends (role_at r.state home m f) enter h w d vs r

-- intrinsics

print_ends : (text : Text) (r : Run) → Ends r (print text r)
print_ends text r = record {
  goes = record {
    left = omega arith;
    state = record {
      newest = omega arith;
      new_types = [];
      types = sym (append-nil r.state.types);
      new_methods = [];
      methods = sym (append-nil r.state.methods);
      born = tt;
      here = refl;
      new_images = [];
      images = sym (append-nil r.state.images);
      text = text;
      printed = refl;
      roles = same_roles r.state.bindings;
      objects = same_objects r.state.objects;
    };
  };
}

on_ints_end : (f : ℤ → ℤ → Run → Outcome Value) → ((x y : ℤ) (r : Run) → Ends r (f x y r)) → (vs : List Value) (r : Run) → Ends r (on_ints f vs r)
on_ints_end f h (Whole x ∷ Whole y ∷ vs) r = h x y r
on_ints_end f h _ r = gives Nil r

on_one_ends : (f : Value → Run → Outcome Value) → ((v : Value) (r : Run) → Ends r (f v r)) → (vs : List Value) (r : Run) → Ends r (on_one f vs r)
on_one_ends f h [] r = gives Nil r
on_one_ends f h (v ∷ vs) r = h v r

divided_ends : (x y : ℤ) (r : Run) → Ends r (divided x y r)
divided_ends x y r = choose_ends _ _ _ r (raises DivideError r) (gives _ r)

remainder_ends : (x y : ℤ) (r : Run) → Ends r (remainder x y r)
remainder_ends x y r = choose_ends _ _ _ r (raises DivideError r) (gives _ r)

negated_ends : (v : Value) (r : Run) → Ends r (negated v r)
negated_ends (Whole x) r = gives _ r
negated_ends _ r = gives Nil r

inverted_ends : (v : Value) (r : Run) → Ends r (inverted v r)
inverted_ends (Truth b) r = gives _ r
inverted_ends _ r = gives Nil r

failed_ends : (v : Value) (r : Run) → Ends r (failed v r)
failed_ends (String s) r = raises _ r
failed_ends _ r = gives Nil r

identical_ends : (vs : List Value) (r : Run) → Ends r (identical vs r)
identical_ends [] r = gives Nil r
identical_ends (v ∷ []) r = gives Nil r
identical_ends (v ∷ w ∷ vs) r = gives _ r

intrinsic_ends : (i : Intrinsic) (vs : List Value) (r : Run) → Ends r (intrinsic i vs r)
intrinsic_ends Add vs r = on_ints_end _ (λ x y q. gives _ q) vs r
intrinsic_ends Sub vs r = on_ints_end _ (λ x y q. gives _ q) vs r
intrinsic_ends Mul vs r = on_ints_end _ (λ x y q. gives _ q) vs r
intrinsic_ends Div vs r = on_ints_end _ divided_ends vs r
intrinsic_ends Rem vs r = on_ints_end _ remainder_ends vs r
intrinsic_ends Neg vs r = on_one_ends _ negated_ends vs r
intrinsic_ends Less vs r = on_ints_end _ (λ x y q. gives _ q) vs r
intrinsic_ends LessEq vs r = on_ints_end _ (λ x y q. gives _ q) vs r
intrinsic_ends Not vs r = on_one_ends _ inverted_ends vs r
intrinsic_ends Identical vs r = identical_ends vs r
intrinsic_ends Print vs r = on_one_ends _ (λ v q. print_ends _ q) vs r
intrinsic_ends NewLine vs r = print_ends _ r
intrinsic_ends Fail vs r = on_one_ends _ failed_ends vs r

-- expressions

pub local_ends : (v : Option Value) (x : Text) (r : Run) → Ends r (local_value v x r)
local_ends None x r = raises _ r
local_ends (Some v) x r = gives v r

pub truth_ends : {A : Type 0} (v : Value) (yes_ no_ : Run → Outcome A) (r : Run) → Ends r (yes_ r) → Ends r (no_ r) → Ends r (on_truth v yes_ no_ r)
truth_ends (Truth b) yes_ no_ r h k = choose_ends b yes_ no_ r h k
truth_ends Nil yes_ no_ r h k = raises _ r
truth_ends (Whole z) yes_ no_ r h k = raises _ r
truth_ends (String s) yes_ no_ r h k = raises _ r
truth_ends (Function f) yes_ no_ r h k = raises _ r
truth_ends (Object o) yes_ no_ r h k = raises _ r
truth_ends (Struct t vs) yes_ no_ r h k = raises _ r

mutual
  pub expr_ends : (enter : Enter) → Steady enter → (fr : Frame) (ls : Locals) (e : Expr) (r : Run) → Ends r (expr enter fr ls e r)
  expr_ends enter h fr ls Nothing r = gives _ r
  expr_ends enter h fr ls False r = gives _ r
  expr_ends enter h fr ls True r = gives _ r
  expr_ends enter h fr ls (Int z) r = gives _ r
  expr_ends enter h fr ls (Str s) r = gives _ r
  expr_ends enter h fr ls (Local x) r = local_ends (lookup ls x) x r
  expr_ends enter h fr ls (Global m x) r = checked_ends (read_name r.state fr.home m x) r
  expr_ends enter h fr ls (Field e x) r =
      after_ends r _ _ (expr_ends enter h fr ls e r) (λ v q. checked_ends (get_field q.state v x) q)
  expr_ends enter h fr ls (Call m f es) r =
      after_ends r _ _ (exprs_end enter h fr ls [] es r) (λ vs q. named_ends enter h fr.world fr.depth fr.home m f vs q)
  expr_ends enter h fr ls (CallLocal x es) r =
      after_ends r _ _ (exprs_end enter h fr ls [] es r)
      (λ vs q. after_ends q _ _ (local_ends (lookup ls x) x q) (λ v p. value_ends enter h fr.world fr.depth v vs p))
  expr_ends enter h fr ls (Latest e es) r =
      after_ends r _ _ (expr_ends enter h fr ls e r)
      (λ v q. after_ends q _ _ (exprs_end enter h fr ls [] es q) (λ vs p. value_ends enter h p.state.newest fr.depth v vs p))
  expr_ends enter h fr ls (And a b) r =
      after_ends r _ _ (expr_ends enter h fr ls a r) (λ v q. truth_ends v _ _ q (expr_ends enter h fr ls b q) (gives _ q))
  expr_ends enter h fr ls (Or a b) r =
      after_ends r _ _ (expr_ends enter h fr ls a r) (λ v q. truth_ends v _ _ q (gives _ q) (expr_ends enter h fr ls b q))
  expr_ends enter h fr ls (Cond c a b) r =
      after_ends r _ _ (expr_ends enter h fr ls c r) (λ v q. truth_ends v _ _ q (expr_ends enter h fr ls a q) (expr_ends enter h fr ls b q))
  expr_ends enter h fr ls (Same a b) r =
      after_ends r _ _ (expr_ends enter h fr ls a r) (λ v q. after_ends q _ _ (expr_ends enter h fr ls b q) (λ w p. gives _ p))
  expr_ends enter h fr ls (Intrin i es) r =
      after_ends r _ _ (exprs_end enter h fr ls [] es r) (λ vs q. intrinsic_ends i vs q)

  pub exprs_end : (enter : Enter) → Steady enter → (fr : Frame) (ls : Locals) (vs : List Value) (es : Exprs) (r : Run) → Ends r (exprs enter fr ls vs es r)
  exprs_end enter h fr ls vs none r = gives vs r
  exprs_end enter h fr ls vs (also e es) r =
      after_ends r _ _ (expr_ends enter h fr ls e r) (λ v q. exprs_end enter h fr ls (vs ++ v ∷ []) es q)
