-- Calls, constructors and intrinsics.
use Rattle.std.specs.Prelude.{ℕ, suc, ℤ, pos, negsuc, int_lt, int_le, int_div, int_rem, not, List, [], ◌∷◌, ◌++◌, ◌&&◌, ◌||◌, Option, Some, None, Result, Ok, Err, nat_le, codes, if◌then◌else◌}
use Rattle.std.specs.Int.{w64, int_wrapping_add, int_wrapping_sub, int_wrapping_mul, int_wrapping_neg}
use Rattle.std.specs.Ordering.{int_eq}
use Rattle.pj_meaning.specs.Tree.{Text, Intrinsic, Add, Sub, Mul, Div, Rem, Neg, Less, LessEq, Not, Identical, Print, NewLine, Fail}
use Rattle.pj_meaning.specs.Names.{Id}
use Rattle.pj_meaning.specs.Types.{TypeRow, Field, Form, Abstract, Immutable, Mutable, Builtin, row_of, all_below}
use Rattle.pj_meaning.specs.Methods.{Method, Pick, One, NoneMatch, Ambiguous, pick}
use Rattle.pj_meaning.specs.Values.{Value, Nil, Truth, Whole, String, Function, Object, Struct, values_of, parts, egal, ObjectRow, type_of}
use Rattle.pj_meaning.specs.State.{State, Role, TypeName, FunctionName, Constant, Variable, with_printed}
use Rattle.pj_meaning.specs.Outcome.{OfFunction, OfType, Error, NoMethod, AmbiguousCall, NotCallable, DivideError, Raised, TooManyParts, Run, Outcome, Gives, Raises, in_state, choose}
use Rattle.pj_meaning.specs.Lookup.{role_at}
use Rattle.pj_meaning.specs.Printing.{text_of}

-- what entering a method gives: at a world, with so many entries open, with its arguments
abbrev pub Enter : Type 0
Enter = ℕ → ℕ → Method → List Value → Run → Outcome Value

abbrev pub types_of : List ObjectRow → List Value → List Id
types_of objects [] = []
types_of objects (v ∷ vs) = type_of objects v ∷ types_of objects vs

-- what is checked gives its value, and else its error is raised
abbrev pub checked : {A : Type 0} → Result A Error → Run → Outcome A
checked (Ok a) r = Gives a r
checked (Err e) r = Raises e r

-- what is checked becomes the state
abbrev pub changed : {A : Type 0} → Result State Error → A → Run → Outcome A
changed (Ok s) a r = Gives a (in_state r s)
changed (Err e) a r = Raises e r

abbrev pub enter_picked : Pick → Enter → ℕ → ℕ → Id → List Value → Run → Outcome Value
enter_picked (One m) enter world depth f vs r = enter world depth m vs r
enter_picked NoneMatch enter world depth f vs r = Raises (NoMethod (OfFunction f) (types_of r.state.objects vs)) r
enter_picked Ambiguous enter world depth f vs r = Raises (AmbiguousCall f (types_of r.state.objects vs)) r

-- a call of a function: the method that is picked at the world is entered
unfoldable pub call_function : Enter → ℕ → ℕ → Id → List Value → Run → Outcome Value
call_function enter world depth f vs r =
    enter_picked (pick r.state.types r.state.methods world f (types_of r.state.objects vs)) enter world depth f vs r

abbrev pub declared_types : List Field → List Id
declared_types [] = []
declared_types (f ∷ fs) = f.declared ∷ declared_types fs

-- a new mutable object, named by the module that runs and the number of allocations before
abbrev pub allocated : State → Id → List Value → State
allocated s t vs =
    record s { objects = s.objects ++ record { name = record { owner = s.here; number = s.allocated }; type = t; values = vs } ∷ []; allocated = suc s.allocated }

abbrev pub made : Form → Id → List Value → Run → Outcome Value
made Abstract t vs r = Raises (NoMethod (OfType t) (types_of r.state.objects vs)) r
made Builtin t vs r = Raises (NoMethod (OfType t) (types_of r.state.objects vs)) r
made Immutable t vs r =
    choose (nat_le (parts (Struct t (values_of vs))) 4096) (λ q. Gives (Struct t (values_of vs)) q) (λ q. Raises TooManyParts q) r
made Mutable t vs r = Gives (Object (record { owner = r.state.here; number = r.state.allocated })) (in_state r (allocated r.state t vs))

abbrev pub made_as : Option TypeRow → Id → List Value → Run → Outcome Value
made_as None t vs r = Raises (NoMethod (OfType t) (types_of r.state.objects vs)) r
made_as (Some row) t vs r =
    choose (all_below r.state.types (types_of r.state.objects vs) (declared_types row.fields)) (made row.form t vs)
    (λ q. Raises (NoMethod (OfType t) (types_of q.state.objects vs)) q) r

-- a constructor: no charge, and no conversion
unfoldable pub construct : Id → List Value → Run → Outcome Value
construct t vs r = made_as (row_of r.state.types t) t vs r

abbrev pub call_value : Enter → ℕ → ℕ → Value → List Value → Run → Outcome Value
call_value enter world depth (Function f) vs r = call_function enter world depth f vs r
call_value enter world depth v vs r = Raises (NotCallable (type_of r.state.objects v)) r

abbrev pub call_role : Role → Enter → ℕ → ℕ → List Value → Run → Outcome Value
call_role (TypeName t) enter world depth vs r = construct t vs r
call_role (FunctionName f) enter world depth vs r = call_function enter world depth f vs r
call_role (Constant v) enter world depth vs r = call_value enter world depth v vs r
call_role (Variable v) enter world depth vs r = call_value enter world depth v vs r

abbrev pub call_sought : Result Role Error → Enter → ℕ → ℕ → List Value → Run → Outcome Value
call_sought (Ok role) enter world depth vs r = call_role role enter world depth vs r
call_sought (Err e) enter world depth vs r = Raises e r

-- a call of what a name means, once its arguments are values
unfoldable pub call_named : Enter → ℕ → ℕ → Text → Text → Text → List Value → Run → Outcome Value
call_named enter world depth home qualifier name vs r =
    call_sought (role_at r.state home qualifier name) enter world depth vs r

-- intrinsics

abbrev pub least_int : ℤ
least_int = negsuc 9223372036854775807

abbrev pub print : Text → Run → Outcome Value
print text r = Gives Nil (in_state r (with_printed r.state text))

abbrev pub divided : ℤ → ℤ → Run → Outcome Value
divided x y r =
    choose (int_eq y (pos 0) || (int_eq x least_int && int_eq y (negsuc 0))) (λ q. Raises DivideError q) (λ q. Gives (Whole (int_div x y)) q) r

-- the remainder has the dividend's sign, and is 0 by -1
abbrev pub remainder : ℤ → ℤ → Run → Outcome Value
remainder x y r =
    choose (int_eq y (pos 0)) (λ q. Raises DivideError q) (λ q. Gives (Whole (if int_eq y (negsuc 0) then pos 0 else int_rem x y)) q) r

abbrev pub on_ints : (ℤ → ℤ → Run → Outcome Value) → List Value → Run → Outcome Value
on_ints f (Whole x ∷ Whole y ∷ vs) r = f x y r
on_ints f _ r = Gives Nil r

abbrev pub on_one : (Value → Run → Outcome Value) → List Value → Run → Outcome Value
on_one f [] r = Gives Nil r
on_one f (v ∷ vs) r = f v r

abbrev pub negated : Value → Run → Outcome Value
negated (Whole x) r = Gives (Whole (int_wrapping_neg w64 x)) r
negated _ r = Gives Nil r

abbrev pub inverted : Value → Run → Outcome Value
inverted (Truth b) r = Gives (Truth (not b)) r
inverted _ r = Gives Nil r

abbrev pub failed : Value → Run → Outcome Value
failed (String text) r = Raises (Raised text) r
failed _ r = Gives Nil r

abbrev pub identical : List Value → Run → Outcome Value
identical (v ∷ w ∷ vs) r = Gives (Truth (egal v w)) r
identical _ r = Gives Nil r

-- An intrinsic on operands of its kinds, which the signatures of Base's methods see to. It takes no charge.
abbrev pub intrinsic : Intrinsic → List Value → Run → Outcome Value
intrinsic Add vs r = on_ints (λ x y q. Gives (Whole (int_wrapping_add w64 x y)) q) vs r
intrinsic Sub vs r = on_ints (λ x y q. Gives (Whole (int_wrapping_sub w64 x y)) q) vs r
intrinsic Mul vs r = on_ints (λ x y q. Gives (Whole (int_wrapping_mul w64 x y)) q) vs r
intrinsic Div vs r = on_ints divided vs r
intrinsic Rem vs r = on_ints remainder vs r
intrinsic Neg vs r = on_one negated vs r
intrinsic Less vs r = on_ints (λ x y q. Gives (Truth (int_lt x y)) q) vs r
intrinsic LessEq vs r = on_ints (λ x y q. Gives (Truth (int_le x y)) q) vs r
intrinsic Not vs r = on_one inverted vs r
intrinsic Identical vs r = identical vs r
intrinsic Print vs r = on_one (λ v q. print (text_of q.state.objects v) q) vs r
intrinsic NewLine vs r = print (codes "\n") r
intrinsic Fail vs r = on_one failed vs r
