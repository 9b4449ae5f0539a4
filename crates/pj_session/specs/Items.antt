-- What items at the top level do after events, as what a name is and what an expression gives tell it.
use Rattle.std.specs.Prelude.{ℕ, ℤ, Bool, false, not, ◌&&◌, ◌||◌, ◌++◌, List, [], ◌∷◌, Option, Some, None, Result, Ok, Err, codes, length, map, if◌then◌else◌}
use Rattle.std.specs.Str.{bytes_eq}
use Rattle.pj_meaning.specs.Tree.{Text, TypeRef, Param, Expr, Exprs, Int, Call, Global, none, also, TopItem, Def, Const}
use Rattle.pj_meaning.specs.Tree as tree
use Rattle.pj_meaning.specs.Names.{Id, id, base_name, int_type}
use Rattle.pj_meaning.specs.Values.{Value, Nil, Whole, Function}
use Rattle.pj_meaning.specs.State.{State, with_printed}
use Rattle.pj_meaning.specs.Outcome.{Error, NoMethod, OfFunction, NotCallable, Undefined, ModuleNotLoaded, Outcome, Gives, Raises, Stops}
use Rattle.pj_meaning.specs.Lookup.{named_home}
use Rattle.pj_meaning.specs.Printing.{text_of}
use Rattle.pj_plain.specs.Plain.{is_empty, literals_only, plain_expr}
use Rattle.pj_words.specs.Words.{is_base_name}
use Rattle.pj_session.specs.Numbers.{Counted, charge, number_in}
use Rattle.pj_session.specs.States.{run}
use Rattle.pj_session.specs.Events.{Parts, ints, body_of, Event, Binds, with_event}
use Rattle.pj_session.specs.Things.{Thing, Calls, Holds, thing_in, has_package, method_for}

-- a value, or an error, with the charges that are left; or that they weren't enough
pub data Got (A : Type 0) : Type 0 where
  Has : A → ℕ → Got A
  Fails : Error → ℕ → Got A
  Short : Got A

abbrev pub got_number : Counted → Got ℤ
got_number None = Short
got_number (Some p) = Has p.0 p.1

abbrev pub got_value : Got ℤ → Got Value
got_value (Has z left) = Has (Whole z) left
got_value (Fails e left) = Fails e left
got_value Short = Short

-- a name that is written with this module, or without one: Base's own names are left out
abbrev pub may_name : Text → Text → Bool
may_name m name = if is_empty m then not (is_base_name name) else not (bytes_eq m base_name)

abbrev pub thing_or : Option Thing → Error → Result Thing Error
thing_or None e = Err e
thing_or (Some thing) e = Ok thing

-- what such a name is, or the error of a module that isn't loaded or of a name that isn't there
abbrev pub thing_at : Text → List Event → Text → Text → Result Thing Error
thing_at here events m name =
    if has_package here events (named_home here m) then thing_or (thing_in here events (named_home here m) name) (Undefined (named_home here m) name)
    else Err (ModuleNotLoaded (named_home here m))

-- a method takes a charge, and then gives its expression's number
abbrev pub entered : Option Parts → Id → List ℤ → ℕ → Got ℤ
entered None f zs left = Fails (NoMethod (OfFunction f) (ints (length zs))) left
entered (Some d) f zs left = got_number (charge left (number_in d.0 zs d.1))

abbrev pub call_of : Result Thing Error → Id → List ℤ → ℕ → Got ℤ
call_of (Err e) f zs left = Fails e left
call_of (Ok (Holds z)) f zs left = Fails (NotCallable int_type) left
call_of (Ok (Calls d)) f zs left = entered (method_for (length zs) (Some (Calls d))) f zs left

-- a call of a name with integers
abbrev pub called_in : Text → List Event → Text → Text → List ℤ → ℕ → Got ℤ
called_in here events m name zs left = call_of (thing_at here events m name) (id (named_home here m) name) zs left

abbrev pub read_of : Result Thing Error → Id → ℕ → Got Value
read_of (Err e) f left = Fails e left
read_of (Ok (Holds z)) f left = Has (Whole z) left
read_of (Ok (Calls d)) f left = Has (Function f) left

-- a name that is read as a value
abbrev pub read_in : Text → List Event → Text → Text → ℕ → Got Value
read_in here events m name left = read_of (thing_at here events m name) (id (named_home here m) name) left

-- the integers among these
abbrev pub integers : Exprs → List ℤ
integers none = []
integers (also (Int z) es) = z ∷ integers es
integers (also e es) = integers es

-- what may be printed: a call with integers, or a name that is read
abbrev pub is_asked : Expr → Bool
is_asked (Call m f es) = may_name m f && literals_only es
is_asked (Global m x) = may_name m x
is_asked e = false

abbrev pub asked : Text → List Event → Expr → ℕ → Got Value
asked here events (Call m f es) left = got_value (called_in here events m f (integers es) left)
asked here events (Global m x) left = read_in here events m x left
asked here events e left = Short

-- printing takes two charges behind the value: one of println, and one of print

abbrev pub has_or : {A : Type 0} → A → Option ℕ → Got A
has_or a None = Short
has_or a (Some left) = Has a left

abbrev pub printed_of : Got Value → Got Value
printed_of (Has v left) = has_or v (charge left (λ l. charge l (λ k. Some k)))
printed_of (Fails e left) = Fails e left
printed_of Short = Short

-- the line of a value
abbrev pub line_of : Value → Text
line_of v = text_of [] v ++ codes "\n"

-- A line is printed, or nothing is: by an error, or for want of charges.
abbrev pub line_ends : State → Got Value → Outcome Value
line_ends s (Has v left) = Gives Nil (run (with_printed s (line_of v)) left)
line_ends s (Fails e left) = Raises e (run s left)
line_ends s Short = Stops (run s 0)

-- println of an expression
abbrev pub println_item : Expr → TopItem
println_item e = tree.Run (tree.Value (Call [] (codes "println") (also e none)))

-- a definition of a function whose parameters are Int64
abbrev pub int_param : Text → Param
int_param name = record { name = name; declared = record { home = []; name = codes "Int64" } }

abbrev pub define_item : Text → Parts → TopItem
define_item name d = Def [] name (map int_param d.0) (body_of d)

-- an outcome that leaves the state as it is
abbrev pub got_ends : State → Got Value → Outcome Value
got_ends s (Has v left) = Gives v (run s left)
got_ends s (Fails e left) = Raises e (run s left)
got_ends s Short = Stops (run s 0)

-- what a constant may be given: an expression without names, or a call with integers
abbrev pub is_call : Expr → Bool
is_call (Call m f es) = may_name m f && literals_only es
is_call e = false

abbrev pub is_valued : Expr → Bool
is_valued e = plain_expr [] e || is_call e

abbrev pub call_number : Text → List Event → Expr → ℕ → Got ℤ
call_number here events (Call m f es) left = called_in here events m f (integers es) left
call_number here events e left = Short

abbrev pub valued : Text → List Event → Expr → ℕ → Got ℤ
valued here events e left = if plain_expr [] e then got_number (number_in [] [] e left) else call_number here events e left

-- a constant is bound behind its value
abbrev pub const_ends : State → Text → Got ℤ → Outcome Value
const_ends s x (Has z left) = Gives (Whole z) (run (with_event s (Binds x z)) left)
const_ends s x (Fails e left) = Raises e (run s left)
const_ends s x Short = Stops (run s 0)

-- an image's `__init__` without parameters is called, where it has one
abbrev pub started : Option Parts → ℕ → Got Value
started None left = Has Nil left
started (Some d) left = got_value (got_number (charge left (number_in d.0 [] d.1)))

abbrev pub init_name : Text
init_name = codes "__init__"
