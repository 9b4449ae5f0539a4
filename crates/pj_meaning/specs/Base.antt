-- Base: its types, its functions and its methods, and the state before anything is evaluated.
use Rattle.std.specs.Prelude.{pos, List, [], ◌∷◌, ◌++◌, codes}
use Rattle.pj_meaning.specs.Tree.{Text, Body, body, end, step, Expr, Exprs, Call, Local, Same, Cond, Intrin, Int, also, none, Value, Intrinsic, Add, Sub, Mul, Div, Rem, Neg, Less, LessEq, Not, Print, NewLine, Fail}
use Rattle.pj_meaning.specs.Tree as tree
use Rattle.pj_meaning.specs.Names.{Id, base, base_name, any_type, int_type, bool_type, string_type}
use Rattle.pj_meaning.specs.Types.{TypeRow, Form, Abstract, Builtin}
use Rattle.pj_meaning.specs.Methods.{Method}
use Rattle.pj_meaning.specs.State.{State, Binding, Role, TypeName, FunctionName}

-- types

abbrev type_row : Text → Text → Form → TypeRow
type_row name parent form = record { name = base name; parent = base parent; form = form; fields = [] }

abbrev pub base_types : List TypeRow
base_types =
    type_row (codes "Any") (codes "Any") Abstract
    ∷ type_row (codes "Number") (codes "Any") Abstract
    ∷ type_row (codes "Real") (codes "Number") Abstract
    ∷ type_row (codes "Integer") (codes "Real") Abstract
    ∷ type_row (codes "Signed") (codes "Integer") Abstract
    ∷ type_row (codes "Int64") (codes "Signed") Builtin
    ∷ type_row (codes "Bool") (codes "Integer") Builtin
    ∷ type_row (codes "AbstractString") (codes "Any") Abstract
    ∷ type_row (codes "String") (codes "AbstractString") Builtin
    ∷ type_row (codes "Nothing") (codes "Any") Builtin
    ∷ type_row (codes "Function") (codes "Any") Builtin
    ∷ []

-- functions

abbrev pub function_names : List Text
function_names =
    codes "+" ∷ codes "-" ∷ codes "*" ∷ codes "div" ∷ codes "rem" ∷ codes "==" ∷ codes "!=" ∷ codes "<" ∷ codes "<="
    ∷ codes ">" ∷ codes ">=" ∷ codes "!" ∷ codes "abs" ∷ codes "min" ∷ codes "max" ∷ codes "print" ∷ codes "println" ∷ codes "error"
    ∷ []

abbrev binding : Text → Role → Binding
binding name role = record { home = base_name; name = name; role = role }

abbrev type_bindings : List TypeRow → List Binding
type_bindings [] = []
type_bindings (row ∷ rows) = binding row.name.name (TypeName row.name) ∷ type_bindings rows

abbrev function_bindings : List Text → List Binding
function_bindings [] = []
function_bindings (name ∷ names) = binding name (FunctionName (base name)) ∷ function_bindings names

-- Int is another spelling of Int64
abbrev pub base_bindings : List Binding
base_bindings = function_bindings function_names ++ (type_bindings base_types ++ binding (codes "Int") (TypeName int_type) ∷ [])

-- methods

abbrev a : Text
a = codes "a"

abbrev b : Text
b = codes "b"

abbrev c : Text
c = codes "c"

abbrev d : Text
d = codes "d"

abbrev one : Expr → Exprs
one e = also e none

abbrev two : Expr → Expr → Exprs
two e f = also e (also f none)

abbrev call : Text → Exprs → Expr
call f es = Call base_name f es

-- a method of Base, whose body is these statements
abbrev method : Text → List Id → List Text → tree.Block → Method
method f signature params block =
    record { fun = base f; signature = signature; code = body params [] block; home = base_name; birth = 1 }

abbrev gives : Expr → tree.Block
gives e = step (Value e) end

abbrev and_then : Expr → tree.Block → tree.Block
and_then e block = step (Value e) block

abbrev on_ints : Text → Intrinsic → Method
on_ints f i = method f (int_type ∷ int_type ∷ []) (a ∷ b ∷ []) (gives (Intrin i (two (Local a) (Local b))))

abbrev on_any : Text → Expr → Method
on_any f e = method f (any_type ∷ any_type ∷ []) (a ∷ b ∷ []) (gives e)

abbrev anys : List Text → List Id
anys [] = []
anys (p ∷ ps) = any_type ∷ anys ps

abbrev locals : List Text → Exprs
locals [] = none
locals (p ∷ ps) = also (Local p) (locals ps)

-- of several arguments: the first is printed, and then the others by a call of their own
abbrev prints : Text → List Text → Method
prints f others =
    method f (anys (a ∷ others)) (a ∷ others)
    (and_then (call (codes "print") (one (Local a))) (and_then (call f (locals others)) (gives tree.Nothing)))

abbrev pub base_methods : List Method
base_methods =
    on_ints (codes "+") Add
    ∷ on_ints (codes "-") Sub
    ∷ method (codes "-") (int_type ∷ []) (a ∷ []) (gives (Intrin Neg (one (Local a))))
    ∷ on_ints (codes "*") Mul
    ∷ on_ints (codes "div") Div
    ∷ on_ints (codes "rem") Rem
    ∷ on_any (codes "==") (Same (Local a) (Local b))
    ∷ on_any (codes "!=") (call (codes "!") (one (call (codes "==") (two (Local a) (Local b)))))
    ∷ on_ints (codes "<") Less
    ∷ on_ints (codes "<=") LessEq
    ∷ on_any (codes ">") (call (codes "<") (two (Local b) (Local a)))
    ∷ on_any (codes ">=") (call (codes "<=") (two (Local b) (Local a)))
    ∷ method (codes "!") (bool_type ∷ []) (a ∷ []) (gives (Intrin Not (one (Local a))))
    ∷ method (codes "abs") (int_type ∷ []) (a ∷ [])
    (gives (Cond (call (codes "<") (two (Local a) (Int (pos 0)))) (call (codes "-") (one (Local a))) (Local a)))
    ∷ on_any (codes "min") (Cond (call (codes "<") (two (Local b) (Local a))) (Local b) (Local a))
    ∷ on_any (codes "max") (Cond (call (codes "<") (two (Local b) (Local a))) (Local a) (Local b))
    ∷ method (codes "print") (any_type ∷ []) (a ∷ []) (gives (Intrin Print (one (Local a))))
    ∷ method (codes "println") [] [] (gives (Intrin NewLine none))
    ∷ method (codes "println") (any_type ∷ []) (a ∷ [])
    (and_then (call (codes "print") (one (Local a))) (gives (Intrin NewLine none)))
    ∷ prints (codes "print") (b ∷ [])
    ∷ prints (codes "println") (b ∷ [])
    ∷ prints (codes "print") (b ∷ c ∷ [])
    ∷ prints (codes "println") (b ∷ c ∷ [])
    ∷ prints (codes "print") (b ∷ c ∷ d ∷ [])
    ∷ prints (codes "println") (b ∷ c ∷ d ∷ [])
    ∷ method (codes "error") (string_type ∷ []) (codes "s" ∷ []) (gives (Intrin Fail (one (Local (codes "s")))))
    ∷ []

-- Base alone, where this module runs
abbrev pub start : Text → State
start here = record {
  here = here;
  types = base_types;
  methods = base_methods;
  bindings = base_bindings;
  objects = [];
  allocated = 0;
  images = [];
  wanted = [];
  newest = 1;
  printed = [];
}
