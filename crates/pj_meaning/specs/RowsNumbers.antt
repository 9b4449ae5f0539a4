-- Rows on arithmetic and comparison.
use Rattle.std.specs.Prelude.{[], ◌∷◌}
use Rattle.pj_meaning.specs.Tree.{Expr, Nothing, True, Value}
use Rattle.pj_meaning.specs.Written.{int, negative, str, name, call, call_of, op, run, show, Prints}

abbrev most : Expr
most = int 9223372036854775807

abbrev least : Expr
least = negative 9223372036854775808

abbrev minus : Expr → Expr
minus e = call_of "Base" "-" (e ∷ [])

abbrev pub sums_wrap : Type 0
sums_wrap = Prints (show (op "+" most (int 1)) ∷ show (op "-" least (int 1)) ∷ show (minus least) ∷ []) "-9223372036854775808\n9223372036854775807\n-9223372036854775808\n"

abbrev pub products_wrap : Type 0
products_wrap =
    Prints (show (op "*" (int 4611686018427387904) (int 2)) ∷ show (op "*" most most) ∷ show (op "*" (negative 3) (int 4)) ∷ []) "-9223372036854775808\n1\n-12\n"

abbrev pub quotients_and_remainders : Type 0
quotients_and_remainders =
    Prints (show (op "div" (negative 7) (int 2)) ∷ show (op "rem" (negative 7) (int 2)) ∷ show (op "rem" (int 7) (negative 2)) ∷ show (op "div" (int 7) (negative 2)) ∷ show (op "rem" least (negative 1)) ∷ [])
    "-3\n-1\n1\n-3\n0\n"

abbrev pub the_least_by_minus_one : Type 0
the_least_by_minus_one = Prints (show (op "div" (int 6) (negative 1)) ∷ show (op "div" least (negative 1)) ∷ []) "-6\nERROR: DivideError: integer division error\n"

abbrev pub a_quotient_by_zero : Type 0
a_quotient_by_zero = Prints (show (op "div" (int 1) (int 0)) ∷ []) "ERROR: DivideError: integer division error\n"

abbrev pub a_remainder_by_zero : Type 0
a_remainder_by_zero = Prints (show (op "rem" (int 0) (int 0)) ∷ []) "ERROR: DivideError: integer division error\n"

abbrev pub comparisons : Type 0
comparisons =
    Prints (run (Value (call "println" (op "<" (negative 1) (int 0) ∷ op "<" (int 0) (int 0) ∷ op "<=" (int 0) (int 0) ∷ op ">" (int 1) (int 0) ∷ []))) ∷ run (Value (call "println" (op ">=" (int 0) (int 1) ∷ op "!=" (int 0) (int 1) ∷ call_of "Base" "!" (True ∷ []) ∷ []))) ∷ [])
    "truefalsetruetrue\nfalsetruefalse\n"

abbrev pub equality_is_of_type_and_contents : Type 0
equality_is_of_type_and_contents =
    Prints (run (Value (call "println" (op "==" (int 1) True ∷ op "==" (str "ab") (str "ab") ∷ op "==" Nothing Nothing ∷ op "==" (name "abs") (name "min") ∷ []))) ∷ []) "falsetruetruefalse\n"

abbrev pub least_and_greatest : Type 0
least_and_greatest =
    Prints (run (Value (call "println" (call "min" (int 3 ∷ negative 2 ∷ []) ∷ str " " ∷ call "max" (int 3 ∷ negative 2 ∷ []) ∷ []))) ∷ show (call "abs" (negative 5 ∷ [])) ∷ show (call "abs" (least ∷ [])) ∷ [])
    "-2 3\n5\n-9223372036854775808\n"
