-- Rows on the pick among methods.
use Rattle.std.specs.Prelude.{List, [], ◌∷◌, ◌++◌}
use Rattle.pj_meaning.specs.Tree.{TopItem, Nothing, False, True, Value}
use Rattle.pj_meaning.specs.Packages.{Source}
use Rattle.pj_meaning.specs.Written.{int, str, local, name, field, call, call_of, op, type, typed, free, def, def_in, abstract, struct, using, run, show, source, Puts, Prints}

abbrev pub the_more_specific_method_is_picked : Type 0
the_more_specific_method_is_picked =
    Prints (def "f" (typed "x" "Int64" ∷ []) (int 2) ∷ def "f" (typed "x" "Integer" ∷ []) (int 1) ∷ run (Value (call "println" (call "f" (int 3 ∷ []) ∷ call "f" (True ∷ []) ∷ []))) ∷ [])
    "21\n"

abbrev pub the_latest_of_equal_signatures_is_picked : Type 0
the_latest_of_equal_signatures_is_picked =
    Prints (def "f" (typed "x" "Int" ∷ []) (int 1) ∷ def "f" (typed "y" "Int64" ∷ []) (int 2) ∷ show (call "f" (int 0 ∷ [])) ∷ []) "2\n"

abbrev crossed : List TopItem
crossed =
    def "two" (typed "a" "Integer" ∷ typed "b" "Int64" ∷ []) (int 1) ∷ def "two" (typed "a" "Int64" ∷ typed "b" "Integer" ∷ []) (int 2) ∷ []

abbrev pub crossed_methods_are_ambiguous : Type 0
crossed_methods_are_ambiguous =
    Prints (crossed ++ show (call "two" (True ∷ int 1 ∷ [])) ∷ show (call "two" (int 1 ∷ int 2 ∷ [])) ∷ []) "1\nERROR: MethodError: Main.two(Int64, Int64) is ambiguous\n"

abbrev pub a_method_below_both_ends_the_ambiguity : Type 0
a_method_below_both_ends_the_ambiguity =
    Prints (crossed ++ def "two" (typed "a" "Int64" ∷ typed "b" "Int64" ∷ []) (int 3) ∷ show (call "two" (int 1 ∷ int 2 ∷ [])) ∷ []) "3\n"

abbrev pub a_method_takes_as_many_arguments : Type 0
a_method_takes_as_many_arguments =
    Prints (def "f" (free "x" ∷ []) (int 1) ∷ show (call "f" (int 0 ∷ str "s" ∷ [])) ∷ []) "ERROR: MethodError: no method matching Main.f(Int64, String)\n"

abbrev pub arithmetic_takes_no_bool : Type 0
arithmetic_takes_no_bool = Prints (show (op "+" True (int 1)) ∷ []) "ERROR: MethodError: no method matching Base.+(Bool, Int64)\n"

abbrev pub a_function_is_of_one_type : Type 0
a_function_is_of_one_type = Prints (def "f" (typed "x" "Function" ∷ []) (int 1) ∷ show (call "f" (name "f" ∷ [])) ∷ []) "1\n"

abbrev pub a_struct_is_below_its_abstract_types : Type 0
a_struct_is_below_its_abstract_types =
    Prints (abstract "S" (type "Any") ∷ abstract "T" (type "S") ∷ struct "C" (type "T") [] ∷ def "f" (free "x" ∷ []) (int 0) ∷ def "f" (typed "x" "S" ∷ []) (int 1) ∷ run (Value (call "println" (call "f" (call "C" [] ∷ []) ∷ call "f" (Nothing ∷ []) ∷ []))) ∷ [])
    "10\n"

abbrev pub an_operator_takes_methods : Type 0
an_operator_takes_methods =
    Prints (struct "V" (type "Any") (typed "x" "Int64" ∷ []) ∷ def_in "Base" "+" (typed "a" "V" ∷ typed "b" "V" ∷ []) (call "V" (op "+" (field (local "a") "x") (field (local "b") "x") ∷ [])) ∷ show (op "+" (call "V" (int 1 ∷ [])) (call "V" (int 2 ∷ []))) ∷ [])
    "Main.V(3)\n"

abbrev pub greater_calls_less : Type 0
greater_calls_less =
    Prints (struct "V" (type "Any") [] ∷ def_in "Base" "<" (typed "a" "V" ∷ typed "b" "V" ∷ []) (str "less") ∷ show (op ">" (call "V" []) (call "V" [])) ∷ []) "less\n"

-- packages whose methods cross
abbrev crossing : List Source
crossing =
    source "S" [] (def "two" (free "a" ∷ free "b" ∷ []) (int 0) ∷ [])
    ∷ source "L" ("S" ∷ []) (def_in "S" "two" (typed "a" "Integer" ∷ typed "b" "Int64" ∷ []) (int 1) ∷ [])
    ∷ source "R" ("S" ∷ []) (def_in "S" "two" (typed "a" "Int64" ∷ typed "b" "Integer" ∷ []) (int 2) ∷ [])
    ∷ []

abbrev pub a_package_can_make_a_call_ambiguous : Type 0
a_package_can_make_a_call_ambiguous =
    Puts crossing 1000000 (using ("S" ∷ "L" ∷ []) ∷ show (call_of "S" "two" (int 1 ∷ int 2 ∷ [])) ∷ using ("R" ∷ []) ∷ show (call_of "S" "two" (int 1 ∷ int 2 ∷ [])) ∷ [])
    "1\nERROR: MethodError: S.two(Int64, Int64) is ambiguous\n"

-- both ask whether the second argument is less than the first
abbrev pub least_and_greatest_ask_alike : Type 0
least_and_greatest_ask_alike =
    Prints (def_in "Base" "<" (typed "a" "Bool" ∷ typed "b" "Int64" ∷ []) True ∷ show (call "min" (int 1 ∷ False ∷ [])) ∷ show (call "max" (int 1 ∷ False ∷ [])) ∷ []) "false\n1\n"

abbrev pub least_asks_in_one_order : Type 0
least_asks_in_one_order =
    Prints (show (call "min" (False ∷ int 1 ∷ [])) ∷ []) "ERROR: MethodError: no method matching Base.<(Int64, Bool)\n"

abbrev pub difference_asks_for_equality : Type 0
difference_asks_for_equality =
    Prints (struct "V" (type "Any") [] ∷ def_in "Base" "==" (typed "a" "V" ∷ typed "b" "Int64" ∷ []) True ∷ show (op "!=" (call "V" []) (int 1)) ∷ show (op "!=" (int 1) (call "V" [])) ∷ []) "false\ntrue\n"
