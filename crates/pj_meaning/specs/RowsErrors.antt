-- Rows on errors: each text that no other file shows, and the order of checks.
use Rattle.std.specs.Prelude.{[], ◌∷◌}
use Rattle.pj_meaning.specs.Tree.{TopItem, Declare, Expr, Nothing, False, True, And, Or, Value, Eval, Evaluate}
use Prim.Native.String.{String}
use lib.Chars.{codes}
use Rattle.pj_meaning.specs.Written.{int, str, name, name_of, field, call, call_local, latest, op, set, set_global, set_field, when, type, type_in, typed, typed_in, free, def, def_in, function, abstract, struct, mutable, const, run, show, Prints}

abbrev point : TopItem
point = struct "P" (type "Any") (typed "v" "Int64" ∷ [])

abbrev cell : TopItem
cell = mutable "Cell" (typed "v" "Int64" ∷ [])

-- println of a text, which gives nothing
abbrev says : String → Expr
says s = call "println" (str s ∷ [])

abbrev pub a_name_that_is_not_bound : Type 0
a_name_that_is_not_bound = Prints (show (name "y") ∷ []) "ERROR: UndefVarError: Main.y not defined\n"

abbrev pub a_type_is_no_value : Type 0
a_type_is_no_value = Prints (show (name "Int") ∷ []) "ERROR: UndefVarError: Main.Int not defined\n"

abbrev pub a_name_of_base_is_not_mains : Type 0
a_name_of_base_is_not_mains = Prints (show (name_of "Main" "abs") ∷ []) "ERROR: UndefVarError: Main.abs not defined\n"

abbrev pub a_module_that_is_not_loaded : Type 0
a_module_that_is_not_loaded = Prints (show (name_of "A" "x") ∷ []) "ERROR: UndefVarError: module A not loaded\n"

abbrev pub a_value_that_is_not_called : Type 0
a_value_that_is_not_called = Prints (const "x" (int 1) ∷ show (call "x" (says "a" ∷ [])) ∷ []) "a\nERROR: MethodError: value of type Int64 is not callable\n"

abbrev pub a_condition_that_is_no_bool : Type 0
a_condition_that_is_no_bool = Prints (run (when (int 1) [] []) ∷ []) "ERROR: TypeError: non-boolean (Int64) used in boolean context\n"

abbrev pub a_conjunct_that_is_no_bool : Type 0
a_conjunct_that_is_no_bool = Prints (show (And True (int 3)) ∷ show (Or True (int 3)) ∷ show (And (str "a") True) ∷ []) "3\ntrue\nERROR: TypeError: non-boolean (String) used in boolean context\n"

abbrev pub a_disjunct_that_is_no_bool : Type 0
a_disjunct_that_is_no_bool = Prints (show (Or False (int 3)) ∷ show (And False (says "a")) ∷ show (Or Nothing True) ∷ []) "3\nfalse\nERROR: TypeError: non-boolean (Nothing) used in boolean context\n"

abbrev pub a_field_that_is_not_there : Type 0
a_field_that_is_not_there = Prints (point ∷ show (field (call "P" (int 1 ∷ [])) "w") ∷ []) "ERROR: FieldError: type Main.P has no field w\n"

abbrev pub a_store_into_a_struct : Type 0
a_store_into_a_struct = Prints (point ∷ run (set_field (call "P" (int 1 ∷ [])) "v" (str "s")) ∷ []) "ERROR: ImmutableError: type Main.P cannot be changed\n"

abbrev pub a_store_of_another_type : Type 0
a_store_of_another_type = Prints (cell ∷ run (set_field (call "Cell" (int 1 ∷ [])) "v" True) ∷ []) "ERROR: TypeError: field v of Main.Cell takes Int64, got Bool\n"

abbrev pub a_store_evaluates_and_then_checks : Type 0
a_store_evaluates_and_then_checks = Prints (run (set_field (says "a") "v" (says "b")) ∷ []) "a\nb\nERROR: FieldError: type Nothing has no field v\n"

abbrev pub a_missing_field_comes_before_the_struct : Type 0
a_missing_field_comes_before_the_struct = Prints (point ∷ run (set_field (call "P" (int 1 ∷ [])) "w" Nothing) ∷ []) "ERROR: FieldError: type Main.P has no field w\n"

abbrev pub a_raised_text : Type 0
a_raised_text = Prints (show (call "error" (str "boom \"1\"" ∷ [])) ∷ []) "ERROR: boom \"1\"\n"

abbrev pub a_name_of_base_is_not_defined : Type 0
a_name_of_base_is_not_defined = Prints (def "abs" (free "x" ∷ []) (int 1) ∷ []) "ERROR: invalid redefinition of Main.abs\n"

abbrev pub a_name_of_base_is_not_assigned : Type 0
a_name_of_base_is_not_assigned = Prints (run (set_global "abs" (says "a")) ∷ []) "a\nERROR: invalid redefinition of Main.abs\n"

abbrev pub int_is_a_name_of_base : Type 0
int_is_a_name_of_base = Prints (const "Int" (says "a") ∷ []) "a\nERROR: invalid redefinition of Main.Int\n"

abbrev pub a_const_is_bound_once : Type 0
a_const_is_bound_once = Prints (const "x" (int 1) ∷ const "x" (says "a") ∷ []) "a\nERROR: invalid redefinition of Main.x\n"

abbrev pub a_const_is_not_assigned : Type 0
a_const_is_not_assigned = Prints (const "x" (int 1) ∷ run (set_global "x" (says "a")) ∷ []) "a\nERROR: invalid redefinition of Main.x\n"

abbrev pub a_global_is_no_function : Type 0
a_global_is_no_function = Prints (run (set_global "x" (int 1)) ∷ Declare (codes "x") ∷ []) "ERROR: invalid redefinition of Main.x\n"

abbrev pub a_function_is_not_assigned : Type 0
a_function_is_not_assigned = Prints (def "f" [] (int 1) ∷ run (set_global "f" (int 1)) ∷ []) "ERROR: invalid redefinition of Main.f\n"

abbrev pub a_parent_that_is_not_abstract : Type 0
a_parent_that_is_not_abstract = Prints (struct "T" (type "Int") (typed "v" "Nah" ∷ []) ∷ []) "ERROR: TypeError: supertype Int64 is not abstract\n"

abbrev pub a_types_name_is_checked_first : Type 0
a_types_name_is_checked_first = Prints (struct "abs" (type "Nope") [] ∷ []) "ERROR: invalid redefinition of Main.abs\n"

abbrev pub a_parent_is_checked_before_the_fields : Type 0
a_parent_is_checked_before_the_fields = Prints (struct "T" (type_in "A" "Nope") (typed "v" "Nah" ∷ []) ∷ []) "ERROR: UndefVarError: module A not loaded\n"

abbrev pub fields_are_checked_in_order : Type 0
fields_are_checked_in_order = Prints (struct "T" (type "Any") (typed "a" "T" ∷ typed "b" "Nah" ∷ typed_in "c" "A" "X" ∷ []) ∷ []) "ERROR: UndefVarError: Main.Nah not defined\n"

abbrev pub no_type_is_its_own_parent : Type 0
no_type_is_its_own_parent = Prints (abstract "T" (type "T") ∷ []) "ERROR: UndefVarError: Main.T not defined\n"

abbrev pub arguments_come_before_the_callee : Type 0
arguments_come_before_the_callee = Prints (show (call "g" (says "a" ∷ says "b" ∷ [])) ∷ []) "a\nb\nERROR: UndefVarError: Main.g not defined\n"

abbrev pub arguments_come_before_a_local_callee : Type 0
arguments_come_before_a_local_callee =
    Prints (function "f" [] ("g" ∷ []) (Value (call_local "g" (says "a" ∷ [])) ∷ set "g" (name "abs") ∷ []) ∷ run (Value (call "f" [])) ∷ []) "a\nERROR: UndefVarError: local g not defined\n"

abbrev pub invokelatest_reads_its_function_first : Type 0
invokelatest_reads_its_function_first = Prints (show (latest (name "g") (says "a" ∷ [])) ∷ []) "ERROR: UndefVarError: Main.g not defined\n"

abbrev pub invokelatest_of_no_function : Type 0
invokelatest_of_no_function = Prints (show (latest (str "g") (says "a" ∷ [])) ∷ []) "a\nERROR: MethodError: value of type String is not callable\n"

abbrev pub a_functions_name_is_checked_before_its_parameters : Type 0
a_functions_name_is_checked_before_its_parameters = Prints (def "abs" (typed "x" "Nope" ∷ []) (int 1) ∷ []) "ERROR: invalid redefinition of Main.abs\n"

abbrev pub a_function_of_base_that_is_not_there : Type 0
a_function_of_base_that_is_not_there = Prints (def_in "Base" "foo" (typed "x" "Nope" ∷ []) (int 1) ∷ []) "ERROR: UndefVarError: Base.foo not defined\n"

abbrev pub parameters_are_checked_in_order : Type 0
parameters_are_checked_in_order = Prints (def "f" (typed "x" "Nope" ∷ typed_in "y" "A" "T" ∷ []) (int 1) ∷ []) "ERROR: UndefVarError: Main.Nope not defined\n"

abbrev pub a_parameter_is_no_function_of_the_same_definition : Type 0
a_parameter_is_no_function_of_the_same_definition = Prints (def "f" (typed "x" "f" ∷ []) (int 1) ∷ []) "ERROR: UndefVarError: Main.f not defined\n"

abbrev pub the_module_comes_before_the_payload : Type 0
the_module_comes_before_the_payload = Prints (run (Eval (codes "A") (Evaluate (says "a"))) ∷ []) "ERROR: UndefVarError: module A not loaded\n"

abbrev pub an_error_ends_the_script : Type 0
an_error_ends_the_script = Prints (show (int 1) ∷ show (op "div" (int 1) (int 0)) ∷ show (int 2) ∷ []) "1\nERROR: DivideError: integer division error\n"
