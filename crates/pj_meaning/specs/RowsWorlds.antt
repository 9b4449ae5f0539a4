-- Rows on worlds: what a running call sees, and what evaluation adds.
use Rattle.std.specs.Prelude.{List, [], ◌∷◌, ◌++◌}
use Rattle.pj_meaning.specs.Tree.{TopItem, Declare, Expr, Value, Return, Eval, SetBinding, Evaluate}
use Rattle.pj_meaning.specs.Packages.{Source}
use lib.Chars.{codes}
use Rattle.pj_meaning.specs.Written.{int, local, name, name_of, call, call_of, latest, op, set_global, for, println, free, def, function, payload_def, using, run, show, source, Puts, Prints}

-- go() defines n and calls it
abbrev defines_and_calls : Expr → List TopItem
defines_and_calls e = function "go" [] [] (Eval [] (payload_def "n" [] (int 1)) ∷ Return e ∷ []) ∷ show (call "go" []) ∷ []

abbrev pub a_running_call_misses_a_new_method : Type 0
a_running_call_misses_a_new_method = Prints (defines_and_calls (call "n" [])) "ERROR: MethodError: no method matching Main.n()\n"

abbrev pub invokelatest_finds_a_new_method : Type 0
invokelatest_finds_a_new_method = Prints (defines_and_calls (latest (name "n") [])) "1\n"

-- h() replaces g() and calls it
abbrev replaces : List TopItem
replaces = def "g" [] (int 1) ∷ function "h" [] [] (Eval [] (payload_def "g" [] (int 2)) ∷ Return (call "g" []) ∷ []) ∷ []

abbrev pub a_running_call_keeps_its_methods : Type 0
a_running_call_keeps_its_methods = Prints (replaces ++ show (call "h" []) ∷ show (call "h" []) ∷ []) "1\n2\n"

abbrev pub a_statement_keeps_its_world : Type 0
a_statement_keeps_its_world = Prints (replaces ++ show (op "+" (call "h" []) (call "g" [])) ∷ show (call "g" []) ∷ []) "2\n2\n"

abbrev pub a_top_level_loop_is_one_statement : Type 0
a_top_level_loop_is_one_statement =
    Prints (def "k" [] (int 1) ∷ run (for "i" (int 1) (int 2) [] (println (call "k" []) ∷ Eval [] (payload_def "k" [] (int 2)) ∷ [])) ∷ show (call "k" []) ∷ [])
    "1\n1\n2\n"

abbrev pub the_latest_body_runs_at_the_newest_world : Type 0
the_latest_body_runs_at_the_newest_world =
    Prints (def "g" [] (int 1) ∷ def "f" [] (call "g" []) ∷ function "t" [] [] (Eval [] (payload_def "g" [] (int 5)) ∷ Return (op "+" (latest (name "f") []) (call "f" [])) ∷ []) ∷ show (call "t" []) ∷ [])
    "6\n"

abbrev pub an_evaluated_expression_sees_the_newest_world : Type 0
an_evaluated_expression_sees_the_newest_world =
    Prints (function "t" [] [] (Eval [] (payload_def "n" [] (int 3)) ∷ Eval [] (Evaluate (call "println" (call "n" [] ∷ []))) ∷ []) ∷ run (Value (call "t" [])) ∷ [])
    "3\n"

abbrev pub a_global_is_read_at_its_newest : Type 0
a_global_is_read_at_its_newest =
    Prints (function "t" [] [] (Eval [] (SetBinding (codes "x") (int 7)) ∷ Return (name "x") ∷ []) ∷ show (call "t" []) ∷ []) "7\n"

abbrev pub a_definition_gives_its_function : Type 0
a_definition_gives_its_function = Prints (function "t" [] [] (Eval [] (payload_def "n" [] (int 1)) ∷ []) ∷ show (call "t" []) ∷ []) "Main.n\n"

abbrev pub a_payload_sees_no_locals : Type 0
a_payload_sees_no_locals =
    Prints (run (set_global "x" (int 1)) ∷ function "t" (free "x" ∷ []) [] (Eval [] (Evaluate (call "println" (name "x" ∷ []))) ∷ []) ∷ run (Value (call "t" (int 2 ∷ []))) ∷ [])
    "1\n"

abbrev pub a_declared_function_has_no_method : Type 0
a_declared_function_has_no_method = Prints (Declare (codes "f") ∷ show (name "f") ∷ show (call "f" []) ∷ []) "Main.f\nERROR: MethodError: no method matching Main.f()\n"

abbrev pub a_method_can_be_evaluated_in_base : Type 0
a_method_can_be_evaluated_in_base =
    Prints (run (Eval (codes "Base") (payload_def "twice" (free "x" ∷ []) (op "*" (int 2) (local "x")))) ∷ show (call "twice" (int 4 ∷ [])) ∷ show (name "twice") ∷ []) "8\nBase.twice\n"

abbrev pub a_name_evaluated_in_base_is_base_s : Type 0
a_name_evaluated_in_base_is_base_s =
    Prints (run (Eval (codes "Base") (SetBinding (codes "x") (int 1))) ∷ show (name "x") ∷ run (set_global "x" (int 2)) ∷ []) "1\nERROR: invalid redefinition of Main.x\n"

abbrev maker : Source
maker = source "A" [] (function "make" [] [] (Eval [] (payload_def "z" [] (int 1)) ∷ []) ∷ [])

abbrev pub a_method_evaluates_in_its_own_module : Type 0
a_method_evaluates_in_its_own_module =
    Puts (maker ∷ []) 1000000 (using ("A" ∷ []) ∷ show (call_of "A" "make" []) ∷ show (call_of "A" "z" []) ∷ []) "A.z\n1\n"

abbrev pub a_script_evaluates_in_a_loaded_package : Type 0
a_script_evaluates_in_a_loaded_package =
    Puts (maker ∷ []) 1000000 (using ("A" ∷ []) ∷ run (Eval (codes "A") (payload_def "y" [] (int 4))) ∷ show (call_of "A" "y" []) ∷ []) "4\n"

abbrev pub a_name_is_sought_in_its_module_first : Type 0
a_name_is_sought_in_its_module_first =
    Prints (run (set_global "x" (int 5)) ∷ run (Eval (codes "Base") (SetBinding (codes "x") (int 1))) ∷ show (name "x") ∷ show (name_of "Base" "x") ∷ []) "5\n1\n"

abbrev pub invokelatest_takes_the_world_after_its_arguments : Type 0
invokelatest_takes_the_world_after_its_arguments =
    Prints (def "f" (free "x" ∷ []) (int 1) ∷ function "t" [] [] (Eval [] (payload_def "f" (free "x" ∷ []) (int 2)) ∷ Return (int 0) ∷ []) ∷ show (latest (name "f") (call "t" [] ∷ [])) ∷ []) "2\n"
