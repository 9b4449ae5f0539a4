-- Rows on loops, their scopes and their charges.
use Rattle.std.specs.Prelude.{List, [], ◌∷◌}
use Rattle.pj_meaning.specs.Tree.{TopItem, Nothing, False, True, Value, Break, Continue, Return}
use Rattle.pj_meaning.specs.Written.{int, str, local, name, call, op, set, set_global, when, while, for, println, free, function, run, show, Puts, Prints}

abbrev summing : List TopItem
summing = run (set_global "s" (int 0)) ∷ run (for "i" (int 1) (int 3) [] (set_global "s" (op "+" (name "s") (local "i")) ∷ [])) ∷ show (name "s") ∷ []

abbrev pub eight_steps_for_three_turns : Type 0
eight_steps_for_three_turns = Puts [] 8 summing "6\n"

abbrev pub a_step_less_prints_nothing : Type 0
a_step_less_prints_nothing = Puts [] 7 summing "steps\n"

-- four conditions, three turns, three sums, println and print
abbrev counting : List TopItem
counting = run (set_global "x" (int 0)) ∷ run (while [] (op "<" (name "x") (int 3)) (set_global "x" (op "+" (name "x") (int 1)) ∷ [])) ∷ show (name "x") ∷ []

abbrev pub a_while_is_charged_after_its_condition : Type 0
a_while_is_charged_after_its_condition = Puts [] 12 counting "3\n"

abbrev pub a_while_without_a_step_left : Type 0
a_while_without_a_step_left = Puts [] 11 counting "steps\n"

abbrev pub no_turn_is_not_charged : Type 0
no_turn_is_not_charged = Puts [] 0 (run (for "i" (int 1) (int 0) [] (println (int 1) ∷ [])) ∷ run (while [] False (println (int 1) ∷ [])) ∷ []) ""

abbrev pub an_endless_loop_ends : Type 0
an_endless_loop_ends = Puts [] 5 (run (while [] True (Value Nothing ∷ [])) ∷ []) "steps\n"

abbrev pub bounds_are_evaluated_and_then_checked : Type 0
bounds_are_evaluated_and_then_checked =
    Prints (run (for "i" (call "println" (str "a" ∷ [])) (call "println" (str "b" ∷ [])) [] []) ∷ []) "a\nb\nERROR: TypeError: range bound of type Nothing\n"

abbrev pub the_first_bound_is_checked_first : Type 0
the_first_bound_is_checked_first = Prints (run (for "i" (str "a") True [] []) ∷ []) "ERROR: TypeError: range bound of type String\n"

abbrev pub the_second_bound_is_checked : Type 0
the_second_bound_is_checked = Prints (run (for "i" (int 5) True [] []) ∷ []) "ERROR: TypeError: range bound of type Bool\n"

abbrev pub the_greatest_bound_ends : Type 0
the_greatest_bound_ends =
    Prints (run (for "i" (int 9223372036854775806) (int 9223372036854775807) [] (println (local "i") ∷ [])) ∷ []) "9223372036854775806\n9223372036854775807\n"

abbrev pub an_assigned_loop_variable_is_set_anew : Type 0
an_assigned_loop_variable_is_set_anew =
    Prints (run (for "i" (int 1) (int 3) [] (println (local "i") ∷ set "i" (int 10) ∷ [])) ∷ []) "1\n2\n3\n"

abbrev pub break_and_continue : Type 0
break_and_continue =
    Prints (run (for "i" (int 1) (int 9) [] (when (op "==" (local "i") (int 2)) (Continue ∷ []) [] ∷ when (op "==" (local "i") (int 4)) (Break ∷ []) [] ∷ println (local "i") ∷ [])) ∷ []) "1\n3\n"

abbrev pub break_leaves_the_inner_loop : Type 0
break_leaves_the_inner_loop =
    Prints (run (for "i" (int 1) (int 2) [] (for "j" (int 1) (int 9) [] (when (op "==" (local "j") (int 2)) (Break ∷ []) [] ∷ println (local "j") ∷ []) ∷ println (local "i") ∷ [])) ∷ []) "1\n1\n1\n2\n"

abbrev pub return_leaves_its_loops : Type 0
return_leaves_its_loops =
    Prints (function "f" [] [] (for "i" (int 1) (int 9) [] (while [] True (when (op "<" (int 2) (local "i")) (Return (local "i") ∷ []) [] ∷ Break ∷ []) ∷ []) ∷ []) ∷ show (call "f" []) ∷ []) "3\n"

abbrev pub a_loop_gives_nothing : Type 0
a_loop_gives_nothing = Prints (function "f" [] [] (for "i" (int 1) (int 2) [] (Value (int 7) ∷ []) ∷ []) ∷ show (call "f" []) ∷ []) "nothing\n"

abbrev pub a_loops_name_begins_without_a_value : Type 0
a_loops_name_begins_without_a_value =
    Prints (run (for "i" (int 1) (int 2) ("y" ∷ []) (when (op "==" (local "i") (int 1)) (set "y" (int 5) ∷ []) [] ∷ println (local "y") ∷ [])) ∷ [])
    "5\nERROR: UndefVarError: local y not defined\n"

abbrev pub a_loop_assigns_an_outer_local : Type 0
a_loop_assigns_an_outer_local =
    Prints (function "f" (free "n" ∷ []) ("s" ∷ []) (set "s" (int 0) ∷ for "i" (int 1) (local "n") [] (set "s" (op "+" (local "s") (local "i")) ∷ []) ∷ Return (local "s") ∷ []) ∷ show (call "f" (int 4 ∷ [])) ∷ []) "10\n"

abbrev pub a_top_level_if_binds_globals : Type 0
a_top_level_if_binds_globals = Prints (run (when True (set_global "x" (int 1) ∷ []) []) ∷ show (name "x") ∷ []) "1\n"

abbrev pub blocks_have_values : Type 0
blocks_have_values =
    Prints (function "f" (free "b" ∷ []) ("x" ∷ []) (when (local "b") (set "x" (int 4) ∷ []) [] ∷ []) ∷ run (Value (call "println" (call "f" (True ∷ []) ∷ str " " ∷ call "f" (False ∷ []) ∷ []))) ∷ []) "4 nothing\n"

abbrev pub an_inner_loop_variable_is_gone_after_its_loop : Type 0
an_inner_loop_variable_is_gone_after_its_loop =
    Prints (run (for "i" (int 1) (int 2) [] (for "i" (int 5) (int 6) [] [] ∷ println (local "i") ∷ [])) ∷ []) "1\n2\n"

abbrev pub a_loop_variable_hides_a_parameter_in_its_loop : Type 0
a_loop_variable_hides_a_parameter_in_its_loop =
    Prints (function "f" (free "i" ∷ []) [] (for "i" (int 1) (int 2) [] (println (local "i") ∷ []) ∷ Return (local "i") ∷ []) ∷ show (call "f" (int 9 ∷ [])) ∷ []) "1\n2\n9\n"

abbrev pub a_while_has_names_of_its_own : Type 0
a_while_has_names_of_its_own =
    Prints (function "f" (free "n" ∷ []) ("s" ∷ []) (set "s" (int 0) ∷ while ("y" ∷ []) (op "<" (local "s") (local "n")) (set "y" (int 2) ∷ set "s" (op "+" (local "s") (local "y")) ∷ []) ∷ Return (local "s") ∷ []) ∷ show (call "f" (int 5 ∷ [])) ∷ []) "6\n"

abbrev pub a_name_of_a_while_begins_without_a_value : Type 0
a_name_of_a_while_begins_without_a_value =
    Prints (function "f" [] ("i" ∷ []) (set "i" (int 0) ∷ while ("y" ∷ []) (op "<" (local "i") (int 2)) (when (op "==" (local "i") (int 0)) (set "y" (int 5) ∷ []) [] ∷ println (local "y") ∷ set "i" (op "+" (local "i") (int 1)) ∷ []) ∷ []) ∷ run (Value (call "f" [])) ∷ [])
    "5\nERROR: UndefVarError: local y not defined\n"

abbrev pub a_while_condition_has_to_be_a_bool : Type 0
a_while_condition_has_to_be_a_bool = Prints (run (while [] Nothing []) ∷ []) "ERROR: TypeError: non-boolean (Nothing) used in boolean context\n"
