-- Rows on scopes: the names that they introduce, what is refused, and the limits.
use Rattle.std.specs.Prelude.{◌≡◌, Bool, true, false, [], ◌∷◌, codes, map, replicate}
use Rattle.pj_meaning.specs.Tree.{Nothing, True, Value, Break, Continue, Return, Eval, Define, Evaluate, body, Run, StructDef}
use Rattle.pj_meaning.specs.Written.{int, local, name, name_of, call, latest, block, set, set_global, when, while, for, println, type, typed}
use Rattle.pj_tree.specs.Scopes.{introduced, names_twice, reads_loop_name, sets_introduced, strays, own_body_ok, own_stmt_ok, own_expr_ok, few_names, body_ok, item_ok}

abbrev Holds : Bool → Type 0
Holds b = b ≡ true

abbrev Fails : Bool → Type 0
Fails b = b ≡ false

abbrev pub names_in_order_of_their_first_assignment : Type 0
names_in_order_of_their_first_assignment =
    introduced [] (block (set "b" (int 1) ∷ when True (set "a" (int 2) ∷ []) (set "b" (int 3) ∷ []) ∷ set "a" (int 4) ∷ [])) ≡ map codes ("b" ∷ "a" ∷ [])

abbrev pub a_loops_assignments_are_not_direct : Type 0
a_loops_assignments_are_not_direct = introduced [] (block (while ("a" ∷ []) True (set "a" (int 1) ∷ []) ∷ set "b" (int 2) ∷ [])) ≡ map codes ("b" ∷ [])

abbrev pub outer_names_are_not_introduced_again : Type 0
outer_names_are_not_introduced_again = introduced (codes "a" ∷ []) (block (set "a" (int 1) ∷ set "b" (int 2) ∷ [])) ≡ map codes ("b" ∷ [])

-- the body assigns x after its loop, so the loop introduces none
abbrev pub a_later_assignment_is_the_bodys : Type 0
a_later_assignment_is_the_bodys =
    Holds (own_body_ok [] (map codes ("x" ∷ [])) (block (for "i" (int 1) (int 2) [] (set "x" (local "i") ∷ []) ∷ set "x" (int 3) ∷ [])))

abbrev pub a_loop_carries_no_name_of_its_body : Type 0
a_loop_carries_no_name_of_its_body =
    Fails (own_body_ok [] (map codes ("x" ∷ [])) (block (for "i" (int 1) (int 2) ("x" ∷ []) (set "x" (local "i") ∷ []) ∷ set "x" (int 3) ∷ [])))

abbrev pub a_loops_variable_is_not_in_its_list : Type 0
a_loops_variable_is_not_in_its_list =
    Holds (own_body_ok [] [] (block (for "i" (int 1) (int 2) ("x" ∷ []) (set "i" (int 3) ∷ set "x" (local "i") ∷ []) ∷ [])))

abbrev pub bounds_stand_outside_the_loop : Type 0
bounds_stand_outside_the_loop = Fails (own_body_ok [] [] (block (for "i" (int 1) (local "i") [] [] ∷ [])))

abbrev pub a_parameter_is_read_as_a_local : Type 0
a_parameter_is_read_as_a_local = Fails (own_body_ok (codes "x" ∷ []) [] (block (Value (name "x") ∷ [])))

abbrev pub a_name_of_a_module_is_none_of_the_scope : Type 0
a_name_of_a_module_is_none_of_the_scope = Holds (own_body_ok (codes "x" ∷ []) [] (block (Value (name_of "Base" "x") ∷ [])))

abbrev pub a_local_is_called_as_a_local : Type 0
a_local_is_called_as_a_local = Fails (own_body_ok (codes "f" ∷ []) [] (block (Value (call "f" []) ∷ [])))

abbrev pub a_loops_name_is_not_read_outside : Type 0
a_loops_name_is_not_read_outside = Holds (reads_loop_name (block (for "i" (int 1) (int 2) [] [] ∷ println (name "i") ∷ [])))

abbrev pub a_loops_name_is_not_called_outside : Type 0
a_loops_name_is_not_called_outside = Holds (reads_loop_name (block (Value (call "f" []) ∷ while ("f" ∷ []) True (set "f" (int 1) ∷ []) ∷ [])))

abbrev pub another_name_is_read_outside : Type 0
another_name_is_read_outside = Fails (reads_loop_name (block (for "i" (int 1) (int 2) [] [] ∷ println (name "j") ∷ [])))

abbrev pub a_name_stands_twice : Type 0
a_name_stands_twice = Holds (names_twice (map codes ("a" ∷ "b" ∷ "a" ∷ [])))

abbrev pub parameters_without_names_are_not_twice : Type 0
parameters_without_names_are_not_twice = Fails (names_twice (map codes ("" ∷ "a" ∷ "" ∷ [])))

abbrev pub a_field_stands_twice : Type 0
a_field_stands_twice = Fails (item_ok (StructDef true (codes "T") (type "Any") (typed "a" "Any" ∷ typed "a" "Int64" ∷ [])))

abbrev pub a_parameter_is_no_global : Type 0
a_parameter_is_no_global = Holds (sets_introduced (codes "x" ∷ []) [] (block (set_global "x" (int 1) ∷ [])))

abbrev pub a_loops_name_is_no_global_before_it : Type 0
a_loops_name_is_no_global_before_it =
    Holds (sets_introduced [] [] (block (set_global "x" (int 1) ∷ while ("x" ∷ []) True (set "x" (int 2) ∷ []) ∷ [])))

abbrev pub another_name_is_a_global : Type 0
another_name_is_a_global = Fails (sets_introduced (codes "x" ∷ []) [] (block (set_global "y" (int 1) ∷ [])))

-- outside its loops a statement at top level sets globals by plain assignments
abbrev pub a_statement_sets_a_global_beside_its_loop : Type 0
a_statement_sets_a_global_beside_its_loop =
    Holds (own_stmt_ok (when True (set_global "x" (int 1) ∷ while ("x" ∷ []) True (set "x" (int 2) ∷ []) ∷ []) []))

abbrev pub a_statements_loop_sets_no_global_of_its_name : Type 0
a_statements_loop_sets_no_global_of_its_name =
    Fails (own_stmt_ok (while ("x" ∷ []) True (set "x" (int 2) ∷ set_global "x" (int 1) ∷ [])))

abbrev pub no_break_outside_a_loop : Type 0
no_break_outside_a_loop = Holds (strays true false (block (when True (Break ∷ []) [] ∷ [])))

abbrev pub no_continue_after_a_loop : Type 0
no_continue_after_a_loop = Holds (strays true false (block (while [] True [] ∷ Continue ∷ [])))

abbrev pub break_within_an_if_within_a_loop : Type 0
break_within_an_if_within_a_loop = Fails (strays false false (block (while [] True (when True (Break ∷ []) (Continue ∷ []) ∷ []) ∷ [])))

abbrev pub no_return_at_top_level : Type 0
no_return_at_top_level = Fails (item_ok (Run (while [] True (Return Nothing ∷ []))))

abbrev pub return_within_a_bodys_loop : Type 0
return_within_a_bodys_loop = Holds (own_body_ok [] [] (block (while [] True (Return Nothing ∷ []) ∷ [])))

abbrev pub sixteen_arguments : Type 0
sixteen_arguments = Holds (own_expr_ok (call "f" (replicate 16 True)))

abbrev pub no_seventeenth_argument : Type 0
no_seventeenth_argument = Fails (own_expr_ok (call "f" (replicate 17 True)))

abbrev pub fifteen_arguments_after_a_function : Type 0
fifteen_arguments_after_a_function = Holds (own_expr_ok (latest (name "f") (replicate 15 True)))

abbrev pub no_sixteenth_argument_after_a_function : Type 0
no_sixteenth_argument_after_a_function = Fails (own_expr_ok (latest (name "f") (replicate 16 True)))

abbrev pub no_seventeenth_parameter : Type 0
no_seventeenth_parameter = Fails (own_body_ok (replicate 17 []) [] (block []))

abbrev pub so_many_names : Type 0
so_many_names = Holds (few_names (codes "p" ∷ []) (replicate 1022 (codes "x")) (block (for "i" (int 1) (int 2) [] [] ∷ [])))

abbrev pub one_name_too_many : Type 0
one_name_too_many = Fails (few_names (codes "p" ∷ []) (replicate 1023 (codes "x")) (block (for "i" (int 1) (int 2) [] [] ∷ [])))

abbrev pub an_evaluated_body_has_its_own_scopes : Type 0
an_evaluated_body_has_its_own_scopes =
    Holds (body_ok (body (codes "x" ∷ []) [] (block (Eval [] (Define [] (codes "f") [] (body [] [] (block (Value (name "x") ∷ [])))) ∷ []))))

abbrev pub an_evaluated_expression_sees_no_local : Type 0
an_evaluated_expression_sees_no_local = Fails (body_ok (body (codes "x" ∷ []) [] (block (Eval [] (Evaluate (local "x")) ∷ []))))
