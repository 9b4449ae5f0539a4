-- Each row computes.
use Rattle.std.specs.Prelude.{refl}
use Rattle.pj_tree.proofs.scope_rows.refused_rows.Goals as goal

pub returns-clause-a_loops_name_is_not_read_outside : goal.returns-clause-a_loops_name_is_not_read_outside
returns-clause-a_loops_name_is_not_read_outside c = refl

pub returns-clause-a_loops_name_is_not_called_outside : goal.returns-clause-a_loops_name_is_not_called_outside
returns-clause-a_loops_name_is_not_called_outside c = refl

pub returns-clause-another_name_is_read_outside : goal.returns-clause-another_name_is_read_outside
returns-clause-another_name_is_read_outside c = refl

pub returns-clause-a_name_stands_twice : goal.returns-clause-a_name_stands_twice
returns-clause-a_name_stands_twice c = refl

pub returns-clause-parameters_without_names_are_not_twice : goal.returns-clause-parameters_without_names_are_not_twice
returns-clause-parameters_without_names_are_not_twice c = refl

pub returns-clause-a_field_stands_twice : goal.returns-clause-a_field_stands_twice
returns-clause-a_field_stands_twice c = refl

pub returns-clause-a_parameter_is_no_global : goal.returns-clause-a_parameter_is_no_global
returns-clause-a_parameter_is_no_global c = refl

pub returns-clause-a_loops_name_is_no_global_before_it : goal.returns-clause-a_loops_name_is_no_global_before_it
returns-clause-a_loops_name_is_no_global_before_it c = refl

pub returns-clause-another_name_is_a_global : goal.returns-clause-another_name_is_a_global
returns-clause-another_name_is_a_global c = refl

pub returns-clause-a_statement_sets_a_global_beside_its_loop : goal.returns-clause-a_statement_sets_a_global_beside_its_loop
returns-clause-a_statement_sets_a_global_beside_its_loop c = refl

pub returns-clause-a_statements_loop_sets_no_global_of_its_name : goal.returns-clause-a_statements_loop_sets_no_global_of_its_name
returns-clause-a_statements_loop_sets_no_global_of_its_name c = refl

pub returns-clause-no_break_outside_a_loop : goal.returns-clause-no_break_outside_a_loop
returns-clause-no_break_outside_a_loop c = refl

pub returns-clause-no_continue_after_a_loop : goal.returns-clause-no_continue_after_a_loop
returns-clause-no_continue_after_a_loop c = refl

pub returns-clause-break_within_an_if_within_a_loop : goal.returns-clause-break_within_an_if_within_a_loop
returns-clause-break_within_an_if_within_a_loop c = refl

pub returns-clause-no_return_at_top_level : goal.returns-clause-no_return_at_top_level
returns-clause-no_return_at_top_level c = refl

pub returns-clause-return_within_a_bodys_loop : goal.returns-clause-return_within_a_bodys_loop
returns-clause-return_within_a_bodys_loop c = refl
