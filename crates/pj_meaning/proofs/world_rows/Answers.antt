-- Each row computes.
use Rattle.std.specs.Prelude.{refl}
use Rattle.pj_meaning.specs.Written.{computing}
use Rattle.pj_meaning.proofs.world_rows.Goals as goal

pub returns-clause-a_running_call_misses_a_new_method : goal.returns-clause-a_running_call_misses_a_new_method
unfolding computing
returns-clause-a_running_call_misses_a_new_method c = refl

pub returns-clause-invokelatest_finds_a_new_method : goal.returns-clause-invokelatest_finds_a_new_method
unfolding computing
returns-clause-invokelatest_finds_a_new_method c = refl

pub returns-clause-a_running_call_keeps_its_methods : goal.returns-clause-a_running_call_keeps_its_methods
unfolding computing
returns-clause-a_running_call_keeps_its_methods c = refl

pub returns-clause-a_statement_keeps_its_world : goal.returns-clause-a_statement_keeps_its_world
unfolding computing
returns-clause-a_statement_keeps_its_world c = refl

pub returns-clause-a_top_level_loop_is_one_statement : goal.returns-clause-a_top_level_loop_is_one_statement
unfolding computing
returns-clause-a_top_level_loop_is_one_statement c = refl

pub returns-clause-the_latest_body_runs_at_the_newest_world : goal.returns-clause-the_latest_body_runs_at_the_newest_world
unfolding computing
returns-clause-the_latest_body_runs_at_the_newest_world c = refl

pub returns-clause-an_evaluated_expression_sees_the_newest_world : goal.returns-clause-an_evaluated_expression_sees_the_newest_world
unfolding computing
returns-clause-an_evaluated_expression_sees_the_newest_world c = refl

pub returns-clause-a_global_is_read_at_its_newest : goal.returns-clause-a_global_is_read_at_its_newest
unfolding computing
returns-clause-a_global_is_read_at_its_newest c = refl

pub returns-clause-a_definition_gives_its_function : goal.returns-clause-a_definition_gives_its_function
unfolding computing
returns-clause-a_definition_gives_its_function c = refl

pub returns-clause-a_payload_sees_no_locals : goal.returns-clause-a_payload_sees_no_locals
unfolding computing
returns-clause-a_payload_sees_no_locals c = refl

pub returns-clause-a_declared_function_has_no_method : goal.returns-clause-a_declared_function_has_no_method
unfolding computing
returns-clause-a_declared_function_has_no_method c = refl

pub returns-clause-a_method_can_be_evaluated_in_base : goal.returns-clause-a_method_can_be_evaluated_in_base
unfolding computing
returns-clause-a_method_can_be_evaluated_in_base c = refl

pub returns-clause-a_name_evaluated_in_base_is_base_s : goal.returns-clause-a_name_evaluated_in_base_is_base_s
unfolding computing
returns-clause-a_name_evaluated_in_base_is_base_s c = refl

pub returns-clause-a_method_evaluates_in_its_own_module : goal.returns-clause-a_method_evaluates_in_its_own_module
unfolding computing
returns-clause-a_method_evaluates_in_its_own_module c = refl

pub returns-clause-a_script_evaluates_in_a_loaded_package : goal.returns-clause-a_script_evaluates_in_a_loaded_package
unfolding computing
returns-clause-a_script_evaluates_in_a_loaded_package c = refl

pub returns-clause-a_name_is_sought_in_its_module_first : goal.returns-clause-a_name_is_sought_in_its_module_first
unfolding computing
returns-clause-a_name_is_sought_in_its_module_first c = refl

pub returns-clause-invokelatest_takes_the_world_after_its_arguments : goal.returns-clause-invokelatest_takes_the_world_after_its_arguments
unfolding computing
returns-clause-invokelatest_takes_the_world_after_its_arguments c = refl
