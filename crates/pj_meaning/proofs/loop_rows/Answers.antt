-- Each row computes.
use Rattle.std.specs.Prelude.{refl}
use Rattle.pj_meaning.specs.Written.{computing}
use Rattle.pj_meaning.proofs.loop_rows.Goals as goal

pub returns-clause-eight_steps_for_three_turns : goal.returns-clause-eight_steps_for_three_turns
unfolding computing
returns-clause-eight_steps_for_three_turns c = refl

pub returns-clause-a_step_less_prints_nothing : goal.returns-clause-a_step_less_prints_nothing
unfolding computing
returns-clause-a_step_less_prints_nothing c = refl

pub returns-clause-a_while_is_charged_after_its_condition : goal.returns-clause-a_while_is_charged_after_its_condition
unfolding computing
returns-clause-a_while_is_charged_after_its_condition c = refl

pub returns-clause-a_while_without_a_step_left : goal.returns-clause-a_while_without_a_step_left
unfolding computing
returns-clause-a_while_without_a_step_left c = refl

pub returns-clause-no_turn_is_not_charged : goal.returns-clause-no_turn_is_not_charged
unfolding computing
returns-clause-no_turn_is_not_charged c = refl

pub returns-clause-an_endless_loop_ends : goal.returns-clause-an_endless_loop_ends
unfolding computing
returns-clause-an_endless_loop_ends c = refl

pub returns-clause-bounds_are_evaluated_and_then_checked : goal.returns-clause-bounds_are_evaluated_and_then_checked
unfolding computing
returns-clause-bounds_are_evaluated_and_then_checked c = refl

pub returns-clause-the_first_bound_is_checked_first : goal.returns-clause-the_first_bound_is_checked_first
unfolding computing
returns-clause-the_first_bound_is_checked_first c = refl

pub returns-clause-the_second_bound_is_checked : goal.returns-clause-the_second_bound_is_checked
unfolding computing
returns-clause-the_second_bound_is_checked c = refl

pub returns-clause-the_greatest_bound_ends : goal.returns-clause-the_greatest_bound_ends
unfolding computing
returns-clause-the_greatest_bound_ends c = refl

pub returns-clause-an_assigned_loop_variable_is_set_anew : goal.returns-clause-an_assigned_loop_variable_is_set_anew
unfolding computing
returns-clause-an_assigned_loop_variable_is_set_anew c = refl

pub returns-clause-break_and_continue : goal.returns-clause-break_and_continue
unfolding computing
returns-clause-break_and_continue c = refl

pub returns-clause-break_leaves_the_inner_loop : goal.returns-clause-break_leaves_the_inner_loop
unfolding computing
returns-clause-break_leaves_the_inner_loop c = refl

pub returns-clause-return_leaves_its_loops : goal.returns-clause-return_leaves_its_loops
unfolding computing
returns-clause-return_leaves_its_loops c = refl

pub returns-clause-a_loop_gives_nothing : goal.returns-clause-a_loop_gives_nothing
unfolding computing
returns-clause-a_loop_gives_nothing c = refl

pub returns-clause-a_loops_name_begins_without_a_value : goal.returns-clause-a_loops_name_begins_without_a_value
unfolding computing
returns-clause-a_loops_name_begins_without_a_value c = refl

pub returns-clause-a_loop_assigns_an_outer_local : goal.returns-clause-a_loop_assigns_an_outer_local
unfolding computing
returns-clause-a_loop_assigns_an_outer_local c = refl

pub returns-clause-a_top_level_if_binds_globals : goal.returns-clause-a_top_level_if_binds_globals
unfolding computing
returns-clause-a_top_level_if_binds_globals c = refl

pub returns-clause-blocks_have_values : goal.returns-clause-blocks_have_values
unfolding computing
returns-clause-blocks_have_values c = refl

pub returns-clause-an_inner_loop_variable_is_gone_after_its_loop : goal.returns-clause-an_inner_loop_variable_is_gone_after_its_loop
unfolding computing
returns-clause-an_inner_loop_variable_is_gone_after_its_loop c = refl

pub returns-clause-a_loop_variable_hides_a_parameter_in_its_loop : goal.returns-clause-a_loop_variable_hides_a_parameter_in_its_loop
unfolding computing
returns-clause-a_loop_variable_hides_a_parameter_in_its_loop c = refl

pub returns-clause-a_while_has_names_of_its_own : goal.returns-clause-a_while_has_names_of_its_own
unfolding computing
returns-clause-a_while_has_names_of_its_own c = refl

pub returns-clause-a_name_of_a_while_begins_without_a_value : goal.returns-clause-a_name_of_a_while_begins_without_a_value
unfolding computing
returns-clause-a_name_of_a_while_begins_without_a_value c = refl

pub returns-clause-a_while_condition_has_to_be_a_bool : goal.returns-clause-a_while_condition_has_to_be_a_bool
unfolding computing
returns-clause-a_while_condition_has_to_be_a_bool c = refl
