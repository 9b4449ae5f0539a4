-- Each row computes.
use Rattle.std.specs.Prelude.{refl}
use Rattle.pj_meaning.specs.Written.{computing}
use Rattle.pj_meaning.proofs.building_rows.Goals as goal

pub returns-clause-what_a_build_prints_stays_before_its_error : goal.returns-clause-what_a_build_prints_stays_before_its_error
unfolding computing
returns-clause-what_a_build_prints_stays_before_its_error c = refl

pub returns-clause-no_method_is_overwritten : goal.returns-clause-no_method_is_overwritten
unfolding computing
returns-clause-no_method_is_overwritten c = refl

pub returns-clause-no_method_of_its_own_is_overwritten : goal.returns-clause-no_method_of_its_own_is_overwritten
unfolding computing
returns-clause-no_method_of_its_own_is_overwritten c = refl

pub returns-clause-a_parameter_is_checked_before_overwriting : goal.returns-clause-a_parameter_is_checked_before_overwriting
unfolding computing
returns-clause-a_parameter_is_checked_before_overwriting c = refl

pub returns-clause-no_evaluation_in_a_closed_module : goal.returns-clause-no_evaluation_in_a_closed_module
unfolding computing
returns-clause-no_evaluation_in_a_closed_module c = refl

pub returns-clause-a_dependency_does_not_evaluate_in_itself : goal.returns-clause-a_dependency_does_not_evaluate_in_itself
unfolding computing
returns-clause-a_dependency_does_not_evaluate_in_itself c = refl

pub returns-clause-base_is_closed : goal.returns-clause-base_is_closed
unfolding computing
returns-clause-base_is_closed c = refl

pub returns-clause-a_module_not_loaded_comes_before_a_closed_one : goal.returns-clause-a_module_not_loaded_comes_before_a_closed_one
unfolding computing
returns-clause-a_module_not_loaded_comes_before_a_closed_one c = refl

pub returns-clause-a_package_evaluates_in_itself : goal.returns-clause-a_package_evaluates_in_itself
unfolding computing
returns-clause-a_package_evaluates_in_itself c = refl

pub returns-clause-only_a_package_of_its_own_text_is_known : goal.returns-clause-only_a_package_of_its_own_text_is_known
unfolding computing
returns-clause-only_a_package_of_its_own_text_is_known c = refl

pub returns-clause-a_directives_function_is_checked_first : goal.returns-clause-a_directives_function_is_checked_first
unfolding computing
returns-clause-a_directives_function_is_checked_first c = refl

pub returns-clause-a_directive_needs_a_function : goal.returns-clause-a_directive_needs_a_function
unfolding computing
returns-clause-a_directive_needs_a_function c = refl

pub returns-clause-a_directive_needs_concrete_types : goal.returns-clause-a_directive_needs_concrete_types
unfolding computing
returns-clause-a_directive_needs_concrete_types c = refl

pub returns-clause-a_directives_types_are_checked_in_order : goal.returns-clause-a_directives_types_are_checked_in_order
unfolding computing
returns-clause-a_directives_types_are_checked_in_order c = refl

pub returns-clause-a_directives_module_is_checked : goal.returns-clause-a_directives_module_is_checked
unfolding computing
returns-clause-a_directives_module_is_checked c = refl

pub returns-clause-objects_are_numbered_breadth_first : goal.returns-clause-objects_are_numbered_breadth_first
unfolding computing
returns-clause-objects_are_numbered_breadth_first c = refl

pub returns-clause-bindings_stand_in_order_of_binding : goal.returns-clause-bindings_stand_in_order_of_binding
unfolding computing
returns-clause-bindings_stand_in_order_of_binding c = refl

pub returns-clause-types_and_functions_stand_in_order : goal.returns-clause-types_and_functions_stand_in_order
unfolding computing
returns-clause-types_and_functions_stand_in_order c = refl

pub returns-clause-methods_stand_in_order_also_those_of_other_functions : goal.returns-clause-methods_stand_in_order_also_those_of_other_functions
unfolding computing
returns-clause-methods_stand_in_order_also_those_of_other_functions c = refl

pub returns-clause-directives_are_kept : goal.returns-clause-directives_are_kept
unfolding computing
returns-clause-directives_are_kept c = refl

pub returns-clause-reach_goes_through_own_objects_only : goal.returns-clause-reach_goes_through_own_objects_only
unfolding computing
returns-clause-reach_goes_through_own_objects_only c = refl

pub returns-clause-recorded_dependencies_stand_once : goal.returns-clause-recorded_dependencies_stand_once
unfolding computing
returns-clause-recorded_dependencies_stand_once c = refl
