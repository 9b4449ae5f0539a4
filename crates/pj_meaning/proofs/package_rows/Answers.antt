-- Each row computes.
use Rattle.std.specs.Prelude.{refl}
use Rattle.pj_meaning.specs.Written.{computing}
use Rattle.pj_meaning.proofs.package_rows.Goals as goal

pub returns-clause-a_call_through_two_packages : goal.returns-clause-a_call_through_two_packages
unfolding computing
returns-clause-a_call_through_two_packages c = refl

pub returns-clause-a_call_through_two_packages_takes_eight_steps : goal.returns-clause-a_call_through_two_packages_takes_eight_steps
unfolding computing
returns-clause-a_call_through_two_packages_takes_eight_steps c = refl

pub returns-clause-seven_steps_print_nothing : goal.returns-clause-seven_steps_print_nothing
unfolding computing
returns-clause-seven_steps_print_nothing c = refl

pub returns-clause-an_external_method_is_used_and_constants_stay : goal.returns-clause-an_external_method_is_used_and_constants_stay
unfolding computing
returns-clause-an_external_method_is_used_and_constants_stay c = refl

pub returns-clause-a_wider_external_method_is_not_picked : goal.returns-clause-a_wider_external_method_is_not_picked
unfolding computing
returns-clause-a_wider_external_method_is_not_picked c = refl

pub returns-clause-the_package_loaded_last_wins : goal.returns-clause-the_package_loaded_last_wins
unfolding computing
returns-clause-the_package_loaded_last_wins c = refl

pub returns-clause-the_other_order_of_loading : goal.returns-clause-the_other_order_of_loading
unfolding computing
returns-clause-the_other_order_of_loading c = refl

pub returns-clause-a_constant_is_as_its_build_left_it : goal.returns-clause-a_constant_is_as_its_build_left_it
unfolding computing
returns-clause-a_constant_is_as_its_build_left_it c = refl

pub returns-clause-using_twice_loads_once : goal.returns-clause-using_twice_loads_once
unfolding computing
returns-clause-using_twice_loads_once c = refl

pub returns-clause-a_dependency_of_a_dependency_is_loaded : goal.returns-clause-a_dependency_of_a_dependency_is_loaded
unfolding computing
returns-clause-a_dependency_of_a_dependency_is_loaded c = refl

pub returns-clause-methods_loaded_before_are_used_too : goal.returns-clause-methods_loaded_before_are_used_too
unfolding computing
returns-clause-methods_loaded_before_are_used_too c = refl

pub returns-clause-arithmetic_in_a_package : goal.returns-clause-arithmetic_in_a_package
unfolding computing
returns-clause-arithmetic_in_a_package c = refl

pub returns-clause-two_packages_one_after_the_other : goal.returns-clause-two_packages_one_after_the_other
unfolding computing
returns-clause-two_packages_one_after_the_other c = refl

pub returns-clause-two_packages_lacking_a_step : goal.returns-clause-two_packages_lacking_a_step
unfolding computing
returns-clause-two_packages_lacking_a_step c = refl

pub returns-clause-an_object_is_shared_and_a_builds_writes_are_lost : goal.returns-clause-an_object_is_shared_and_a_builds_writes_are_lost
unfolding computing
returns-clause-an_object_is_shared_and_a_builds_writes_are_lost c = refl

pub returns-clause-a_builds_global_of_a_dependency_is_lost : goal.returns-clause-a_builds_global_of_a_dependency_is_lost
unfolding computing
returns-clause-a_builds_global_of_a_dependency_is_lost c = refl

pub returns-clause-dependencies_are_started_in_recorded_order : goal.returns-clause-dependencies_are_started_in_recorded_order
unfolding computing
returns-clause-dependencies_are_started_in_recorded_order c = refl

pub returns-clause-building_does_not_start_dependencies : goal.returns-clause-building_does_not_start_dependencies
unfolding computing
returns-clause-building_does_not_start_dependencies c = refl

pub returns-clause-a_start_takes_a_step : goal.returns-clause-a_start_takes_a_step
unfolding computing
returns-clause-a_start_takes_a_step c = refl

pub returns-clause-an_error_of_a_start_ends_the_script : goal.returns-clause-an_error_of_a_start_ends_the_script
unfolding computing
returns-clause-an_error_of_a_start_ends_the_script c = refl

pub returns-clause-only_a_method_without_parameters_is_started : goal.returns-clause-only_a_method_without_parameters_is_started
unfolding computing
returns-clause-only_a_method_without_parameters_is_started c = refl

pub returns-clause-a_start_sees_the_newest_methods : goal.returns-clause-a_start_sees_the_newest_methods
unfolding computing
returns-clause-a_start_sees_the_newest_methods c = refl

pub returns-clause-six_packages : goal.returns-clause-six_packages
unfolding computing
returns-clause-six_packages c = refl
