-- Each row computes.
use Rattle.std.specs.Prelude.{refl}
use Rattle.pj_meaning.specs.Written.{computing}
use Rattle.pj_meaning.proofs.error_rows.Goals as goal

pub returns-clause-a_name_that_is_not_bound : goal.returns-clause-a_name_that_is_not_bound
unfolding computing
returns-clause-a_name_that_is_not_bound c = refl

pub returns-clause-a_type_is_no_value : goal.returns-clause-a_type_is_no_value
unfolding computing
returns-clause-a_type_is_no_value c = refl

pub returns-clause-a_name_of_base_is_not_mains : goal.returns-clause-a_name_of_base_is_not_mains
unfolding computing
returns-clause-a_name_of_base_is_not_mains c = refl

pub returns-clause-a_module_that_is_not_loaded : goal.returns-clause-a_module_that_is_not_loaded
unfolding computing
returns-clause-a_module_that_is_not_loaded c = refl

pub returns-clause-a_value_that_is_not_called : goal.returns-clause-a_value_that_is_not_called
unfolding computing
returns-clause-a_value_that_is_not_called c = refl

pub returns-clause-a_condition_that_is_no_bool : goal.returns-clause-a_condition_that_is_no_bool
unfolding computing
returns-clause-a_condition_that_is_no_bool c = refl

pub returns-clause-a_conjunct_that_is_no_bool : goal.returns-clause-a_conjunct_that_is_no_bool
unfolding computing
returns-clause-a_conjunct_that_is_no_bool c = refl

pub returns-clause-a_disjunct_that_is_no_bool : goal.returns-clause-a_disjunct_that_is_no_bool
unfolding computing
returns-clause-a_disjunct_that_is_no_bool c = refl

pub returns-clause-a_field_that_is_not_there : goal.returns-clause-a_field_that_is_not_there
unfolding computing
returns-clause-a_field_that_is_not_there c = refl

pub returns-clause-a_store_into_a_struct : goal.returns-clause-a_store_into_a_struct
unfolding computing
returns-clause-a_store_into_a_struct c = refl

pub returns-clause-a_store_of_another_type : goal.returns-clause-a_store_of_another_type
unfolding computing
returns-clause-a_store_of_another_type c = refl

pub returns-clause-a_store_evaluates_and_then_checks : goal.returns-clause-a_store_evaluates_and_then_checks
unfolding computing
returns-clause-a_store_evaluates_and_then_checks c = refl

pub returns-clause-a_missing_field_comes_before_the_struct : goal.returns-clause-a_missing_field_comes_before_the_struct
unfolding computing
returns-clause-a_missing_field_comes_before_the_struct c = refl

pub returns-clause-a_raised_text : goal.returns-clause-a_raised_text
unfolding computing
returns-clause-a_raised_text c = refl

pub returns-clause-a_name_of_base_is_not_defined : goal.returns-clause-a_name_of_base_is_not_defined
unfolding computing
returns-clause-a_name_of_base_is_not_defined c = refl

pub returns-clause-a_name_of_base_is_not_assigned : goal.returns-clause-a_name_of_base_is_not_assigned
unfolding computing
returns-clause-a_name_of_base_is_not_assigned c = refl

pub returns-clause-int_is_a_name_of_base : goal.returns-clause-int_is_a_name_of_base
unfolding computing
returns-clause-int_is_a_name_of_base c = refl

pub returns-clause-a_const_is_bound_once : goal.returns-clause-a_const_is_bound_once
unfolding computing
returns-clause-a_const_is_bound_once c = refl

pub returns-clause-a_const_is_not_assigned : goal.returns-clause-a_const_is_not_assigned
unfolding computing
returns-clause-a_const_is_not_assigned c = refl

pub returns-clause-a_global_is_no_function : goal.returns-clause-a_global_is_no_function
unfolding computing
returns-clause-a_global_is_no_function c = refl

pub returns-clause-a_function_is_not_assigned : goal.returns-clause-a_function_is_not_assigned
unfolding computing
returns-clause-a_function_is_not_assigned c = refl

pub returns-clause-a_parent_that_is_not_abstract : goal.returns-clause-a_parent_that_is_not_abstract
unfolding computing
returns-clause-a_parent_that_is_not_abstract c = refl

pub returns-clause-a_types_name_is_checked_first : goal.returns-clause-a_types_name_is_checked_first
unfolding computing
returns-clause-a_types_name_is_checked_first c = refl

pub returns-clause-a_parent_is_checked_before_the_fields : goal.returns-clause-a_parent_is_checked_before_the_fields
unfolding computing
returns-clause-a_parent_is_checked_before_the_fields c = refl

pub returns-clause-fields_are_checked_in_order : goal.returns-clause-fields_are_checked_in_order
unfolding computing
returns-clause-fields_are_checked_in_order c = refl

pub returns-clause-no_type_is_its_own_parent : goal.returns-clause-no_type_is_its_own_parent
unfolding computing
returns-clause-no_type_is_its_own_parent c = refl

pub returns-clause-arguments_come_before_the_callee : goal.returns-clause-arguments_come_before_the_callee
unfolding computing
returns-clause-arguments_come_before_the_callee c = refl

pub returns-clause-arguments_come_before_a_local_callee : goal.returns-clause-arguments_come_before_a_local_callee
unfolding computing
returns-clause-arguments_come_before_a_local_callee c = refl

pub returns-clause-invokelatest_reads_its_function_first : goal.returns-clause-invokelatest_reads_its_function_first
unfolding computing
returns-clause-invokelatest_reads_its_function_first c = refl

pub returns-clause-invokelatest_of_no_function : goal.returns-clause-invokelatest_of_no_function
unfolding computing
returns-clause-invokelatest_of_no_function c = refl

pub returns-clause-a_functions_name_is_checked_before_its_parameters : goal.returns-clause-a_functions_name_is_checked_before_its_parameters
unfolding computing
returns-clause-a_functions_name_is_checked_before_its_parameters c = refl

pub returns-clause-a_function_of_base_that_is_not_there : goal.returns-clause-a_function_of_base_that_is_not_there
unfolding computing
returns-clause-a_function_of_base_that_is_not_there c = refl

pub returns-clause-parameters_are_checked_in_order : goal.returns-clause-parameters_are_checked_in_order
unfolding computing
returns-clause-parameters_are_checked_in_order c = refl

pub returns-clause-a_parameter_is_no_function_of_the_same_definition : goal.returns-clause-a_parameter_is_no_function_of_the_same_definition
unfolding computing
returns-clause-a_parameter_is_no_function_of_the_same_definition c = refl

pub returns-clause-the_module_comes_before_the_payload : goal.returns-clause-the_module_comes_before_the_payload
unfolding computing
returns-clause-the_module_comes_before_the_payload c = refl

pub returns-clause-an_error_ends_the_script : goal.returns-clause-an_error_ends_the_script
unfolding computing
returns-clause-an_error_ends_the_script c = refl
