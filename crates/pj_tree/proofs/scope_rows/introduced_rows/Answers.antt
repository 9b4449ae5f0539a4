-- Each row computes.
use Rattle.std.specs.Prelude.{refl}
use Rattle.pj_tree.proofs.scope_rows.introduced_rows.Goals as goal

pub returns-clause-names_in_order_of_their_first_assignment : goal.returns-clause-names_in_order_of_their_first_assignment
returns-clause-names_in_order_of_their_first_assignment c = refl

pub returns-clause-a_loops_assignments_are_not_direct : goal.returns-clause-a_loops_assignments_are_not_direct
returns-clause-a_loops_assignments_are_not_direct c = refl

pub returns-clause-outer_names_are_not_introduced_again : goal.returns-clause-outer_names_are_not_introduced_again
returns-clause-outer_names_are_not_introduced_again c = refl

pub returns-clause-a_later_assignment_is_the_bodys : goal.returns-clause-a_later_assignment_is_the_bodys
returns-clause-a_later_assignment_is_the_bodys c = refl

pub returns-clause-a_loop_carries_no_name_of_its_body : goal.returns-clause-a_loop_carries_no_name_of_its_body
returns-clause-a_loop_carries_no_name_of_its_body c = refl

pub returns-clause-a_loops_variable_is_not_in_its_list : goal.returns-clause-a_loops_variable_is_not_in_its_list
returns-clause-a_loops_variable_is_not_in_its_list c = refl

pub returns-clause-bounds_stand_outside_the_loop : goal.returns-clause-bounds_stand_outside_the_loop
returns-clause-bounds_stand_outside_the_loop c = refl

pub returns-clause-a_parameter_is_read_as_a_local : goal.returns-clause-a_parameter_is_read_as_a_local
returns-clause-a_parameter_is_read_as_a_local c = refl

pub returns-clause-a_name_of_a_module_is_none_of_the_scope : goal.returns-clause-a_name_of_a_module_is_none_of_the_scope
returns-clause-a_name_of_a_module_is_none_of_the_scope c = refl

pub returns-clause-a_local_is_called_as_a_local : goal.returns-clause-a_local_is_called_as_a_local
returns-clause-a_local_is_called_as_a_local c = refl
