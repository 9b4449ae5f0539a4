-- Each row computes.
use Rattle.std.specs.Prelude.{refl}
use Rattle.pj_tree.proofs.scope_rows.limit_rows.Goals as goal

pub returns-clause-sixteen_arguments : goal.returns-clause-sixteen_arguments
returns-clause-sixteen_arguments c = refl

pub returns-clause-no_seventeenth_argument : goal.returns-clause-no_seventeenth_argument
returns-clause-no_seventeenth_argument c = refl

pub returns-clause-fifteen_arguments_after_a_function : goal.returns-clause-fifteen_arguments_after_a_function
returns-clause-fifteen_arguments_after_a_function c = refl

pub returns-clause-no_sixteenth_argument_after_a_function : goal.returns-clause-no_sixteenth_argument_after_a_function
returns-clause-no_sixteenth_argument_after_a_function c = refl

pub returns-clause-no_seventeenth_parameter : goal.returns-clause-no_seventeenth_parameter
returns-clause-no_seventeenth_parameter c = refl

pub returns-clause-so_many_names : goal.returns-clause-so_many_names
returns-clause-so_many_names c = refl

pub returns-clause-one_name_too_many : goal.returns-clause-one_name_too_many
returns-clause-one_name_too_many c = refl

pub returns-clause-an_evaluated_body_has_its_own_scopes : goal.returns-clause-an_evaluated_body_has_its_own_scopes
returns-clause-an_evaluated_body_has_its_own_scopes c = refl

pub returns-clause-an_evaluated_expression_sees_no_local : goal.returns-clause-an_evaluated_expression_sees_no_local
returns-clause-an_evaluated_expression_sees_no_local c = refl
