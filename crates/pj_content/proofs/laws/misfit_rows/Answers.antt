-- Each row computes.
use Rattle.std.specs.Prelude.{refl}
use Rattle.pj_content.specs.Misfit.{methods_misfit}
use Rattle.pj_content.proofs.laws.misfit_rows.Goals as goal

pub returns-clause-no_misfit : goal.returns-clause-no_misfit
unfolding methods_misfit
returns-clause-no_misfit c = refl

pub returns-clause-a_type_for_a_function : goal.returns-clause-a_type_for_a_function
unfolding methods_misfit
returns-clause-a_type_for_a_function c = refl

pub returns-clause-a_function_for_a_type : goal.returns-clause-a_function_for_a_type
unfolding methods_misfit
returns-clause-a_function_for_a_type c = refl

pub returns-clause-a_function_of_base : goal.returns-clause-a_function_of_base
unfolding methods_misfit
returns-clause-a_function_of_base c = refl

pub returns-clause-a_function_that_is_not_there : goal.returns-clause-a_function_that_is_not_there
unfolding methods_misfit
returns-clause-a_function_that_is_not_there c = refl

pub returns-clause-a_second_method_of_a_function : goal.returns-clause-a_second_method_of_a_function
unfolding methods_misfit
returns-clause-a_second_method_of_a_function c = refl

pub returns-clause-another_type : goal.returns-clause-another_type
unfolding methods_misfit
returns-clause-another_type c = refl

pub returns-clause-a_type_of_the_image : goal.returns-clause-a_type_of_the_image
unfolding methods_misfit
returns-clause-a_type_of_the_image c = refl

pub returns-clause-a_dependency_that_is_not_there : goal.returns-clause-a_dependency_that_is_not_there
unfolding methods_misfit
returns-clause-a_dependency_that_is_not_there c = refl

pub returns-clause-the_lowest_is_told : goal.returns-clause-the_lowest_is_told
unfolding methods_misfit
returns-clause-the_lowest_is_told c = refl

pub returns-clause-a_function_is_told_before_its_types : goal.returns-clause-a_function_is_told_before_its_types
unfolding methods_misfit
returns-clause-a_function_is_told_before_its_types c = refl
