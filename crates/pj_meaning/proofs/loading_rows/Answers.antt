-- Each row computes.
use Rattle.std.specs.Prelude.{refl}
use Rattle.pj_meaning.specs.Written.{computing}
use Rattle.pj_meaning.proofs.loading_rows.Goals as goal

pub returns-clause-all_is_there : goal.returns-clause-all_is_there
unfolding computing
returns-clause-all_is_there c = refl

pub returns-clause-a_missing_image : goal.returns-clause-a_missing_image
unfolding computing
returns-clause-a_missing_image c = refl

pub returns-clause-a_missing_dependency : goal.returns-clause-a_missing_dependency
unfolding computing
returns-clause-a_missing_dependency c = refl

pub returns-clause-an_image_that_is_too_long : goal.returns-clause-an_image_that_is_too_long
unfolding computing
returns-clause-an_image_that_is_too_long c = refl

pub returns-clause-a_wrong_form_is_told_before_dependencies_are_read : goal.returns-clause-a_wrong_form_is_told_before_dependencies_are_read
unfolding computing
returns-clause-a_wrong_form_is_told_before_dependencies_are_read c = refl

pub returns-clause-a_dependency_of_a_wrong_form : goal.returns-clause-a_dependency_of_a_wrong_form
unfolding computing
returns-clause-a_dependency_of_a_wrong_form c = refl

pub returns-clause-an_image_of_another_name : goal.returns-clause-an_image_of_another_name
unfolding computing
returns-clause-an_image_of_another_name c = refl

pub returns-clause-a_dependency_that_was_built_again : goal.returns-clause-a_dependency_that_was_built_again
unfolding computing
returns-clause-a_dependency_that_was_built_again c = refl

pub returns-clause-a_dependency_comes_before_an_entry : goal.returns-clause-a_dependency_comes_before_an_entry
unfolding computing
returns-clause-a_dependency_comes_before_an_entry c = refl

pub returns-clause-an_entry_that_does_not_fit : goal.returns-clause-an_entry_that_does_not_fit
unfolding computing
returns-clause-an_entry_that_does_not_fit c = refl

pub returns-clause-a_dependencys_own_dependency_is_not_loaded_for_it : goal.returns-clause-a_dependencys_own_dependency_is_not_loaded_for_it
unfolding computing
returns-clause-a_dependencys_own_dependency_is_not_loaded_for_it c = refl

pub returns-clause-the_last_image_that_has_room : goal.returns-clause-the_last_image_that_has_room
unfolding computing
returns-clause-the_last_image_that_has_room c = refl

pub returns-clause-an_image_too_many : goal.returns-clause-an_image_too_many
unfolding computing
returns-clause-an_image_too_many c = refl

pub returns-clause-images_loaded_before_stay : goal.returns-clause-images_loaded_before_stay
unfolding computing
returns-clause-images_loaded_before_stay c = refl

pub returns-clause-an_image_that_is_loaded : goal.returns-clause-an_image_that_is_loaded
unfolding computing
returns-clause-an_image_that_is_loaded c = refl

pub returns-clause-a_package_that_is_built_counts_as_loaded : goal.returns-clause-a_package_that_is_built_counts_as_loaded
unfolding computing
returns-clause-a_package_that_is_built_counts_as_loaded c = refl

pub returns-clause-a_package_that_is_built_has_no_identity : goal.returns-clause-a_package_that_is_built_has_no_identity
unfolding computing
returns-clause-a_package_that_is_built_has_no_identity c = refl

pub returns-clause-a_package_that_is_built_takes_a_place : goal.returns-clause-a_package_that_is_built_takes_a_place
unfolding computing
returns-clause-a_package_that_is_built_takes_a_place c = refl

pub returns-clause-an_entry_comes_before_the_room : goal.returns-clause-an_entry_comes_before_the_room
unfolding computing
returns-clause-an_entry_comes_before_the_room c = refl
