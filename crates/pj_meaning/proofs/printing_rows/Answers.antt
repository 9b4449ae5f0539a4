-- Each row computes.
use Rattle.std.specs.Prelude.{refl}
use Rattle.pj_meaning.specs.Written.{computing}
use Rattle.pj_meaning.proofs.printing_rows.Goals as goal

pub returns-clause-plain_values : goal.returns-clause-plain_values
unfolding computing
returns-clause-plain_values c = refl

pub returns-clause-several_values_stand_side_by_side : goal.returns-clause-several_values_stand_side_by_side
unfolding computing
returns-clause-several_values_stand_side_by_side c = refl

pub returns-clause-five_values_are_too_many : goal.returns-clause-five_values_are_too_many
unfolding computing
returns-clause-five_values_are_too_many c = refl

pub returns-clause-a_struct_with_its_fields : goal.returns-clause-a_struct_with_its_fields
unfolding computing
returns-clause-a_struct_with_its_fields c = refl

pub returns-clause-a_text_in_a_struct_is_escaped : goal.returns-clause-a_text_in_a_struct_is_escaped
unfolding computing
returns-clause-a_text_in_a_struct_is_escaped c = refl

pub returns-clause-three_levels_are_shown : goal.returns-clause-three_levels_are_shown
unfolding computing
returns-clause-three_levels_are_shown c = refl

pub returns-clause-a_struct_without_fields : goal.returns-clause-a_struct_without_fields
unfolding computing
returns-clause-a_struct_without_fields c = refl

pub returns-clause-an_object_that_holds_itself : goal.returns-clause-an_object_that_holds_itself
unfolding computing
returns-clause-an_object_that_holds_itself c = refl

pub returns-clause-printing_gives_nothing : goal.returns-clause-printing_gives_nothing
unfolding computing
returns-clause-printing_gives_nothing c = refl

pub returns-clause-printing_gives_nothing_over_other_methods : goal.returns-clause-printing_gives_nothing_over_other_methods
unfolding computing
returns-clause-printing_gives_nothing_over_other_methods c = refl

pub returns-clause-println_prints_by_print : goal.returns-clause-println_prints_by_print
unfolding computing
returns-clause-println_prints_by_print c = refl
