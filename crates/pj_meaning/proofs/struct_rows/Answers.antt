-- Each row computes.
use Rattle.std.specs.Prelude.{refl}
use Rattle.pj_meaning.specs.Written.{computing}
use Rattle.pj_meaning.proofs.struct_rows.Goals as goal

pub returns-clause-a_store_is_seen_by_all_names : goal.returns-clause-a_store_is_seen_by_all_names
unfolding computing
returns-clause-a_store_is_seen_by_all_names c = refl

pub returns-clause-objects_are_identical_by_identity : goal.returns-clause-objects_are_identical_by_identity
unfolding computing
returns-clause-objects_are_identical_by_identity c = refl

pub returns-clause-structs_are_identical_by_contents : goal.returns-clause-structs_are_identical_by_contents
unfolding computing
returns-clause-structs_are_identical_by_contents c = refl

pub returns-clause-a_struct_holds_an_object_by_identity : goal.returns-clause-a_struct_holds_an_object_by_identity
unfolding computing
returns-clause-a_struct_holds_an_object_by_identity c = refl

pub returns-clause-a_field_of_its_own_type : goal.returns-clause-a_field_of_its_own_type
unfolding computing
returns-clause-a_field_of_its_own_type c = refl

pub returns-clause-a_constructor_converts_nothing : goal.returns-clause-a_constructor_converts_nothing
unfolding computing
returns-clause-a_constructor_converts_nothing c = refl

pub returns-clause-a_constructor_takes_all_its_fields : goal.returns-clause-a_constructor_takes_all_its_fields
unfolding computing
returns-clause-a_constructor_takes_all_its_fields c = refl

pub returns-clause-base_types_construct_nothing : goal.returns-clause-base_types_construct_nothing
unfolding computing
returns-clause-base_types_construct_nothing c = refl

pub returns-clause-an_abstract_type_constructs_nothing : goal.returns-clause-an_abstract_type_constructs_nothing
unfolding computing
returns-clause-an_abstract_type_constructs_nothing c = refl

pub returns-clause-the_most_parts : goal.returns-clause-the_most_parts
unfolding computing
returns-clause-the_most_parts c = refl

pub returns-clause-an_object_is_one_part : goal.returns-clause-an_object_is_one_part
unfolding computing
returns-clause-an_object_is_one_part c = refl
