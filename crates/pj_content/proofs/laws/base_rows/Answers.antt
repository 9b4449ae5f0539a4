-- Each row computes.
use Rattle.std.specs.Prelude.{refl}
use Rattle.pj_content.proofs.laws.base_rows.Goals as goal

pub returns-clause-so_many_types : goal.returns-clause-so_many_types
returns-clause-so_many_types c = refl

pub returns-clause-so_many_functions : goal.returns-clause-so_many_functions
returns-clause-so_many_functions c = refl

pub returns-clause-a_place_of_a_type : goal.returns-clause-a_place_of_a_type
returns-clause-a_place_of_a_type c = refl

pub returns-clause-a_place_of_a_function : goal.returns-clause-a_place_of_a_function
returns-clause-a_place_of_a_function c = refl
