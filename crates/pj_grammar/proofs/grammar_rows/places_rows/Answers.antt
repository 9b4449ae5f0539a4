-- Each row computes.
use Rattle.std.specs.Prelude.{refl}
use Rattle.pj_grammar.proofs.Computing.{computing}
use Rattle.pj_grammar.proofs.grammar_rows.places_rows.Goals as goal

pub returns-clause-places_of_arguments : goal.returns-clause-places_of_arguments
unfolding computing
returns-clause-places_of_arguments c = refl

pub returns-clause-places_of_assignments : goal.returns-clause-places_of_assignments
unfolding computing
returns-clause-places_of_assignments c = refl

pub returns-clause-places_of_parameters : goal.returns-clause-places_of_parameters
unfolding computing
returns-clause-places_of_parameters c = refl
