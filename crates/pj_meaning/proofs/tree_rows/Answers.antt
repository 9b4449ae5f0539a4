-- Each row computes.
use Rattle.std.specs.Prelude.{refl}
use Rattle.pj_meaning.specs.Written.{computing}
use Rattle.pj_meaning.proofs.tree_rows.Goals as goal

pub returns-clause-a_parameter_without_a_name_introduces_nothing : goal.returns-clause-a_parameter_without_a_name_introduces_nothing
unfolding computing
returns-clause-a_parameter_without_a_name_introduces_nothing c = refl

pub returns-clause-parameters_without_names : goal.returns-clause-parameters_without_names
unfolding computing
returns-clause-parameters_without_names c = refl
