-- Each row computes.
use Rattle.std.specs.Prelude.{refl}
use Rattle.pj_meaning.specs.Written.{computing}
use Rattle.pj_meaning.proofs.first_rows.Goals as goal

pub returns-clause-nothing_at_all : goal.returns-clause-nothing_at_all
unfolding computing
returns-clause-nothing_at_all c = refl

pub returns-clause-four_steps_suffice : goal.returns-clause-four_steps_suffice
unfolding computing
returns-clause-four_steps_suffice c = refl

pub returns-clause-three_steps_are_too_few : goal.returns-clause-three_steps_are_too_few
unfolding computing
returns-clause-three_steps_are_too_few c = refl
