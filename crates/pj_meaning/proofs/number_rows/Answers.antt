-- Each row computes.
use Rattle.std.specs.Prelude.{refl}
use Rattle.pj_meaning.specs.Written.{computing}
use Rattle.pj_meaning.proofs.number_rows.Goals as goal

pub returns-clause-sums_wrap : goal.returns-clause-sums_wrap
unfolding computing
returns-clause-sums_wrap c = refl

pub returns-clause-products_wrap : goal.returns-clause-products_wrap
unfolding computing
returns-clause-products_wrap c = refl

pub returns-clause-quotients_and_remainders : goal.returns-clause-quotients_and_remainders
unfolding computing
returns-clause-quotients_and_remainders c = refl

pub returns-clause-the_least_by_minus_one : goal.returns-clause-the_least_by_minus_one
unfolding computing
returns-clause-the_least_by_minus_one c = refl

pub returns-clause-a_quotient_by_zero : goal.returns-clause-a_quotient_by_zero
unfolding computing
returns-clause-a_quotient_by_zero c = refl

pub returns-clause-a_remainder_by_zero : goal.returns-clause-a_remainder_by_zero
unfolding computing
returns-clause-a_remainder_by_zero c = refl

pub returns-clause-comparisons : goal.returns-clause-comparisons
unfolding computing
returns-clause-comparisons c = refl

pub returns-clause-equality_is_of_type_and_contents : goal.returns-clause-equality_is_of_type_and_contents
unfolding computing
returns-clause-equality_is_of_type_and_contents c = refl

pub returns-clause-least_and_greatest : goal.returns-clause-least_and_greatest
unfolding computing
returns-clause-least_and_greatest c = refl
