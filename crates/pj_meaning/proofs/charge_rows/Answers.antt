-- Each row computes.
use Rattle.std.specs.Prelude.{refl}
use Rattle.pj_meaning.specs.Written.{computing}
use Rattle.pj_meaning.proofs.charge_rows.Goals as goal

pub returns-clause-four_calls_take_four_steps : goal.returns-clause-four_calls_take_four_steps
unfolding computing
returns-clause-four_calls_take_four_steps c = refl

pub returns-clause-what_was_printed_stays : goal.returns-clause-what_was_printed_stays
unfolding computing
returns-clause-what_was_printed_stays c = refl

pub returns-clause-the_same_in_a_package : goal.returns-clause-the_same_in_a_package
unfolding computing
returns-clause-the_same_in_a_package c = refl

pub returns-clause-a_const_takes_no_step : goal.returns-clause-a_const_takes_no_step
unfolding computing
returns-clause-a_const_takes_no_step c = refl

pub returns-clause-a_constructor_takes_no_step : goal.returns-clause-a_constructor_takes_no_step
unfolding computing
returns-clause-a_constructor_takes_no_step c = refl

pub returns-clause-invokelatest_takes_only_the_calls_step : goal.returns-clause-invokelatest_takes_only_the_calls_step
unfolding computing
returns-clause-invokelatest_takes_only_the_calls_step c = refl

pub returns-clause-a_failed_pick_takes_no_step : goal.returns-clause-a_failed_pick_takes_no_step
unfolding computing
returns-clause-a_failed_pick_takes_no_step c = refl

pub returns-clause-steps_are_one_budget_for_all : goal.returns-clause-steps_are_one_budget_for_all
unfolding computing
returns-clause-steps_are_one_budget_for_all c = refl

pub returns-clause-the_last_open_call : goal.returns-clause-the_last_open_call
unfolding computing
returns-clause-the_last_open_call c = refl

pub returns-clause-one_open_call_too_many : goal.returns-clause-one_open_call_too_many
unfolding computing
returns-clause-one_open_call_too_many c = refl

pub returns-clause-the_step_comes_before_the_depth : goal.returns-clause-the_step_comes_before_the_depth
unfolding computing
returns-clause-the_step_comes_before_the_depth c = refl

pub returns-clause-a_constructor_opens_no_call : goal.returns-clause-a_constructor_opens_no_call
unfolding computing
returns-clause-a_constructor_opens_no_call c = refl

pub returns-clause-evaluation_keeps_the_depth : goal.returns-clause-evaluation_keeps_the_depth
unfolding computing
returns-clause-evaluation_keeps_the_depth c = refl
