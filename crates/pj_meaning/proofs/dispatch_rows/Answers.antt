-- Each row computes.
use Rattle.std.specs.Prelude.{refl}
use Rattle.pj_meaning.specs.Written.{computing}
use Rattle.pj_meaning.proofs.dispatch_rows.Goals as goal

pub returns-clause-the_more_specific_method_is_picked : goal.returns-clause-the_more_specific_method_is_picked
unfolding computing
returns-clause-the_more_specific_method_is_picked c = refl

pub returns-clause-the_latest_of_equal_signatures_is_picked : goal.returns-clause-the_latest_of_equal_signatures_is_picked
unfolding computing
returns-clause-the_latest_of_equal_signatures_is_picked c = refl

pub returns-clause-crossed_methods_are_ambiguous : goal.returns-clause-crossed_methods_are_ambiguous
unfolding computing
returns-clause-crossed_methods_are_ambiguous c = refl

pub returns-clause-a_method_below_both_ends_the_ambiguity : goal.returns-clause-a_method_below_both_ends_the_ambiguity
unfolding computing
returns-clause-a_method_below_both_ends_the_ambiguity c = refl

pub returns-clause-a_method_takes_as_many_arguments : goal.returns-clause-a_method_takes_as_many_arguments
unfolding computing
returns-clause-a_method_takes_as_many_arguments c = refl

pub returns-clause-arithmetic_takes_no_bool : goal.returns-clause-arithmetic_takes_no_bool
unfolding computing
returns-clause-arithmetic_takes_no_bool c = refl

pub returns-clause-a_function_is_of_one_type : goal.returns-clause-a_function_is_of_one_type
unfolding computing
returns-clause-a_function_is_of_one_type c = refl

pub returns-clause-a_struct_is_below_its_abstract_types : goal.returns-clause-a_struct_is_below_its_abstract_types
unfolding computing
returns-clause-a_struct_is_below_its_abstract_types c = refl

pub returns-clause-an_operator_takes_methods : goal.returns-clause-an_operator_takes_methods
unfolding computing
returns-clause-an_operator_takes_methods c = refl

pub returns-clause-greater_calls_less : goal.returns-clause-greater_calls_less
unfolding computing
returns-clause-greater_calls_less c = refl

pub returns-clause-a_package_can_make_a_call_ambiguous : goal.returns-clause-a_package_can_make_a_call_ambiguous
unfolding computing
returns-clause-a_package_can_make_a_call_ambiguous c = refl

pub returns-clause-least_and_greatest_ask_alike : goal.returns-clause-least_and_greatest_ask_alike
unfolding computing
returns-clause-least_and_greatest_ask_alike c = refl

pub returns-clause-least_asks_in_one_order : goal.returns-clause-least_asks_in_one_order
unfolding computing
returns-clause-least_asks_in_one_order c = refl

pub returns-clause-difference_asks_for_equality : goal.returns-clause-difference_asks_for_equality
unfolding computing
returns-clause-difference_asks_for_equality c = refl
