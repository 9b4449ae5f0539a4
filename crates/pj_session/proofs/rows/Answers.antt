-- Each row computes.
use Rattle.std.specs.Prelude.{refl}
use Rattle.pj_session.specs.Rows.{computing}
use Rattle.pj_session.proofs.rows.Goals as goal

pub returns-clause-these_events_are_good : goal.returns-clause-these_events_are_good
unfolding computing
returns-clause-these_events_are_good c = record {
  home = refl;
  each = (
    record { free = refl; plain = refl },
    (
      refl,
      (
        record {
          not_base = refl;
          not_here = refl;
          types = refl;
          objects = refl;
          methods = (record { home = refl; own = refl; code = refl; signature = refl; plain = refl }, (refl, tt));
          bindings = (record { home = refl; number = refl }, tt);
        },
        (
          refl,
          (
            refl,
            (refl, tt),
          ),
        ),
      ),
    ),
  );
}

pub returns-clause-a_constant_of_a_package : goal.returns-clause-a_constant_of_a_package
unfolding computing
returns-clause-a_constant_of_a_package c = (refl, refl)

pub returns-clause-one_charge_prints_nothing : goal.returns-clause-one_charge_prints_nothing
unfolding computing
returns-clause-one_charge_prints_nothing c = (refl, refl)

pub returns-clause-a_call_of_a_package : goal.returns-clause-a_call_of_a_package
unfolding computing
returns-clause-a_call_of_a_package c = (refl, refl)

pub returns-clause-three_charges_print_nothing : goal.returns-clause-three_charges_print_nothing
unfolding computing
returns-clause-three_charges_print_nothing c = (refl, refl)

pub returns-clause-an_own_call : goal.returns-clause-an_own_call
unfolding computing
returns-clause-an_own_call c = (refl, refl)

pub returns-clause-an_own_constant : goal.returns-clause-an_own_constant
unfolding computing
returns-clause-an_own_constant c = (refl, refl)

pub returns-clause-a_function_is_a_value : goal.returns-clause-a_function_is_a_value
unfolding computing
returns-clause-a_function_is_a_value c = (refl, refl)

pub returns-clause-a_name_that_a_package_lacks : goal.returns-clause-a_name_that_a_package_lacks
unfolding computing
returns-clause-a_name_that_a_package_lacks c = (refl, refl)

pub returns-clause-a_called_constant : goal.returns-clause-a_called_constant
unfolding computing
returns-clause-a_called_constant c = (refl, refl)

pub returns-clause-too_many_arguments : goal.returns-clause-too_many_arguments
unfolding computing
returns-clause-too_many_arguments c = (refl, refl)

pub returns-clause-a_package_that_is_not_loaded : goal.returns-clause-a_package_that_is_not_loaded
unfolding computing
returns-clause-a_package_that_is_not_loaded c = (refl, refl)

pub returns-clause-a_constant_from_a_call : goal.returns-clause-a_constant_from_a_call
unfolding computing
returns-clause-a_constant_from_a_call c = refl

pub returns-clause-a_constant_from_an_expression : goal.returns-clause-a_constant_from_an_expression
unfolding computing
returns-clause-a_constant_from_an_expression c = refl
