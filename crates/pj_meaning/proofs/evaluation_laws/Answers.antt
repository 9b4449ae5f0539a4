-- Each law is proved in the files beside.
use Rattle.pj_meaning.proofs.GrowingRuns.{left_law, newest_law, methods_law, types_law, seen_law, printed_law, images_law, module_law, births_law, roles_law, objects_law}
use Rattle.pj_meaning.proofs.Parts.{parts_law}
use Rattle.pj_meaning.proofs.Fuel.{fuel_law}
use Rattle.pj_meaning.proofs.Stopping.{stop_law}
use Rattle.pj_meaning.proofs.evaluation_laws.Goals as goal

pub returns-clause-what_is_left_never_rises : goal.returns-clause-what_is_left_never_rises
returns-clause-what_is_left_never_rises c = left_law

pub returns-clause-the_newest_world_never_falls : goal.returns-clause-the_newest_world_never_falls
returns-clause-the_newest_world_never_falls c = newest_law

pub returns-clause-methods_are_only_added : goal.returns-clause-methods_are_only_added
returns-clause-methods_are_only_added c = methods_law

pub returns-clause-types_are_only_added : goal.returns-clause-types_are_only_added
returns-clause-types_are_only_added c = types_law

pub returns-clause-what_is_seen_at_a_world_stays : goal.returns-clause-what_is_seen_at_a_world_stays
returns-clause-what_is_seen_at_a_world_stays c = seen_law

pub returns-clause-printed_text_is_only_added : goal.returns-clause-printed_text_is_only_added
returns-clause-printed_text_is_only_added c = printed_law

pub returns-clause-images_are_only_added : goal.returns-clause-images_are_only_added
returns-clause-images_are_only_added c = images_law

pub returns-clause-the_module_that_runs_stays : goal.returns-clause-the_module_that_runs_stays
returns-clause-the_module_that_runs_stays c = module_law

pub returns-clause-no_birth_is_above_the_newest_world : goal.returns-clause-no_birth_is_above_the_newest_world
returns-clause-no_birth_is_above_the_newest_world c = births_law

pub returns-clause-types_functions_and_consts_stay : goal.returns-clause-types_functions_and_consts_stay
returns-clause-types_functions_and_consts_stay c = roles_law

pub returns-clause-an_object_stays_of_its_type : goal.returns-clause-an_object_stays_of_its_type
returns-clause-an_object_stays_of_its_type c = objects_law

pub returns-clause-a_script_runs_part_by_part : goal.returns-clause-a_script_runs_part_by_part
returns-clause-a_script_runs_part_by_part c = parts_law

pub returns-clause-more_fuel_changes_nothing : goal.returns-clause-more_fuel_changes_nothing
returns-clause-more_fuel_changes_nothing c = fuel_law

pub returns-clause-a_run_stops_without_a_step : goal.returns-clause-a_run_stops_without_a_step
returns-clause-a_run_stops_without_a_step c = stop_law
