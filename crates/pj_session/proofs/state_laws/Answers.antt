-- Each law is proved in the files beside.
use Rattle.pj_session.proofs.Stated.{last_law, good_law, output_law, base_law, name_law, free_law, unqualified_law, pick_law, loaded_law}
use Rattle.pj_session.proofs.state_laws.Goals as goal

pub returns-clause-an_event_comes_last : goal.returns-clause-an_event_comes_last
returns-clause-an_event_comes_last c = last_law

pub returns-clause-events_stay_good : goal.returns-clause-events_stay_good
returns-clause-events_stay_good c = good_law

pub returns-clause-output_stands_beside_events : goal.returns-clause-output_stands_beside_events
returns-clause-output_stands_beside_events c = output_law

pub returns-clause-base_stays_as_it_is : goal.returns-clause-base_stays_as_it_is
returns-clause-base_stays_as_it_is c = base_law

pub returns-clause-a_name_is_what_the_events_say : goal.returns-clause-a_name_is_what_the_events_say
returns-clause-a_name_is_what_the_events_say c = name_law

pub returns-clause-no_module_binds_a_name_of_base : goal.returns-clause-no_module_binds_a_name_of_base
returns-clause-no_module_binds_a_name_of_base c = free_law

pub returns-clause-a_call_picks_the_only_method : goal.returns-clause-a_call_picks_the_only_method
returns-clause-a_call_picks_the_only_method c = pick_law

pub returns-clause-a_module_is_loaded_as_the_events_say : goal.returns-clause-a_module_is_loaded_as_the_events_say
returns-clause-a_module_is_loaded_as_the_events_say c = loaded_law

pub returns-clause-an_unqualified_name_of_base_is_bases : goal.returns-clause-an_unqualified_name_of_base_is_bases
returns-clause-an_unqualified_name_of_base_is_bases c = unqualified_law
