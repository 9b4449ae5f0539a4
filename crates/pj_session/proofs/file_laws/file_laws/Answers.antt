-- Each law is proved in the file beside.
use Rattle.pj_session.proofs.FromFiles.{content_law, file_law, refusal_law, read_law, last_law, start_law}
use Rattle.pj_session.proofs.file_laws.file_laws.Goals as goal

pub returns-clause-a_plain_content_is_plain_in_a_session : goal.returns-clause-a_plain_content_is_plain_in_a_session
returns-clause-a_plain_content_is_plain_in_a_session c = content_law

pub returns-clause-a_file_without_a_misfit_loads_well : goal.returns-clause-a_file_without_a_misfit_loads_well
returns-clause-a_file_without_a_misfit_loads_well c = file_law

pub returns-clause-a_file_is_refused_as_the_events_say : goal.returns-clause-a_file_is_refused_as_the_events_say
returns-clause-a_file_is_refused_as_the_events_say c = refusal_law

pub returns-clause-what_is_read_and_not_refused_loads_well : goal.returns-clause-what_is_read_and_not_refused_loads_well
returns-clause-what_is_read_and_not_refused_loads_well c = read_law

pub returns-clause-the_last_image_has_its_names : goal.returns-clause-the_last_image_has_its_names
returns-clause-the_last_image_has_its_names c = last_law

pub returns-clause-a_file_is_loaded_and_started : goal.returns-clause-a_file_is_loaded_and_started
returns-clause-a_file_is_loaded_and_started c = start_law
