-- Each law is proved in the files beside.
use Rattle.pj_session.proofs.Stated.{start_law, once_law, reading_law, refused_law, load_law}
use Rattle.pj_session.proofs.image_laws.Goals as goal

pub returns-clause-a_start_calls_init : goal.returns-clause-a_start_calls_init
returns-clause-a_start_calls_init c = start_law

pub returns-clause-an_image_is_loaded_once : goal.returns-clause-an_image_is_loaded_once
returns-clause-an_image_is_loaded_once c = once_law

pub returns-clause-a_wrong_reading_ends_the_run : goal.returns-clause-a_wrong_reading_ends_the_run
returns-clause-a_wrong_reading_ends_the_run c = reading_law

pub returns-clause-a_refused_image_changes_nothing : goal.returns-clause-a_refused_image_changes_nothing
returns-clause-a_refused_image_changes_nothing c = refused_law

pub returns-clause-an_image_is_loaded_and_started : goal.returns-clause-an_image_is_loaded_and_started
returns-clause-an_image_is_loaded_and_started c = load_law
