-- Each law is proved in the file beside.
use Rattle.pj_session.proofs.Indexed.{place_law, new_law, own_law, image_law}
use Rattle.pj_session.proofs.Listed.{lists_law}
use Rattle.pj_session.proofs.index_laws.index_laws.Goals as goal

pub returns-clause-a_name_of_a_file_is_the_thing_in_its_place : goal.returns-clause-a_name_of_a_file_is_the_thing_in_its_place
returns-clause-a_name_of_a_file_is_the_thing_in_its_place c = place_law

pub returns-clause-the_names_of_a_file_are_new : goal.returns-clause-the_names_of_a_file_are_new
returns-clause-the_names_of_a_file_are_new c = new_law

pub returns-clause-an_own_name_is_in_its_place : goal.returns-clause-an_own_name_is_in_its_place
returns-clause-an_own_name_is_in_its_place c = own_law

pub returns-clause-an_image_is_in_its_place : goal.returns-clause-an_image_is_in_its_place
returns-clause-an_image_is_in_its_place c = image_law

pub returns-clause-a_name_of_a_file_is_found_by_its_lists : goal.returns-clause-a_name_of_a_file_is_found_by_its_lists
returns-clause-a_name_of_a_file_is_found_by_its_lists c = lists_law
