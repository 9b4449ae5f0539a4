-- Each law is proved in the files beside.
use Rattle.pj_meaning.proofs.Picking.{pick_law, least_law, none_law, objects_law, bindings_law}
use Rattle.pj_meaning.proofs.list_laws.Goals as goal

pub returns-clause-what_is_picked_is_applicable : goal.returns-clause-what_is_picked_is_applicable
returns-clause-what_is_picked_is_applicable c = pick_law

pub returns-clause-what_is_picked_is_least : goal.returns-clause-what_is_picked_is_least
returns-clause-what_is_picked_is_least c = least_law

pub returns-clause-nothing_is_found_where_nothing_applies : goal.returns-clause-nothing_is_found_where_nothing_applies
returns-clause-nothing_is_found_where_nothing_applies c = none_law

pub returns-clause-contents_keep_objects : goal.returns-clause-contents_keep_objects
returns-clause-contents_keep_objects c = objects_law

pub returns-clause-contents_keep_bindings : goal.returns-clause-contents_keep_bindings
returns-clause-contents_keep_bindings c = bindings_law
