-- Each law is proved in the files beside.
use Rattle.pj_session.proofs.Stated.{line_law, define_law, const_law}
use Rattle.pj_session.proofs.item_laws.Goals as goal

pub returns-clause-a_line_prints_what_is_asked : goal.returns-clause-a_line_prints_what_is_asked
returns-clause-a_line_prints_what_is_asked c = line_law

pub returns-clause-a_definition_adds_its_method : goal.returns-clause-a_definition_adds_its_method
returns-clause-a_definition_adds_its_method c = define_law

pub returns-clause-a_constant_is_bound_behind_its_value : goal.returns-clause-a_constant_is_bound_behind_its_value
returns-clause-a_constant_is_bound_behind_its_value c = const_law
