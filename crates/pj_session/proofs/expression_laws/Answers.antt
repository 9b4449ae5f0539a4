-- Each law is proved in the files beside.
use Rattle.pj_session.proofs.Stated.{expression_law, charges_law}
use Rattle.pj_session.proofs.expression_laws.Goals as goal

pub returns-clause-an_expression_gives_its_number : goal.returns-clause-an_expression_gives_its_number
returns-clause-an_expression_gives_its_number c = expression_law

pub returns-clause-charges_are_only_taken : goal.returns-clause-charges_are_only_taken
returns-clause-charges_are_only_taken c = charges_law
