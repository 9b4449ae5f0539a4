-- Each law is proved in the file beside.
use Rattle.pj_session.proofs.SessionItems.{script_law, package_law}
use Rattle.pj_session.proofs.top.form_laws.Goals as goal

pub returns-clause-a_script_item_is_evaluated : goal.returns-clause-a_script_item_is_evaluated
returns-clause-a_script_item_is_evaluated c = script_law

pub returns-clause-a_package_item_is_evaluated : goal.returns-clause-a_package_item_is_evaluated
returns-clause-a_package_item_is_evaluated c = package_law
