use Rattle.pj_session.proofs.HeldParts.{item_as}
use Rattle.pj_session.proofs.definition.definition_of.Goals as goal

pub returns-clause-item : goal.returns-clause-item
returns-clause-item c = item_as c.args.d.now c.of_part.result c.of_part.ensures
