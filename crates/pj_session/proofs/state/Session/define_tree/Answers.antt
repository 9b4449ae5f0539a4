use Rattle.pj_session.specs.Merged.{parts_in}
use Rattle.pj_session.proofs.HeldParts.{good_tree}
use Rattle.pj_session.proofs.state.Session.define_tree.Goals as goal

pub returns-in-Ok-clause-good : goal.returns-in-Ok-clause-good
returns-in-Ok-clause-good c =
    good_tree c.define.result _ _ _ _ c.args.d.now c.text.result.now (parts_in c.in-Ok.definition) c.text.ensures c.in-Ok.ensures.parts c.define.ensures.good
