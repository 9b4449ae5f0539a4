-- What the table has after the insertion.
use Rattle.pj_outside.proofs.FileLemmas.{stores_inserted}
use Rattle.pj_outside.proofs.sure.SureDepotDepot.write.Goals as goal

pub returns-clause-told : goal.returns-clause-told
returns-clause-told c = stores_inserted _ _ c.args.name.now c.args.bytes.now c.in_ok-insert.ensures.added
