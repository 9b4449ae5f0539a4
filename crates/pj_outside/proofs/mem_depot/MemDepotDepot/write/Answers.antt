-- What the table has after the insertion and after the removal.
use Rattle.pj_outside.proofs.FileLemmas.{stores_inserted, rest_removed}
use Rattle.pj_outside.proofs.mem_depot.MemDepotDepot.write.Goals as goal

pub returns-then-contains-clause-told : goal.returns-then-contains-clause-told
returns-then-contains-clause-told c = rest_removed _ _ c.args.name.now c.remove.ensures

pub returns-clause-told : goal.returns-clause-told
returns-clause-told c = stores_inserted _ _ c.args.name.now c.args.bytes.now c.in_ok-insert.ensures.added
