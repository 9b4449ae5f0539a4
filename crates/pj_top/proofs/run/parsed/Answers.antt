-- The tree of a text is judged, and a mistake is told at its place.
use Rattle.pj_top.proofs.RunningRead.{faulty_ends}
use Rattle.pj_top.proofs.run.parsed.Goals as goal

pub returns-in-Ok-clause-told : goal.returns-in-Ok-clause-told
returns-in-Ok-clause-told c = λ files found short. c.judged.ensures.told files c.args.bytes.now found short c.in-Ok.ensures.tree

pub returns-in_ok-faulty-in-Err-Syntax-clause-told : goal.returns-in_ok-faulty-in-Err-Syntax-clause-told
returns-in_ok-faulty-in-Err-Syntax-clause-told c =
    faulty_ends c.args.name.now c.args.bytes.now c.in-Err-Syntax.place c.in-Err-Syntax.kind _ c.in_ok-faulty-in-Err-Syntax.field-0 c.position_at-at.ensures
    (rw c.in-Err-Syntax.field-0-is at c.in-Err-Syntax.ensures.fault) c.in_ok-faulty-in-Err-Syntax.ensures.line c.in_ok-faulty-in-Err-Syntax.ensures.status
