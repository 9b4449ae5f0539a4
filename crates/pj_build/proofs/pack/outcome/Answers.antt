-- What is packed by how the statements ended.
use Rattle.pj_build.proofs.Packing.{with_bytes, with_fault}
use Rattle.pj_build.proofs.pack.outcome.Goals as goal

pub returns-in-Ok-image_bytes : goal.returns-in-Ok-image_bytes
returns-in-Ok-image_bytes c given ended =
    with_bytes c.args.session.now c.requires.good c.in-Ok-image_bytes.bytes c.in-Ok-image_bytes.ensures given c.in-Ok.field-0 (rw c.in-Ok.is at ended)

pub returns-in-Err : goal.returns-in-Err
returns-in-Err c given ended = with_fault _ c.args.session.now c.requires.good c.in-Err.end c.fault.result c.fault.ensures given (rw c.in-Err.is at ended)
