-- Each answer of the read is a script or an ending.
use Rattle.pj_top.proofs.RunningRead.{absent_read, bytes_read, long_read}
use Rattle.pj_top.proofs.run.read_script.Goals as goal

pub returns-in-Bytes-clause-told : goal.returns-in-Bytes-clause-told
returns-in-Bytes-clause-told g c =
    bytes_read (g.D.Depot.files c.args.depot.now) c.args.name.now c.as_slice.result.now _ (rw (← c.as_slice.ensures.value) at c.in-Bytes.ensures.told) (rw (← c.as_slice.ensures.value) at c.in-Bytes.ensures.bound) c.parsed.ensures.told

pub returns-in_ok-missing-in-Absent-clause-told : goal.returns-in_ok-missing-in-Absent-clause-told
returns-in_ok-missing-in-Absent-clause-told g c =
    absent_read (g.D.Depot.files c.args.depot.now) c.args.name.now c.in_ok-missing-in-Absent.field-0 c.in-Absent.ensures.told c.in_ok-missing-in-Absent.ensures.line c.in_ok-missing-in-Absent.ensures.status

pub returns-in_ok-too_long-in-TooLong-clause-told : goal.returns-in_ok-too_long-in-TooLong-clause-told
returns-in_ok-too_long-in-TooLong-clause-told g c =
    long_read (g.D.Depot.files c.args.depot.now) c.args.name.now c.in_ok-too_long-in-TooLong.field-0 c.in-TooLong.ensures.told c.in_ok-too_long-in-TooLong.ensures.line c.in_ok-too_long-in-TooLong.ensures.status
