-- A file that isn't there, or is too long, is told.
use Rattle.pj_top.proofs.PrecompilingTold.{absent_found, long_found}
use Rattle.pj_top.proofs.precompile.read_package.Goals as goal

pub returns-in-Absent-clause-found : goal.returns-in-Absent-clause-found
returns-in-Absent-clause-found g c =
    absent_found (g.D.Depot.files c.args.depot.now) c.args.name.now c.in-Ok.file c.missing.result c.told_end.result c.in-Ok.ensures
    (rw c.as_str.ensures at c.in-Absent.ensures.told) (rw c.as_str-in-Absent.ensures at c.missing.ensures.line) c.missing.ensures.status c.told_end.ensures

pub returns-in-TooLong-clause-found : goal.returns-in-TooLong-clause-found
returns-in-TooLong-clause-found g c =
    long_found (g.D.Depot.files c.args.depot.now) c.args.name.now c.in-Ok.file c.too_long.result c.told_end-in-TooLong.result c.in-Ok.ensures
    (rw c.as_str.ensures at c.in-TooLong.ensures.told) (rw c.as_str-in-TooLong.ensures at c.too_long.ensures.line) c.too_long.ensures.status c.told_end-in-TooLong.ensures
