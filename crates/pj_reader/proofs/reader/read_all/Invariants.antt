use Rattle.std.proofs.Common.{◌≡◌, length}
use Rattle.pj_reader.specs.Read.{Progress, kind_of}
use Rattle.pj_reader.proofs.reader.read_all.Given as goal

abbrev pub invariant-loop-rest : goal.invariant-loop-rest
invariant-loop-rest l = Progress l.fn.modules (kind_of l.fn.kind) l.fn.tokens l.rest l.reading

abbrev pub decreases-loop-rest : goal.decreases-loop-rest
decreases-loop-rest l = length l.rest
