-- The numbers of the statuses.
use Rattle.std.specs.Prelude.{ℕ}
use Rattle.pj_top.specs.declared.status.Status.{Status}
use Rattle.pj_top.specs.declared.status.Status.TheVariants as ends

abbrev pub code_of : Status → ℕ
code_of ends.Ok = 0
code_of ends.Error = 1
code_of ends.Usage = 2
code_of ends.Syntax = 3
code_of ends.Refused = 4
code_of ends.Missing = 5
code_of ends.Steps = 6
code_of ends.DepotFailed = 7
code_of ends.SinkFailed = 8
code_of ends.NoMemory = 9
code_of ends.Trap = 10
code_of ends.TooLong = 11
code_of ends.Cycle = 12
code_of ends.Full = 13
