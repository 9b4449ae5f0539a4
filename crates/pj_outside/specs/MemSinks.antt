-- What a sink in memory takes, and what it is after a put.
use Rattle.std.specs.Prelude.{ℕ, ◌+◌, ◌++◌, Bool, ◌||◌, nat_le, not, List, length, if◌then◌else◌}
use Rattle.pj_outside.specs.Memory.{has_number}
use Rattle.pj_outside.specs.Faults.{next}
use Rattle.pj_outside.specs.declared.mem_sink.MemSink.{MemSink}

-- the next put is named, or the piece goes past the room
abbrev pub refuses : MemSink → List ℕ → Bool
refuses s piece = has_number s.failing_puts (next s.puts) || not (nat_le (length s.written.bytes + length piece) s.written.room)

-- a put is counted; one that is refused counts a fault and adds nothing, and each other adds the piece
abbrev pub after_put : MemSink → List ℕ → MemSink
after_put s piece =
    if refuses s piece
    then record s { puts = next s.puts; faults = next s.faults }
    else record s { puts = next s.puts; written = record s.written { bytes = s.written.bytes ++ piece } }
