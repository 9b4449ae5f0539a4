-- What a depot in memory is after each call.
use Rattle.std.specs.Prelude.{ℕ, List, Result, if◌then◌else◌}
use Rattle.std.specs.declared.result.Result.TheVariants.{Ok, Err}
use Rattle.std.specs.FinMap as finite
use Rattle.pj_outside.specs.Memory.{has_number}
use Rattle.pj_outside.specs.Faults.{next}
use Rattle.pj_outside.specs.declared.mem_depot.MemDepot.{MemDepot}
use Rattle.pj_outside.specs.declared.answers.WriteFault.{WriteFault}
use Rattle.pj_outside.specs.declared.answers.WriteFault.TheVariants as write

-- a read is counted, and so is its fault where the list names it
abbrev pub after_read : MemDepot → MemDepot
after_read d = record d {
  reads = next d.reads;
  faults = if has_number d.failing_reads (next d.reads) then next d.faults else d.faults;
}

-- a write is counted; it stores the bytes, or takes the file away and counts the fault, or changes no file for want of memory
abbrev pub after_write : {T : Type 0} → MemDepot → List ℕ → List ℕ → Result T WriteFault → MemDepot
after_write d name bytes (Ok _) = record d { files = finite.insert d.files name bytes; writes = next d.writes }
after_write d name bytes (Err write.Failed) = record d { files = finite.remove d.files name; writes = next d.writes; faults = next d.faults }
after_write d name bytes (Err write.NoMemory) = record d { writes = next d.writes }
