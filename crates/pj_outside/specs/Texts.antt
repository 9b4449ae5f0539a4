-- The texts of the faults.
use Rattle.std.specs.Prelude.{ℕ, List, codes}
use Rattle.pj_outside.specs.declared.answers.WriteFault.{WriteFault}
use Rattle.pj_outside.specs.declared.answers.WriteFault.TheVariants as write

-- what is printed of a write's fault
abbrev pub write_fault_text : WriteFault → List ℕ
write_fault_text write.Failed = codes "the file was not written"
write_fault_text write.NoMemory = codes "out of memory"
