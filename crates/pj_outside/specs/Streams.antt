-- What a whole reader gives.
use Rattle.std.specs.Prelude.{◌≡◌, ℕ, ◌<◌, List, length}
use Rattle.pj_outside.specs.declared.answers.ReadAnswer.{ReadAnswer}
use Rattle.pj_outside.specs.declared.answers.ReadAnswer.TheVariants as read

-- all bytes that were left are answered, or TooLong, where they are more than the limit; never Absent
abbrev pub ReadsWhole : List ℕ → ℕ → ReadAnswer → Type 0
ReadsWhole left limit (read.Bytes bytes) = bytes.items ≡ left
ReadsWhole left limit read.TooLong = limit < length left
ReadsWhole left limit read.Absent = ⊥
ReadsWhole left limit _ = Unit {0}
