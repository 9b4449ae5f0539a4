-- When a call may answer that the outside failed. Each depot and each sink counts its faults in 64 bits.
use Rattle.std.specs.Prelude.{ℕ, ◌+◌, ◌-◌, ◌^◌, ◌≤◌, min, OnErr, Result}
use Rattle.std.specs.declared.result.Result.TheVariants.{Ok, Err}
use Rattle.pj_outside.specs.declared.answers.ReadAnswer.{ReadAnswer}
use Rattle.pj_outside.specs.declared.answers.ReadAnswer.TheVariants as read
use Rattle.pj_outside.specs.declared.answers.WriteFault.{WriteFault}
use Rattle.pj_outside.specs.declared.answers.WriteFault.TheVariants as write

-- one more, in a count that stands still at 2 ^ 64 - 1
abbrev pub next : ℕ → ℕ
next count = min (count + 1) (2 ^ 64 - 1)

-- the count has risen; one that stands at its type's end counts as risen
abbrev pub Rose : ℕ → ℕ → Type 0
Rose before now = next before ≤ now

-- this holds where a read answered Failed
abbrev pub IfReadFailed : ReadAnswer → Type 0 → Type 0
IfReadFailed read.Failed P = P
IfReadFailed _ P = Unit {0}

-- this holds where a write answered Failed
abbrev pub IfWriteFailed : {T : Type 0} → Result T WriteFault → Type 0 → Type 0
IfWriteFailed (Err write.Failed) P = P
IfWriteFailed _ P = Unit {0}

-- a count in which exactly a read that answered Failed is counted
abbrev pub counted_read : ReadAnswer → ℕ → ℕ
counted_read read.Failed count = next count
counted_read _ count = count

-- a count in which exactly a call that answered an error is counted
abbrev pub counted_error : {T E : Type 0} → Result T E → ℕ → ℕ
counted_error (Ok _) count = count
counted_error (Err _) count = next count

-- a read: the count doesn't fall, and the answer is Failed only where it rose
pub record ReadCause (before now : ℕ) (answer : ReadAnswer) : Type 0 where
  pub later : before ≤ now
  pub failed : IfReadFailed answer (Rose before now)

-- a write: the count doesn't fall, and the answer is Failed only where it rose
pub record WriteCause {T : Type 0} (before now : ℕ) (result : Result T WriteFault) : Type 0 where
  pub later : before ≤ now
  pub failed : IfWriteFailed result (Rose before now)

-- a put: the count doesn't fall, and the answer is a fault only where it rose
pub record PutCause {T E : Type 0} (before now : ℕ) (result : Result T E) : Type 0 where
  pub later : before ≤ now
  pub failed : OnErr result (Rose before now)
