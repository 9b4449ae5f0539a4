-- What a depot's files are, and what a read and a write say of them.
use Rattle.std.specs.Prelude.{◌≡◌, ◌≢◌, ℕ, ◌<◌, ◌≤◌, List, length, Option, Result, IsSomeAnd}
use Rattle.std.specs.declared.option.Option.TheVariants.{None, Some}
use Rattle.std.specs.declared.result.Result.TheVariants.{Ok, Err}
use Rattle.pj_outside.specs.declared.answers.ReadAnswer.{ReadAnswer}
use Rattle.pj_outside.specs.declared.answers.ReadAnswer.TheVariants as read
use Rattle.pj_outside.specs.declared.answers.WriteFault.{WriteFault}
use Rattle.pj_outside.specs.declared.answers.WriteFault.TheVariants as write

-- each name has bytes, or there is no file of this name
abbrev pub Files : Type 0
Files = List ℕ → Option (List ℕ)

-- no more bytes are answered than the limit
abbrev pub AtMost : ℕ → ReadAnswer → Type 0
AtMost limit (read.Bytes bytes) = length bytes.items ≤ limit
AtMost limit _ = Unit {0}

-- the bytes are those of the file; Absent says that there is none, and TooLong that it has more bytes than the limit
abbrev pub Reads : Files → List ℕ → ℕ → ReadAnswer → Type 0
Reads files name limit (read.Bytes bytes) = files name ≡ Some bytes.items
Reads files name limit read.Absent = files name ≡ None
Reads files name limit read.TooLong = IsSomeAnd (files name) (λ bytes. limit < length bytes)
Reads files name limit _ = Unit {0}

-- no file has changed
abbrev pub Keeps : Files → Option Files → Type 0
Keeps old None = ⊥
Keeps old (Some new) = (name : List ℕ) → new name ≡ old name

-- no file but this one has changed
abbrev pub KeepsRest : List ℕ → Files → Option Files → Type 0
KeepsRest name old None = ⊥
KeepsRest name old (Some new) = (other : List ℕ) → other ≢ name → new other ≡ old other

-- the file has these bytes, and no other has changed
pub record Stores (old : Files) (name bytes : List ℕ) (now : Option Files) : Type 0 where
  pub here : IsSomeAnd now (λ new. new name ≡ Some bytes)
  pub rest : KeepsRest name old now

-- after Ok the file has the bytes; after Failed it alone is unknown; after NoMemory no file has changed
abbrev pub Writes : {T : Type 0} → Files → List ℕ → List ℕ → Result T WriteFault → Option Files → Type 0
Writes old name bytes (Ok _) now = Stores old name bytes now
Writes old name bytes (Err write.Failed) now = KeepsRest name old now
Writes old name bytes (Err write.NoMemory) now = Keeps old now
