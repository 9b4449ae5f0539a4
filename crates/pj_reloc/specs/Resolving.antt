-- What an entry names.
use Rattle.std.specs.Prelude.{ℕ, List, ◌==◌, nat_lt, if◌then◌else◌, Option, Some, None, slice_get}
use Rattle.pj_base.specs.Kinds.{kind_number}
use Rattle.pj_base.specs.declared.kinds.KindTag.{KindTag}
use Rattle.pj_base.specs.declared.kinds.KindTag.TheVariants as kinds
use Rattle.pj_reloc.specs.declared.deps.Counts.{Counts}
use Rattle.pj_reloc.specs.declared.entry.Entry.{Entry}

-- how many an image has of a kind
abbrev pub count_of : KindTag → Counts → ℕ
count_of kinds.TypeKind c = c.types
count_of kinds.FunKind c = c.funs
count_of kinds.MethodKind c = c.methods
count_of kinds.BindingKind c = c.bindings
count_of kinds.ObjectKind c = c.objects
count_of kinds.RecordKind c = c.records
count_of kinds.TreeKind c = c.trees

-- the image's number and the ordinal, where the image has so many of the kind
abbrev pub among : KindTag → ℕ → Option Counts → Option (ℕ × ℕ)
among asked ordinal None = None
among asked ordinal (Some c) = if nat_lt ordinal (count_of asked c) then Some (c.image, ordinal) else None

-- what an entry names as a thing of the asked kind, over the images by dependency number
abbrev pub resolved : KindTag → Entry → List Counts → Option (ℕ × ℕ)
resolved asked e images = if kind_number e.kind == kind_number asked then among asked e.ordinal (slice_get images e.dependency) else None
