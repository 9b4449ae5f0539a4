-- The numbers of kinds in an image's bytes.
use Rattle.std.specs.Prelude.{ℕ, ◌==◌, if◌then◌else◌, Option, Some, None}
use Rattle.pj_base.specs.declared.kinds.KindTag.{KindTag}
use Rattle.pj_base.specs.declared.kinds.KindTag.TheVariants as kinds

abbrev pub kind_number : KindTag → ℕ
kind_number kinds.TypeKind = 0
kind_number kinds.FunKind = 1
kind_number kinds.MethodKind = 2
kind_number kinds.BindingKind = 3
kind_number kinds.ObjectKind = 4
kind_number kinds.RecordKind = 5
kind_number kinds.TreeKind = 6

abbrev pub kind_of : ℕ → Option KindTag
kind_of n =
    if n == 0 then Some kinds.TypeKind else
    if n == 1 then Some kinds.FunKind else
    if n == 2 then Some kinds.MethodKind else
    if n == 3 then Some kinds.BindingKind else
    if n == 4 then Some kinds.ObjectKind else
    if n == 5 then Some kinds.RecordKind else
    if n == 6 then Some kinds.TreeKind else None
