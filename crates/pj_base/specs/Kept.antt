-- The bytes of a text that is kept in place or in memory of its own.
use Rattle.std.specs.Prelude.{ℕ, List, take, string_bytes}
use Rattle.pj_base.specs.declared.text.Kept.{Kept}
use Rattle.pj_base.specs.declared.text.Kept.TheVariants.{InPlace, OnHeap}

abbrev pub kept_bytes : Kept → List ℕ
kept_bytes (InPlace text) = take text.len text.bytes
kept_bytes (OnHeap text) = string_bytes text.value
