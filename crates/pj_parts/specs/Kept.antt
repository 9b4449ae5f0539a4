-- The bytes of a text that is kept in place or in memory of its own.
use Rattle.std.specs.Prelude.{ℕ, List, string_bytes}
use Rattle.pj_parts.specs.declared.short_text.Kept.{Kept}
use Rattle.pj_parts.specs.declared.short_text.Kept.TheVariants.{InPlace, OnHeap}

abbrev pub kept_bytes : Kept → List ℕ
kept_bytes (InPlace text) = text.bytes
kept_bytes (OnHeap text) = string_bytes text
