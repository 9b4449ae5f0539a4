-- The methods of functions that have so many parameters, and the entries of their mentions.
use Rattle.std.specs.Prelude.{ℕ, zero, suc, ◌+◌, ◌*◌, List, [], ◌∷◌, ◌++◌}
use Rattle.pj_base.specs.declared.kinds.KindTag.{KindTag}
use Rattle.pj_base.specs.declared.kinds.KindTag.TheVariants as kinds
use Rattle.pj_reloc.specs.declared.entry.Entry.{Entry}
use Rattle.pj_parts.specs.declared.types.Method.{Method}
use Rattle.pj_image.specs.Mentions.{count_from}

-- the entry of a mention that stands at a place
abbrev pub entry_at : ℕ → KindTag → ℕ → ℕ → Entry
entry_at place kind dependency ordinal = record { place = place; kind = kind; dependency = dependency; ordinal = ordinal }

-- Base's type in place 5, which is Int64, so many times
abbrev pub int_entries : ℕ → ℕ → List Entry
int_entries place zero = []
int_entries place (suc count) = entry_at place kinds.TypeKind 0 5 ∷ int_entries (place + 4) count

-- a method's mentions are numbered from `next` on, and its function and its tree have the same number
abbrev pub wired_method : ℕ → ℕ → ℕ → Method
wired_method next ordinal count = record { fun = next; types = count_from (next + 1) count; body = ordinal }

-- the entries of a method that stands at a place
abbrev pub wired_entries : ℕ → ℕ → ℕ → List Entry
wired_entries place ordinal count = entry_at place kinds.FunKind 1 ordinal ∷ int_entries (place + 8) count

-- ---- of each function in order

abbrev pub all_methods : ℕ → ℕ → List ℕ → List Method
all_methods next ordinal [] = []
all_methods next ordinal (count ∷ counts) = wired_method next ordinal count ∷ all_methods (next + 1 + count) (ordinal + 1) counts

abbrev pub all_entries : ℕ → ℕ → List ℕ → List Entry
all_entries place ordinal [] = []
all_entries place ordinal (count ∷ counts) = wired_entries place ordinal count ++ all_entries (place + 12 + 4 * count) (ordinal + 1) counts
