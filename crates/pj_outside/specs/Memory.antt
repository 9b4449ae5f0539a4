-- What the objects in memory hold.
use Rattle.std.specs.Prelude.{ℕ, Bool, ◌==◌, List, Result, map, string_bytes}
use Rattle.std.specs.declared.result.Result.TheVariants.{Ok, Err}
use Rattle.std.specs.List.{list_any}
use Rattle.std.specs.Ordering.{nat_cmp}
use Rattle.std.specs.Cmp.Lexicographic.{slice_cmp}
use Rattle.std.specs.FinMap as finite
use Rattle.std.specs.declared.string.String.{String}
use Rattle.std.specs.declared.vec.Vec.{Vec}
use Rattle.std.specs.declared.alloc.Global.{Global}
use Rattle.pj_outside.specs.Stored.{Files}

-- files by their names, each a list of bytes
abbrev pub FileTable : Type 0
FileTable = finite.FinMap (slice_cmp nat_cmp) (List ℕ)

-- the files of a table as a function of the name
abbrev pub files_of : FileTable → Files
files_of table name = finite.get table name

-- the entries of a map of strings, by their bytes
abbrev pub named_bytes : List (String Global × Vec ℕ Global) → List (List ℕ × List ℕ)
named_bytes entries = map (λ e. (string_bytes e.0, e.1.items)) entries

-- bytes, and how many there is room for
pub record BytesInRoom : Type 0 where
  pub bytes : List ℕ
  pub room : ℕ

-- the list has this number
abbrev pub has_number : List ℕ → ℕ → Bool
has_number numbers number = list_any (λ n. n == number) numbers

-- the table after a write that can't fail: with the file where there was memory, and else as it was
abbrev pub stored : {T E : Type 0} → FileTable → List ℕ → List ℕ → Result T E → FileTable
stored table name bytes (Ok _) = finite.insert table name bytes
stored table name bytes (Err _) = table
