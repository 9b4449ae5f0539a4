-- Rows on what a small image means, on which of its entries is refused, on Base's places, and on reading.
use Rattle.std.specs.Prelude.{◌≡◌, ℕ, pos, List, [], ◌∷◌, length, codes, slice_set, if◌then◌else◌, Option, Some, None}
use Rattle.std.specs.Str.{bytes_eq}
use Rattle.pj_base.specs.declared.kinds.KindTag.TheVariants as kinds
use Rattle.pj_reloc.specs.declared.entry.Entry.{Entry}
use Rattle.pj_meaning.specs.Tree.{Text, Expr, Call, Local, Int, also, none, Body, body, step, end, Value}
use Rattle.pj_meaning.specs.Names.{id, base, int_type}
use Rattle.pj_meaning.specs.Base.{base_types, function_names}
use Rattle.pj_meaning.specs.Values.{Whole}
use Rattle.pj_meaning.specs.State.{Constant}
use Rattle.pj_content.specs.Content.{base_type, base_function, content_of}
use Rattle.pj_content.specs.Misfit.{misfit}
use Rattle.pj_meaning.specs.Using.{NoFile, Faulty}
use Rattle.pj_content.specs.Readings.{reading_of, readings}
use Rattle.pj_content.specs.Sample.{sample, entry, right_entries}

abbrev two : Text → Expr → Expr → Expr
two symbol a b = Call (codes "Base") symbol (also a (also b none))

abbrev gives : List Text → Expr → Body
gives params e = body params [] (step (Value e) end)

abbrev pub the_content : Type 0
the_content = content_of (sample right_entries) ≡ record {
  name = codes "Tri";
  types = [];
  functions = codes "f" ∷ codes "g" ∷ [];
  methods =
      record { fun = id (codes "Tri") (codes "f"); signature = int_type ∷ int_type ∷ []; code = gives (codes "a" ∷ codes "b" ∷ []) (two (codes "+") (Local (codes "a")) (Local (codes "b"))) }
      ∷ record { fun = id (codes "Tri") (codes "g"); signature = int_type ∷ []; code = gives (codes "a" ∷ []) (two (codes "*") (Local (codes "a")) (Int (pos 3))) }
      ∷ [];
  bindings = record { home = codes "Tri"; name = codes "k"; role = Constant (Whole (pos 7)) } ∷ [];
  objects = [];
  wanted = [];
}

-- the sample with one entry that is another
abbrev with_entry : ℕ → Entry → Option ℕ
with_entry k e = misfit (sample (slice_set right_entries k e))

abbrev pub no_misfit : Type 0
no_misfit = misfit (sample right_entries) ≡ None

abbrev pub a_type_for_a_function : Type 0
a_type_for_a_function = with_entry 0 (entry 0 kinds.TypeKind 0 5) ≡ Some 0

abbrev pub a_function_for_a_type : Type 0
a_function_for_a_type = with_entry 2 (entry 12 kinds.FunKind 1 0) ≡ Some 2

abbrev pub a_function_of_base : Type 0
a_function_of_base = with_entry 0 (entry 0 kinds.FunKind 0 0) ≡ Some 0

abbrev pub a_function_that_is_not_there : Type 0
a_function_that_is_not_there = with_entry 3 (entry 20 kinds.FunKind 1 2) ≡ Some 3

abbrev pub a_second_method_of_a_function : Type 0
a_second_method_of_a_function = with_entry 3 (entry 20 kinds.FunKind 1 0) ≡ Some 3

abbrev pub another_type : Type 0
another_type = with_entry 4 (entry 28 kinds.TypeKind 0 6) ≡ Some 4

abbrev pub a_type_of_the_image : Type 0
a_type_of_the_image = with_entry 1 (entry 8 kinds.TypeKind 1 5) ≡ Some 1

abbrev pub a_dependency_that_is_not_there : Type 0
a_dependency_that_is_not_there = with_entry 3 (entry 20 kinds.FunKind 2 1) ≡ Some 3

-- of two entries that are refused the first is told
abbrev pub the_lowest_is_told : Type 0
the_lowest_is_told = misfit (sample (slice_set (slice_set right_entries 4 (entry 28 kinds.TypeKind 0 0)) 2 (entry 12 kinds.TypeKind 0 6))) ≡ Some 2

-- a method's function comes before its types
abbrev pub a_function_is_told_before_its_types : Type 0
a_function_is_told_before_its_types = misfit (sample (slice_set (slice_set right_entries 0 (entry 0 kinds.FunKind 1 9)) 1 (entry 8 kinds.TypeKind 0 6))) ≡ Some 0

-- ---- Base

abbrev pub so_many_types : Type 0
so_many_types = length base_types ≡ 11

abbrev pub so_many_functions : Type 0
so_many_functions = length function_names ≡ 18

abbrev pub a_place_of_a_type : Type 0
a_place_of_a_type = base_type 5 ≡ int_type

abbrev pub a_place_of_a_function : Type 0
a_place_of_a_function = base_function 2 ≡ base (codes "*")

-- ---- reading

abbrev pub a_file_that_is_not_there : Type 0
a_file_that_is_not_there = reading_of (codes "Tri") None ≡ NoFile

abbrev pub an_empty_file : Type 0
an_empty_file = reading_of (codes "Tri") (Some []) ≡ Faulty 0

abbrev one_file : Text → Option (List ℕ)
one_file file = if bytes_eq file (codes "Tri.pimg") then Some [] else None

abbrev pub a_package_by_its_file : Type 0
a_package_by_its_file = readings one_file (codes "Tri") ≡ Faulty 0

abbrev pub another_package : Type 0
another_package = readings one_file (codes "Two") ≡ NoFile
