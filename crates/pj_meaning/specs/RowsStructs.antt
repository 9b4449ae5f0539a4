-- Rows on structs, objects and identity.
use Rattle.std.specs.Prelude.{List, [], ◌∷◌, ◌++◌}
use Rattle.pj_meaning.specs.Tree.{TopItem, Expr, Nothing, True, Same, Value}
use Prim.Native.String.{String}
use Rattle.pj_meaning.specs.Written.{int, name, field, call, set_global, set_field, for, type, typed, free, abstract, struct, mutable, const, run, show, Prints}

abbrev cell : TopItem
cell = mutable "Cell" (typed "v" "Int64" ∷ [])

abbrev point : TopItem
point = struct "P" (type "Any") (typed "v" "Int64" ∷ [])

abbrev made : String → Expr → Expr
made t e = call t (e ∷ [])

abbrev pub a_store_is_seen_by_all_names : Type 0
a_store_is_seen_by_all_names =
    Prints (cell ∷ const "a" (made "Cell" (int 1)) ∷ const "b" (name "a") ∷ run (set_field (name "a") "v" (int 5)) ∷ show (field (name "b") "v") ∷ []) "5\n"

abbrev pub objects_are_identical_by_identity : Type 0
objects_are_identical_by_identity =
    Prints (cell ∷ const "a" (made "Cell" (int 1)) ∷ run (Value (call "println" (Same (name "a") (name "a") ∷ Same (name "a") (made "Cell" (int 1)) ∷ []))) ∷ []) "truefalse\n"

abbrev pub structs_are_identical_by_contents : Type 0
structs_are_identical_by_contents =
    Prints (point ∷ struct "Q" (type "Any") (free "v" ∷ []) ∷ run (Value (call "println" (Same (made "P" (int 1)) (made "P" (int 1)) ∷ Same (made "P" (int 1)) (made "P" (int 2)) ∷ Same (made "P" (int 1)) (made "Q" (int 1)) ∷ []))) ∷ [])
    "truefalsefalse\n"

abbrev pub a_struct_holds_an_object_by_identity : Type 0
a_struct_holds_an_object_by_identity =
    Prints (cell ∷ struct "Q" (type "Any") (free "v" ∷ []) ∷ const "a" (made "Cell" (int 1)) ∷ const "q" (made "Q" (name "a")) ∷ run (set_field (field (name "q") "v") "v" (int 8)) ∷ show (name "q") ∷ show (Same (name "q") (made "Q" (name "a"))) ∷ [])
    "Main.Q(Main.Cell(8))\ntrue\n"

abbrev pub a_field_of_its_own_type : Type 0
a_field_of_its_own_type =
    Prints (struct "Node" (type "Any") (free "v" ∷ typed "next" "Node" ∷ []) ∷ show (call "Node" (int 1 ∷ Nothing ∷ [])) ∷ []) "ERROR: MethodError: no method matching Main.Node(Int64, Nothing)\n"

abbrev pub a_constructor_converts_nothing : Type 0
a_constructor_converts_nothing = Prints (point ∷ show (made "P" True) ∷ []) "ERROR: MethodError: no method matching Main.P(Bool)\n"

abbrev pub a_constructor_takes_all_its_fields : Type 0
a_constructor_takes_all_its_fields = Prints (point ∷ show (call "P" []) ∷ []) "ERROR: MethodError: no method matching Main.P()\n"

abbrev pub base_types_construct_nothing : Type 0
base_types_construct_nothing = Prints (show (made "Int" (int 1)) ∷ []) "ERROR: MethodError: no method matching Int64(Int64)\n"

abbrev pub an_abstract_type_constructs_nothing : Type 0
an_abstract_type_constructs_nothing = Prints (abstract "S" (type "Any") ∷ show (call "S" []) ∷ []) "ERROR: MethodError: no method matching Main.S()\n"

-- w has 4,095 parts
abbrev full : List TopItem
full =
    struct "D" (type "Any") (free "a" ∷ free "b" ∷ []) ∷ struct "B" (type "Any") (free "v" ∷ []) ∷ run (set_global "w" (int 1))
    ∷ run (for "i" (int 1) (int 11) [] (set_global "w" (call "D" (name "w" ∷ name "w" ∷ [])) ∷ [])) ∷ []

abbrev pub the_most_parts : Type 0
the_most_parts = Prints (full ++ const "most" (made "B" (name "w")) ∷ show (int 1) ∷ const "more" (made "B" (name "most")) ∷ []) "1\nERROR: LimitError: struct value of more than 4096 parts\n"

abbrev pub an_object_is_one_part : Type 0
an_object_is_one_part = Prints (full ++ mutable "M" (free "v" ∷ []) ∷ const "m" (made "M" (made "B" (name "w"))) ∷ show (Same (field (field (name "m") "v") "v") (name "w")) ∷ const "b" (made "B" (name "m")) ∷ []) "true\n"
