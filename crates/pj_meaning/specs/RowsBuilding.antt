-- Rows on building a package: its errors and their order, and what its image holds.
use Rattle.std.specs.Prelude.{List, [], ◌∷◌, ◌++◌, ◌≡◌, ℕ, Option, Some, None, map, option_map, option_to_list, flat_map}
use Rattle.pj_meaning.specs.Tree.{TopItem, Nothing, Return, Eval, SetBinding, Evaluate}
use Prim.Native.String.{String as Chars}
use Rattle.pj_meaning.specs.Packages.{Source}
use Rattle.pj_meaning.specs.Names.{id}
use Rattle.pj_meaning.specs.Values.{ObjectName, ObjectRow, Object, String, Value}
use Rattle.pj_meaning.specs.Outcome.{Outcome, Gives, Raises, Stops}
use Rattle.pj_meaning.specs.Content.{Content}
use Rattle.pj_meaning.specs.Tree as tree
use lib.Chars.{codes}
use Rattle.pj_meaning.specs.Written.{int, str, local, name, name_of, call, call_of, latest, op, set_global, set_field, type, type_in, typed, free, def, def_in, function, payload_def, abstract, struct, mutable, const, run, show, directive, directive_of, source, image_of, packed_over, built_onto, Builds}

abbrev a : Source
a = source "A" [] (def "f" (typed "x" "Integer" ∷ []) (op "+" (local "x") (int 1)) ∷ function "eval_here" [] [] (Eval [] (payload_def "z" [] (int 1)) ∷ []) ∷ const "K" (int 5) ∷ abstract "S" (type "Any") ∷ [])

-- building T over A
abbrev TellsBuild : List TopItem → Chars → Type 0
TellsBuild items text = Builds (a ∷ []) (source "T" ("A" ∷ []) items) text

abbrev pub what_a_build_prints_stays_before_its_error : Type 0
what_a_build_prints_stays_before_its_error = TellsBuild (show (int 1) ∷ run (tree.Value (op "div" (int 1) (int 0))) ∷ show (int 2) ∷ []) "1\nERROR: DivideError: integer division error\n"

abbrev pub no_method_is_overwritten : Type 0
no_method_is_overwritten =
    TellsBuild (def_in "A" "f" (typed "x" "Integer" ∷ []) (int 0) ∷ []) "ERROR: method overwriting is not permitted during precompilation: A.f(Integer)\n"

abbrev pub no_method_of_its_own_is_overwritten : Type 0
no_method_of_its_own_is_overwritten =
    TellsBuild (def "g" (typed "x" "Int" ∷ free "y" ∷ []) (int 0) ∷ def "g" (typed "x" "Int64" ∷ free "z" ∷ []) (int 1) ∷ []) "ERROR: method overwriting is not permitted during precompilation: T.g(Int64, Any)\n"

abbrev pub a_parameter_is_checked_before_overwriting : Type 0
a_parameter_is_checked_before_overwriting = TellsBuild (def_in "A" "f" (typed "x" "Nope" ∷ []) (int 0) ∷ []) "ERROR: UndefVarError: T.Nope not defined\n"

abbrev pub no_evaluation_in_a_closed_module : Type 0
no_evaluation_in_a_closed_module =
    TellsBuild (run (Eval (codes "A") (payload_def "z" [] (int 1))) ∷ []) "ERROR: evaluation into the closed module A during precompilation\n"

abbrev pub a_dependency_does_not_evaluate_in_itself : Type 0
a_dependency_does_not_evaluate_in_itself =
    TellsBuild (run (tree.Value (call_of "A" "eval_here" [])) ∷ []) "ERROR: evaluation into the closed module A during precompilation\n"

abbrev pub base_is_closed : Type 0
base_is_closed =
    TellsBuild (run (Eval (codes "Base") (SetBinding (codes "abs") (call "println" (int 1 ∷ [])))) ∷ []) "ERROR: evaluation into the closed module Base during precompilation\n"

abbrev pub a_module_not_loaded_comes_before_a_closed_one : Type 0
a_module_not_loaded_comes_before_a_closed_one = TellsBuild (run (Eval (codes "Z") (Evaluate (int 1))) ∷ []) "ERROR: UndefVarError: module Z not loaded\n"

abbrev pub a_package_evaluates_in_itself : Type 0
a_package_evaluates_in_itself =
    TellsBuild (function "t" [] [] (Eval [] (payload_def "n" [] (int 3)) ∷ Return (latest (name "n") []) ∷ []) ∷ show (call "t" []) ∷ show (call "n" []) ∷ []) "3\n3\n"

abbrev pub only_a_package_of_its_own_text_is_known : Type 0
only_a_package_of_its_own_text_is_known = TellsBuild (show (name_of "A" "K") ∷ show (name_of "T" "K") ∷ []) "5\nERROR: UndefVarError: T.K not defined\n"

-- directives

abbrev pub a_directives_function_is_checked_first : Type 0
a_directives_function_is_checked_first = TellsBuild (directive "g" (type "Integer" ∷ []) ∷ []) "ERROR: UndefVarError: T.g not defined\n"

abbrev pub a_directive_needs_a_function : Type 0
a_directive_needs_a_function = TellsBuild (directive_of "A" "K" (type "Integer" ∷ []) ∷ []) "ERROR: UndefVarError: A.K not defined\n"

abbrev pub a_directive_needs_concrete_types : Type 0
a_directive_needs_concrete_types = TellsBuild (directive_of "A" "f" (type "Int64" ∷ type_in "A" "S" ∷ type "Nope" ∷ []) ∷ []) "ERROR: TypeError: precompile needs concrete types, got A.S\n"

abbrev pub a_directives_types_are_checked_in_order : Type 0
a_directives_types_are_checked_in_order = TellsBuild (directive_of "A" "f" (type "Nope" ∷ type "Any" ∷ []) ∷ []) "ERROR: UndefVarError: T.Nope not defined\n"

abbrev pub a_directives_module_is_checked : Type 0
a_directives_module_is_checked = TellsBuild (directive_of "Z" "f" [] ∷ []) "ERROR: UndefVarError: module Z not loaded\n"

-- what the image holds

-- the content that a build gives
abbrev content_in : Outcome Content → Option Content
content_in (Gives c r) = Some c
content_in (Raises e r) = None
content_in (Stops r) = None

abbrev built : Option Content
built =
    content_in (packed_over (built_onto [] (a ∷ []))
    (source "T" ("A" ∷ [])
    (const "first" (int 0)
    ∷ mutable "Cell" (free "v" ∷ [])
    ∷ struct "Pair" (type "Any") (free "a" ∷ free "b" ∷ [])
    ∷ run (set_global "lost" (call "Cell" (str "lost" ∷ [])))
    ∷ def_in "A" "f" (typed "x" "Pair" ∷ []) (int 7)
    ∷ const "late" (call "Cell" (str "late" ∷ []))
    ∷ def "own" [] (int 8)
    ∷ run (set_global "first_cell" (call "Cell" (call "Cell" (str "deep" ∷ []) ∷ [])))
    ∷ const "pair" (call "Pair" (call "Pair" (call "Cell" (str "left" ∷ []) ∷ name "late" ∷ []) ∷ call "Cell" (str "right" ∷ []) ∷ []))
    ∷ run (set_global "lost" (name "pair"))
    ∷ run (set_field (name "late") "v" (name "first_cell"))
    ∷ directive "own" []
    ∷ []))
    1000000)

abbrev cell : ℕ → ObjectName
cell k = record { owner = codes "T"; number = k }

abbrev cell_row : ℕ → Value → ObjectRow
cell_row k v = record { name = cell k; type = id (codes "T") (codes "Cell"); values = v ∷ [] }

-- the global `lost` stands first and reaches the pair's cells in the order of its fields; the cell named at first is gone
abbrev pub objects_are_numbered_breadth_first : Type 0
objects_are_numbered_breadth_first =
    option_map (λ c. c.objects) built
    ≡ Some
    (cell_row 0 (String (codes "left"))
    ∷ cell_row 1 (Object (cell 3))
    ∷ cell_row 2 (String (codes "right"))
    ∷ cell_row 3 (Object (cell 4))
    ∷ cell_row 4 (String (codes "deep"))
    ∷ [])

abbrev pub bindings_stand_in_order_of_binding : Type 0
bindings_stand_in_order_of_binding =
    option_map (λ c. map (λ b. b.name) c.bindings) built ≡ Some (codes "first" ∷ codes "lost" ∷ codes "late" ∷ codes "first_cell" ∷ codes "pair" ∷ [])

abbrev pub types_and_functions_stand_in_order : Type 0
types_and_functions_stand_in_order =
    option_map (λ c. map (λ t. t.name.name) c.types ++ c.functions) built ≡ Some (codes "Cell" ∷ codes "Pair" ∷ codes "own" ∷ [])

abbrev pub methods_stand_in_order_also_those_of_other_functions : Type 0
methods_stand_in_order_also_those_of_other_functions =
    option_map (λ c. map (λ m. m.fun) c.methods) built ≡ Some (id (codes "A") (codes "f") ∷ id (codes "T") (codes "own") ∷ [])

abbrev pub directives_are_kept : Type 0
directives_are_kept = option_map (λ c. c.wanted) built ≡ Some (record { fun = id (codes "T") (codes "own"); types = [] } ∷ [])

-- an own object that only a dependency's object reaches is not kept
abbrev pub reach_goes_through_own_objects_only : Type 0
reach_goes_through_own_objects_only =
    option_map (λ c. map (λ row. row.values) c.objects)
    (content_in (packed_over (built_onto [] (source "M" [] (mutable "Cell" (free "v" ∷ []) ∷ const "cell" (call "Cell" (Nothing ∷ [])) ∷ []) ∷ []))
    (source "T" ("M" ∷ []) (const "theirs" (name_of "M" "cell") ∷ run (set_field (name "theirs") "v" (call_of "M" "Cell" (int 1 ∷ []))) ∷ const "mine" (call_of "M" "Cell" (name "theirs" ∷ [])) ∷ []))
    1000000))
    ≡ Some ((Object (record { owner = codes "M"; number = 0 }) ∷ []) ∷ [])

abbrev pub recorded_dependencies_stand_once : Type 0
recorded_dependencies_stand_once =
    map (λ need. need.name)
    (flat_map (λ image. image.needs)
    (option_to_list (image_of (built_onto [] (source "P" [] [] ∷ source "Q" ("P" ∷ []) [] ∷ source "R" ("P" ∷ []) [] ∷ source "S" ("R" ∷ "Q" ∷ "P" ∷ []) [] ∷ [])) (codes "S"))))
    ≡ codes "P" ∷ codes "R" ∷ codes "Q" ∷ []
