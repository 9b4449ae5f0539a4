-- Rows on scripts over packages: external methods, frozen constants, loading order, shared objects, `__init__`.
use Rattle.std.specs.Prelude.{List, [], ◌∷◌}
use Rattle.pj_meaning.specs.Tree.{TopItem, Nothing, Same, Value, Return}
use Prim.Native.String.{String}
use Rattle.pj_meaning.specs.Packages.{Source}
use Rattle.pj_meaning.specs.Written.{int, negative, str, local, name, name_of, field, call, call_of, op, set, set_global, set_field, for, type, type_in, typed, typed_in, free, def, def_in, function, abstract, struct, mutable, const, using, run, show, directive, directive_of, source, Puts, Builds}

abbrev a : Source
a =
    source "A" [] (def "f" (typed "x" "Integer" ∷ []) (op "+" (local "x") (int 1)) ∷ def "g" (typed "x" "Integer" ∷ []) (op "*" (call "f" (local "x" ∷ [])) (int 10)) ∷ const "K" (call "f" (int 4 ∷ [])) ∷ directive "g" (type "Int64" ∷ []) ∷ [])

abbrev b : Source
b = source "B" ("A" ∷ []) (def "h" (typed "x" "Int64" ∷ []) (op "+" (call_of "A" "g" (local "x" ∷ [])) (int 2)) ∷ directive "h" (type "Int64" ∷ []) ∷ [])

abbrev c : Source
c = source "C" ("A" ∷ []) (def_in "A" "f" (typed "x" "Int64" ∷ []) (op "+" (local "x") (int 100)) ∷ [])

abbrev c2 : Source
c2 = source "C2" ("A" ∷ []) (def_in "A" "f" (free "x" ∷ []) (int 0) ∷ [])

abbrev show_h : TopItem
show_h = show (call_of "B" "h" (int 3 ∷ []))

abbrev pub a_call_through_two_packages : Type 0
a_call_through_two_packages = Puts (a ∷ b ∷ []) 1000000 (using ("B" ∷ []) ∷ show_h ∷ []) "42\n"

-- h, g, f and its sum, the product, the sum, println and print
abbrev pub a_call_through_two_packages_takes_eight_steps : Type 0
a_call_through_two_packages_takes_eight_steps = Puts (a ∷ b ∷ []) 8 (using ("B" ∷ []) ∷ show_h ∷ []) "42\n"

abbrev pub seven_steps_print_nothing : Type 0
seven_steps_print_nothing = Puts (a ∷ b ∷ []) 7 (using ("B" ∷ []) ∷ show_h ∷ []) "steps\n"

abbrev pub an_external_method_is_used_and_constants_stay : Type 0
an_external_method_is_used_and_constants_stay =
    Puts (a ∷ b ∷ c ∷ []) 1000000 (using ("A" ∷ "B" ∷ []) ∷ using ("C" ∷ []) ∷ show_h ∷ show (name_of "A" "K") ∷ []) "1032\n5\n"

abbrev pub a_wider_external_method_is_not_picked : Type 0
a_wider_external_method_is_not_picked = Puts (a ∷ b ∷ c2 ∷ []) 1000000 (using ("B" ∷ "C2" ∷ []) ∷ show_h ∷ []) "42\n"

-- two packages that add a method of equal signature
abbrev seven_and_eight : List Source
seven_and_eight =
    a ∷ source "D" ("A" ∷ []) (def_in "A" "g" (typed "x" "Int64" ∷ []) (int 7) ∷ []) ∷ source "E" ("A" ∷ []) (def_in "A" "g" (typed "x" "Int64" ∷ []) (int 8) ∷ []) ∷ []

abbrev pub the_package_loaded_last_wins : Type 0
the_package_loaded_last_wins = Puts seven_and_eight 1000000 (using ("A" ∷ "D" ∷ "E" ∷ []) ∷ show (call_of "A" "g" (int 1 ∷ [])) ∷ []) "8\n"

abbrev pub the_other_order_of_loading : Type 0
the_other_order_of_loading = Puts seven_and_eight 1000000 (using ("A" ∷ "E" ∷ "D" ∷ []) ∷ show (call_of "A" "g" (int 1 ∷ [])) ∷ []) "7\n"

abbrev pub a_constant_is_as_its_build_left_it : Type 0
a_constant_is_as_its_build_left_it =
    Puts (a ∷ c ∷ source "F" ("A" ∷ []) (const "K" (call_of "A" "f" (int 4 ∷ [])) ∷ []) ∷ []) 1000000 (using ("C" ∷ "F" ∷ []) ∷ show (name_of "F" "K") ∷ show (call_of "A" "f" (int 4 ∷ [])) ∷ []) "5\n104\n"

abbrev pub using_twice_loads_once : Type 0
using_twice_loads_once =
    Puts (source "I" [] (def "__init__" [] (call "println" (str "init" ∷ [])) ∷ []) ∷ []) 1000000 (using ("I" ∷ "I" ∷ []) ∷ using ("I" ∷ []) ∷ []) "init\n"

abbrev pub a_dependency_of_a_dependency_is_loaded : Type 0
a_dependency_of_a_dependency_is_loaded =
    Puts (a ∷ b ∷ source "X" ("B" ∷ []) (def "k" [] (call_of "B" "h" (int 3 ∷ [])) ∷ []) ∷ []) 1000000 (using ("X" ∷ []) ∷ show (call_of "X" "k" []) ∷ show (name_of "A" "K") ∷ []) "42\n5\n"

abbrev pub methods_loaded_before_are_used_too : Type 0
methods_loaded_before_are_used_too = Puts (a ∷ b ∷ c ∷ []) 1000000 (using ("C" ∷ []) ∷ using ("B" ∷ []) ∷ show_h ∷ []) "1032\n"

abbrev pub arithmetic_in_a_package : Type 0
arithmetic_in_a_package =
    Puts
    (source "W" []
    (def "p" (typed "a" "Int64" ∷ []) (op "+" (local "a") (int 1)) ∷ def "q" (typed "a" "Int64" ∷ typed "b" "Int64" ∷ []) (op "div" (local "a") (local "b")) ∷ directive "p" (type "Int64" ∷ []) ∷ directive "q" (type "Int64" ∷ type "Int64" ∷ []) ∷ [])
    ∷ [])
    1000000
    (using ("W" ∷ []) ∷ show (call_of "W" "p" (int 9223372036854775807 ∷ [])) ∷ show (op "rem" (negative 7) (int 2)) ∷ show (op "rem" (negative 9223372036854775808) (negative 1)) ∷ show (call_of "W" "q" (negative 9223372036854775808 ∷ negative 1 ∷ [])) ∷ [])
    "-9223372036854775808\n-1\n0\nERROR: DivideError: integer division error\n"

-- two packages of which the second adds a method to the first, used one after the other
abbrev two_generated : List Source
two_generated =
    source "G1" []
    (def "f" (typed "x" "Integer" ∷ []) (op "+" (op "*" (local "x") (int 6)) (int 49)) ∷ def "g" (typed "x" "Integer" ∷ []) (call "f" (local "x" ∷ [])) ∷ directive "g" (type "Int64" ∷ []) ∷ [])
    ∷ source "G2" ("G1" ∷ [])
    (def "f" (typed "x" "Integer" ∷ []) (op "+" (op "*" (local "x") (int 3)) (int 44)) ∷ def "g" (typed "x" "Integer" ∷ []) (op "+" (call_of "G1" "g" (local "x" ∷ [])) (call "f" (local "x" ∷ []))) ∷ def_in "G1" "f" (typed "x" "Int64" ∷ []) (op "-" (local "x") (int 44)) ∷ directive "g" (type "Int64" ∷ []) ∷ [])
    ∷ []

abbrev uses_generated : List TopItem
uses_generated =
    using ("G1" ∷ []) ∷ show (call_of "G1" "g" (int 1 ∷ [])) ∷ using ("G2" ∷ []) ∷ show (call_of "G2" "g" (int 2 ∷ [])) ∷ []

abbrev pub two_packages_one_after_the_other : Type 0
two_packages_one_after_the_other = Puts two_generated 16 uses_generated "55\n8\n"

abbrev pub two_packages_lacking_a_step : Type 0
two_packages_lacking_a_step = Puts two_generated 15 uses_generated "55\nsteps\n"

-- objects

abbrev m : Source
m =
    source "M" [] (mutable "Cell" (typed "v" "Int64" ∷ []) ∷ const "cell" (call "Cell" (int 1 ∷ [])) ∷ function "put" (typed "n" "Int64" ∷ []) [] (set_field (name "cell") "v" (local "n") ∷ Return (local "n") ∷ []) ∷ [])

abbrev n : Source
n = source "N" ("M" ∷ []) (const "mine" (name_of "M" "cell") ∷ run (Value (call_of "M" "put" (int 5 ∷ []))) ∷ def "look" [] (field (name "mine") "v") ∷ [])

abbrev pub an_object_is_shared_and_a_builds_writes_are_lost : Type 0
an_object_is_shared_and_a_builds_writes_are_lost =
    Puts (m ∷ n ∷ []) 1000000
    (using ("M" ∷ "N" ∷ []) ∷ show (field (name_of "M" "cell") "v") ∷ show (call_of "N" "look" []) ∷ run (Value (call_of "M" "put" (int 9 ∷ []))) ∷ show (call_of "N" "look" []) ∷ show (Same (name_of "N" "mine") (name_of "M" "cell")) ∷ [])
    "1\n1\n9\ntrue\n"

abbrev pub a_builds_global_of_a_dependency_is_lost : Type 0
a_builds_global_of_a_dependency_is_lost =
    Puts (source "G" [] (run (set_global "x" (int 1)) ∷ function "up" [] [] (set_global "x" (op "+" (name "x") (int 1)) ∷ []) ∷ []) ∷ source "H" ("G" ∷ []) (run (Value (call_of "G" "up" [])) ∷ const "y" (name_of "G" "x") ∷ []) ∷ []) 1000000
    (using ("H" ∷ []) ∷ show (name_of "H" "y") ∷ show (name_of "G" "x") ∷ run (Value (call_of "G" "up" [])) ∷ show (name_of "G" "x") ∷ [])
    "2\n1\n2\n"

-- `__init__`

abbrev saying : String → String → List String → Source
saying p text uses = source p uses (def "__init__" [] (call "println" (str text ∷ [])) ∷ [])

abbrev pub dependencies_are_started_in_recorded_order : Type 0
dependencies_are_started_in_recorded_order =
    Puts (saying "P" "p" [] ∷ saying "Q" "q" [] ∷ saying "R" "r" ("Q" ∷ "P" ∷ []) ∷ saying "S" "s" ("P" ∷ "R" ∷ []) ∷ []) 1000000 (using ("S" ∷ []) ∷ []) "p\nq\nr\ns\n"

abbrev pub building_does_not_start_dependencies : Type 0
building_does_not_start_dependencies = Builds (saying "P" "p" [] ∷ []) (source "Q" ("P" ∷ []) []) ""

abbrev pub a_start_takes_a_step : Type 0
a_start_takes_a_step = Puts (source "P" [] (def "__init__" [] Nothing ∷ []) ∷ []) 0 (using ("P" ∷ []) ∷ show (int 1) ∷ []) "steps\n"

abbrev pub an_error_of_a_start_ends_the_script : Type 0
an_error_of_a_start_ends_the_script =
    Puts (source "P" [] (def "__init__" [] (call "error" (str "no" ∷ [])) ∷ []) ∷ saying "Q" "q" ("P" ∷ []) ∷ []) 1000000 (using ("Q" ∷ []) ∷ []) "ERROR: no\n"

abbrev pub only_a_method_without_parameters_is_started : Type 0
only_a_method_without_parameters_is_started =
    Puts (source "P" [] (def "__init__" (free "x" ∷ []) (call "println" (str "p" ∷ [])) ∷ []) ∷ []) 1000000 (using ("P" ∷ []) ∷ show (int 1) ∷ []) "1\n"

abbrev pub a_start_sees_the_newest_methods : Type 0
a_start_sees_the_newest_methods =
    Puts (a ∷ c ∷ source "P" ("A" ∷ []) (def "__init__" [] (call "println" (call_of "A" "f" (int 4 ∷ []) ∷ [])) ∷ []) ∷ []) 1000000 (using ("C" ∷ "P" ∷ []) ∷ []) "104\n"

-- six packages

abbrev six : List Source
six =
    source "Geo" []
    (abstract "Shape" (type "Any")
    ∷ struct "Circle" (type "Shape") (typed "r" "Int64" ∷ [])
    ∷ struct "Rect" (type "Shape") (typed "w" "Int64" ∷ typed "h" "Int64" ∷ [])
    ∷ def "area" (typed "c" "Circle" ∷ []) (op "*" (op "*" (int 3) (field (local "c") "r")) (field (local "c") "r"))
    ∷ def "area" (typed "r" "Rect" ∷ []) (op "*" (field (local "r") "w") (field (local "r") "h"))
    ∷ def "double" (typed "s" "Shape" ∷ []) (op "*" (call "area" (local "s" ∷ [])) (int 2))
    ∷ directive "double" (type "Circle" ∷ [])
    ∷ directive "double" (type "Rect" ∷ [])
    ∷ [])
    ∷ source "Vec" []
    (struct "V2" (type "Any") (typed "x" "Int64" ∷ typed "y" "Int64" ∷ [])
    ∷ def_in "Base" "+" (typed "a" "V2" ∷ typed "b" "V2" ∷ []) (call "V2" (op "+" (field (local "a") "x") (field (local "b") "x") ∷ op "+" (field (local "a") "y") (field (local "b") "y") ∷ []))
    ∷ def "twice" (typed "a" "V2" ∷ []) (op "+" (local "a") (local "a"))
    ∷ directive "twice" (type "V2" ∷ [])
    ∷ [])
    ∷ source "Reg" []
    (mutable "Table" (typed "count" "Int64" ∷ free "last" ∷ [])
    ∷ const "table" (call "Table" (int 0 ∷ Nothing ∷ []))
    ∷ function "add" (free "s" ∷ []) []
    (set_field (name "table") "count" (op "+" (field (name "table") "count") (int 1)) ∷ set_field (name "table") "last" (local "s") ∷ Return (field (name "table") "count") ∷ [])
    ∷ directive "add" (type "Int64" ∷ [])
    ∷ [])
    ∷ source "Sq" ("Geo" ∷ "Reg" ∷ [])
    (struct "Square" (type_in "Geo" "Shape") (typed "s" "Int64" ∷ [])
    ∷ def_in "Geo" "area" (typed "q" "Square" ∷ []) (op "*" (field (local "q") "s") (field (local "q") "s"))
    ∷ def "__init__" [] (call_of "Reg" "add" (call "Square" (int 4 ∷ []) ∷ []))
    ∷ directive_of "Geo" "double" (type "Square" ∷ [])
    ∷ [])
    ∷ source "App" ("Geo" ∷ "Vec" ∷ "Reg" ∷ "Sq" ∷ [])
    (def "unit" (typed_in "c" "Geo" "Circle" ∷ []) (call_of "Geo" "double" (local "c" ∷ []))
    ∷ function "total" (typed "n" "Int64" ∷ []) ("s" ∷ [])
    (set "s" (int 0) ∷ for "i" (int 1) (local "n") [] (set "s" (op "+" (local "s") (call "unit" (call_of "Geo" "Circle" (local "i" ∷ []) ∷ []))) ∷ []) ∷ Return (local "s") ∷ [])
    ∷ def "label" (typed_in "s" "Geo" "Shape" ∷ []) (op "+" (call_of "Geo" "double" (local "s" ∷ [])) (field (name_of "Reg" "table") "count"))
    ∷ directive "unit" (type_in "Geo" "Circle" ∷ [])
    ∷ directive "label" (type_in "Sq" "Square" ∷ [])
    ∷ [])
    ∷ source "Fast" ("Geo" ∷ []) (def_in "Geo" "double" (typed_in "c" "Geo" "Circle" ∷ []) (int 1) ∷ [])
    ∷ []

abbrev pub six_packages : Type 0
six_packages =
    Puts six 1000000
    (using ("App" ∷ "Geo" ∷ "Vec" ∷ "Reg" ∷ "Sq" ∷ [])
    ∷ show (call_of "App" "total" (int 3 ∷ []))
    ∷ show (call_of "Vec" "twice" (call_of "Vec" "V2" (int 1 ∷ int 2 ∷ []) ∷ []))
    ∷ show (name_of "Reg" "table")
    ∷ show (call_of "App" "label" (call_of "Sq" "Square" (int 5 ∷ []) ∷ []))
    ∷ using ("Fast" ∷ [])
    ∷ show (call_of "App" "total" (int 3 ∷ []))
    ∷ [])
    "84\nVec.V2(2, 4)\nReg.Table(1, Sq.Square(4))\n51\n3\n"
