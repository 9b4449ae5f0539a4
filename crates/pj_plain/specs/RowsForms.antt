-- Rows on the forms that run: scripts and packages that are of the form, and others that aren't.
use Rattle.std.specs.Prelude.{◌≡◌, true, false, List, [], ◌∷◌}
use Rattle.pj_meaning.specs.Tree.{TopItem, Value}
use Rattle.pj_meaning.specs.Written.{int, local, name, name_of, call, call_of, op, def, typed, const, using, run, show, source}
use Rattle.pj_plain.specs.Forms.{script_form, package_form}

-- the script runs, or isn't of the form
abbrev Runs : List TopItem → Type 0
Runs items = script_form items ≡ true

abbrev Refuses : List TopItem → Type 0
Refuses items = script_form items ≡ false

-- the same of a package
abbrev Packs : List TopItem → Type 0
Packs items = package_form (source "P" [] items) ≡ true

abbrev Unfit : List TopItem → Type 0
Unfit items = package_form (source "P" [] items) ≡ false

abbrev tenfold : TopItem
tenfold = def "f" (typed "x" "Int64" ∷ []) (op "*" (local "x") (int 10))

abbrev start : TopItem
start = def "__init__" [] (int 1)

-- ---- scripts

abbrev pub nothing_runs : Type 0
nothing_runs = Runs []

abbrev pub what_a_function_gives_is_printed : Type 0
what_a_function_gives_is_printed = Runs (tenfold ∷ show (call "f" (int 4 ∷ [])) ∷ [])

abbrev pub names_of_used_packages_are_printed : Type 0
names_of_used_packages_are_printed = Runs (using ("P" ∷ "Q" ∷ []) ∷ show (name_of "Q" "K") ∷ show (name_of "P" "K") ∷ [])

abbrev pub used_packages_are_called_with_any_number_of_integers : Type 0
used_packages_are_called_with_any_number_of_integers =
    Runs (using ("P" ∷ []) ∷ using ("P" ∷ []) ∷ show (call_of "P" "f" []) ∷ show (call_of "P" "f" (int 1 ∷ int 2 ∷ [])) ∷ [])

abbrev pub a_script_may_define_init : Type 0
a_script_may_define_init = Runs (start ∷ [])

abbrev pub a_name_is_defined_once : Type 0
a_name_is_defined_once = Refuses (tenfold ∷ def "f" [] (int 1) ∷ [])

abbrev pub an_unknown_function_is_not_printed : Type 0
an_unknown_function_is_not_printed = Refuses (show (call "f" (int 4 ∷ [])) ∷ tenfold ∷ [])

abbrev pub a_function_takes_as_many_integers_as_it_has_parameters : Type 0
a_function_takes_as_many_integers_as_it_has_parameters = Refuses (tenfold ∷ show (call "f" (int 4 ∷ int 5 ∷ [])) ∷ [])

abbrev pub a_name_comes_after_its_package : Type 0
a_name_comes_after_its_package = Refuses (show (name_of "P" "x") ∷ using ("P" ∷ []) ∷ [])

abbrev pub a_call_comes_after_its_package : Type 0
a_call_comes_after_its_package = Refuses (using ("Q" ∷ []) ∷ show (call_of "P" "f" (int 1 ∷ [])) ∷ [])

abbrev pub a_packages_function_takes_integers_alone : Type 0
a_packages_function_takes_integers_alone = Refuses (using ("P" ∷ []) ∷ show (call_of "P" "f" (name_of "P" "K" ∷ [])) ∷ [])

abbrev pub a_name_without_a_module_is_not_printed : Type 0
a_name_without_a_module_is_not_printed = Refuses (using ("" ∷ []) ∷ show (name "K") ∷ [])

abbrev pub println_has_no_module : Type 0
println_has_no_module = Refuses (using ("P" ∷ []) ∷ run (Value (call_of "P" "println" (name_of "P" "K" ∷ []))) ∷ [])

abbrev pub println_has_one_argument : Type 0
println_has_one_argument = Refuses (using ("P" ∷ []) ∷ run (Value (call "println" (name_of "P" "K" ∷ name_of "P" "K" ∷ []))) ∷ [])

abbrev pub a_script_has_no_constant : Type 0
a_script_has_no_constant = Refuses (const "K" (int 1) ∷ [])

-- ---- packages

abbrev pub an_empty_package_runs : Type 0
an_empty_package_runs = Packs []

abbrev pub a_constant_is_of_integers : Type 0
a_constant_is_of_integers = Packs (const "K" (op "+" (int 1) (op "*" (int 2) (int 3))) ∷ const "L" (int 4) ∷ [])

abbrev pub a_constant_is_what_a_function_gives : Type 0
a_constant_is_what_a_function_gives = Packs (tenfold ∷ const "K" (call "f" (int 4 ∷ [])) ∷ [])

abbrev pub a_function_comes_before_its_constant : Type 0
a_function_comes_before_its_constant = Unfit (const "K" (call "f" (int 4 ∷ [])) ∷ tenfold ∷ [])

abbrev pub a_constants_call_has_all_arguments : Type 0
a_constants_call_has_all_arguments = Unfit (tenfold ∷ const "K" (call "f" []) ∷ [])

abbrev pub a_constant_is_no_local : Type 0
a_constant_is_no_local = Unfit (const "K" (local "x") ∷ [])

abbrev pub a_constant_is_no_other_constant : Type 0
a_constant_is_no_other_constant = Unfit (const "L" (int 1) ∷ const "K" (name "L") ∷ [])

abbrev pub a_constant_is_not_called : Type 0
a_constant_is_not_called = Unfit (const "L" (int 1) ∷ const "K" (call "L" []) ∷ [])

abbrev pub a_constant_has_a_new_name : Type 0
a_constant_has_a_new_name = Unfit (tenfold ∷ const "f" (int 1) ∷ [])

abbrev pub a_function_has_a_new_name : Type 0
a_function_has_a_new_name = Unfit (const "f" (int 1) ∷ tenfold ∷ [])

abbrev pub a_constant_has_no_name_of_base : Type 0
a_constant_has_no_name_of_base = Unfit (const "max" (int 1) ∷ [])

abbrev pub a_package_does_not_define_init : Type 0
a_package_does_not_define_init = Unfit (start ∷ [])

abbrev pub a_package_has_no_constant_init : Type 0
a_package_has_no_constant_init = Unfit (const "__init__" (int 1) ∷ [])

abbrev pub a_package_prints_nothing : Type 0
a_package_prints_nothing = Unfit (tenfold ∷ show (call "f" (int 4 ∷ [])) ∷ [])

abbrev pub a_package_has_no_line_of_using : Type 0
a_package_has_no_line_of_using = Unfit (using ("Q" ∷ []) ∷ [])

abbrev pub a_package_uses_none : Type 0
a_package_uses_none = package_form (source "P" ("Q" ∷ []) []) ≡ false
