-- Rows on the items that a session evaluates by themselves.
use Rattle.std.specs.Prelude.{◌≡◌, true, false, Some, None, [], ◌∷◌, codes}
use Rattle.pj_meaning.specs.Tree.{TopItem}
use Rattle.pj_meaning.specs.Written.{int, local, name_of, call, call_of, def, const, using, show}
use Rattle.pj_plain.specs.Forms.{Known}
use Rattle.pj_session.specs.SessionItems.{session_item}

-- a function with one parameter, and a constant
abbrev known : Known
known = (codes "f", Some 1) ∷ (codes "c", None) ∷ []

-- the session evaluates the item, or leaves it to others
abbrev Evaluates : TopItem → Type 0
Evaluates item = session_item known item ≡ true

abbrev Leaves : TopItem → Type 0
Leaves item = session_item known item ≡ false

abbrev pub an_own_function_is_called : Type 0
an_own_function_is_called = Evaluates (show (call "f" (int 4 ∷ [])))

abbrev pub it_is_called_with_its_number_of_integers : Type 0
it_is_called_with_its_number_of_integers = Leaves (show (call "f" []))

abbrev pub a_constant_is_not_called : Type 0
a_constant_is_not_called = Leaves (show (call "c" []))

abbrev pub what_a_package_has_is_printed : Type 0
what_a_package_has_is_printed = Evaluates (show (name_of "P" "K"))

abbrev pub a_packages_function_is_called_with_any_integers : Type 0
a_packages_function_is_called_with_any_integers = Evaluates (show (call_of "P" "f" (int 1 ∷ int 2 ∷ [])))

abbrev pub and_with_nothing_else : Type 0
and_with_nothing_else = Leaves (show (call_of "P" "f" (local "x" ∷ [])))

abbrev pub base_is_no_package : Type 0
base_is_no_package = Leaves (show (name_of "Base" "x"))

abbrev pub a_new_name_is_defined : Type 0
a_new_name_is_defined = Evaluates (def "g" [] (int 1))

abbrev pub a_known_name_is_not_defined_again : Type 0
a_known_name_is_not_defined_again = Leaves (def "f" [] (int 1))

abbrev pub a_constant_may_be_a_call : Type 0
a_constant_may_be_a_call = Evaluates (const "d" (call "f" (int 1 ∷ [])))

abbrev pub a_line_of_using_is_none : Type 0
a_line_of_using_is_none = Leaves (using ("P" ∷ []))
