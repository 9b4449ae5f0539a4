-- Rows on what is printed.
use Rattle.std.specs.Prelude.{[], ◌∷◌}
use Rattle.pj_meaning.specs.Tree.{TopItem, Expr, Nothing, False, True, Value}
use Rattle.pj_meaning.specs.Written.{int, negative, str, name, call, set_field, type, typed, free, def_in, struct, mutable, const, run, show, Prints}

abbrev pub plain_values : Type 0
plain_values =
    Prints (show Nothing ∷ show True ∷ show False ∷ show (negative 50) ∷ show (str "a\"$b") ∷ show (name "abs") ∷ run (Value (call "println" [])) ∷ [])
    "nothing\ntrue\nfalse\n-50\na\"$b\nBase.abs\n\n"

abbrev pub several_values_stand_side_by_side : Type 0
several_values_stand_side_by_side =
    Prints (run (Value (call "print" (int 1 ∷ str "," ∷ []))) ∷ run (Value (call "println" (int 2 ∷ True ∷ int 3 ∷ []))) ∷ run (Value (call "println" (int 4 ∷ int 5 ∷ int 6 ∷ int 7 ∷ []))) ∷ [])
    "1,2true3\n4567\n"

abbrev pub five_values_are_too_many : Type 0
five_values_are_too_many =
    Prints (run (Value (call "print" (int 1 ∷ int 1 ∷ int 1 ∷ int 1 ∷ str "" ∷ []))) ∷ []) "ERROR: MethodError: no method matching Base.print(Int64, Int64, Int64, Int64, String)\n"

abbrev box : TopItem
box = struct "B" (type "Any") (free "v" ∷ [])

abbrev boxed : Expr → Expr
boxed e = call "B" (e ∷ [])

abbrev pub a_struct_with_its_fields : Type 0
a_struct_with_its_fields =
    Prints (struct "P" (type "Any") (free "a" ∷ free "b" ∷ []) ∷ show (call "P" (int 1 ∷ str "x" ∷ [])) ∷ show (call "P" (name "print" ∷ Nothing ∷ [])) ∷ [])
    "Main.P(1, \"x\")\nMain.P(Base.print, nothing)\n"

abbrev pub a_text_in_a_struct_is_escaped : Type 0
a_text_in_a_struct_is_escaped = Prints (box ∷ show (boxed (str "a\\b\"c\nd\te$f'g")) ∷ []) "Main.B(\"a\\\\b\\\"c\\nd\\te\\$f'g\")\n"

abbrev pub three_levels_are_shown : Type 0
three_levels_are_shown =
    Prints (box ∷ show (boxed (boxed (boxed (int 1)))) ∷ show (boxed (boxed (boxed (boxed (int 1))))) ∷ []) "Main.B(Main.B(Main.B(1)))\nMain.B(Main.B(Main.B(Main.B(..))))\n"

abbrev pub a_struct_without_fields : Type 0
a_struct_without_fields =
    Prints (box ∷ struct "E" (type "Any") [] ∷ show (boxed (boxed (call "E" []))) ∷ show (boxed (boxed (boxed (call "E" [])))) ∷ []) "Main.B(Main.B(Main.E()))\nMain.B(Main.B(Main.B(Main.E(..))))\n"

abbrev pub an_object_that_holds_itself : Type 0
an_object_that_holds_itself =
    Prints (mutable "R" (typed "n" "Int64" ∷ free "next" ∷ []) ∷ const "r" (call "R" (int 1 ∷ Nothing ∷ [])) ∷ run (set_field (name "r") "next" (name "r")) ∷ show (name "r") ∷ [])
    "Main.R(1, Main.R(1, Main.R(1, Main.R(..))))\n"

abbrev pub printing_gives_nothing : Type 0
printing_gives_nothing = Prints (show (call "println" (int 1 ∷ [])) ∷ show (call "print" (int 2 ∷ int 3 ∷ [])) ∷ []) "1\nnothing\n23nothing\n"

abbrev pub printing_gives_nothing_over_other_methods : Type 0
printing_gives_nothing_over_other_methods =
    Prints (def_in "Base" "print" (typed "x" "Int64" ∷ []) (int 5) ∷ show (call "print" (int 3 ∷ int 4 ∷ [])) ∷ show (call "print" (int 3 ∷ [])) ∷ []) "nothing\n\n"

abbrev pub println_prints_by_print : Type 0
println_prints_by_print =
    Prints (box ∷ def_in "Base" "print" (typed "x" "B" ∷ []) (call "print" (str "box" ∷ [])) ∷ show (boxed (int 1)) ∷ show (boxed (boxed (int 1))) ∷ []) "box\nbox\n"
