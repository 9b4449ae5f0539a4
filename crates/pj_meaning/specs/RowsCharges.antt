-- Rows on charges and on the depth of open calls.
use Rattle.std.specs.Prelude.{List, [], ◌∷◌}
use Rattle.pj_meaning.specs.Tree.{TopItem, Declare, Cond, Value, Return, Eval, Evaluate}
use lib.Chars.{codes}
use Rattle.pj_meaning.specs.Written.{int, str, local, name, call, call_of, latest, op, println, type, typed, free, def, function, struct, mutable, const, using, run, show, source, Puts, Gives_at}

abbrev told : List TopItem
told = function "k" (typed "x" "Int64" ∷ []) [] (println (local "x") ∷ Return (op "+" (local "x") (int 1)) ∷ []) ∷ run (Value (call "k" (int 7 ∷ []))) ∷ []

abbrev pub four_calls_take_four_steps : Type 0
four_calls_take_four_steps = Puts [] 4 told "7\n"

abbrev pub what_was_printed_stays : Type 0
what_was_printed_stays = Puts [] 3 told "7\nsteps\n"

abbrev pub the_same_in_a_package : Type 0
the_same_in_a_package =
    Puts (source "K" [] (function "k" (typed "x" "Int64" ∷ []) [] (println (local "x") ∷ Return (op "+" (local "x") (int 1)) ∷ []) ∷ []) ∷ []) 3 (using ("K" ∷ []) ∷ run (Value (call_of "K" "k" (int 7 ∷ []))) ∷ []) "7\nsteps\n"

abbrev pub a_const_takes_no_step : Type 0
a_const_takes_no_step = Puts [] 0 (const "q" (str "a\tb") ∷ []) ""

abbrev pub a_constructor_takes_no_step : Type 0
a_constructor_takes_no_step =
    Puts [] 2 (struct "P" (type "Any") (free "v" ∷ []) ∷ mutable "Q" (free "v" ∷ []) ∷ show (call "P" (call "Q" (int 1 ∷ []) ∷ [])) ∷ []) "Main.P(Main.Q(1))\n"

abbrev pub invokelatest_takes_only_the_calls_step : Type 0
invokelatest_takes_only_the_calls_step = Puts [] 3 (def "f" [] (int 1) ∷ show (latest (name "f") []) ∷ []) "1\n"

abbrev pub a_failed_pick_takes_no_step : Type 0
a_failed_pick_takes_no_step = Puts [] 0 (Declare (codes "f") ∷ show (call "f" []) ∷ []) "ERROR: MethodError: no method matching Main.f()\n"

abbrev pub steps_are_one_budget_for_all : Type 0
steps_are_one_budget_for_all = Puts [] 3 (show (int 1) ∷ show (int 2) ∷ []) "1\nsteps\n"

-- d(n) calls itself n times, and `==` at the end
abbrev deep : List TopItem
deep = def "d" (typed "n" "Int64" ∷ []) (Cond (op "==" (local "n") (int 0)) (int 0) (call "d" (op "-" (local "n") (int 1) ∷ []))) ∷ []

abbrev pub the_last_open_call : Type 0
the_last_open_call = Gives_at 19990 1000000 deep (call "d" (int 8 ∷ [])) "0"

abbrev pub one_open_call_too_many : Type 0
one_open_call_too_many = Gives_at 19990 1000000 deep (call "d" (int 9 ∷ [])) "ERROR: StackOverflowError\n"

abbrev pub the_step_comes_before_the_depth : Type 0
the_step_comes_before_the_depth = Gives_at 20000 0 deep (call "d" (int 0 ∷ [])) "steps\n"

abbrev pub a_constructor_opens_no_call : Type 0
a_constructor_opens_no_call = Gives_at 20000 0 (struct "P" (type "Any") [] ∷ []) (call "P" []) "Main.P()"

abbrev pub evaluation_keeps_the_depth : Type 0
evaluation_keeps_the_depth =
    Gives_at 19999 1000000 (function "t" [] [] (Eval [] (Evaluate (op "+" (int 1) (int 1))) ∷ []) ∷ []) (call "t" []) "ERROR: StackOverflowError\n"
