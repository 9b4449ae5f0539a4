-- Worked rows over an image: package P with `f(x::Int64) = x + 1` and `const K = 5`.
use Rattle.std.specs.Prelude.{◌≡◌, ℕ, ℤ, pos, List, [], ◌∷◌, codes}
use Rattle.pj_meaning.specs.Tree.{Text, Expr, Exprs, Int, Local, Call, Global, none, also}
use Rattle.pj_meaning.specs.Names.{id, main_name, base_name, int_type}
use Rattle.pj_meaning.specs.Values.{Value, Whole, Function}
use Rattle.pj_meaning.specs.State.{Constant}
use Rattle.pj_meaning.specs.Outcome.{NoMethod, OfFunction, NotCallable, Undefined, ModuleNotLoaded, after, charged, choose}
use Rattle.pj_meaning.specs.Calls.{call_named, call_function}
use Rattle.pj_meaning.specs.Evaluation.{enter_at}
use Rattle.pj_meaning.specs.Packages.{Held}
use Rattle.pj_meaning.specs.Top.{top}
use Rattle.pj_words.specs.Words.{base_names, is_among}
use Rattle.pj_session.specs.Numbers.{charge, with_number}
use Rattle.pj_session.specs.States.{run}
use Rattle.pj_session.specs.Events.{Parts, body_of, ints, Event, Defines, Binds, Loads, state_of}
use Rattle.pj_session.specs.Good.{Good}
use Rattle.pj_session.specs.Items.{Got, Has, Fails, Short, asked, printed_of, line_ends, println_item, valued}

-- integers as arguments
abbrev literals : List ℤ → Exprs
literals [] = none
literals (z ∷ zs) = also (Int z) (literals zs)

abbrev pub package_p : Text
package_p = codes "P"

abbrev pub parameter_x : Text
parameter_x = codes "x"

abbrev pub one_more : Parts
one_more = (parameter_x ∷ [], Call base_name (codes "+") (also (Local parameter_x) (also (Int (pos 1)) none)))

abbrev pub image_of_p : Held
image_of_p = record {
  content = record {
    name = package_p;
    types = [];
    functions = codes "f" ∷ [];
    methods = record { fun = id package_p (codes "f"); signature = ints 1; code = body_of one_more } ∷ [];
    bindings = record { home = package_p; name = codes "K"; role = Constant (Whole (pos 5)) } ∷ [];
    objects = [];
    wanted = [];
  };
  identity = [];
}

-- a script's own function and constant, and the image
abbrev pub events : List Event
events = Defines (codes "g") one_more.0 one_more.1 ∷ Loads image_of_p ∷ Binds (codes "c") (pos 7) ∷ []

abbrev pub these_events_are_good : Type 0
these_events_are_good = Good main_name events

-- all that a row computes with
unfoldable pub computing : Type 0
unfolding charge with_number after call_named call_function enter_at charged choose base_names is_among
computing = Unit

-- what a printed line takes and gives, both as it is told here and by direct evaluation
abbrev pub Line : Expr → ℕ → Got Value → Type 0
Line e left got =
    (printed_of (asked main_name events e left) ≡ got) × (top (println_item e) (run (state_of main_name events []) left) ≡ line_ends (state_of main_name events []) got)

abbrev pub call : Text → Text → List ℤ → Expr
call m f zs = Call m f (literals zs)

abbrev pub a_constant_of_a_package : Type 0
a_constant_of_a_package = Line (Global package_p (codes "K")) 2 (Has (Whole (pos 5)) 0)

abbrev pub one_charge_prints_nothing : Type 0
one_charge_prints_nothing = Line (Global package_p (codes "K")) 1 Short

abbrev pub a_call_of_a_package : Type 0
a_call_of_a_package = Line (call package_p (codes "f") (pos 1 ∷ [])) 4 (Has (Whole (pos 2)) 0)

abbrev pub three_charges_print_nothing : Type 0
three_charges_print_nothing = Line (call package_p (codes "f") (pos 1 ∷ [])) 3 Short

abbrev pub an_own_call : Type 0
an_own_call = Line (call [] (codes "g") (pos 1 ∷ [])) 5 (Has (Whole (pos 2)) 1)

abbrev pub an_own_constant : Type 0
an_own_constant = Line (Global [] (codes "c")) 2 (Has (Whole (pos 7)) 0)

abbrev pub a_function_is_a_value : Type 0
a_function_is_a_value = Line (Global package_p (codes "f")) 2 (Has (Function (id package_p (codes "f"))) 0)

abbrev pub a_name_that_a_package_lacks : Type 0
a_name_that_a_package_lacks = Line (Global package_p (codes "z")) 2 (Fails (Undefined package_p (codes "z")) 2)

abbrev pub a_called_constant : Type 0
a_called_constant = Line (call package_p (codes "K") (pos 1 ∷ [])) 2 (Fails (NotCallable int_type) 2)

abbrev pub too_many_arguments : Type 0
too_many_arguments = Line (call package_p (codes "f") (pos 1 ∷ pos 2 ∷ [])) 2 (Fails (NoMethod (OfFunction (id package_p (codes "f"))) (ints 2)) 2)

abbrev pub a_package_that_is_not_loaded : Type 0
a_package_that_is_not_loaded = Line (Global (codes "Q") parameter_x) 2 (Fails (ModuleNotLoaded (codes "Q")) 2)

-- a constant's value takes the charges of its call alone
abbrev pub a_constant_from_a_call : Type 0
a_constant_from_a_call = valued main_name events (call [] (codes "g") (pos 4 ∷ [])) 2 ≡ Has (pos 5) 0

abbrev pub a_constant_from_an_expression : Type 0
a_constant_from_an_expression = valued main_name events (Call base_name (codes "*") (literals (pos 3 ∷ pos 4 ∷ []))) 1 ≡ Has (pos 12) 0
