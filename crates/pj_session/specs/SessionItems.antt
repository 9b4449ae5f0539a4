-- Items that a session evaluates by themselves: all of today's forms but lines of `using`.
use Rattle.std.specs.Prelude.{◌≡◌, ◌⊎◌, Bool, true, false, not, ◌&&◌, ◌||◌, List}
use Rattle.std.specs.List.{list_all}
use Rattle.std.specs.Option.{option_map_or}
use Rattle.std.specs.Str.{bytes_eq}
use Rattle.pj_meaning.specs.Tree.{Text, Expr, Global, Call, TopItem, Using, Run}
use Rattle.pj_meaning.specs.Names.{base_name, main_name}
use Rattle.pj_plain.specs.Forms.{Known, own_call, package_item, printed, script_item}
use Rattle.pj_plain.specs.Plain.{is_empty, literals_only}
use Rattle.pj_session.specs.Events.{Event}
use Rattle.pj_session.specs.Good.{Good}
use Rattle.pj_session.specs.OwnItems.{known_in, own_item}
use Rattle.pj_session.specs.Uses.{counts_loaded}

-- a module is written, and isn't Base
abbrev pub is_far_home : Text → Bool
is_far_home m = not (is_empty m) && not (bytes_eq m base_name)

-- a name of such a module, or a call of one with integers
abbrev pub is_far : Expr → Bool
is_far (Global m x) = is_far_home m
is_far (Call m f es) = is_far_home m && literals_only es
is_far e = false

-- a plain definition, a constant, or a line that prints a call of an own function or what another module has
abbrev pub session_item : Known → TopItem → Bool
session_item known (Run s) = option_map_or (λ e. own_call known e || is_far e) (printed s) false
session_item known item = own_item known item

-- each of these packages is loaded
abbrev pub all_loaded : Text → List Event → List Text → Bool
all_loaded here events names = list_all (counts_loaded here events) names

abbrev pub is_using : TopItem → Bool
is_using (Using names) = true
is_using item = false

-- an item of a script's form, where the packages that were used are loaded
abbrev pub a_script_item_is_evaluated : Type 0
a_script_item_is_evaluated =
    (events : List Event) → Good main_name events → (used : List Text) → all_loaded main_name events used ≡ true
    → (item : TopItem) → script_item (known_in events) used item ≡ true → (is_using item ≡ true) ⊎ (session_item (known_in events) item ≡ true)

-- an item of a package's form
abbrev pub a_package_item_is_evaluated : Type 0
a_package_item_is_evaluated = (known : Known) (item : TopItem) → package_item known item ≡ true → session_item known item ≡ true
