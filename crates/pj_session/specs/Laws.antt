-- What holds of a session's state and of what items do in it.
use Rattle.std.specs.Prelude.{◌≡◌, ℕ, ℤ, ◌≤◌, true, false, nat_le, List, [], ◌∷◌, ◌++◌, Some, None, Ok, map, length}
use Rattle.std.specs.Str.{bytes_eq}
use Rattle.pj_meaning.specs.Tree.{Text, Expr, Const}
use Rattle.pj_meaning.specs.Names.{id, base_name}
use Rattle.pj_meaning.specs.Values.{Whole, Function}
use Rattle.pj_meaning.specs.Methods.{pick}
use Rattle.pj_meaning.specs.Base.{base_bindings}
use Rattle.pj_meaning.specs.Lookup.{role_at}
use Rattle.pj_meaning.specs.State.{State, Role, role_of, is_loaded, with_printed}
use Rattle.pj_meaning.specs.Outcome.{Gives}
use Rattle.pj_meaning.specs.Content.{content_of}
use Rattle.pj_meaning.specs.Evaluation.{parameters, expr, enter_at, most_open}
use Rattle.pj_meaning.specs.Script.{Refusal, Refused, Ending, ended}
use Rattle.pj_meaning.specs.Top.{top}
use Rattle.pj_meaning.specs.Using.{Image, Files, Holds, image_file, at_end, ends, start_image, use_from}
use Rattle.pj_plain.specs.Plain.{plain_expr}
use Rattle.pj_words.specs.Words.{is_base_name}
use Rattle.pj_session.specs.Numbers.{number_in}
use Rattle.pj_session.specs.States.{BaseLike, run}
use Rattle.pj_session.specs.Events.{Parts, ints, Event, Defines, Loads, with_event, state_of}
use Rattle.pj_session.specs.Things.{own_in, thing_in, has_package, method_for, RoleAs, PickAs}
use Rattle.pj_session.specs.Good.{Good, GoodEvent, New, Plainly}
use Rattle.pj_session.specs.Items.{got_number, got_value, got_ends, is_asked, asked, printed_of, line_ends, println_item, define_item, is_valued, valued, const_ends, started, init_name}
use Rattle.pj_session.specs.Built.{content_in}
use Rattle.pj_session.specs.Uses.{image_count, counts_loaded, no_room, refused_for, read_fault, held_by}

-- what holds after all good events and any output
abbrev pub AfterEvents : (Text → List Event → State → Type 0) → Type 0
AfterEvents Claim = (here : Text) (events : List Event) (printed : Text) → Good here events → Claim here events (state_of here events printed)

-- an expression over parameters, in a frame of the newest world in which one more call may be open
abbrev pub an_expression_gives_its_number : Type 0
an_expression_gives_its_number =
    (s : State) → BaseLike s → (home : Text) (depth : ℕ) → nat_le most_open depth ≡ false
    → (ps : List Text) (zs : List ℤ) → length zs ≡ length ps → (e : Expr) → plain_expr ps e ≡ true → (n left : ℕ) → left ≤ n
    → expr (enter_at n) (record { home = home; world = s.newest; depth = depth }) (parameters ps (map Whole zs)) e (run s left)
    ≡ got_ends s (got_value (got_number (number_in ps zs e left)))

-- the budget never grows
abbrev pub charges_are_only_taken : Type 0
charges_are_only_taken =
    (ps : List Text) (zs : List ℤ) (e : Expr) (left : ℕ) (z : ℤ) (l : ℕ) → number_in ps zs e left ≡ Some (z, l) → l ≤ left

-- the state

abbrev pub an_event_comes_last : Type 0
an_event_comes_last =
    (here : Text) (events : List Event) (e : Event) (printed : Text) → with_event (state_of here events printed) e ≡ state_of here (events ++ e ∷ []) printed

abbrev pub events_stay_good : Type 0
events_stay_good = (here : Text) (events : List Event) (e : Event) → Good here events → GoodEvent here e → New e events → Good here (events ++ e ∷ [])

abbrev pub output_stands_beside_events : Type 0
output_stands_beside_events = AfterEvents (λ here events s. (text : Text) → with_printed s text ≡ state_of here events (s.printed ++ text))

abbrev pub base_stays_as_it_is : Type 0
base_stays_as_it_is = AfterEvents (λ here events s. BaseLike s)

abbrev pub a_name_is_what_the_events_say : Type 0
a_name_is_what_the_events_say =
    AfterEvents (λ here events s. (home name : Text) → bytes_eq base_name home ≡ false → RoleAs home name (thing_in here events home name) (role_of s.bindings home name))

abbrev pub no_module_binds_a_name_of_base : Type 0
no_module_binds_a_name_of_base =
    AfterEvents (λ here events s. (name : Text) → is_base_name name ≡ true → role_of s.bindings here name ≡ None)

abbrev pub an_unqualified_name_of_base_is_bases : Type 0
an_unqualified_name_of_base_is_bases =
    AfterEvents (λ here events s. (name : Text) (role : Role) → is_base_name name ≡ true → role_of base_bindings base_name name ≡ Some role → role_at s here [] name ≡ Ok role)

abbrev pub a_call_picks_the_only_method : Type 0
a_call_picks_the_only_method =
    AfterEvents (λ here events s. (home name : Text) (n : ℕ) → bytes_eq base_name home ≡ false
    → PickAs home name (method_for n (thing_in here events home name)) (pick s.types s.methods s.newest (id home name) (ints n)))

abbrev pub a_module_is_loaded_as_the_events_say : Type 0
a_module_is_loaded_as_the_events_say = AfterEvents (λ here events s. (home : Text) → is_loaded s home ≡ has_package here events home)

-- items

abbrev pub a_line_prints_what_is_asked : Type 0
a_line_prints_what_is_asked =
    AfterEvents (λ here events s. (e : Expr) (left : ℕ) → is_asked e ≡ true → top (println_item e) (run s left) ≡ line_ends s (printed_of (asked here events e left)))

abbrev pub a_definition_adds_its_method : Type 0
a_definition_adds_its_method =
    AfterEvents (λ here events s. (name : Text) (d : Parts) (left : ℕ) → is_base_name name ≡ false → own_in events name ≡ None
    → top (define_item name d) (run s left) ≡ Gives (Function (id here name)) (run (with_event s (Defines name d.0 d.1)) left))

abbrev pub a_constant_is_bound_behind_its_value : Type 0
a_constant_is_bound_behind_its_value =
    AfterEvents (λ here events s. (x : Text) (e : Expr) (left : ℕ) → is_valued e ≡ true → is_base_name x ≡ false → own_in events x ≡ None
    → top (Const x e) (run s left) ≡ const_ends s x (valued here events e left))

-- images

abbrev pub a_start_calls_init : Type 0
a_start_calls_init =
    AfterEvents (λ here events s. (name : Text) (left : ℕ) → bytes_eq base_name name ≡ false
    → start_image name (run s left) ≡ ended (got_ends s (started (method_for 0 (thing_in here events name init_name)) left)))

abbrev pub an_image_is_loaded_once : Type 0
an_image_is_loaded_once =
    AfterEvents (λ here events s. (files : Files) (name : Text) (left : ℕ) → counts_loaded here events name ≡ true → use_from files name (run s left) ≡ at_end (run s left))

abbrev pub a_wrong_reading_ends_the_run : Type 0
a_wrong_reading_ends_the_run =
    AfterEvents (λ here events s. (files : Files) (name : Text) (left : ℕ) (e : Ending) → counts_loaded here events name ≡ false → read_fault (files name) name ≡ Some e
    → use_from files name (run s left) ≡ ends e (run s left))

abbrev pub a_refused_image_changes_nothing : Type 0
a_refused_image_changes_nothing =
    AfterEvents (λ here events s. (files : Files) (name : Text) (image : Image) (left : ℕ) (why : Refusal)
    → counts_loaded here events name ≡ false → files name ≡ Holds image → image.name ≡ name → image.needs ≡ []
    → refused_for (image.misfit s) (no_room here events) ≡ Some why
    → use_from files name (run s left) ≡ ends (Refused (image_file name) why) (run s left))

abbrev pub an_image_is_loaded_and_started : Type 0
an_image_is_loaded_and_started =
    (here : Text) (events : List Event) (printed : Text) → Good here events → (files : Files) (name : Text) (image : Image) (left : ℕ)
    → counts_loaded here events name ≡ false → files name ≡ Holds image → image.name ≡ name → image.needs ≡ []
    → refused_for (image.misfit (state_of here events printed)) (no_room here events) ≡ None
    → (image.content (state_of here events printed)).name ≡ name → Plainly here (image.content (state_of here events printed))
    → use_from files name (run (state_of here events printed) left)
    ≡ ended (got_ends (state_of here (events ++ Loads (held_by image (state_of here events printed)) ∷ []) printed)
    (started (method_for 0 (thing_in here (events ++ Loads (held_by image (state_of here events printed)) ∷ []) name init_name)) left))

-- building

-- what is kept of a package without dependencies
abbrev pub a_build_keeps_its_events : Type 0
a_build_keeps_its_events = AfterEvents (λ here events s. image_count events ≡ 0 → content_of 1 s ≡ content_in here events)
