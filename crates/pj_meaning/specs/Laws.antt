-- Laws on evaluation: what no statement and no script undoes.
use Rattle.std.specs.Prelude.{◌∷◌, ◌↔◌, [], ℕ, ◌≤◌, ◌≡◌, List, ◌++◌, Some, IsTrue}
use Rattle.pj_meaning.specs.Tree.{Text, TopItem, Stmt}
use Rattle.pj_meaning.specs.Names.{Id}
use Rattle.pj_meaning.specs.Types.{TypeRow}
use Rattle.pj_meaning.specs.Methods.{Method, seen, is_applicable, applicable, is_least, pick, One, NoneMatch}
use Rattle.pj_meaning.specs.Values.{ObjectName, ObjectRow, object_of}
use Rattle.pj_meaning.specs.State.{State, Loaded, Binding, Role, TypeName, FunctionName, Constant, Variable, role_of}
use Rattle.pj_meaning.specs.Outcome.{Run, Outcome, Gives, Raises, Stops}
use Rattle.pj_meaning.specs.Evaluation.{Frame, Locals, stmt, enter_at}
use Rattle.pj_meaning.specs.Script.{Uses, run_items, then_run}
use Rattle.pj_meaning.specs.Packages.{Held, add}
use Rattle.pj_meaning.specs.Using.{Files, use_from}

-- the run that is left, whatever the outcome
abbrev pub last_of : {A : Type 0} → Outcome A → Run
last_of (Gives a r) = r
last_of (Raises e r) = r
last_of (Stops r) = r

-- this holds between the run before and the run after each statement and each list of items over files
abbrev pub Always : (Run → Run → Type 0) → Type 0
Always P =
    ((n : ℕ) (fr : Frame) (ls : Locals) (s : Stmt) (r : Run) → P r (last_of (stmt (enter_at n) fr ls s r)))
    × ((files : Files) (items : List TopItem) (r : Run) → P r (run_items (use_from files) items r).last)

abbrev pub what_is_left_never_rises : Type 0
what_is_left_never_rises = Always (λ r q. q.left ≤ r.left)

abbrev pub the_newest_world_never_falls : Type 0
the_newest_world_never_falls = Always (λ r q. r.state.newest ≤ q.state.newest)

abbrev pub AddsMethods : Run → Run → Type 0
AddsMethods r q = (more : List Method) × (q.state.methods ≡ r.state.methods ++ more)

-- so no birth of a method changes
abbrev pub methods_are_only_added : Type 0
methods_are_only_added = Always AddsMethods

abbrev pub AddsTypes : Run → Run → Type 0
AddsTypes r q = (more : List TypeRow) × (q.state.types ≡ r.state.types ++ more)

abbrev pub types_are_only_added : Type 0
types_are_only_added = Always AddsTypes

abbrev pub SeesTheSame : Run → Run → Type 0
SeesTheSame r q = (world : ℕ) → world ≤ r.state.newest → seen q.state.methods world ≡ seen r.state.methods world

-- what a running call sees stays
abbrev pub what_is_seen_at_a_world_stays : Type 0
what_is_seen_at_a_world_stays = Always SeesTheSame

-- what is assigned never: a type, a function and a const
abbrev pub IsFixed : Role → Type 0
IsFixed (TypeName t) = Unit {0}
IsFixed (FunctionName f) = Unit {0}
IsFixed (Constant v) = Unit {0}
IsFixed (Variable v) = ⊥

abbrev pub KeepsRoles : List Binding → List Binding → Type 0
KeepsRoles bs cs = (home name : Text) (role : Role) → IsFixed role → role_of bs home name ≡ Some role → role_of cs home name ≡ Some role

abbrev pub types_functions_and_consts_stay : Type 0
types_functions_and_consts_stay = Always (λ r q. KeepsRoles r.state.bindings q.state.bindings)

abbrev pub KeepsTypes : List ObjectRow → List ObjectRow → Type 0
KeepsTypes xs ys =
    (o : ObjectName) (row : ObjectRow) → object_of xs o ≡ Some row → (new : ObjectRow) × (object_of ys o ≡ Some new) × (new.type ≡ row.type)

abbrev pub an_object_stays_of_its_type : Type 0
an_object_stays_of_its_type = Always (λ r q. KeepsTypes r.state.objects q.state.objects)

abbrev pub AddsImages : Run → Run → Type 0
AddsImages r q = (more : List Loaded) × (q.state.images ≡ r.state.images ++ more)

abbrev pub images_are_only_added : Type 0
images_are_only_added = Always AddsImages

abbrev pub the_module_that_runs_stays : Type 0
the_module_that_runs_stays = Always (λ r q. q.state.here ≡ r.state.here)

-- each is born at this world at the latest
abbrev pub BornBy : ℕ → List Method → Type 0
BornBy world [] = Unit {0}
BornBy world (m ∷ ms) = (m.birth ≤ world) × BornBy world ms

-- so at the newest world all methods are seen
abbrev pub no_birth_is_above_the_newest_world : Type 0
no_birth_is_above_the_newest_world =
    Always (λ r q. BornBy r.state.newest r.state.methods → BornBy q.state.newest q.state.methods)

abbrev pub AddsText : Run → Run → Type 0
AddsText r q = (more : Text) × (q.state.printed ≡ r.state.printed ++ more)

abbrev pub printed_text_is_only_added : Type 0
printed_text_is_only_added = Always AddsText

-- as much fuel as there are steps left is enough
abbrev pub more_fuel_changes_nothing : Type 0
more_fuel_changes_nothing =
    (n m : ℕ) (fr : Frame) (ls : Locals) (s : Stmt) (r : Run) → r.left ≤ n → r.left ≤ m → stmt (enter_at n) fr ls s r ≡ stmt (enter_at m) fr ls s r

-- with that fuel a run stops only where no step is left
abbrev pub a_run_stops_without_a_step : Type 0
a_run_stops_without_a_step =
    (n : ℕ) (fr : Frame) (ls : Locals) (s : Stmt) (r q : Run) → r.left ≤ n → stmt (enter_at n) fr ls s r ≡ Stops q → q.left ≡ 0

abbrev pub a_script_runs_part_by_part : Type 0
a_script_runs_part_by_part =
    (uses : Uses) (xs ys : List TopItem) (r : Run) → run_items uses (xs ++ ys) r ≡ then_run (run_items uses xs r) (run_items uses ys)

-- The pick is a function of the list, so it gives at most one method, and that one is seen and applicable.
abbrev pub what_is_picked_is_applicable : Type 0
what_is_picked_is_applicable =
    (types : List TypeRow) (methods : List Method) (world : ℕ) (f : Id) (args : List Id) (m : Method)
    → pick types methods world f args ≡ One m
    → (m.birth ≤ world) × IsTrue (is_applicable types f args m)

-- and its signature is at least as specific as that of each seen method that applies
abbrev pub what_is_picked_is_least : Type 0
what_is_picked_is_least =
    (types : List TypeRow) (methods : List Method) (world : ℕ) (f : Id) (args : List Id) (m : Method)
    → pick types methods world f args ≡ One m
    → IsTrue (is_least types (applicable types methods world f args) m)

abbrev pub nothing_is_found_where_nothing_applies : Type 0
nothing_is_found_where_nothing_applies =
    (types : List TypeRow) (methods : List Method) (world : ℕ) (f : Id) (args : List Id)
    → pick types methods world f args ≡ NoneMatch
    ↔ applicable types methods world f args ≡ []

abbrev pub contents_keep_objects : Type 0
contents_keep_objects =
    (held : Held) (s : State) (o : ObjectName) (row : ObjectRow) → object_of s.objects o ≡ Some row → object_of (add held s).objects o ≡ Some row

abbrev pub contents_keep_bindings : Type 0
contents_keep_bindings =
    (held : Held) (s : State) (home name : Text) (role : Role) → role_of s.bindings home name ≡ Some role → role_of (add held s).bindings home name ≡ Some role
