-- Items, loads and whole runs only add; the laws that follow.
use Rattle.std.proofs.Common.{subst, ◌≡◌, ℕ, suc, ◌≤◌, ◌<◌, Bool, true, false, List, [], ◌∷◌, ◌++◌, map, Option, Some, None, Result, Ok, Err, refl, sym, ap, ◌∙◌, append-nil, arith, nat_le, if◌then◌else◌}
use Rattle.pj_meaning.specs.Tree.{Text, TypeRef, Param, TopItem, Using, AbstractDef, StructDef, Def, Declare, Const, Directive, Stmt}
use Rattle.pj_meaning.specs.Tree as tree
use Rattle.pj_meaning.specs.Names.{id}
use Rattle.pj_meaning.specs.Types.{TypeRow, Form, Abstract}
use Rattle.pj_meaning.specs.Methods.{Method, seen}
use Rattle.pj_meaning.specs.Values.{Value, Nil}
use Rattle.pj_meaning.specs.State.{State, Role, TypeName, Constant, Loaded}
use Rattle.pj_meaning.specs.Outcome.{Error, Run, Outcome, Gives, Raises, Stops, choose}
use Rattle.pj_meaning.specs.Lookup.{then_check, role_at, bind_new, declare, declare_type, parent_at, types_at, target_of, with_type}
use Rattle.pj_meaning.specs.Evaluation.{enter_at}
use Rattle.pj_meaning.specs.Top.{top, top_frame, directive, concrete_types, function_of_role}
use Rattle.pj_meaning.specs.Script.{Refusal, Ending, AtEnd, Uncaught, OutOfSteps, Absent, TooLong, Refused, Ended, Uses, onward_ending, then_run, ended, use_all, run_item, run_items}
use Rattle.pj_meaning.specs.Content.{Made}
use Rattle.pj_meaning.specs.Packages.{Held, born_at, add}
use Rattle.pj_meaning.specs.Using.{Image, Reading, NoFile, TooMuch, Faulty, Holds, Files, refusal, load_unless, start_image, init_of, load_and_start, with_image, load_needs, use_from}
use Rattle.pj_meaning.specs.Laws.{Always, AddsMethods, AddsTypes, SeesTheSame, AddsText, AddsImages, images_are_only_added, the_module_that_runs_stays, BornBy, no_birth_is_above_the_newest_world, KeepsRoles, KeepsTypes, types_functions_and_consts_stay, an_object_stays_of_its_type, what_is_left_never_rises, the_newest_world_never_falls, methods_are_only_added, types_are_only_added, what_is_seen_at_a_world_stays, printed_text_is_only_added}
use Rattle.pj_meaning.proofs.Keeping.{more_bindings, more_objects}
use Rattle.pj_meaning.proofs.Growing.{BornIn, Grows, kept, same_roles, same_objects, both, GoesOn, stays, onto, Ends, after_ends, gives, Changes, changed_ends, check_changes, either_changes}
use Rattle.pj_meaning.proofs.GrowingCalls.{function_ends, expr_ends}
use Rattle.pj_meaning.proofs.GrowingStatements.{changes_to, no_change, bound_grows, function_grows, define_ends, stmt_ends, enter_ends}

-- items

check_state : (s : State) (x : Result State Error) (next : State → Result State Error) → Changes s x → ((t : State) → Grows s t → Changes s (next t)) → Changes s (then_check x next)
check_state s (Ok t) next c f = f t c.if_ok
check_state s (Err e) next c f = record { if_ok = tt }

new_changes : (s : State) (home name : Text) (role : Role) → Changes s (bind_new s home name role)
new_changes s home name role = either_changes s _ _ _ (changes_to s _ (bound_grows s home name role)) (no_change s _)

type_grows : (s : State) (row : TypeRow) → Grows s (with_type s row)
type_grows s row = record {
  newest = omega arith;
  new_types = row ∷ [];
  types = refl;
  new_methods = [];
  methods = sym (append-nil s.methods);
  born = tt;
  here = refl;
  new_images = [];
  images = sym (append-nil s.images);
  text = [];
  printed = sym (append-nil s.printed);
  roles = same_roles s.bindings;
  objects = same_objects s.objects;
}

type_changes : (s : State) (home name : Text) (form : Form) (parent : TypeRef) (fields : List Param) → Changes s (declare_type s home name form parent fields)
type_changes s home name form parent fields =
    check_state s _ _ (new_changes s home name (TypeName (id home name)))
    (λ named g. check_changes s (parent_at s home parent) _
    (λ above. check_changes s (types_at named home fields) _ (λ types. changes_to s _ (both s named _ g (type_grows named _)))))

declare_changes : (s : State) (home name : Text) → Changes s (declare s home name)
declare_changes s home name = check_changes s (target_of s home [] name) _ (λ target. changes_to s _ (function_grows s target))

directive_changes : (s : State) (home m f : Text) (types : List TypeRef) → Changes s (directive s home m f types)
directive_changes s home m f types =
    check_changes s (role_at s home m f) _
    (λ role. check_changes s (function_of_role role _) _
    (λ g. check_changes s (concrete_types s home types) _ (λ ts. changes_to s _ (kept s _ refl refl refl refl refl refl (same_roles s.bindings) (same_objects s.objects)))))

top_ends : (item : TopItem) (r : Run) → Ends r (top item r)
top_ends (Using names) r = gives Nil r
top_ends (AbstractDef name parent) r = changed_ends _ Nil r (type_changes r.state r.state.here name Abstract parent [])
top_ends (StructDef mutable name parent fields) r =
    changed_ends _ Nil r (type_changes r.state r.state.here name _ parent fields)
top_ends (Def m f ps code) r = define_ends r.state.here m f ps code r
top_ends (Declare name) r = changed_ends _ _ r (declare_changes r.state r.state.here name)
top_ends (Const name e) r =
    after_ends r _ _ (expr_ends (enter_at r.left) (enter_ends r.left) (top_frame r) [] e r)
    (λ v q. changed_ends _ v q (new_changes q.state q.state.here name (Constant v)))
top_ends (Directive m f types) r = changed_ends _ Nil r (directive_changes r.state r.state.here m f types)
top_ends (tree.Run s) r =
    after_ends r _ _ (stmt_ends (enter_at r.left) (enter_ends r.left) (top_frame r) [] s r) (λ w q. gives _ q)

-- runs

record Leads (r : Run) (e : Ended) : Type 0 where
  to : GoesOn r e.last

leads_by : (r q : Run) (e : Ended) → GoesOn r q → Leads q e → Leads r e
leads_by r q e g l = record { to = onto r q e.last g l.to }

onward_leads : (r : Run) (ending : Ending) (q : Run) (next : Run → Ended) → GoesOn r q → ((p : Run) → Leads p (next p)) → Leads r (onward_ending ending q next)
onward_leads r AtEnd q next g h = leads_by r q (next q) g (h q)
onward_leads r (Uncaught e) q next g h = record { to = g }
onward_leads r OutOfSteps q next g h = record { to = g }
onward_leads r (Absent file) q next g h = record { to = g }
onward_leads r (TooLong file) q next g h = record { to = g }
onward_leads r (Refused file why) q next g h = record { to = g }

run_leads : (r : Run) (e : Ended) (next : Run → Ended) → Leads r e → ((p : Run) → Leads p (next p)) → Leads r (then_run e next)
unfolding then_run
run_leads r e next l h = onward_leads r e.ending e.last next l.to h

ended_leads : (r : Run) (o : Outcome Value) → Ends r o → Leads r (ended o)
unfolding ended
ended_leads r (Gives v q) e = record { to = e.goes }
ended_leads r (Raises x q) e = record { to = e.goes }
ended_leads r (Stops q) e = record { to = e.goes }

rests : (r : Run) (ending : Ending) → Leads r (record { ending = ending; last = r })
rests r ending = record { to = stays r }

choose_leads : (b : Bool) (this that : Run → Ended) (r : Run) → Leads r (this r) → Leads r (that r) → Leads r (choose b this that r)
unfolding choose
choose_leads true this that r l m = l
choose_leads false this that r l m = m

all_born : (w : ℕ) (home : Text) (ms : List Made) → BornIn w (suc w) (map (born_at (suc w) home) ms)
all_born w home [] = tt
all_born w home (m ∷ ms) = (omega arith, omega arith, all_born w home ms)

pub add_grows : (held : Held) (s : State) → Grows s (add held s)
add_grows held s = record {
  newest = omega arith;
  new_types = held.content.types;
  types = refl;
  new_methods = map (born_at (suc s.newest) held.content.name) held.content.methods;
  methods = refl;
  born = all_born s.newest held.content.name held.content.methods;
  here = refl;
  new_images = record { name = held.content.name; identity = held.identity } ∷ [];
  images = refl;
  text = [];
  printed = sym (append-nil s.printed);
  roles = more_bindings s.bindings _;
  objects = more_objects s.objects held.content.objects;
}

load_leads : (why : Option Refusal) (image : Image) (r : Run) → Leads r (load_unless why image r)
load_leads (Some why) image r = rests r _
load_leads None image r =
    record { to = record { left = omega arith; state = add_grows (record { content = image.content r.state; identity = image.identity }) r.state } }

start_leads : (name : Text) (r : Run) → Leads r (start_image name r)
start_leads name r =
    choose_leads _ _ _ r (ended_leads r _ (function_ends (enter_at r.left) (enter_ends r.left) r.state.newest 0 (init_of name) [] r)) (rests r AtEnd)

load_start_leads : (image : Image) (r : Run) → Leads r (load_and_start image r)
load_start_leads image r = run_leads r _ _ (load_leads (refusal image r.state) image r) (start_leads image.name)

image_leads : (reading : Reading) (name : Text) (next : Image → Run → Ended) → ((image : Image) (q : Run) → Leads q (next image q)) → (r : Run) → Leads r (with_image reading name next r)
image_leads NoFile name next h r = rests r _
image_leads TooMuch name next h r = rests r _
image_leads (Faulty n) name next h r = rests r _
image_leads (Holds image) name next h r = choose_leads _ _ _ r (h image r) (rests r _)

needs_lead : (files : Files) (needs : List Loaded) (r : Run) → Leads r (load_needs files needs r)
needs_lead files [] r = rests r AtEnd
needs_lead files (need ∷ needs) r =
    run_leads r _ _ (choose_leads _ _ _ r (rests r AtEnd) (image_leads (files need.name) need.name load_and_start load_start_leads r)) (needs_lead files needs)

use_leads : (files : Files) (name : Text) (r : Run) → Leads r (use_from files name r)
use_leads files name r =
    choose_leads _ _ _ r (rests r AtEnd)
    (image_leads (files name) name _ (λ image q. run_leads q _ _ (needs_lead files image.needs q) (load_start_leads image)) r)

all_lead : (uses : Uses) → ((name : Text) (r : Run) → Leads r (uses name r)) → (names : List Text) (r : Run) → Leads r (use_all uses names r)
all_lead uses h [] r = rests r AtEnd
all_lead uses h (name ∷ names) r = run_leads r _ _ (h name r) (all_lead uses h names)

item_leads : (uses : Uses) → ((name : Text) (r : Run) → Leads r (uses name r)) → (item : TopItem) (r : Run) → Leads r (run_item uses item r)
item_leads uses h (Using names) r = all_lead uses h names r
item_leads uses h (AbstractDef name parent) r = ended_leads r _ (top_ends (AbstractDef name parent) r)
item_leads uses h (StructDef mutable name parent fields) r = ended_leads r _ (top_ends (StructDef mutable name parent fields) r)
item_leads uses h (Def m f ps code) r = ended_leads r _ (top_ends (Def m f ps code) r)
item_leads uses h (Declare name) r = ended_leads r _ (top_ends (Declare name) r)
item_leads uses h (Const name e) r = ended_leads r _ (top_ends (Const name e) r)
item_leads uses h (Directive m f types) r = ended_leads r _ (top_ends (Directive m f types) r)
item_leads uses h (tree.Run s) r = ended_leads r _ (top_ends (tree.Run s) r)

items_lead : (uses : Uses) → ((name : Text) (r : Run) → Leads r (uses name r)) → (items : List TopItem) (r : Run) → Leads r (run_items uses items r)
items_lead uses h [] r = rests r AtEnd
items_lead uses h (item ∷ items) r = run_leads r _ _ (item_leads uses h item r) (items_lead uses h items)

-- what holds wherever a run goes on holds always
always : (P : Run → Run → Type 0) → ((r q : Run) → GoesOn r q → P r q) → Always P
always P h =
    ((λ n fr ls s r. h r _ (stmt_ends (enter_at n) (enter_ends n) fr ls s r).goes), (λ files items r. h r _ (items_lead (use_from files) (use_leads files) items r).to))

pub left_law : what_is_left_never_rises
left_law = always _ (λ r q g. g.left)

pub newest_law : the_newest_world_never_falls
newest_law = always _ (λ r q g. g.state.newest)

pub methods_law : methods_are_only_added
methods_law = always AddsMethods (λ r q g. (g.state.new_methods, g.state.methods))

pub types_law : types_are_only_added
types_law = always AddsTypes (λ r q g. (g.state.new_types, g.state.types))

pub printed_law : printed_text_is_only_added
printed_law = always AddsText (λ r q g. (g.state.text, g.state.printed))

pub images_law : images_are_only_added
images_law = always AddsImages (λ r q g. (g.state.new_images, g.state.images))

pub module_law : the_module_that_runs_stays
module_law = always (λ r q. q.state.here ≡ r.state.here) (λ r q g. g.state.here)

by_then : (low high : ℕ) (ms ns : List Method) → low ≤ high → BornBy low ms → BornIn low high ns → BornBy high (ms ++ ns)
by_then low high [] [] h b c = tt
by_then low high [] (n ∷ ns) h b c = (c.1, by_then low high [] ns h b c.2)
by_then low high (m ∷ ms) ns h b c = (let l = b.0 in omega arith, by_then low high ms ns h b.1 c)

pub births_law : no_birth_is_above_the_newest_world
births_law = always (λ r q. BornBy r.state.newest r.state.methods → BornBy q.state.newest q.state.methods)
    (λ r q g b. subst (BornBy q.state.newest) (sym g.state.methods) (by_then r.state.newest q.state.newest r.state.methods g.state.new_methods g.state.newest b g.state.born))

pub roles_law : types_functions_and_consts_stay
roles_law = always (λ r q. KeepsRoles r.state.bindings q.state.bindings) (λ r q g. g.state.roles)

pub objects_law : an_object_stays_of_its_type
objects_law = always (λ r q. KeepsTypes r.state.objects q.state.objects) (λ r q g. g.state.objects)

-- later methods are not seen
not_born : (m : Method) (world newest : ℕ) → world ≤ newest → newest < m.birth → nat_le m.birth world ≡ false
not_born m world newest h b = grind arith

filtered : (world : ℕ) (m : Method) (b : Bool) (ms : List Method) → b ≡ false → (if b then m ∷ ms else ms) ≡ ms
filtered world m b ms e = rw e refl

unseen : (world newest high : ℕ) (ms : List Method) → world ≤ newest → BornIn newest high ms → seen ms world ≡ []
unseen world newest high [] h b = refl
unseen world newest high (m ∷ ms) h b =
    filtered world m _ _ (not_born m world newest h b.0) ∙ unseen world newest high ms h b.2

split_if : (b : Bool) (m : Method) (xs ys : List Method) → (if b then m ∷ (xs ++ ys) else (xs ++ ys)) ≡ (if b then m ∷ xs else xs) ++ ys
split_if true m xs ys = refl
split_if false m xs ys = refl

seen_both : (world : ℕ) (ms ns : List Method) → seen (ms ++ ns) world ≡ seen ms world ++ seen ns world
seen_both world [] ns = refl
seen_both world (m ∷ ms) ns =
    ap (λ z. if nat_le m.birth world then m ∷ z else z) (seen_both world ms ns)
    ∙ split_if (nat_le m.birth world) m (seen ms world) (seen ns world)

pub seen_law : what_is_seen_at_a_world_stays
seen_law = always SeesTheSame (λ r q g world h.
    ap (λ ms. seen ms world) g.state.methods
    ∙ (seen_both world r.state.methods g.state.new_methods
    ∙ (ap (λ z. seen r.state.methods world ++ z) (unseen world r.state.newest q.state.newest g.state.new_methods h g.state.born)
    ∙ append-nil (seen r.state.methods world))))
