-- Runs of items: how they go on, what they print, and that files that are the same bring the same runs.
use Rattle.std.proofs.Common.{◌≡◌, Bool, true, false, List, [], ◌∷◌, ◌++◌, Some, refl, sym, ap, ◌∙◌, append-nil}
use Rattle.std.specs.Str.{bytes_eq}
use Rattle.pj_meaning.specs.Tree.{Text, TopItem, Using, AbstractDef, StructDef, Def, Declare, Const, Directive}
use Rattle.pj_meaning.specs.Tree as tree
use Rattle.pj_meaning.specs.State.{Loaded}
use Rattle.pj_meaning.specs.Outcome.{Run, choose}
use Rattle.pj_meaning.specs.Script.{Ending, AtEnd, Uncaught, OutOfSteps, Absent, TooLong, Refused, Ended, Uses, onward_ending, then_run, use_all, run_item, run_items}
use Rattle.pj_meaning.specs.Using.{Image, Reading, NoFile, TooMuch, Faulty, Holds, Files, has_image, image_file, load_and_start, with_image, unless_loaded, load_needs, use_from}
use Rattle.pj_meaning.proofs.GrowingRuns.{printed_law}
use Rattle.pj_content.specs.Readings.{reading_of, readings}
use Rattle.pj_outside.specs.Stored.{Files as Stored, Keeps}
use Rattle.pj_top.specs.Running.{IsOver}

-- ---- how a run goes on

pub goes_on : (e : Ended) (next : Run → Ended) → e.ending ≡ AtEnd → then_run e next ≡ next e.last
unfolding then_run
goes_on e next at_end = ap (λ x. onward_ending x e.last next) at_end

-- an ending other than the text's end is that of the whole
stays_over : (x : Ending) (r : Run) (next : Run → Ended) → IsOver x → onward_ending x r next ≡ record { ending = x; last = r }
stays_over AtEnd r next over = elim over [ ]
stays_over (Uncaught e) r next over = refl
stays_over OutOfSteps r next over = refl
stays_over (Absent file) r next over = refl
stays_over (TooLong file) r next over = refl
stays_over (Refused file why) r next over = refl

pub is_over : (e : Ended) (next : Run → Ended) → IsOver e.ending → then_run e next ≡ e
unfolding then_run
is_over e next over = stays_over e.ending e.last next over

-- ---- what is printed

-- a run prints behind what was printed before
pub prints_more : (files : Files) (items : List TopItem) (r : Run) → (more : Text) × ((run_items (use_from files) items r).last.state.printed ≡ r.state.printed ++ more)
prints_more files items r = printed_law.1 files items r

onward_prints : (files : Files) (items : List TopItem) (x : Ending) (r : Run)
    → (more : Text) × ((onward_ending x r (run_items (use_from files) items)).last.state.printed ≡ r.state.printed ++ more)
onward_prints files items AtEnd r = prints_more files items r
onward_prints files items (Uncaught e) r = ([], sym (append-nil r.state.printed))
onward_prints files items OutOfSteps r = ([], sym (append-nil r.state.printed))
onward_prints files items (Absent file) r = ([], sym (append-nil r.state.printed))
onward_prints files items (TooLong file) r = ([], sym (append-nil r.state.printed))
onward_prints files items (Refused file why) r = ([], sym (append-nil r.state.printed))

pub then_prints : (files : Files) (items : List TopItem) (e : Ended)
    → (more : Text) × ((then_run e (run_items (use_from files) items)).last.state.printed ≡ e.last.state.printed ++ more)
unfolding then_run
then_prints files items e = onward_prints files items e.ending e.last

-- going on to the end is no more than what was before
onward_end : (x : Ending) (r : Run) → onward_ending x r (λ q. record { ending = AtEnd; last = q }) ≡ record { ending = x; last = r }
onward_end AtEnd r = refl
onward_end (Uncaught e) r = refl
onward_end OutOfSteps r = refl
onward_end (Absent file) r = refl
onward_end (TooLong file) r = refl
onward_end (Refused file why) r = refl

then_end : (e : Ended) → then_run e (λ q. record { ending = AtEnd; last = q }) ≡ e
unfolding then_run
then_end e = onward_end e.ending e.last

pub item_prints : (files : Files) (item : TopItem) (r : Run) → (more : Text) × ((run_item (use_from files) item r).last.state.printed ≡ r.state.printed ++ more)
item_prints files item r =
    let all = prints_more files (item ∷ []) r in
    (all.0, ap (λ (e : Ended). e.last.state.printed) (sym (then_end (run_item (use_from files) item r))) ∙ all.1)

pub name_prints : (files : Files) (name : Text) (r : Run) → (more : Text) × ((use_from files name r).last.state.printed ≡ r.state.printed ++ more)
name_prints files name r =
    let all = item_prints files (Using (name ∷ [])) r in
    (all.0, ap (λ (e : Ended). e.last.state.printed) (sym (then_end (use_from files name r))) ∙ all.1)

-- ---- files that are the same

onward_same : (x : Ending) (r : Run) (f g : Run → Ended) → ((q : Run) → f q ≡ g q) → onward_ending x r f ≡ onward_ending x r g
onward_same AtEnd r f g h = h r
onward_same (Uncaught e) r f g h = refl
onward_same OutOfSteps r f g h = refl
onward_same (Absent file) r f g h = refl
onward_same (TooLong file) r f g h = refl
onward_same (Refused file why) r f g h = refl

then_same : (d e : Ended) (f g : Run → Ended) → d ≡ e → ((q : Run) → f q ≡ g q) → then_run d f ≡ then_run e g
unfolding then_run
then_same d e f g same h = ap (λ (x : Ended). onward_ending x.ending x.last f) same ∙ onward_same e.ending e.last f g h

choose_same : (b : Bool) (this this' that that' : Run → Ended) (r : Run) → this r ≡ this' r → that r ≡ that' r → choose b this that r ≡ choose b this' that' r
unfolding choose
choose_same true this this' that that' r p q = p
choose_same false this this' that that' r p q = q

image_same : (x : Reading) (name : Text) (f g : Image → Run → Ended) → ((image : Image) (q : Run) → f image q ≡ g image q) → (r : Run) → with_image x name f r ≡ with_image x name g r
image_same NoFile name f g h r = refl
image_same TooMuch name f g h r = refl
image_same (Faulty n) name f g h r = refl
image_same (Holds image) name f g h r = choose_same (bytes_eq image.name name) (f image) (g image) _ _ r (h image r) refl

need_same : (files others : Files) → ((name : Text) → files name ≡ others name) → (name : Text) (r : Run)
    → unless_loaded name (with_image (files name) name load_and_start) r ≡ unless_loaded name (with_image (others name) name load_and_start) r
need_same files others same name r = ap (λ x. unless_loaded name (with_image x name load_and_start) r) (same name)

needs_same : (files others : Files) → ((name : Text) → files name ≡ others name) → (needs : List Loaded) (r : Run) → load_needs files needs r ≡ load_needs others needs r
needs_same files others same [] r = refl
needs_same files others same (need ∷ needs) r = then_same _ _ _ _ (need_same files others same need.name r) (needs_same files others same needs)

use_same : (files others : Files) → ((name : Text) → files name ≡ others name) → (name : Text) (r : Run) → use_from files name r ≡ use_from others name r
use_same files others same name r =
    choose_same (has_image r.state name) _ _ _ _ r refl
    (image_same (files name) name _ _ (λ image q. then_same _ _ _ _ (needs_same files others same image.needs q) (λ p. refl)) r
    ∙ ap (λ x. with_image x name (λ image q. then_run (load_needs others image.needs q) (load_and_start image)) r) (same name))

all_same : (u v : Uses) → ((name : Text) (r : Run) → u name r ≡ v name r) → (names : List Text) (r : Run) → use_all u names r ≡ use_all v names r
all_same u v same [] r = refl
all_same u v same (name ∷ names) r = then_same _ _ _ _ (same name r) (all_same u v same names)

item_same : (u v : Uses) → ((name : Text) (r : Run) → u name r ≡ v name r) → (item : TopItem) (r : Run) → run_item u item r ≡ run_item v item r
item_same u v same (Using names) r = all_same u v same names r
item_same u v same (AbstractDef name parent) r = refl
item_same u v same (StructDef mutable name parent fields) r = refl
item_same u v same (Def m f ps code) r = refl
item_same u v same (Declare name) r = refl
item_same u v same (Const name e) r = refl
item_same u v same (Directive m f types) r = refl
item_same u v same (tree.Run s) r = refl

-- files that were kept bring the same runs
pub kept_uses : (files now : Stored) → Keeps files (Some now) → (name : Text) (r : Run) → use_from (readings now) name r ≡ use_from (readings files) name r
kept_uses files now kept = use_same (readings now) (readings files) (λ name. ap (reading_of name) (kept (image_file name)))

pub kept_item : (files now : Stored) → Keeps files (Some now) → (item : TopItem) (r : Run) → run_item (use_from (readings now)) item r ≡ run_item (use_from (readings files)) item r
kept_item files now kept = item_same _ _ (kept_uses files now kept)

items_same : (u v : Uses) → ((name : Text) (r : Run) → u name r ≡ v name r) → (items : List TopItem) (r : Run) → run_items u items r ≡ run_items v items r
items_same u v same [] r = refl
items_same u v same (item ∷ items) r = then_same _ _ _ _ (item_same u v same item r) (items_same u v same items)

pub kept_items : (files now : Stored) → Keeps files (Some now) → (items : List TopItem) (r : Run) → run_items (use_from (readings now)) items r ≡ run_items (use_from (readings files)) items r
kept_items files now kept = items_same _ _ (kept_uses files now kept)
