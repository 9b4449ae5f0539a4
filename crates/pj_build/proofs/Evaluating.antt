-- A package's items, one after another.
use Rattle.std.proofs.Common.{◌≡◌, ℕ, true, ◌<◌, ◌≤◌, ◌+◌, List, [], ◌∷◌, map, drop, length, get_or, Ok, Err, refl, sym, ap, subst, ◌∙◌}
use Rattle.std.proofs.lemmas.List.{drop_more, drop_all}
use Rattle.pj_plain.proofs.Bools.{both_true}
use Rattle.pj_meaning.specs.Tree.{Text, TopItem}
use Rattle.pj_meaning.specs.Values.{Value}
use Rattle.pj_meaning.specs.State.{State}
use Rattle.pj_meaning.specs.Outcome.{Run, Outcome, Gives, Raises, Stops, after}
use Rattle.pj_meaning.specs.Packages.{all_items}
use Rattle.pj_meaning.specs.Top.{top}
use Rattle.pj_plain.specs.Forms.{Known, known_behind, package_item, package_items}
use Rattle.pj_plain.specs.Held.{held_item}
use Rattle.pj_tree.specs.declared.item.TopItem as items
use Rattle.pj_session.specs.Good.{Good}
use Rattle.pj_session.specs.OwnItems.{known_in}
use Rattle.pj_session.specs.Seen.{events_of, state_seen}
use Rattle.pj_session.specs.SessionItems.{session_item}
use Rattle.pj_session.specs.States.{run}
use Rattle.pj_session.specs.Tops.{Tops}
use Rattle.pj_session.specs.Uses.{counts_loaded}
use Rattle.pj_session.specs.declared.end.End.{End}
use Rattle.pj_session.specs.declared.end.End.TheVariants as ends
use Rattle.pj_session.specs.declared.state.Session.{Session}
use Rattle.pj_session.proofs.SessionItems.{package_law}
use Rattle.pj_build.specs.Evaluated.{Evaluates}

-- ---- one item

-- behind an item that comes to its end the others go on
after_ok : {A : Type 0} (o : Outcome Value) (next : Run → Outcome Value) (done : A) (old new : State) (left : ℕ) → Tops o (Ok done) old new left → after o (λ v q. next q) ≡ next (run new left)
unfolding after
after_ok (Gives v r) next done old new left t = rw (t.0, t.1) refl
after_ok (Raises e r) next done old new left t = absurd t
after_ok (Stops r) next done old new left t = absurd t

without_memory : {A : Type 0} (B : Type 0) (o : Outcome A) (s : State) → Evaluates {A = A} {B = B} o (Err ends.NoMemory) s
without_memory B (Gives v r) s = tt
without_memory B (Raises e r) s = tt
without_memory B (Stops r) s = tt

-- an item that ends early ends them all
after_err : (A : Type 0) (o : Outcome Value) (next : Value → Run → Outcome Value) (end : End) (old new : State) (left : ℕ) → Tops {A = A} o (Err end) old new left → Evaluates {A = Value} {B = A} (after o next) (Err end) new
unfolding after
after_err A (Gives v r) next (ends.Error told) old new left t = absurd t
after_err A (Gives v r) next ends.Steps old new left t = absurd t
after_err A (Gives v r) next ends.Trap old new left t = absurd t
after_err A (Gives v r) next ends.NoMemory old new left t = without_memory A (next v r) new
after_err A (Raises e r) next (ends.Error told) old new left t = (t.0, t.1.0)
after_err A (Raises e r) next ends.Steps old new left t = absurd t
after_err A (Raises e r) next ends.Trap old new left t = absurd t
after_err A (Raises e r) next ends.NoMemory old new left t = tt
after_err A (Stops r) next (ends.Error told) old new left t = absurd t
after_err A (Stops r) next ends.Steps old new left t = t
after_err A (Stops r) next ends.Trap old new left t = absurd t
after_err A (Stops r) next ends.NoMemory old new left t = tt

-- ---- all items

-- What is still to come means in the session, with what is left of the budget, what all meant at first.
pub record Going (all rest : List TopItem) (before now : Session) (steps left : ℕ) : Type 0 where
  pub same : all_items rest (run (state_seen now) left) ≡ all_items all (run (state_seen before) steps)
  pub form : package_items (known_in (events_of now)) rest ≡ true
  pub good : Good now.here (events_of now)
  pub loaded : (other : Text) → counts_loaded now.here (events_of now) other ≡ counts_loaded before.here (events_of before) other
  pub here : now.here ≡ before.here

pub next_form : (known : Known) (item : TopItem) (rest : List TopItem) → package_items known (item ∷ rest) ≡ true → session_item known item ≡ true
next_form known item rest h = package_law known item (both_true (package_item known item) (package_items (known_behind known item) rest) h).0

-- one item further
pub goes_on : {A : Type 0} (all rest : List TopItem) (item : TopItem) (before now new : Session) (steps left more : ℕ) (done : A) → Going all (item ∷ rest) before now steps left
    → Tops (top item (run (state_seen now) left)) (Ok done) (state_seen now) (state_seen new) more
    → Good new.here (events_of new) → known_in (events_of new) ≡ known_behind (known_in (events_of now)) item
    → ((other : Text) → counts_loaded new.here (events_of new) other ≡ counts_loaded now.here (events_of now) other) → new.here ≡ now.here
    → Going all rest before new steps more
goes_on all rest item before now new steps left more done g tops good known loaded here = record {
  same = sym (after_ok (top item (run (state_seen now) left)) (all_items rest) done (state_seen now) (state_seen new) more tops) ∙ g.same;
  form = rw known (both_true (package_item (known_in (events_of now)) item) (package_items (known_behind (known_in (events_of now)) item) rest) g.form).1;
  good = good;
  loaded = λ other. loaded other ∙ g.loaded other;
  here = here ∙ g.here;
}

-- the end at an item
pub ends_early : (A : Type 0) (all rest : List TopItem) (item : TopItem) (before now new : Session) (steps left more : ℕ) (end : End) → Going all (item ∷ rest) before now steps left
    → Tops {A = A} (top item (run (state_seen now) left)) (Err end) (state_seen now) (state_seen new) more
    → Evaluates {A = Value} {B = A} (all_items all (run (state_seen before) steps)) (Err end) (state_seen new)
ends_early A all rest item before now new steps left more end g tops =
    subst (λ (o : Outcome Value). Evaluates {A = Value} {B = A} o (Err end) (state_seen new)) g.same
    (after_err A (top item (run (state_seen now) left)) (λ v q. all_items rest q) end (state_seen now) (state_seen new) more tops)

-- the end of all
pub ends_well : {A : Type 0} (all : List TopItem) (before now : Session) (steps left : ℕ) (done : A) → Going all [] before now steps left
    → Evaluates {A = Value} {B = A} (all_items all (run (state_seen before) steps)) (Ok done) (state_seen now)
ends_well {A = A} all before now steps left done g = subst (λ (o : Outcome Value). Evaluates {A = Value} {B = A} o (Ok done) (state_seen now)) g.same refl

-- ---- items as they are held

-- what is still to come, from this place on
abbrev pub from : ℕ → List items.TopItem → List TopItem
from n its = map held_item (drop n its)

pub one_more : (its : List items.TopItem) (n : ℕ) (item : items.TopItem) → n < length its → item ≡ get_or its n item → from n its ≡ held_item item ∷ from (n + 1) its
one_more its n item lt is = ap (map held_item) (drop_more its n item lt) ∙ ap (λ (i : items.TopItem). held_item i ∷ from (n + 1) its) (sym is)

pub no_more : (its : List items.TopItem) (n : ℕ) → length its ≤ n → from n its ≡ []
no_more its n le = ap (map held_item) (drop_all n its le)
