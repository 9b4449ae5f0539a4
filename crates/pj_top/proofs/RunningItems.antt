-- Items of a script: what each does to a session and to what was put, and then all of them.
use Rattle.std.proofs.Common.{◌≡◌, ◌⊎◌, ℕ, ◌+◌, ◌<◌, ◌≤◌, true, List, [], ◌∷◌, ◌++◌, Option, Some, None, Result, Ok, Err, map, take, drop, length, refl, sym, ap, subst, ◌∙◌, append-nil, append_assoc}
use Rattle.std.proofs.Math.ListN.{get_or}
use Rattle.std.proofs.Math.Seq.{drop-append_seam, take-append_seam}
use Rattle.std.proofs.lemmas.List.{take-append-drop}
use Rattle.std.specs.Option.{IfSome}
use Rattle.std.specs.Result.{IsErr}
use Rattle.pj_meaning.specs.Tree.{Text, TopItem, Using, AbstractDef, StructDef, Def, Declare, Const, Directive}
use Rattle.pj_meaning.specs.Tree as tree
use Rattle.pj_meaning.specs.Names.{main_name}
use Rattle.pj_meaning.specs.State.{State}
use Rattle.pj_meaning.specs.Values.{Value}
use Rattle.pj_meaning.specs.Outcome.{Run, Outcome, Gives, Raises, Stops}
use Rattle.pj_meaning.specs.Script.{Ended, AtEnd, Uncaught, ended, run_item, run_items}
use Rattle.pj_meaning.specs.Base.{start}
use Rattle.pj_meaning.specs.Top.{top}
use Rattle.pj_meaning.specs.Using.{NoFile, use_from}
use Rattle.pj_outside.specs.Stored.{Files, Keeps}
use Rattle.pj_content.specs.Readings.{readings}
use Rattle.pj_plain.specs.Forms.{script_form, script_items, used_behind}
use Rattle.pj_session.specs.Good.{Good}
use Rattle.pj_session.specs.Events.{state_of}
use Rattle.pj_session.specs.OwnItems.{known_in}
use Rattle.pj_session.specs.Seen.{events_of, state_seen}
use Rattle.pj_session.specs.SessionItems.{all_loaded, is_using, session_item}
use Rattle.pj_session.proofs.SessionItems.{script_law}
use Rattle.pj_session.specs.States.{run}
use Rattle.pj_session.specs.Tops.{Tops}
use Rattle.pj_session.specs.declared.state.Session.{Session}
use Rattle.pj_session.specs.declared.end.End.{End}
use Rattle.pj_session.specs.declared.end.End.TheVariants as ends
use Rattle.pj_top.specs.Claims.{Adds}
use Rattle.pj_top.specs.Endings.{meaning, status_of}
use Rattle.pj_top.specs.Running.{AddsItem, EndsAs, Goes, IsNew, PutsMore, StaysGood, TellsCame, TellsEnding}
use Rattle.pj_top.specs.Stops.{Leads, Reaches}
use Rattle.pj_meaning.specs.Endings.{ending_line}
use Rattle.pj_top.specs.declared.status.Status.TheVariants as status
use Rattle.pj_top.specs.declared.stop.Stop.{Stop}
use Rattle.pj_top.specs.declared.stop.Ending.{Ending}
use Rattle.pj_top.proofs.Running.{goes_on, is_over, item_prints, kept_item, then_prints}
use Rattle.pj_top.proofs.RunningNames.{all_kept, both_loaded, keeps_on, nothing_left, rest_is, seen_printed, and_first, and_second}

-- ---- one item that is no line of `using`

-- what an item does by itself prints behind what was printed before
top_prints : (item : TopItem) (r : Run) → (more : Text) × ((ended (top item r)).last.state.printed ≡ r.state.printed ++ more)
unfolding ended
top_prints (Using names) r = ([], sym (append-nil r.state.printed))
top_prints (AbstractDef name parent) r = item_prints (λ n. NoFile) (AbstractDef name parent) r
top_prints (StructDef mutable name parent fields) r = item_prints (λ n. NoFile) (StructDef mutable name parent fields) r
top_prints (Def m f ps code) r = item_prints (λ n. NoFile) (Def m f ps code) r
top_prints (Declare name) r = item_prints (λ n. NoFile) (Declare name) r
top_prints (Const name e) r = item_prints (λ n. NoFile) (Const name e) r
top_prints (Directive m f types) r = item_prints (λ n. NoFile) (Directive m f types) r
top_prints (tree.Run s) r = item_prints (λ n. NoFile) (tree.Run s) r

abbrev Front : Outcome Value → State → Type 0
Front o new = (more : Text) × ((ended o).last.state.printed ≡ new.printed ++ more)

-- the state that the meaning leaves, or the one before
all_of : (o : Outcome Value) (r : Run) (new : State) → (ended o).last.state ≡ r.state → new ≡ r.state → Front o new
all_of o r new is same = ([], ap (λ (s : State). s.printed) (is ∙ sym same) ∙ sym (append-nil new.printed))

none_of : (o : Outcome Value) (r : Run) (new : State) → (more : Text) × ((ended o).last.state.printed ≡ r.state.printed ++ more) → new ≡ r.state → Front o new
none_of o r new all same = (all.0, all.1 ∙ ap (λ (s : State). s.printed ++ all.0) (sym same))

came_front : {A : Type 0} → (o : Outcome Value) (r : Run) (came : Result A End) (new : State) (later : ℕ) → (more : Text) × ((ended o).last.state.printed ≡ r.state.printed ++ more)
    → Tops o came r.state new later → Front o new
unfolding ended
came_front (Gives v q) r (Ok done) new later all tops = all_of (Gives v q) q new refl tops.0
came_front (Gives v q) r (Err (ends.Error told)) new later all tops = elim tops [ ]
came_front (Gives v q) r (Err ends.Steps) new later all tops = elim tops [ ]
came_front (Gives v q) r (Err ends.Trap) new later all tops = elim tops [ ]
came_front (Gives v q) r (Err ends.NoMemory) new later all tops = none_of (Gives v q) r new all tops
came_front (Raises e q) r (Ok done) new later all tops = elim tops [ ]
came_front (Raises e q) r (Err (ends.Error told)) new later all tops = all_of (Raises e q) q new refl tops.1.0
came_front (Raises e q) r (Err ends.Steps) new later all tops = elim tops [ ]
came_front (Raises e q) r (Err ends.Trap) new later all tops = elim tops [ ]
came_front (Raises e q) r (Err ends.NoMemory) new later all tops = none_of (Raises e q) r new all tops
came_front (Stops q) r (Ok done) new later all tops = elim tops [ ]
came_front (Stops q) r (Err (ends.Error told)) new later all tops = elim tops [ ]
came_front (Stops q) r (Err ends.Steps) new later all tops = all_of (Stops q) q new refl tops
came_front (Stops q) r (Err ends.Trap) new later all tops = elim tops [ ]
came_front (Stops q) r (Err ends.NoMemory) new later all tops = none_of (Stops q) r new all tops

goes_came : {A : Type 0} → (o : Outcome Value) (r : Run) (came : Result A End) (result : Result (Option Ending) Stop) (new : State) (later : ℕ) → (more : Text) × ((ended o).last.state.printed ≡ r.state.printed ++ more)
    → Tops o came r.state new later → TellsCame came result → Goes (ended o) result new later
unfolding ended
goes_came o r came (Err why) new later all tops tells = came_front o r came new later all tops
goes_came (Gives v q) r (Ok done) (Ok None) new later all tops tells = (refl, tops.0, tops.1)
goes_came (Raises e q) r (Ok done) (Ok None) new later all tops tells = elim tops [ ]
goes_came (Stops q) r (Ok done) (Ok None) new later all tops tells = elim tops [ ]
goes_came o r (Err end) (Ok None) new later all tops tells = elim tells [ ]
goes_came o r (Ok done) (Ok (Some told)) new later all tops tells = elim tells [ ]
goes_came (Gives v q) r (Err (ends.Error x)) (Ok (Some told)) new later all tops tells = elim tops [ ]
goes_came (Gives v q) r (Err ends.Steps) (Ok (Some told)) new later all tops tells = elim tops [ ]
goes_came o r (Err ends.Trap) (Ok (Some told)) new later all tops tells = elim tells [ ]
goes_came o r (Err ends.NoMemory) (Ok (Some told)) new later all tops tells = elim tells [ ]
goes_came (Raises e q) r (Err (ends.Error x)) (Ok (Some told)) new later all tops tells =
    (tt, subst (λ y. TellsEnding (Uncaught y) told) tops.0 tells, tops.1.0)
goes_came (Raises e q) r (Err ends.Steps) (Ok (Some told)) new later all tops tells = elim tops [ ]
goes_came (Stops q) r (Err (ends.Error x)) (Ok (Some told)) new later all tops tells = elim tops [ ]
goes_came (Stops q) r (Err ends.Steps) (Ok (Some told)) new later all tops tells = (tt, tells, tops)

pub top_goes : {A : Type 0} → (item : TopItem) (old new : Session) (budget later : ℕ) (came : Result A End) (result : Result (Option Ending) Stop)
    → Tops (top item (run (state_seen old) budget)) came (state_seen old) (state_seen new) later → TellsCame came result
    → Goes (ended (top item (run (state_seen old) budget))) result (state_seen new) later
top_goes item old new budget later came result tops tells =
    goes_came (top item (run (state_seen old) budget)) (run (state_seen old) budget) came result (state_seen new) later (top_prints item (run (state_seen old) budget)) tops tells

pub top_stops : {A : Type 0} → (item : TopItem) (old new : Session) (budget later : ℕ) (came : Result A End) (why : Stop)
    → Tops (top item (run (state_seen old) budget)) came (state_seen old) (state_seen new) later
    → Goes (ended (top item (run (state_seen old) budget))) (Err why) (state_seen new) later
top_stops item old new budget later came why tops =
    came_front (top item (run (state_seen old) budget)) (run (state_seen old) budget) came (state_seen new) later (top_prints item (run (state_seen old) budget)) tops

-- ---- what was put

-- what stands behind what was printed before
behind_is : (before after text : Text) → after ≡ before ++ text → drop (length before) after ≡ text
behind_is before after text is = ap (drop (length before)) is ∙ drop-append_seam before text

put_all : {B : Type 0} → (before after text old : Text) → after ≡ before ++ text → (now : Option Text) → now ≡ Some (old ++ drop (length before) after)
    → (result : Result B Stop) → PutsMore before after old result now
put_all before after text old is now put (Ok done) = (text, is, put ∙ ap (λ t. Some (old ++ t)) (behind_is before after text is))
put_all before after text old is now put (Err why) =
    (text, [], is ∙ ap (λ t. before ++ t) (sym (append-nil text)), put ∙ ap (λ t. Some (old ++ t)) (behind_is before after text is))

pub put_whole : {B : Type 0} → (before after text : Text) → after ≡ before ++ text → (written now : Option Text)
    → IfSome written (λ old. now ≡ Some (old ++ drop (length before) after)) → (result : Result B Stop) → IfSome written (λ old. PutsMore before after old result now)
put_whole before after text is None now put result = tt
put_whole before after text is (Some old) now put result = put_all before after text old is now put result

pub put_front : (before after text : Text) → after ≡ before ++ text → (written now : Option Text)
    → IfSome written (λ old. (n : ℕ) × (now ≡ Some (old ++ take n (drop (length before) after)))) → (why : Stop) → IfSome written (λ old. PutsMore {T = Option Ending} before after old (Err why) now)
put_front before after text is None now put why = tt
put_front before after text is (Some old) now (n, put) why =
    (take n text, drop n text, is ∙ ap (λ t. before ++ t) (sym (take-append-drop n text)), put ∙ ap (λ t. Some (old ++ take n t)) (behind_is before after text is))

-- nothing was printed, and nothing put
put_nothing : {B : Type 0} → (before after old : Text) → after ≡ before → (result : Result B Stop) → PutsMore before after old result (Some old)
put_nothing before after old is (Ok done) = ([], is ∙ sym (append-nil before), ap Some (sym (append-nil old)))
put_nothing before after old is (Err why) = ([], [], is ∙ sym (append-nil before), ap Some (sym (append-nil old)))

pub puts_nothing : {B : Type 0} → (before after : Text) → after ≡ before → (written : Option Text) (result : Result B Stop) → IfSome written (λ old. PutsMore before after old result written)
puts_nothing before after is None result = tt
puts_nothing before after is (Some old) result = put_nothing before after old is result

-- ---- all items

-- The items before this place were done: what is left to do by the meaning is what is left of the whole, and what the session has
-- printed was put.
pub record Doing (now : Session) (budget steps : ℕ) (items rest : List TopItem) (files_before files : Option Files) (before written : Option Text) : Type 0 where
  pub here : now.here ≡ main_name
  pub good : Good now.here (events_of now)
  pub used : List Text
  pub loaded : all_loaded now.here (events_of now) used ≡ true
  pub form : script_items (known_in (events_of now)) used rest ≡ true
  pub keeps : IfSome files_before (λ fs. Keeps fs files)
  pub means : IfSome files_before (λ fs. meaning fs items steps ≡ run_items (use_from (readings fs)) rest (run (state_seen now) budget))
  pub told : IfSome before (λ old. Adds old now.printed written)

new_state : (here : Text) (s : Session) → IsNew s → state_seen s ≡ start main_name
new_state here s new = ap (λ h. state_of h (events_of s) s.printed) new.here ∙ ap (λ es. state_of main_name es s.printed) new.events ∙ ap (state_of main_name []) new.printed

new_good : (s : Session) → IsNew s → Good s.here (events_of s)
new_good s new = rw (new.here, new.events) (record { home = refl; each = tt })

new_means : (files : Option Files) (s : Session) (steps : ℕ) (items : List TopItem) → IsNew s
    → IfSome files (λ fs. meaning fs items steps ≡ run_items (use_from (readings fs)) items (run (state_seen s) steps))
new_means None s steps items new = tt
new_means (Some fs) s steps items new = ap (λ (t : State). run_items (use_from (readings fs)) items (run t steps)) (sym (new_state s.here s new))

new_told : (written : Option Text) (s : Session) → IsNew s → IfSome written (λ old. Adds old s.printed written)
new_told None s new = tt
new_told (Some old) s new = ap Some (sym (append-nil old) ∙ ap (λ t. old ++ t) (sym new.printed))

keeps_all : (files : Option Files) → IfSome files (λ fs. Keeps fs files)
keeps_all None = tt
keeps_all (Some fs) = λ name. refl

pub doing_begins : (s : Session) (steps : ℕ) (items : List TopItem) (files : Option Files) (written : Option Text) → IsNew s → script_form items ≡ true
    → Doing s steps steps items items files files written written
doing_begins s steps items files written new form = record {
  here = new.here;
  good = new_good s new;
  used = [];
  loaded = refl;
  form = rw new.events form;
  keeps = keeps_all files;
  means = new_means files s steps items new;
  told = new_told written s new;
}

pub doing_evaluates : (now : Session) (budget steps : ℕ) (item : TopItem) (items rest : List TopItem) (files_before files : Option Files) (before written : Option Text)
    → Doing now budget steps items (item ∷ rest) files_before files before written
    → (is_using item ≡ true) ⊎ (session_item (known_in (events_of now)) item ≡ true)
doing_evaluates now budget steps item items rest files_before files before written doing =
    script_law (events_of now) (subst (λ h. Good h (events_of now)) doing.here doing.good) doing.used (subst (λ h. all_loaded h (events_of now) doing.used ≡ true) doing.here doing.loaded)
    item (and_first _ _ doing.form)

uses_more : (used : List Text) (item : TopItem) → used ++ used_behind [] item ≡ used_behind used item
uses_more used (Using names) = refl
uses_more used (AbstractDef name parent) = append-nil used
uses_more used (StructDef mutable name parent fields) = append-nil used
uses_more used (Def m f ps code) = append-nil used
uses_more used (Declare name) = append-nil used
uses_more used (Const name e) = append-nil used
uses_more used (Directive m f types) = append-nil used
uses_more used (tree.Run s) = append-nil used

-- what a call did with the files as they are now is what it does with those at the beginning
goes_as_before : (files : Files) (now : Option Files) → Keeps files now → (item : TopItem) (s : State) (budget : ℕ) (result : Result (Option Ending) Stop) (new : State) (later : ℕ)
    → IfSome now (λ fs. Goes (run_item (use_from (readings fs)) item (run s budget)) result new later) → Goes (run_item (use_from (readings files)) item (run s budget)) result new later
goes_as_before files None kept item s budget result new later goes = elim kept [ ]
goes_as_before files (Some fs) kept item s budget result new later goes = subst (λ e. Goes e result new later) (kept_item files fs kept item (run s budget)) goes

at_run : (r : Run) (s : State) (budget : ℕ) → s ≡ r.state → budget ≡ r.left → r ≡ run s budget
at_run r s budget state left = ap (λ t. run t r.left) (sym state) ∙ ap (run s) (sym left)

means_on : (files_before files : Option Files) (s t : State) (budget budget' : ℕ) (rest : List TopItem) (item : TopItem) (whole : Files → Ended)
    → IfSome files_before (λ fs. Keeps fs files)
    → IfSome files_before (λ fs. whole fs ≡ run_items (use_from (readings fs)) (item ∷ rest) (run s budget))
    → IfSome files (λ fs. Goes (run_item (use_from (readings fs)) item (run s budget)) (Ok None) t budget')
    → IfSome files_before (λ fs. whole fs ≡ run_items (use_from (readings fs)) rest (run t budget'))
means_on None files s t budget budget' rest item whole keeps means goes = tt
means_on (Some fs) files s t budget budget' rest item whole keeps means goes =
    let here = goes_as_before fs files keeps item s budget (Ok None) t budget' goes in
    means
    ∙ goes_on (run_item (use_from (readings fs)) item (run s budget)) (run_items (use_from (readings fs)) rest) here.0
    ∙ ap (run_items (use_from (readings fs)) rest) (at_run _ t budget' here.1 here.2)

-- what is put behind what was put
put_on : (old printed next : Text) (done : Option Ending) (written now : Option Text) → Adds old printed written → IfSome written (λ w. PutsMore {T = Option Ending} printed next w (Ok done) now) → Adds old next now
put_on old printed next done written now was put =
    let here : PutsMore {T = Option Ending} printed next (old ++ printed) (Ok done) now = subst (λ w. IfSome w (λ o. PutsMore {T = Option Ending} printed next o (Ok done) now)) was put in
    here.2 ∙ ap Some (append_assoc old printed here.0 ∙ ap (λ t. old ++ t) (sym here.1))

puts_on : (before : Option Text) (printed next : Text) (done : Option Ending) (written now : Option Text) → IfSome before (λ old. Adds old printed written)
    → IfSome written (λ w. PutsMore {T = Option Ending} printed next w (Ok done) now) → IfSome before (λ old. Adds old next now)
puts_on None printed next ended written now was put = tt
puts_on (Some old) printed next ended written now was put = put_on old printed next ended written now was put

pub doing_on : (now next : Session) (budget later steps : ℕ) (item : TopItem) (items rest : List TopItem) (files_before files files' : Option Files) (before written written' : Option Text)
    → Doing now budget steps items (item ∷ rest) files_before files before written
    → StaysGood now next → AddsItem item now next → IfSome files (λ fs. Keeps fs files')
    → IfSome files (λ fs. Goes (run_item (use_from (readings fs)) item (run (state_seen now) budget)) (Ok None) (state_seen next) later)
    → IfSome written (λ old. PutsMore {T = Option Ending} now.printed next.printed old (Ok None) written')
    → Doing next later steps items rest files_before files' before written'
doing_on now next budget later steps item items rest files_before files files' before written written' doing stays adds keeps goes put = record {
  here = stays.here ∙ doing.here;
  good = stays.good;
  used = used_behind doing.used item;
  loaded = subst (λ names. all_loaded next.here (events_of next) names ≡ true) (uses_more doing.used item)
      (both_loaded next doing.used (used_behind [] item) (all_kept now next stays.kept doing.used doing.loaded) adds.loaded);
  form = subst (λ known. script_items known (used_behind doing.used item) rest ≡ true) (sym adds.known) (and_second _ _ doing.form);
  keeps = keeps_on files_before files files' doing.keeps keeps;
  means = means_on files_before files (state_seen now) (state_seen next) budget later rest item _ doing.keeps doing.means goes;
  told = puts_on before now.printed next.printed None written written' doing.told put;
}

-- ---- how they end

-- the ending of one item is that of all
over_all : (files : Files) (item : TopItem) (rest : List TopItem) (s t : State) (budget later : ℕ) (told : Ending) (whole : Ended)
    → whole ≡ run_items (use_from (readings files)) (item ∷ rest) (run s budget)
    → Goes (run_item (use_from (readings files)) item (run s budget)) (Ok (Some told)) t later → Goes whole (Ok (Some told)) t later
over_all files item rest s t budget later told whole means goes =
    subst (λ e. Goes e (Ok (Some told)) t later) (sym (means ∙ is_over (run_item (use_from (readings files)) item (run s budget)) (run_items (use_from (readings files)) rest) goes.0)) goes

module _ (now next : Session) (budget later steps : ℕ) (item : TopItem) (items rest : List TopItem) (files_before files : Option Files) (before written written' : Option Text) (told : Ending)
    (doing : Doing now budget steps items (item ∷ rest) files_before files before written)
    (goes : IfSome files (λ fs. Goes (run_item (use_from (readings fs)) item (run (state_seen now) budget)) (Ok (Some told)) (state_seen next) later))
    (put : IfSome written (λ old. PutsMore {T = Option Ending} now.printed next.printed old (Ok (Some told)) written')) where
  whole_over : (fs : Files) → files_before ≡ Some fs → Goes (meaning fs items steps) (Ok (Some told)) (state_seen next) later
  whole_over fs is =
      let keeps : Keeps fs files = subst (λ o. IfSome o (λ f. Keeps f files)) is doing.keeps in
      let means : meaning fs items steps ≡ run_items (use_from (readings fs)) (item ∷ rest) (run (state_seen now) budget) =
      subst (λ o. IfSome o (λ f. meaning f items steps ≡ run_items (use_from (readings f)) (item ∷ rest) (run (state_seen now) budget))) is doing.means in
      over_all fs item rest (state_seen now) (state_seen next) budget later told _ means (goes_as_before fs files keeps item (state_seen now) budget (Ok (Some told)) (state_seen next) later goes)

  added : IfSome before (λ old. Adds old next.printed written')
  added = puts_on before now.printed next.printed (Some told) written written' doing.told put

  ends_so : (fs : Files) → files_before ≡ Some fs → EndsAs (meaning fs items steps) next.printed told.line told.status
  ends_so fs is =
      let over = whole_over fs is in
      (sym (seen_printed next) ∙ ap (λ (s : State). s.printed) over.2, over.1.line, over.1.status)

  over_reaches : (fs : Option Files) → files_before ≡ fs → IfSome fs (λ f. Reaches (EndsAs (meaning f items steps)) (Ok told))
  over_reaches None is = tt
  over_reaches (Some fs) is = (next.printed, ends_so fs is)

  over_leads : (fs : Option Files) → files_before ≡ fs → (w : Option Text) → before ≡ w → IfSome fs (λ f. IfSome w (λ old. Leads (EndsAs (meaning f items steps)) old (Ok told) written'))
  over_leads None is w at = tt
  over_leads (Some fs) is None at = tt
  over_leads (Some fs) is (Some old) at = (next.printed, subst (λ o. IfSome o (λ x. Adds x next.printed written')) at added, ends_so fs is)

  pub doing_over_ends : IfSome files_before (λ f. Reaches (EndsAs (meaning f items steps)) (Ok told))
  doing_over_ends = over_reaches files_before refl

  pub doing_over_told : IfSome files_before (λ f. IfSome before (λ old. Leads (EndsAs (meaning f items steps)) old (Ok told) written'))
  doing_over_told = over_leads files_before refl before refl

module _ (now : Session) (budget steps : ℕ) (items : List TopItem) (files_before files : Option Files) (before written : Option Text) (told : Ending)
    (doing : Doing now budget steps items [] files_before files before written) (line : told.line ≡ []) (is_ok : told.status ≡ status.Ok) where
  end_so : (fs : Files) → files_before ≡ Some fs → EndsAs (meaning fs items steps) now.printed told.line told.status
  end_so fs is =
      let means : meaning fs items steps ≡ record { ending = AtEnd; last = run (state_seen now) budget } =
      subst (λ o. IfSome o (λ f. meaning f items steps ≡ run_items (use_from (readings f)) [] (run (state_seen now) budget))) is doing.means in (
        sym (seen_printed now) ∙ ap (λ (e : Ended). e.last.state.printed) (sym means),
        line ∙ ap (λ (e : Ended). ending_line e.ending) (sym means),
        is_ok ∙ ap (λ (e : Ended). status_of e.ending) (sym means),
      )

  end_leads : (fs : Option Files) → files_before ≡ fs → (w : Option Text) → before ≡ w → IfSome fs (λ f. IfSome w (λ old. Leads (EndsAs (meaning f items steps)) old (Ok told) written))
  end_leads None is w at = tt
  end_leads (Some fs) is None at = tt
  end_leads (Some fs) is (Some old) at = (now.printed, subst (λ o. IfSome o (λ x. Adds x now.printed written)) at doing.told, end_so fs is)

  pub doing_end_told : IfSome files_before (λ f. IfSome before (λ old. Leads (EndsAs (meaning f items steps)) old (Ok told) written))
  doing_end_told = end_leads files_before refl before refl

-- Where a call is stopped, what stands is a front of what the whole prints.

behind_all : (a b c d e : Text) → ((a ++ (b ++ c)) ++ d) ++ e ≡ (a ++ b) ++ (c ++ (d ++ e))
behind_all a b c d e = simp append_assoc

front_of : (put rest whole : Text) → whole ≡ put ++ rest → put ≡ take (length put) whole
front_of put rest whole is = sym (take-append_seam put rest) ∙ ap (take (length put)) (sym is)

module _ (now next : Session) (budget later steps : ℕ) (item : TopItem) (items rest : List TopItem) (files_before files : Option Files) (before written written' : Option Text) (why : Stop)
    (doing : Doing now budget steps items (item ∷ rest) files_before files before written)
    (goes : IfSome files (λ fs. Goes (run_item (use_from (readings fs)) item (run (state_seen now) budget)) (Err why) (state_seen next) later))
    (put : IfSome written (λ old. PutsMore {T = Option Ending} now.printed next.printed old (Err why) written')) where
  -- what the session has printed by then is a front of what the whole prints
  printed_front : (fs : Files) → files_before ≡ Some fs → (more : Text) × ((meaning fs items steps).last.state.printed ≡ next.printed ++ more)
  printed_front fs is =
      let keeps : Keeps fs files = subst (λ o. IfSome o (λ f. Keeps f files)) is doing.keeps in
      let means : meaning fs items steps ≡ run_items (use_from (readings fs)) (item ∷ rest) (run (state_seen now) budget) =
      subst (λ o. IfSome o (λ f. meaning f items steps ≡ run_items (use_from (readings f)) (item ∷ rest) (run (state_seen now) budget))) is doing.means in
      let one : (more : Text) × ((run_item (use_from (readings fs)) item (run (state_seen now) budget)).last.state.printed ≡ (state_seen next).printed ++ more) =
      goes_as_before fs files keeps item (state_seen now) budget (Err why) (state_seen next) later goes in
      let all = then_prints (readings fs) rest (run_item (use_from (readings fs)) item (run (state_seen now) budget)) in
      (one.0 ++ all.0, ap (λ (e : Ended). e.last.state.printed) means ∙ all.1 ∙ ap (λ t. t ++ all.0) (one.1 ∙ ap (λ t. t ++ one.0) (seen_printed next)) ∙ append_assoc next.printed one.0 all.0)

  stopped_leads : (old : Text) → Adds old now.printed written → (put : IfSome written (λ o. PutsMore {T = Option Ending} now.printed next.printed o (Err why) written'))
      → (fs : Files) → files_before ≡ Some fs → Leads (EndsAs (meaning fs items steps)) old (Err why) written'
  stopped_leads old was put fs is =
      let here : PutsMore {T = Option Ending} now.printed next.printed (old ++ now.printed) (Err why) written' =
      subst (λ w. IfSome w (λ o. PutsMore {T = Option Ending} now.printed next.printed o (Err why) written')) was put in
      let text = here.0 in
      let more = here.1 in
      let front = printed_front fs is in
      let whole : (meaning fs items steps).last.state.printed ≡ (now.printed ++ text) ++ (more ++ front.0) =
      front.1 ∙ ap (λ t. t ++ front.0) here.2 ∙ append_assoc now.printed (text ++ more) front.0 ∙ ap (λ t. now.printed ++ t) (append_assoc text more front.0)
      ∙ sym (append_assoc now.printed text (more ++ front.0)) in (
        now.printed ++ text,
        here.3 ∙ ap Some (append_assoc old now.printed text),
        λ printed line status e. (length (now.printed ++ text), front_of (now.printed ++ text) (more ++ front.0) printed (e.0 ∙ whole)),
      )

  stopped_told : (result : Result Ending Stop) → IsErr result → (fs : Option Files) → files_before ≡ fs → (w : Option Text) → before ≡ w
      → IfSome fs (λ f. IfSome w (λ old. Leads (EndsAs (meaning f items steps)) old result written'))
  stopped_told result err None is w at = tt
  stopped_told result err (Some fs) is None at = tt
  stopped_told (Ok e) err (Some fs) is (Some old) at = cc
  stopped_told (Err other) err (Some fs) is (Some old) at = stopped_leads old (subst (λ o. IfSome o (λ x. Adds x now.printed written)) at doing.told) put fs is

  pub doing_stopped_told : (result : Result Ending Stop) → IsErr result → IfSome files_before (λ f. IfSome before (λ old. Leads (EndsAs (meaning f items steps)) old result written'))
  doing_stopped_told result err = stopped_told result err files_before refl before refl

-- the same at places of a list

pub at_item : {X : Type 0} → (now : Session) (budget steps : ℕ) (f : X → TopItem) (xs : List X) (j : ℕ) (x : X) (files_before files : Option Files) (before written : Option Text)
    → j < length xs → x ≡ get_or xs j x → Doing now budget steps (map f xs) (map f (drop j xs)) files_before files before written
    → Doing now budget steps (map f xs) (f x ∷ map f (drop (j + 1) xs)) files_before files before written
at_item now budget steps f xs j x files_before files before written below is doing =
    subst (λ rest. Doing now budget steps (map f xs) rest files_before files before written) (rest_is f xs j x below is) doing

pub at_last : {X : Type 0} → (now : Session) (budget steps : ℕ) (f : X → TopItem) (xs : List X) (j : ℕ) (files_before files : Option Files) (before written : Option Text)
    → length xs ≤ j → Doing now budget steps (map f xs) (map f (drop j xs)) files_before files before written
    → Doing now budget steps (map f xs) [] files_before files before written
at_last now budget steps f xs j files_before files before written past doing =
    subst (λ rest. Doing now budget steps (map f xs) rest files_before files before written) (nothing_left f xs j past) doing
