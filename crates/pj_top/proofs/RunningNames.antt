-- Lines of `using`: what a package that is used, and then each of a list, does to a session.
use Rattle.std.proofs.Common.{◌≡◌, ℕ, suc, ◌+◌, ◌<◌, ◌≤◌, Bool, true, false, ◌&&◌, List, [], ◌∷◌, ◌++◌, Option, Some, None, Result, Ok, Err, map, take, drop, length, refl, sym, ap, subst, ◌∙◌, append_assoc, arith}
use Rattle.std.proofs.Math.ListN.{get_or}
use Rattle.std.proofs.Math.Seq.{drop-cons}
use Rattle.std.specs.Option.{IfSome}
use Rattle.std.specs.Result.{IsErr}
use Rattle.std.proofs.lemmas.List.{drop_all, map-append, take_more}
use Rattle.std.proofs.lemmas.List.Folds.{list_all-append}
use Rattle.pj_meaning.specs.Tree.{Text, Using}
use Rattle.pj_meaning.specs.State.{State}
use Rattle.pj_meaning.specs.Outcome.{Run}
use Rattle.pj_meaning.specs.Script.{Ended, use_all}
use Rattle.pj_meaning.specs.Using.{use_from}
use Rattle.pj_outside.specs.Stored.{Files, Keeps}
use Rattle.pj_content.specs.Readings.{readings}
use Rattle.pj_session.specs.Events.{Event, Defines, Binds, Loads, with_event, after_events}
use Rattle.pj_session.specs.Good.{Good}
use Rattle.pj_session.specs.Seen.{events_of, state_seen}
use Rattle.pj_session.specs.SessionItems.{all_loaded}
use Rattle.pj_session.specs.States.{run}
use Rattle.pj_session.specs.Uses.{counts_loaded}
use Rattle.pj_session.specs.declared.state.Session.{Session}
use Rattle.pj_top.specs.Running.{Goes, OnlyLoads}
use Rattle.pj_top.specs.declared.stop.Stop.{Stop}
use Rattle.pj_top.specs.declared.stop.Ending.{Ending}
use Rattle.pj_top.proofs.Running.{goes_on, is_over, item_prints, name_prints, kept_uses}

-- ---- what was printed

after_printed : (s : State) (es : List Event) → (after_events s es).printed ≡ s.printed
after_printed s [] = refl
after_printed s (Defines name ps e ∷ es) = after_printed (with_event s (Defines name ps e)) es
after_printed s (Binds name z ∷ es) = after_printed (with_event s (Binds name z)) es
after_printed s (Loads held ∷ es) = after_printed (with_event s (Loads held)) es

pub seen_printed : (s : Session) → (state_seen s).printed ≡ s.printed
seen_printed s = after_printed _ (events_of s)

-- ---- one package

-- what a session has printed that has printed no more is a front of what the meaning prints
pub name_front : (files : Files) (name : Text) (old new : Session) (left : ℕ) → new.printed ≡ old.printed
    → (more : Text) × ((use_from (readings files) name (run (state_seen old) left)).last.state.printed ≡ (state_seen new).printed ++ more)
name_front files name old new left same =
    let all = name_prints (readings files) name (run (state_seen old) left) in
    (all.0, all.1 ∙ ap (λ t. t ++ all.0) (seen_printed old ∙ sym same ∙ sym (seen_printed new)))

-- with whichever files
pub name_front_files : (files : Option Files) (name : Text) (old new : Session) (left_old left : ℕ) (result : Result (Option Ending) Stop) → IsErr result → new.printed ≡ old.printed
    → IfSome files (λ fs. Goes (use_from (readings fs) name (run (state_seen old) left_old)) result (state_seen new) left)
name_front_files None name old new left_old left result err same = tt
name_front_files (Some fs) name old new left_old left (Ok came) err same = cc
name_front_files (Some fs) name old new left_old left (Err why) err same = name_front fs name old new left_old same

-- ---- several packages

pub loads_nothing : (s : Session) → Good s.here (events_of s) → OnlyLoads s s
loads_nothing s good = record { stays = record { good = good; here = refl; kept = λ other is. is }; known = refl; printed = refl }

pub loads_on : (a b c : Session) → OnlyLoads a b → OnlyLoads b c → OnlyLoads a c
loads_on a b c first then = record {
  stays = record { good = then.stays.good; here = then.stays.here ∙ first.stays.here; kept = λ other is. then.stays.kept other (first.stays.kept other is) };
  known = then.known ∙ first.known;
  printed = then.printed ∙ first.printed;
}

and_both : (a b : Bool) → a ≡ true → b ≡ true → (a && b) ≡ true
and_both true b e h = h
and_both false b e h = cc

pub and_first : (a b : Bool) → (a && b) ≡ true → a ≡ true
and_first true b e = refl
and_first false b e = cc

pub and_second : (a b : Bool) → (a && b) ≡ true → b ≡ true
and_second true b e = e
and_second false b e = cc

-- packages that are loaded stay so
pub all_kept : (a b : Session) → ((other : Text) → counts_loaded a.here (events_of a) other ≡ true → counts_loaded b.here (events_of b) other ≡ true) → (names : List Text)
    → all_loaded a.here (events_of a) names ≡ true → all_loaded b.here (events_of b) names ≡ true
all_kept a b kept [] all = refl
all_kept a b kept (name ∷ names) all =
    and_both _ _ (kept name (and_first _ _ all)) (all_kept a b kept names (and_second _ _ all))

pub both_loaded : (s : Session) (xs ys : List Text) → all_loaded s.here (events_of s) xs ≡ true → all_loaded s.here (events_of s) ys ≡ true → all_loaded s.here (events_of s) (xs ++ ys) ≡ true
both_loaded s xs ys first then = list_all-append (counts_loaded s.here (events_of s)) xs ys ∙ and_both _ _ first then

one_loaded : (s : Session) (name : Text) → counts_loaded s.here (events_of s) name ≡ true → all_loaded s.here (events_of s) (name ∷ []) ≡ true
one_loaded s name loaded = and_both _ _ loaded refl

-- The names before this place were used: what is left to do by the meaning is what is left of the whole.
pub record Naming (before now : Session) (left_before left : ℕ) (names done rest : List Text) (files_before files : Option Files) : Type 0 where
  pub split : names ≡ done ++ rest
  pub loads : OnlyLoads before now
  pub loaded : all_loaded now.here (events_of now) done ≡ true
  pub keeps : IfSome files_before (λ fs. Keeps fs files)
  pub means : IfSome files_before (λ fs. use_all (use_from (readings fs)) names (run (state_seen before) left_before) ≡ use_all (use_from (readings fs)) rest (run (state_seen now) left))

nothing_changes : (files : Option Files) → IfSome files (λ fs. Keeps fs files)
nothing_changes None = tt
nothing_changes (Some fs) = λ name. refl

pub keeps_on : (a b c : Option Files) → IfSome a (λ fs. Keeps fs b) → IfSome b (λ fs. Keeps fs c) → IfSome a (λ fs. Keeps fs c)
keeps_on None b c first then = tt
keeps_on (Some x) None c first then = elim first [ ]
keeps_on (Some x) (Some y) None first then = elim then [ ]
keeps_on (Some x) (Some y) (Some z) first then = λ name. then name ∙ first name

means_all : (files : Option Files) (s : Session) (left : ℕ) (names : List Text)
    → IfSome files (λ fs. use_all (use_from (readings fs)) names (run (state_seen s) left) ≡ use_all (use_from (readings fs)) names (run (state_seen s) left))
means_all None s left names = tt
means_all (Some fs) s left names = refl

pub naming_begins : (s : Session) (left : ℕ) (names : List Text) (files : Option Files) → Good s.here (events_of s) → Naming s s left left names [] names files files
naming_begins s left names files good =
    record { split = refl; loads = loads_nothing s good; loaded = refl; keeps = nothing_changes files; means = means_all files s left names }

-- what the meaning leaves, by its parts
at_run : (r : Run) (s : State) (left : ℕ) → s ≡ r.state → left ≡ r.left → r ≡ run s left
at_run r s left state budget = ap (λ t. run t r.left) (sym state) ∙ ap (run s) (sym budget)

-- what a call did with the files as they are now is what it does with those at the beginning
pub goes_as_before : (files : Files) (now : Option Files) → Keeps files now → (name : Text) (s : State) (left : ℕ) (result : Result (Option Ending) Stop) (new : State) (later : ℕ)
    → IfSome now (λ fs. Goes (use_from (readings fs) name (run s left)) result new later) → Goes (use_from (readings files) name (run s left)) result new later
goes_as_before files None kept name s left result new later goes = elim kept [ ]
goes_as_before files (Some fs) kept name s left result new later goes = subst (λ e. Goes e result new later) (kept_uses files fs kept name (run s left)) goes

means_on : (files_before files : Option Files) (s t : State) (left left' : ℕ) (names rest : List Text) (name : Text) (whole : Files → Ended)
    → IfSome files_before (λ fs. Keeps fs files)
    → IfSome files_before (λ fs. whole fs ≡ use_all (use_from (readings fs)) (name ∷ rest) (run s left))
    → IfSome files (λ fs. Goes (use_from (readings fs) name (run s left)) (Ok None) t left')
    → IfSome files_before (λ fs. whole fs ≡ use_all (use_from (readings fs)) rest (run t left'))
means_on None files s t left left' names rest name whole keeps means goes = tt
means_on (Some fs) files s t left left' names rest name whole keeps means goes =
    let here = goes_as_before fs files keeps name s left (Ok None) t left' goes in
    means
    ∙ goes_on (use_from (readings fs) name (run s left)) (use_all (use_from (readings fs)) rest) here.0
    ∙ ap (use_all (use_from (readings fs)) rest) (at_run _ t left' here.1 here.2)

pub naming_on : (before now next : Session) (left_before left later : ℕ) (names done rest : List Text) (name : Text) (files_before files files' : Option Files)
    → Naming before now left_before left names done (name ∷ rest) files_before files
    → OnlyLoads now next → counts_loaded next.here (events_of next) name ≡ true → IfSome files (λ fs. Keeps fs files')
    → IfSome files (λ fs. Goes (use_from (readings fs) name (run (state_seen now) left)) (Ok None) (state_seen next) later)
    → Naming before next left_before later names (done ++ name ∷ []) rest files_before files'
naming_on before now next left_before left later names done rest name files_before files files' naming loads loaded keeps goes = record {
  split = naming.split ∙ sym (append_assoc done (name ∷ []) rest);
  loads = loads_on before now next naming.loads loads;
  loaded = both_loaded next done (name ∷ []) (all_kept now next loads.stays.kept done naming.loaded) (one_loaded next name loaded);
  keeps = keeps_on files_before files files' naming.keeps keeps;
  means = means_on files_before files (state_seen now) (state_seen next) left later names rest name _ naming.keeps naming.means goes;
}

-- the ending of one package is that of all
over_all : (files : Files) (name : Text) (rest : List Text) (s t : State) (left later : ℕ) (told : Ending) (whole : Ended)
    → whole ≡ use_all (use_from (readings files)) (name ∷ rest) (run s left)
    → Goes (use_from (readings files) name (run s left)) (Ok (Some told)) t later → Goes whole (Ok (Some told)) t later
over_all files name rest s t left later told whole means goes =
    subst (λ e. Goes e (Ok (Some told)) t later) (sym (means ∙ is_over (use_from (readings files) name (run s left)) (use_all (use_from (readings files)) rest) goes.0)) goes

pub naming_over : (before now next : Session) (left_before left later : ℕ) (names done rest : List Text) (name : Text) (files_before files : Option Files) (told : Ending)
    → Naming before now left_before left names done (name ∷ rest) files_before files
    → IfSome files (λ fs. Goes (use_from (readings fs) name (run (state_seen now) left)) (Ok (Some told)) (state_seen next) later)
    → IfSome files_before (λ fs. Goes (use_all (use_from (readings fs)) names (run (state_seen before) left_before)) (Ok (Some told)) (state_seen next) later)
naming_over before now next left_before left later names done rest name None files told naming goes = tt
naming_over before now next left_before left later names done rest name (Some fs) files told naming goes =
    over_all fs name rest (state_seen now) (state_seen next) left later told _ naming.means (goes_as_before fs files naming.keeps name (state_seen now) left (Ok (Some told)) (state_seen next) later goes)

names_front : (files : Files) (names : List Text) (old new : Session) (left : ℕ) → new.printed ≡ old.printed
    → (more : Text) × ((use_all (use_from (readings files)) names (run (state_seen old) left)).last.state.printed ≡ (state_seen new).printed ++ more)
names_front files names old new left same =
    let all = item_prints (readings files) (Using names) (run (state_seen old) left) in
    (all.0, all.1 ∙ ap (λ t. t ++ all.0) (seen_printed old ∙ sym same ∙ sym (seen_printed new)))

pub names_front_files : (files : Option Files) (names : List Text) (old new : Session) (left_old left : ℕ) (result : Result (Option Ending) Stop) → IsErr result → new.printed ≡ old.printed
    → IfSome files (λ fs. Goes (use_all (use_from (readings fs)) names (run (state_seen old) left_old)) result (state_seen new) left)
names_front_files None names old new left_old left result err same = tt
names_front_files (Some fs) names old new left_old left (Ok came) err same = cc
names_front_files (Some fs) names old new left_old left (Err why) err same = names_front fs names old new left_old same

-- ---- lists from a place on

pub rest_is : {X Y : Type 0} (f : X → Y) (xs : List X) (j : ℕ) (x : X) → j < length xs → x ≡ get_or xs j x → map f (drop j xs) ≡ f x ∷ map f (drop (j + 1) xs)
rest_is f xs j x below is =
    let more : j + 1 ≡ suc j = omega arith in
    rw more (ap (map f) (drop-cons xs j x below) ∙ ap (λ y. f y ∷ map f (drop (suc j) xs)) (sym is))

pub nothing_left : {X Y : Type 0} (f : X → Y) (xs : List X) (j : ℕ) → length xs ≤ j → map f (drop j xs) ≡ []
nothing_left f xs j past = ap (map f) (drop_all j xs past)

pub first_is : {X Y : Type 0} (f : X → Y) (xs : List X) (j : ℕ) (x : X) → j < length xs → x ≡ get_or xs j x → map f (take (j + 1) xs) ≡ map f (take j xs) ++ f x ∷ []
first_is f xs j x below is =
    ap (map f) (take_more xs j x below ∙ ap (λ y. take j xs ++ y ∷ []) (sym is)) ∙ map-append f (take j xs) (x ∷ [])

-- the same at places of a list

pub at_name : {X : Type 0} → (before now : Session) (left_before left : ℕ) (f : X → Text) (xs : List X) (j : ℕ) (x : X) (name : Text) (files_before files : Option Files)
    → j < length xs → x ≡ get_or xs j x → name ≡ f x → Naming before now left_before left (map f xs) (map f (take j xs)) (map f (drop j xs)) files_before files
    → Naming before now left_before left (map f xs) (map f (take j xs)) (name ∷ map f (drop (j + 1) xs)) files_before files
at_name before now left_before left f xs j x name files_before files below is named naming =
    subst (λ rest. Naming before now left_before left (map f xs) (map f (take j xs)) rest files_before files)
    (rest_is f xs j x below is ∙ ap (λ n. n ∷ map f (drop (j + 1) xs)) (sym named)) naming

pub naming_from : {X : Type 0} → (before now next : Session) (left_before left later : ℕ) (f : X → Text) (xs : List X) (j : ℕ) (x : X) (name : Text) (files_before files files' : Option Files)
    → j < length xs → x ≡ get_or xs j x → name ≡ f x → Naming before now left_before left (map f xs) (map f (take j xs)) (map f (drop j xs)) files_before files
    → OnlyLoads now next → counts_loaded next.here (events_of next) name ≡ true → IfSome files (λ fs. Keeps fs files')
    → IfSome files (λ fs. Goes (use_from (readings fs) name (run (state_seen now) left)) (Ok None) (state_seen next) later)
    → Naming before next left_before later (map f xs) (map f (take (j + 1) xs)) (map f (drop (j + 1) xs)) files_before files'
naming_from before now next left_before left later f xs j x name files_before files files' below is named naming loads loaded keeps goes =
    subst (λ done. Naming before next left_before later (map f xs) done (map f (drop (j + 1) xs)) files_before files')
    (ap (λ n. map f (take j xs) ++ n ∷ []) named ∙ sym (first_is f xs j x below is))
    (naming_on before now next left_before left later (map f xs) (map f (take j xs)) (map f (drop (j + 1) xs)) name files_before files files'
    (at_name before now left_before left f xs j x name files_before files below is named naming) loads loaded keeps goes)
