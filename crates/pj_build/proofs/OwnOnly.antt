-- A session in which no image is loaded has what the module that runs has of its own.
use Rattle.std.proofs.Common.{◌≡◌, suc, Bool, true, false, ◌&&◌, ◌||◌, List, [], ◌∷◌, length, refl, ap}
use Rattle.std.specs.Prelude.{is_some}
use Rattle.std.specs.Str.{bytes_eq}
use Rattle.pj_meaning.specs.Tree.{Text}
use Rattle.pj_session.specs.Events.{Event, Defines, Binds, Loads}
use Rattle.pj_session.specs.Good.{Good, GoodEvents}
use Rattle.pj_session.specs.Merged.{merged, is_ordered}
use Rattle.pj_session.specs.Things.{image_in}
use Rattle.pj_session.specs.Uses.{builds, counts_loaded, image_count}
use Rattle.pj_session.specs.declared.own.Own.{Own}
use Rattle.pj_session.specs.declared.own.Own.TheVariants as own
use Rattle.pj_session.specs.declared.package.Package.{Package}
use Rattle.pj_session.specs.declared.own.Kind.{Kind}
use Rattle.pj_session.specs.declared.own.Kind.TheVariants as kind
use Rattle.pj_session.proofs.Texts.{text_itself}
use Rattle.pj_build.specs.Own.{own_event, own_events}

-- ---- nothing was loaded where nothing but the module that runs counts as loaded

none_counted : (here : Text) (events : List Event) → GoodEvents here events → ((other : Text) → bytes_eq here other ≡ false → is_some (image_in events other) ≡ false) → image_count events ≡ 0
none_counted here [] good h = refl
none_counted here (Defines f ps e ∷ es) good h = none_counted here es good.1.1 h
none_counted here (Binds x z ∷ es) good h = none_counted here es good.1.1 h
none_counted here (Loads held ∷ es) good h =
    let n = held.content.name in
    let there : is_some (image_in (Loads held ∷ es) n) ≡ true = rw (text_itself n) refl in
    let gone = h n good.0.not_here in
    absurd cc

only_here : (some builds equal : Bool) → equal ≡ false → (some || (builds && equal)) ≡ (false || (builds && equal)) → some ≡ false
only_here false builds equal differ e = refl
only_here true builds true differ e = absurd cc
only_here true true false differ e = absurd cc
only_here true false false differ e = absurd cc

pub none_loaded : (here : Text) (events : List Event) → Good here events → ((other : Text) → counts_loaded here events other ≡ counts_loaded here [] other) → image_count events ≡ 0
none_loaded here events good h =
    none_counted here events good.each (λ other differ. only_here (is_some (image_in events other)) (builds here) (bytes_eq here other) differ (h other))

-- ---- the events are the own ones, one for each name and thing

pub own_only : (order : List Kind) (names : List Text) (things : List Own) (images : List Package) → is_ordered order names things images ≡ true → image_count (merged order names things images) ≡ 0
    → merged order names things images ≡ own_events names things
own_only [] [] [] [] fits none = refl
own_only [] (n ∷ names) things images fits none = absurd cc
own_only [] [] (t ∷ things) images fits none = absurd cc
own_only [] [] [] (p ∷ images) fits none = absurd cc
own_only (kind.Own ∷ order) [] things images fits none = absurd cc
own_only (kind.Own ∷ order) (n ∷ names) [] images fits none = absurd cc
own_only (kind.Own ∷ order) (n ∷ names) (own.Function d ∷ things) images fits none = ap (λ es. own_event n (own.Function d) ∷ es) (own_only order names things images fits none)
own_only (kind.Own ∷ order) (n ∷ names) (own.Constant z ∷ things) images fits none = ap (λ es. own_event n (own.Constant z) ∷ es) (own_only order names things images fits none)
own_only (kind.Image ∷ order) names things [] fits none = absurd cc
own_only (kind.Image ∷ order) names things (p ∷ images) fits none = absurd cc

pub as_many : (order : List Kind) (names : List Text) (things : List Own) (images : List Package) → is_ordered order names things images ≡ true → length names ≡ length things
as_many [] [] [] [] fits = refl
as_many [] (n ∷ names) things images fits = absurd cc
as_many [] [] (t ∷ things) images fits = absurd cc
as_many [] [] [] (p ∷ images) fits = absurd cc
as_many (kind.Own ∷ order) [] things images fits = absurd cc
as_many (kind.Own ∷ order) (n ∷ names) [] images fits = absurd cc
as_many (kind.Own ∷ order) (n ∷ names) (t ∷ things) images fits = ap suc (as_many order names things images fits)
as_many (kind.Image ∷ order) names things [] fits = absurd cc
as_many (kind.Image ∷ order) names things (p ∷ images) fits = as_many order names things images fits
