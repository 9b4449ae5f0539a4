-- One more event, and more output.
use Rattle.std.proofs.Common.{◌≡◌, Bool, true, false, cond, List, [], ◌∷◌, ◌++◌, Option, Some, None, refl, sym, ap, ◌∙◌}
use Rattle.std.specs.Str.{bytes_eq}
use Rattle.std.specs.Option.{option_or}
use Rattle.pj_meaning.specs.Tree.{Text}
use Rattle.pj_meaning.specs.State.{with_printed}
use Rattle.pj_meaning.specs.Base.{start}
use Rattle.pj_session.specs.Events.{Event, Defines, Binds, Loads, with_event, state_of}
use Rattle.pj_session.specs.Things.{Calls, Holds, own_in, image_in}
use Rattle.pj_session.specs.Good.{Good, GoodEvent, GoodEvents, New}
use Rattle.pj_session.proofs.Texts.{bytes_eq-comm}
use Rattle.pj_session.proofs.Closed.{closed, one_more}

either : {A : Type 0} → (t : Bool) (x : A) (o p : Option A) → cond t (Some x) (option_or o p) ≡ option_or (cond t (Some x) o) p
either true x o p = refl
either false x o p = refl

own_append : (es fs : List Event) (name : Text) → own_in (es ++ fs) name ≡ option_or (own_in es name) (own_in fs name)
own_append [] fs name = refl
own_append (Defines f ps e ∷ es) fs name = ap (cond (bytes_eq f name) (Some (Calls (Some (ps, e))))) (own_append es fs name) ∙ either (bytes_eq f name) (Calls (Some (ps, e))) (own_in es name) (own_in fs name)
own_append (Binds x z ∷ es) fs name = ap (cond (bytes_eq x name) (Some (Holds z))) (own_append es fs name) ∙ either (bytes_eq x name) (Holds z) (own_in es name) (own_in fs name)
own_append (Loads held ∷ es) fs name = own_append es fs name

pub image_append : (es fs : List Event) (home : Text) → image_in (es ++ fs) home ≡ option_or (image_in es home) (image_in fs home)
image_append [] fs home = refl
image_append (Defines f ps e ∷ es) fs home = image_append es fs home
image_append (Binds x z ∷ es) fs home = image_append es fs home
image_append (Loads held ∷ es) fs home = ap (cond (bytes_eq held.content.name home) (Some held.content)) (image_append es fs home) ∙ either (bytes_eq held.content.name home) held.content (image_in es home) (image_in fs home)

-- a name that isn't found is not that of the first
apart : {A : Type 0} → (t : Bool) (x : A) (o : Option A) → cond t (Some x) o ≡ None → (t ≡ false) × (o ≡ None)
apart true x o e = cc
apart false x o e = (refl, e)

-- the event's own name isn't that of the later one
own_stays : (es : List Event) (e : Event) (name : Text) → own_in es name ≡ None → own_in (e ∷ []) name ≡ None → own_in (es ++ e ∷ []) name ≡ None
own_stays es e name none other = own_append es (e ∷ []) name ∙ ap (λ o. option_or o (own_in (e ∷ []) name)) none ∙ other

image_stays : (es : List Event) (e : Event) (home : Text) → image_in es home ≡ None → image_in (e ∷ []) home ≡ None → image_in (es ++ e ∷ []) home ≡ None
image_stays es e home none other = image_append es (e ∷ []) home ∙ ap (λ o. option_or o (image_in (e ∷ []) home)) none ∙ other

alone_none : {A : Type 0} → (a b : Text) (x : A) → bytes_eq a b ≡ false → cond (bytes_eq b a) (Some x) None ≡ None
alone_none a b x e = rw (bytes_eq-comm b a ∙ e) refl

new_stays : (x : Event) (es : List Event) (e : Event) → New x es → New e (x ∷ es) → New x (es ++ e ∷ []) × New e es
new_stays (Defines f ps b) es (Defines g qs c) n m = let a = apart (bytes_eq f g) (Calls (Some (ps, b))) (own_in es g) m in (own_stays es (Defines g qs c) f n (alone_none f g (Calls (Some (qs, c))) a.0), a.1)
new_stays (Defines f ps b) es (Binds g z) n m = let a = apart (bytes_eq f g) (Calls (Some (ps, b))) (own_in es g) m in (own_stays es (Binds g z) f n (alone_none f g (Holds z) a.0), a.1)
new_stays (Defines f ps b) es (Loads held) n m = (own_stays es (Loads held) f n refl, m)
new_stays (Binds f y) es (Defines g qs c) n m = let a = apart (bytes_eq f g) (Holds y) (own_in es g) m in (own_stays es (Defines g qs c) f n (alone_none f g (Calls (Some (qs, c))) a.0), a.1)
new_stays (Binds f y) es (Binds g z) n m = let a = apart (bytes_eq f g) (Holds y) (own_in es g) m in (own_stays es (Binds g z) f n (alone_none f g (Holds z) a.0), a.1)
new_stays (Binds f y) es (Loads held) n m = (own_stays es (Loads held) f n refl, m)
new_stays (Loads own) es (Defines g qs c) n m = (image_stays es (Defines g qs c) own.content.name n refl, m)
new_stays (Loads own) es (Binds g z) n m = (image_stays es (Binds g z) own.content.name n refl, m)
new_stays (Loads own) es (Loads held) n m =
    let a = apart (bytes_eq own.content.name held.content.name) own.content (image_in es held.content.name) m in
    (image_stays es (Loads held) own.content.name n (alone_none own.content.name held.content.name held.content a.0), a.1)

new_in_none : (e : Event) → New e []
new_in_none (Defines f ps b) = refl
new_in_none (Binds x z) = refl
new_in_none (Loads held) = refl

events_more : (here : Text) (es : List Event) (e : Event) → GoodEvents here es → GoodEvent here e → New e es → GoodEvents here (es ++ e ∷ [])
events_more here [] e good this new = (this, (new_in_none e, tt))
events_more here (x ∷ es) e good this new =
    let stays = new_stays x es e good.1.0 new in
    (good.0, (stays.0, events_more here es e good.1.1 this stays.1))

pub good_more : (here : Text) (es : List Event) (e : Event) → Good here es → GoodEvent here e → New e es → Good here (es ++ e ∷ [])
good_more here es e good this new = record { home = good.home; each = events_more here es e good.each this new }

pub state_more : (here : Text) (es : List Event) (e : Event) (printed : Text) → with_event (state_of here es printed) e ≡ state_of here (es ++ e ∷ []) printed
state_more here es e printed = sym (one_more (with_printed (start here) printed) es e)

-- output stands beside the events
pub state_printed : (here : Text) (es : List Event) (printed text : Text) → Good here es → with_printed (state_of here es printed) text ≡ state_of here es (printed ++ text)
state_printed here es printed text good =
    ap (λ s. with_printed s text) (closed here es printed good.each) ∙ sym (closed here es (printed ++ text) good.each)
