-- What is known of the state after good events: Base's part, what is loaded, and what a name means where it is written.
use Rattle.std.proofs.Common.{◌≡◌, ℕ, ◌==◌, Bool, true, false, cond, ◌&&◌, ◌||◌, List, [], ◌∷◌, Result, Ok, Err, Option, Some, None, find, length, refl, sym, ap, subst, ◌∙◌, arith}
use Rattle.std.specs.Prelude.{is_some}
use Rattle.std.specs.List.{list_any, list_all}
use Rattle.std.specs.Str.{bytes_eq}
use Rattle.std.proofs.lemmas.Bool.Decides.{nat_tests}
use Rattle.pj_meaning.specs.Tree.{Text}
use Rattle.pj_meaning.specs.Names.{id, base_name}
use Rattle.pj_meaning.specs.Values.{Whole}
use Rattle.pj_meaning.specs.State.{State, Role, FunctionName, Binding, role_in, role_of, or_role, is_loaded}
use Rattle.pj_meaning.specs.Outcome.{Error, Undefined, ModuleNotLoaded}
use Rattle.pj_meaning.specs.Lookup.{role_at, role_or, named_home}
use Rattle.pj_meaning.specs.Base.{base_bindings}
use Rattle.pj_meaning.specs.Content.{Made, Content, held_in}
use Rattle.pj_words.specs.Words.{base_names, is_among, is_base_name}
use Rattle.pj_session.specs.States.{BaseLike}
use Rattle.pj_session.specs.Events.{Parts, parts_of, Event, Defines, Binds, Loads}
use Rattle.pj_session.specs.Things.{Thing, Calls, Holds, number_of, made_for, bound_in, has_function, thing_of, own_in, image_in, image_thing, thing_in, has_package, method_for, RoleAs}
use Rattle.pj_session.specs.Good.{Good, GoodEvents, PlainParts, PlainMethods, Plainly}
use Rattle.pj_session.specs.Items.{may_name, thing_or, thing_at}
use Rattle.pj_session.proofs.Texts.{same_text, text_itself, bytes_eq-comm, never_true, not_both, and_left, and_right, not_true}
use Rattle.pj_session.proofs.Closed.{images_in, closed_state}
use Rattle.pj_session.proofs.Roles.{role_means, base_role}
use Rattle.pj_session.proofs.Picks.{picks_base}

-- names of Base

not_of_base : (name w : Text) → is_base_name name ≡ false → is_base_name w ≡ true → bytes_eq w name ≡ false
not_of_base name w free of_base =
    never_true (bytes_eq w name) (λ e. not_both (is_base_name name) (subst (λ t. is_base_name t ≡ true) (same_text w name e) of_base) free)

unbound : (name : Text) (bs : List Binding) → list_all (λ b. is_base_name b.name) bs ≡ true → is_base_name name ≡ false → role_of bs base_name name ≡ None
unbound name [] all free = refl
unbound name (b ∷ bs) all free =
    skipped (bytes_eq b.home base_name) (not_of_base name b.name free (and_left (is_base_name b.name) _ all)) (unbound name bs (and_right (is_base_name b.name) _ all) free)
  where
    skipped : (t : Bool) → bytes_eq b.name name ≡ false → role_of bs base_name name ≡ None → role_in (cond (t && bytes_eq b.name name) (Some b) (find (λ c. bytes_eq c.home base_name && bytes_eq c.name name) bs)) ≡ None
    skipped true other rest = rw other rest
    skipped false other rest = rest

pub not_in_base : (name : Text) → is_base_name name ≡ false → role_of base_bindings base_name name ≡ None
unfolding base_names is_among
not_in_base name free = unbound name base_bindings refl free

pub not_own : (here name : Text) (es : List Event) → GoodEvents here es → is_base_name name ≡ true → own_in es name ≡ None
not_own here name [] good of_base = refl
not_own here name (Defines f ps e ∷ es) good of_base =
    rw (bytes_eq-comm f name ∙ not_of_base f name good.0.free of_base) (not_own here name es good.1.1 of_base)
not_own here name (Binds x z ∷ es) good of_base =
    rw (bytes_eq-comm x name ∙ not_of_base x name good.0 of_base) (not_own here name es good.1.1 of_base)
not_own here name (Loads held ∷ es) good of_base = not_own here name es good.1.1 of_base

-- the methods' expressions are plain

abbrev pub PlainThing : Option Thing → Type 0
PlainThing None = Unit {0}
PlainThing (Some (Holds z)) = Unit {0}
PlainThing (Some (Calls None)) = Unit {0}
PlainThing (Some (Calls (Some d))) = PlainParts d

made_plain : (c : Content) (ms : List Made) (name : Text) → PlainMethods c ms → PlainThing (Some (Calls (made_for name ms)))
made_plain c [] name plain = tt
made_plain c (m ∷ ms) name plain = one (bytes_eq m.fun.name name) (made_plain c ms name plain.1.1)
  where
    one : (t : Bool) → PlainThing (Some (Calls (made_for name ms))) → PlainThing (Some (Calls (cond t (Some (parts_of m.code)) (made_for name ms))))
    one true rest = plain.0.plain
    one false rest = rest

bound_plain : (name : Text) (bs : List Binding) → PlainThing (bound_in name bs)
bound_plain name [] = tt
bound_plain name (b ∷ bs) = one (bytes_eq b.name name) (bound_plain name bs)
  where
    one : (t : Bool) → PlainThing (bound_in name bs) → PlainThing (cond t (Some (Holds (number_of b.role))) (bound_in name bs))
    one true rest = tt
    one false rest = rest

image_plain : (here : Text) (c : Content) (name : Text) → Plainly here c → PlainThing (thing_of c name)
image_plain here c name plain = one (has_function c name)
  where
    one : (t : Bool) → PlainThing (cond t (Some (Calls (made_for name c.methods))) (bound_in name c.bindings))
    one true = made_plain c c.methods name plain.methods
    one false = bound_plain name c.bindings

own_plain : (here name : Text) (es : List Event) → GoodEvents here es → PlainThing (own_in es name)
own_plain here name [] good = tt
own_plain here name (Defines f ps e ∷ es) good = one (bytes_eq f name) (own_plain here name es good.1.1)
  where
    one : (t : Bool) → PlainThing (own_in es name) → PlainThing (cond t (Some (Calls (Some (ps, e)))) (own_in es name))
    one true rest = good.0.plain
    one false rest = rest
own_plain here name (Binds x z ∷ es) good = one (bytes_eq x name) (own_plain here name es good.1.1)
  where
    one : (t : Bool) → PlainThing (own_in es name) → PlainThing (cond t (Some (Holds z)) (own_in es name))
    one true rest = tt
    one false rest = rest
own_plain here name (Loads held ∷ es) good = own_plain here name es good.1.1

loaded_plain : (here home name : Text) (es : List Event) → GoodEvents here es → PlainThing (image_thing (image_in es home) name)
loaded_plain here home name [] good = tt
loaded_plain here home name (Defines f ps e ∷ es) good = loaded_plain here home name es good.1.1
loaded_plain here home name (Binds x z ∷ es) good = loaded_plain here home name es good.1.1
loaded_plain here home name (Loads held ∷ es) good = one (bytes_eq held.content.name home) (loaded_plain here home name es good.1.1)
  where
    one : (t : Bool) → PlainThing (image_thing (image_in es home) name) → PlainThing (image_thing (cond t (Some held.content) (image_in es home)) name)
    one true rest = image_plain here held.content name good.0
    one false rest = rest

pub thing_plain : (here home name : Text) (es : List Event) → GoodEvents here es → PlainThing (thing_in here es home name)
thing_plain here home name es good = one (bytes_eq here home)
  where
    one : (t : Bool) → PlainThing (cond t (own_in es name) (image_thing (image_in es home) name))
    one true = own_plain here name es good
    one false = loaded_plain here home name es good

-- a method that so many integers call has as many parameters

abbrev pub PlainFor : ℕ → Option Parts → Type 0
PlainFor n None = Unit {0}
PlainFor n (Some d) = PlainParts d × (n ≡ length d.0)

as_many : (a b : ℕ) → (a == b) ≡ true → b ≡ a
as_many a b e = grind (arith, nat_tests)

pub method_plain : (n : ℕ) (o : Option Thing) → PlainThing o → PlainFor n (method_for n o)
method_plain n None plain = tt
method_plain n (Some (Holds z)) plain = tt
method_plain n (Some (Calls None)) plain = tt
method_plain n (Some (Calls (Some d))) plain = one (length d.0 == n) refl
  where
    one : (t : Bool) → (length d.0 == n) ≡ t → PlainFor n (cond t (Some d) None)
    one true e = (plain, as_many (length d.0) n e)
    one false e = tt

-- names where they are written

pub images_loaded : (es : List Event) (home : Text) → list_any (λ image. bytes_eq image.name home) (images_in es) ≡ is_some (image_in es home)
images_loaded [] home = refl
images_loaded (Defines f ps e ∷ es) home = images_loaded es home
images_loaded (Binds x z ∷ es) home = images_loaded es home
images_loaded (Loads held ∷ es) home = one (bytes_eq held.content.name home) (images_loaded es home)
  where
    one : (t : Bool) → list_any (λ image. bytes_eq image.name home) (images_in es) ≡ is_some (image_in es home)
        → (t || list_any (λ image. bytes_eq image.name home) (images_in es)) ≡ is_some (cond t (Some held.content) (image_in es home))
    one true rest = refl
    one false rest = rest

-- what a name means, beside what it is
abbrev pub RoleOr : Text → Text → Result Thing Error → Result Role Error → Type 0
RoleOr home name (Err e) role = role ≡ Err e
RoleOr home name (Ok (Calls d)) role = role ≡ Ok (FunctionName (id home name))
RoleOr home name (Ok (Holds z)) role = (r : Role) × ((role ≡ Ok r) × (held_in r ≡ Some (Whole z)))

from_role : (home name : Text) (o : Option Thing) (r : Option Role) (e : Error) → RoleAs home name o r → RoleOr home name (thing_or o e) (role_or r e)
from_role home name None r e is = rw is refl
from_role home name (Some (Calls d)) r e is = rw is refl
from_role home name (Some (Holds z)) None e is = cc
from_role home name (Some (Holds z)) (Some role) e is = (role, (refl, is))

pub thing_there : (here : Text) (es : List Event) (m name : Text) (thing : Thing) → thing_at here es m name ≡ Ok thing → thing_in here es (named_home here m) name ≡ Some thing
thing_there here es m name thing is = one (has_package here es (named_home here m)) (thing_in here es (named_home here m) name) is
  where
    one : (t : Bool) (o : Option Thing) → cond t (thing_or o (Undefined (named_home here m) name)) (Err (ModuleNotLoaded (named_home here m))) ≡ Ok thing → o ≡ Some thing
    one true None e = cc
    one true (Some x) e = let same : x ≡ thing = cc in ap Some same
    one false o e = cc

pub not_base_home : (here m name : Text) → bytes_eq here base_name ≡ false → may_name m name ≡ true → bytes_eq base_name (named_home here m) ≡ false
not_base_home here [] name other may = bytes_eq-comm base_name here ∙ other
not_base_home here (c ∷ cs) name other may = bytes_eq-comm base_name (c ∷ cs) ∙ not_true (bytes_eq (c ∷ cs) base_name) may

module _ (here : Text) (es : List Event) (printed : Text) (good : Good here es) where
  abbrev s : State
  s = closed_state here es printed

  pub like : BaseLike s
  like = record {
    types = refl;
    objects = refl;
    roles = λ name. base_role here name es good.each good.home;
    picks = λ name args. picks_base here name args es good.each good.home;
  }

  pub loaded : (home : Text) → is_loaded s home ≡ has_package here es home
  loaded home = ap (λ b. bytes_eq home base_name || (bytes_eq home here || b)) (images_loaded es home)

  pub base_unbound : (name : Text) → is_base_name name ≡ false → role_of s.bindings base_name name ≡ None
  base_unbound name free = base_role here name es good.each good.home ∙ not_in_base name free

  alone : (o : Option Role) → or_role o None ≡ o
  alone None = refl
  alone (Some r) = refl

  pub named_at : (m name : Text) → may_name m name ≡ true → RoleOr (named_home here m) name (thing_at here es m name) (role_at s here m name)
  named_at [] name may =
      let there : has_package here es here ≡ true = rw (good.home, text_itself here) refl in
      let role = ap (or_role (role_of s.bindings here name)) (base_unbound name (not_true (is_base_name name) may)) ∙ alone (role_of s.bindings here name) in
      let means = role_means here here name es good.each (bytes_eq-comm base_name here ∙ good.home) in
      rw there (subst (λ r. RoleOr here name (thing_or (thing_in here es here name) (Undefined here name)) (role_or r (Undefined here name))) (sym role)
      (from_role here name (thing_in here es here name) (role_of s.bindings here name) (Undefined here name) means))
  named_at (c ∷ cs) name may =
      let other = bytes_eq-comm base_name (c ∷ cs) ∙ not_true (bytes_eq (c ∷ cs) base_name) may in
      subst (λ b. RoleOr (c ∷ cs) name (thing_at here es (c ∷ cs) name) (cond b (role_or (role_of s.bindings (c ∷ cs) name) (Undefined (c ∷ cs) name)) (Err (ModuleNotLoaded (c ∷ cs)))))
      (sym (loaded (c ∷ cs)))
      (one (has_package here es (c ∷ cs)) (role_means here (c ∷ cs) name es good.each other))
    where
      one : (t : Bool) → RoleAs (c ∷ cs) name (thing_in here es (c ∷ cs) name) (role_of s.bindings (c ∷ cs) name)
          → RoleOr (c ∷ cs) name (cond t (thing_or (thing_in here es (c ∷ cs) name) (Undefined (c ∷ cs) name)) (Err (ModuleNotLoaded (c ∷ cs))))
          (cond t (role_or (role_of s.bindings (c ∷ cs) name) (Undefined (c ∷ cs) name)) (Err (ModuleNotLoaded (c ∷ cs))))
      one true means = from_role (c ∷ cs) name (thing_in here es (c ∷ cs) name) (role_of s.bindings (c ∷ cs) name) (Undefined (c ∷ cs) name) means
      one false means = refl

  pub base_free : (name : Text) → is_base_name name ≡ true → role_of s.bindings here name ≡ None
  base_free name of_base =
      rw (text_itself here, not_own here name es good.each of_base) at (role_means here here name es good.each (bytes_eq-comm base_name here ∙ good.home))

  -- a name of Base that the text writes without a module
  pub base_at : (name : Text) (role : Role) → is_base_name name ≡ true → role_of base_bindings base_name name ≡ Some role → role_at s here [] name ≡ Ok role
  base_at name role of_base is =
      ap (λ o. role_or (or_role o (role_of s.bindings base_name name)) (Undefined here name)) (base_free name of_base)
      ∙ ap (λ o. role_or o (Undefined here name)) (base_role here name es good.each good.home ∙ is)
