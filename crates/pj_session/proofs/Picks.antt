-- What a call picks after events.
use Rattle.std.proofs.Common.{◌≡◌, ℕ, zero, suc, ◌≤◌, ◌==◌, Bool, true, false, cond, ◌&&◌, List, [], ◌∷◌, ◌++◌, Option, Some, None, filter, map, length, nat_le, refl, sym, ap, subst, ◌∙◌, arith}
use Rattle.std.specs.Str.{bytes_eq}
use Rattle.std.proofs.lemmas.Bool.Decides.{nat_tests}
use Rattle.std.proofs.lemmas.List.{append-nil}
use Rattle.std.proofs.lemmas.List.Elements.{filter-append}
use Rattle.pj_meaning.specs.Tree.{Text, Body}
use Rattle.pj_meaning.specs.Names.{Id, id, base, base_name}
use Rattle.pj_meaning.specs.Types.{all_below}
use Rattle.pj_meaning.specs.Methods.{Method, seen, is_applicable, applicable, pick, chosen_among}
use Rattle.pj_meaning.specs.Base.{base_types, base_methods}
use Rattle.pj_meaning.specs.Content.{Made, Content}
use Rattle.pj_meaning.specs.Packages.{born_at}
use Rattle.pj_session.specs.Events.{Parts, ints, parts_of, method_of, Event, Defines, Binds, Loads}
use Rattle.pj_meaning.specs.State.{Binding}
use Rattle.pj_session.specs.Things.{Calls, Holds, number_of, made_for, bound_in, has_function, thing_of, own_in, image_in, image_thing, thing_in, method_for, PickAs}
use Rattle.pj_session.specs.Good.{GoodEvents, PlainMade, PlainMethods, Plainly}
use Rattle.pj_session.proofs.Texts.{same_text, text_itself, bytes_eq-comm, never_true, not_both}
use Rattle.pj_session.proofs.Closed.{methods_in, world_in}
use Rattle.pj_session.proofs.Roles.{no_base_image}

-- so many integers are below so many Int64 exactly where they are as many
pub ints_fit : (n k : ℕ) → all_below base_types (ints n) (ints k) ≡ (k == n)
ints_fit zero zero = refl
ints_fit zero (suc k) = grind (arith, nat_tests)
ints_fit (suc n) zero = grind (arith, nat_tests)
ints_fit (suc n) (suc k) = ints_fit n k ∙ grind (arith, nat_tests)

pub ints_below : (n : ℕ) → all_below base_types (ints n) (ints n) ≡ true
ints_below zero = refl
ints_below (suc n) = ints_below n

-- those of these methods that apply to a function with such arguments
abbrev pub fitting : Text → Text → List Id → List Method → List Method
fitting home name args ms = filter (is_applicable base_types (id home name) args) ms

-- the method, and no other
abbrev pub FitAs : Text → Text → Option Parts → List Method → Type 0
FitAs home name None ms = ms ≡ []
FitAs home name (Some d) ms = (birth : ℕ) × (ms ≡ method_of home name d birth ∷ [])

other_function : (home name : Text) (args : List Id) (m : Method) (ms : List Method) → bytes_eq m.fun.home home ≡ false → fitting home name args (m ∷ ms) ≡ fitting home name args ms
other_function home name args m ms other = rw other refl

-- a content's methods

made_elsewhere : (c : Content) (ms : List Made) (home name : Text) (args : List Id) (w : ℕ) → PlainMethods c ms → bytes_eq c.name home ≡ false → fitting home name args (map (born_at w c.name) ms) ≡ []
made_elsewhere c [] home name args w plain other = refl
made_elsewhere c (m ∷ ms) home name args w plain other =
    other_function home name args (born_at w c.name m) (map (born_at w c.name) ms) (rw plain.0.home other) ∙ made_elsewhere c ms home name args w plain.1.1 other

-- a method of a function has its form
made_is : (c : Content) (m : Made) (name : Text) (w : ℕ) → PlainMade c m → m.fun.name ≡ name → born_at w c.name m ≡ method_of c.name name (parts_of m.code) w
made_is c m name w plain named =
    ap (λ (h : Text). record { fun = id h m.fun.name; signature = m.signature; code = m.code; home = c.name; birth = w }) plain.home
    ∙ ap (λ (n : Text). record { fun = id c.name n; signature = m.signature; code = m.code; home = c.name; birth = w }) named
    ∙ ap (λ (ts : List Id). record { fun = id c.name name; signature = ts; code = m.code; home = c.name; birth = w }) plain.signature
    ∙ ap (λ (b : Body). record { fun = id c.name name; signature = ints (length (parts_of m.code).0); code = b; home = c.name; birth = w }) plain.code

-- one method at the head, and what the others give
first_fit : (home name : Text) (n : ℕ) (d : Parts) (w : ℕ) (ms : List Method) → fitting home name (ints n) ms ≡ []
    → FitAs home name (method_for n (Some (Calls (Some d)))) (fitting home name (ints n) (method_of home name d w ∷ ms))
first_fit home name n d w ms none = rw (text_itself home, text_itself name, ints_fit n (length d.0), none) (one (length d.0 == n))
  where
    one : (t : Bool) → FitAs home name (cond t (Some d) None) (cond t (method_of home name d w ∷ []) [])
    one true = (w, refl)
    one false = refl

made_fit : (c : Content) (ms : List Made) (name : Text) (n w : ℕ) → PlainMethods c ms → FitAs c.name name (method_for n (Some (Calls (made_for name ms)))) (fitting c.name name (ints n) (map (born_at w c.name) ms))
made_fit c [] name n w plain = refl
made_fit c (m ∷ ms) name n w plain = one (bytes_eq m.fun.name name) refl (made_fit c ms name n w plain.1.1)
  where
    this : m.fun.name ≡ name → FitAs c.name name (method_for n (Some (Calls (made_for name ms)))) (fitting c.name name (ints n) (map (born_at w c.name) ms))
        → FitAs c.name name (method_for n (Some (Calls (Some (parts_of m.code))))) (fitting c.name name (ints n) (born_at w c.name m ∷ map (born_at w c.name) ms))
    this named rest =
        let none : made_for name ms ≡ None = subst (λ t. made_for t ms ≡ None) named plain.1.0 in
        let no_others : fitting c.name name (ints n) (map (born_at w c.name) ms) ≡ [] = subst (λ o. FitAs c.name name (method_for n (Some (Calls o))) (fitting c.name name (ints n) (map (born_at w c.name) ms))) none rest in
        subst (λ x. FitAs c.name name (method_for n (Some (Calls (Some (parts_of m.code))))) (fitting c.name name (ints n) (x ∷ map (born_at w c.name) ms)))
        (sym (made_is c m name w plain.0 named))
        (first_fit c.name name n (parts_of m.code) w (map (born_at w c.name) ms) no_others)

    one : (t : Bool) → bytes_eq m.fun.name name ≡ t
        → FitAs c.name name (method_for n (Some (Calls (made_for name ms)))) (fitting c.name name (ints n) (map (born_at w c.name) ms))
        → FitAs c.name name (method_for n (Some (Calls (cond t (Some (parts_of m.code)) (made_for name ms))))) (fitting c.name name (ints n) (born_at w c.name m ∷ map (born_at w c.name) ms))
    one true is rest = this (same_text m.fun.name name is) rest
    one false is rest = subst (FitAs c.name name (method_for n (Some (Calls (made_for name ms))))) (sym (skipped (bytes_eq m.fun.home c.name))) rest
      where
        skipped : (u : Bool) → cond ((u && bytes_eq m.fun.name name) && all_below base_types (ints n) m.signature) (born_at w c.name m ∷ fitting c.name name (ints n) (map (born_at w c.name) ms)) (fitting c.name name (ints n) (map (born_at w c.name) ms)) ≡ fitting c.name name (ints n) (map (born_at w c.name) ms)
        skipped true = rw is refl
        skipped false = refl

-- where the content has no function of the name, no method is of it
no_function : (c : Content) (ms : List Made) (name : Text) → PlainMethods c ms → has_function c name ≡ false → made_for name ms ≡ None
no_function c [] name plain none = refl
no_function c (m ∷ ms) name plain none = rw differs (no_function c ms name plain.1.1 none)
  where
    differs : bytes_eq m.fun.name name ≡ false
    differs = never_true (bytes_eq m.fun.name name) (λ e. not_both (has_function c name) (subst (λ t. has_function c t ≡ true) (same_text m.fun.name name e) plain.0.own) none)

pub image_fit : (here : Text) (c : Content) (name : Text) (n w : ℕ) → Plainly here c → FitAs c.name name (method_for n (thing_of c name)) (fitting c.name name (ints n) (map (born_at w c.name) c.methods))
image_fit here c name n w plain = one (has_function c name) refl (made_fit c c.methods name n w plain.methods)
  where
    not_called : (bs : List Binding) → method_for n (bound_in name bs) ≡ None
    not_called [] = refl
    not_called (b ∷ bs) = two (bytes_eq b.name name) (not_called bs)
      where
        two : (t : Bool) → method_for n (bound_in name bs) ≡ None → method_for n (cond t (Some (Holds (number_of b.role))) (bound_in name bs)) ≡ None
        two true rest = refl
        two false rest = rest

    one : (t : Bool) → has_function c name ≡ t
        → FitAs c.name name (method_for n (Some (Calls (made_for name c.methods)))) (fitting c.name name (ints n) (map (born_at w c.name) c.methods))
        → FitAs c.name name (method_for n (cond t (Some (Calls (made_for name c.methods))) (bound_in name c.bindings))) (fitting c.name name (ints n) (map (born_at w c.name) c.methods))
    one true is rest = rest
    one false is rest =
        rw (not_called c.bindings)
        (subst (λ o. FitAs c.name name (method_for n (Some (Calls o))) (fitting c.name name (ints n) (map (born_at w c.name) c.methods))) (no_function c c.methods name plain.methods is) rest)

-- the events' methods

split : (home name : Text) (args : List Id) (xs ys : List Method) → fitting home name args (xs ++ ys) ≡ fitting home name args xs ++ fitting home name args ys
split home name args xs ys = filter-append (is_applicable base_types (id home name) args) xs ys

pub elsewhere : (here home name : Text) (args : List Id) (w : ℕ) (es : List Event) → GoodEvents here es → bytes_eq here home ≡ false → image_in es home ≡ None → fitting home name args (methods_in here w es) ≡ []
elsewhere here home name args w [] good other none = refl
elsewhere here home name args w (Defines f ps e ∷ es) good other none =
    other_function home name args (method_of here f (ps, e) (suc w)) (methods_in here (suc w) es) other ∙ elsewhere here home name args (suc w) es good.1.1 other none
elsewhere here home name args w (Binds x z ∷ es) good other none = elsewhere here home name args w es good.1.1 other none
elsewhere here home name args w (Loads held ∷ es) good other none =
    split home name args (map (born_at (suc w) held.content.name) held.content.methods) (methods_in here (suc w) es)
    ∙ one (bytes_eq held.content.name home) refl none (elsewhere here home name args (suc w) es good.1.1 other)
  where
    one : (t : Bool) → bytes_eq held.content.name home ≡ t → cond t (Some held.content) (image_in es home) ≡ None
        → (image_in es home ≡ None → fitting home name args (methods_in here (suc w) es) ≡ [])
        → fitting home name args (map (born_at (suc w) held.content.name) held.content.methods) ++ fitting home name args (methods_in here (suc w) es) ≡ []
    one true is n rest = cc
    one false is n rest = rw (made_elsewhere held.content held.content.methods home name args (suc w) good.0.methods is) (rest n)

pub own_fit : (here name : Text) (n w : ℕ) (es : List Event) → GoodEvents here es → FitAs here name (method_for n (own_in es name)) (fitting here name (ints n) (methods_in here w es))
own_fit here name n w [] good = refl
own_fit here name n w (Defines f ps e ∷ es) good = one (bytes_eq f name) refl (own_fit here name n (suc w) es good.1.1)
  where
    this : f ≡ name → FitAs here name (method_for n (own_in es name)) (fitting here name (ints n) (methods_in here (suc w) es))
        → FitAs here name (method_for n (Some (Calls (Some (ps, e))))) (fitting here name (ints n) (method_of here f (ps, e) (suc w) ∷ methods_in here (suc w) es))
    this named rest =
        let none : own_in es name ≡ None = subst (λ t. own_in es t ≡ None) named good.1.0 in
        let no_others : fitting here name (ints n) (methods_in here (suc w) es) ≡ [] = subst (λ o. FitAs here name (method_for n o) (fitting here name (ints n) (methods_in here (suc w) es))) none rest in
        subst (λ t. FitAs here name (method_for n (Some (Calls (Some (ps, e))))) (fitting here name (ints n) (method_of here t (ps, e) (suc w) ∷ methods_in here (suc w) es)))
        (sym named) (first_fit here name n (ps, e) (suc w) (methods_in here (suc w) es) no_others)

    one : (t : Bool) → bytes_eq f name ≡ t → FitAs here name (method_for n (own_in es name)) (fitting here name (ints n) (methods_in here (suc w) es))
        → FitAs here name (method_for n (cond t (Some (Calls (Some (ps, e)))) (own_in es name))) (fitting here name (ints n) (method_of here f (ps, e) (suc w) ∷ methods_in here (suc w) es))
    one true is rest = this (same_text f name is) rest
    one false is rest = rw (text_itself here, is) rest
own_fit here name n w (Binds x z ∷ es) good = one (bytes_eq x name) refl (own_fit here name n w es good.1.1)
  where
    one : (t : Bool) → bytes_eq x name ≡ t → FitAs here name (method_for n (own_in es name)) (fitting here name (ints n) (methods_in here w es))
        → FitAs here name (method_for n (cond t (Some (Holds z)) (own_in es name))) (fitting here name (ints n) (methods_in here w es))
    one true is rest =
        subst (λ o. FitAs here name (method_for n o) (fitting here name (ints n) (methods_in here w es))) (subst (λ t. own_in es t ≡ None) (same_text x name is) good.1.0) rest
    one false is rest = rest
own_fit here name n w (Loads held ∷ es) good =
    subst (FitAs here name (method_for n (own_in es name)))
    (sym (split here name (ints n) (map (born_at (suc w) held.content.name) held.content.methods) (methods_in here (suc w) es)
    ∙ ap (λ ms. ms ++ fitting here name (ints n) (methods_in here (suc w) es)) (made_elsewhere held.content held.content.methods here name (ints n) (suc w) good.0.methods (bytes_eq-comm held.content.name here ∙ good.0.not_here))))
    (own_fit here name n (suc w) es good.1.1)

pub loaded_fit : (here home name : Text) (n w : ℕ) (es : List Event) → GoodEvents here es → bytes_eq here home ≡ false
    → FitAs home name (method_for n (image_thing (image_in es home) name)) (fitting home name (ints n) (methods_in here w es))
loaded_fit here home name n w [] good other = refl
loaded_fit here home name n w (Defines f ps e ∷ es) good other =
    subst (FitAs home name (method_for n (image_thing (image_in es home) name))) (sym (other_function home name (ints n) (method_of here f (ps, e) (suc w)) (methods_in here (suc w) es) other))
    (loaded_fit here home name n (suc w) es good.1.1 other)
loaded_fit here home name n w (Binds x z ∷ es) good other = loaded_fit here home name n w es good.1.1 other
loaded_fit here home name n w (Loads held ∷ es) good other =
    subst (FitAs home name (method_for n (image_thing (image_in (Loads held ∷ es) home) name)))
    (sym (split home name (ints n) (map (born_at (suc w) held.content.name) held.content.methods) (methods_in here (suc w) es)))
    (one (bytes_eq held.content.name home) refl (loaded_fit here home name n (suc w) es good.1.1 other))
  where
    -- its own methods, and no other image has its name
    this : held.content.name ≡ home → FitAs home name (method_for n (thing_of held.content name)) (fitting home name (ints n) (map (born_at (suc w) held.content.name) held.content.methods) ++ fitting home name (ints n) (methods_in here (suc w) es))
    this same =
        let none : image_in es home ≡ None = subst (λ t. image_in es t ≡ None) same good.1.0 in
        let rest : fitting home name (ints n) (methods_in here (suc w) es) ≡ [] = elsewhere here home name (ints n) (suc w) es good.1.1 other none in
        let first : FitAs home name (method_for n (thing_of held.content name)) (fitting home name (ints n) (map (born_at (suc w) held.content.name) held.content.methods)) =
        subst (λ t. FitAs t name (method_for n (thing_of held.content name)) (fitting t name (ints n) (map (born_at (suc w) held.content.name) held.content.methods))) same (image_fit here held.content name n (suc w) good.0) in
        rw rest (subst (FitAs home name (method_for n (thing_of held.content name))) (sym (append-nil (fitting home name (ints n) (map (born_at (suc w) held.content.name) held.content.methods)))) first)

    one : (t : Bool) → bytes_eq held.content.name home ≡ t
        → FitAs home name (method_for n (image_thing (image_in es home) name)) (fitting home name (ints n) (methods_in here (suc w) es))
        → FitAs home name (method_for n (image_thing (cond t (Some held.content) (image_in es home)) name)) (fitting home name (ints n) (map (born_at (suc w) held.content.name) held.content.methods) ++ fitting home name (ints n) (methods_in here (suc w) es))
    one true is rest = this (same_text held.content.name home is)
    one false is rest = rw (made_elsewhere held.content held.content.methods home name (ints n) (suc w) good.0.methods is) rest

-- all methods are seen at the newest world

pub grows : (w : ℕ) (es : List Event) → w ≤ world_in w es
grows w [] = omega arith
grows w (Defines f ps e ∷ es) = let rest = grows (suc w) es in omega (arith, rest)
grows w (Binds x z ∷ es) = grows w es
grows w (Loads held ∷ es) = let rest = grows (suc w) es in omega (arith, rest)

made_seen : (ms : List Made) (home : Text) (birth world : ℕ) → birth ≤ world → seen (map (born_at birth home) ms) world ≡ map (born_at birth home) ms
made_seen [] home birth world below = refl
made_seen (m ∷ ms) home birth world below =
    let now : nat_le birth world ≡ true = grind (arith, nat_tests) in
    rw (now, made_seen ms home birth world below) refl

pub all_seen : (here : Text) (w world : ℕ) (es : List Event) → world_in w es ≤ world → seen (methods_in here w es) world ≡ methods_in here w es
all_seen here w world [] below = refl
all_seen here w world (Defines f ps e ∷ es) below =
    let grown = grows (suc w) es in
    let now : nat_le (suc w) world ≡ true = grind (arith, nat_tests) in
    rw (now, all_seen here (suc w) world es below) refl
all_seen here w world (Binds x z ∷ es) below = all_seen here w world es below
all_seen here w world (Loads held ∷ es) below =
    let grown = grows (suc w) es in
    filter-append (λ m. nat_le m.birth world) (map (born_at (suc w) held.content.name) held.content.methods) (methods_in here (suc w) es)
    ∙ ap (λ ms. ms ++ seen (methods_in here (suc w) es) world) (made_seen held.content.methods held.content.name (suc w) world (omega (arith, grown, below)))
    ∙ ap (λ ms. map (born_at (suc w) held.content.name) held.content.methods ++ ms) (all_seen here (suc w) world es below)

pub first_seen : (es : List Event) → nat_le 1 (world_in 1 es) ≡ true
first_seen es = let grown = grows 1 es in grind (arith, nat_tests)

-- Base's methods are seen at every world but the one before all
pub seen_base : (world : ℕ) → nat_le 1 world ≡ true → seen base_methods world ≡ base_methods
seen_base world w = rw w refl

-- no method of Base is of another module's function
none_of_base : (home name : Text) (args : List Id) → bytes_eq base_name home ≡ false → fitting home name args base_methods ≡ []
none_of_base home name args other = rw other refl

-- those that apply are those of Base and those of the events
pub apply_split : (here home name : Text) (args : List Id) (es : List Event)
    → applicable base_types (base_methods ++ methods_in here 1 es) (world_in 1 es) (id home name) args
    ≡ fitting home name args base_methods ++ fitting home name args (methods_in here 1 es)
apply_split here home name args es =
    ap (fitting home name args) (filter-append (λ m. nat_le m.birth (world_in 1 es)) base_methods (methods_in here 1 es)
    ∙ ap (λ ms. ms ++ seen (methods_in here 1 es) (world_in 1 es)) (seen_base (world_in 1 es) (first_seen es))
    ∙ ap (λ ms. base_methods ++ ms) (all_seen here 1 (world_in 1 es) es (omega arith)))
    ∙ split home name args base_methods (methods_in here 1 es)

pub fit_in : (here home name : Text) (n : ℕ) (es : List Event) → GoodEvents here es → bytes_eq base_name home ≡ false
    → FitAs home name (method_for n (thing_in here es home name)) (applicable base_types (base_methods ++ methods_in here 1 es) (world_in 1 es) (id home name) (ints n))
fit_in here home name n es good not_base =
    subst (FitAs home name (method_for n (thing_in here es home name)))
    (sym (apply_split here home name (ints n) es ∙ ap (λ ms. ms ++ fitting home name (ints n) (methods_in here 1 es)) (none_of_base home name (ints n) not_base)))
    (one (bytes_eq here home) refl)
  where
    one : (t : Bool) → bytes_eq here home ≡ t → FitAs home name (method_for n (cond t (own_in es name) (image_thing (image_in es home) name))) (fitting home name (ints n) (methods_in here 1 es))
    one true is = subst (λ h. FitAs h name (method_for n (own_in es name)) (fitting h name (ints n) (methods_in here 1 es))) (same_text here home is) (own_fit here name n 1 es good)
    one false is = loaded_fit here home name n 1 es good is

-- the only one that applies is picked
pub picked_of : (home name : Text) (o : Option Parts) (ms : List Method) → FitAs home name o ms → PickAs home name o (chosen_among base_types ms)
picked_of home name None ms fit = rw fit refl
picked_of home name (Some d) ms fit = (fit.0, ap (chosen_among base_types) fit.1 ∙ (rw (ints_below (length d.0)) refl))

pub picks : (here home name : Text) (n : ℕ) (es : List Event) → GoodEvents here es → bytes_eq base_name home ≡ false
    → PickAs home name (method_for n (thing_in here es home name)) (pick base_types (base_methods ++ methods_in here 1 es) (world_in 1 es) (id home name) (ints n))
picks here home name n es good not_base =
    picked_of home name (method_for n (thing_in here es home name)) (applicable base_types (base_methods ++ methods_in here 1 es) (world_in 1 es) (id home name) (ints n)) (fit_in here home name n es good not_base)

-- a call of a function of Base picks what it picks in Base alone
pub picks_base : (here name : Text) (args : List Id) (es : List Event) → GoodEvents here es → bytes_eq here base_name ≡ false
    → pick base_types (base_methods ++ methods_in here 1 es) (world_in 1 es) (base name) args ≡ pick base_types base_methods 1 (base name) args
picks_base here name args es good other =
    ap (chosen_among base_types)
    (apply_split here base_name name args es
    ∙ ap (λ ms. fitting base_name name args base_methods ++ ms) (elsewhere here base_name name args 1 es good other (no_base_image here es good))
    ∙ append-nil (fitting base_name name args base_methods))
