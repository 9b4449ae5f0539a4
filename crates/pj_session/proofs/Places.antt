-- What a name is, by its place in an index.
use Rattle.std.proofs.Common.{◌≡◌, ℕ, zero, suc, ◌+◌, ℤ, pos, Bool, true, false, cond, not, ◌||◌, List, [], ◌∷◌, Option, Some, None, find, map, length, slice_get, option_map, refl, sym, ap, ◌∙◌, arith}
use Rattle.std.specs.Prelude.{slice_index_or, is_some}
use Rattle.std.specs.List.{list_any, position_or_len}
use Rattle.std.specs.Option.{option_or}
use Rattle.std.specs.Str.{bytes_eq}
use Rattle.std.proofs.lemmas.List.Folds.{find_at, find-append}
use Rattle.pj_base.specs.Interned.{has_text, place_of}
use Rattle.pj_base.proofs.PlaceLemmas.{position_or_len-map}
use Rattle.pj_meaning.specs.Tree.{Text}
use Rattle.pj_meaning.specs.Content.{Made, Content}
use Rattle.pj_meaning.specs.State.{Binding}
use Rattle.pj_session.specs.Numbers.{argument_of}
use Rattle.pj_session.specs.Events.{Event, Defines, Binds, Loads}
use Rattle.pj_session.specs.Things.{Thing, Calls, Holds, number_of, made_for, bound_in, has_function, thing_of, own_in, image_in}
use Rattle.pj_session.specs.Places.{Named, names_of, named_by, own_things, images, content_things}
use Rattle.pj_session.proofs.Texts.{same_text, bytes_eq-comm}

-- the first of this name
abbrev pub sought : {A : Type 0} → Named A → Text → Option A
sought ps name = option_map (λ p. p.1) (find (λ p. bytes_eq name p.0) ps)

get_map : {A B : Type 0} (f : A → B) (xs : List A) (i : ℕ) → slice_get (map f xs) i ≡ option_map f (slice_get xs i)
get_map f [] i = refl
get_map f (x ∷ xs) zero = refl
get_map f (x ∷ xs) (suc i) = get_map f xs i

pub sought_at : {A : Type 0} (ps : Named A) (name : Text) → sought ps name ≡ slice_get (named_by ps) (place_of name (names_of ps))
sought_at {A} ps name =
    ap (option_map (λ (p : Text × A). p.1)) (find_at (λ (p : Text × A). bytes_eq name p.0) ps)
    ∙ sym (get_map (λ (p : Text × A). p.1) ps (position_or_len (λ (p : Text × A). bytes_eq name p.0) ps))
    ∙ ap (slice_get (named_by ps)) (sym (position_or_len-map (λ (p : Text × A). p.0) (bytes_eq name) ps))

-- found exactly where the name is among the names
pub sought_there : {A : Type 0} (ps : Named A) (name : Text) → is_some (sought ps name) ≡ has_text name (names_of ps)
sought_there [] name = refl
sought_there {A} (p ∷ ps) name = one (bytes_eq name p.0) (sought_there ps name)
  where
    one : (t : Bool) → is_some (sought ps name) ≡ has_text name (names_of ps)
        → is_some (option_map (λ (q : Text × A). q.1) (cond t (Some p) (find (λ q. bytes_eq name q.0) ps))) ≡ (t || has_text name (names_of ps))
    one true rest = refl
    one false rest = rest

sought_first : {A : Type 0} (p : Text × A) (ps : Named A) (name : Text) → sought (p ∷ ps) name ≡ cond (bytes_eq p.0 name) (Some p.1) (sought ps name)
sought_first {A} p ps name = one (bytes_eq name p.0) ∙ ap (λ t. cond t (Some p.1) (sought ps name)) (bytes_eq-comm name p.0)
  where
    one : (t : Bool) → option_map (λ (q : Text × A). q.1) (cond t (Some p) (find (λ q. bytes_eq name q.0) ps)) ≡ cond t (Some p.1) (sought ps name)
    one true = refl
    one false = refl

pub own_sought : (es : List Event) (name : Text) → own_in es name ≡ sought (own_things es) name
own_sought [] name = refl
own_sought (Defines f ps e ∷ es) name =
    ap (cond (bytes_eq f name) (Some (Calls (Some (ps, e))))) (own_sought es name) ∙ sym (sought_first (f, Calls (Some (ps, e))) (own_things es) name)
own_sought (Binds x z ∷ es) name = ap (cond (bytes_eq x name) (Some (Holds z))) (own_sought es name) ∙ sym (sought_first (x, Holds z) (own_things es) name)
own_sought (Loads held ∷ es) name = own_sought es name

pub image_sought : (es : List Event) (home : Text) → image_in es home ≡ sought (images es) home
image_sought [] home = refl
image_sought (Defines f ps e ∷ es) home = image_sought es home
image_sought (Binds x z ∷ es) home = image_sought es home
image_sought (Loads held ∷ es) home =
    ap (cond (bytes_eq held.content.name home) (Some held.content)) (image_sought es home) ∙ sym (sought_first (held.content.name, held.content) (images es) home)

-- a content

abbrev function_pairs : List Made → List Text → Named Thing
function_pairs ms fs = map (λ f. (f, Calls (made_for f ms))) fs

abbrev binding_pairs : List Binding → Named Thing
binding_pairs bs = map (λ b. (b.name, Holds (number_of b.role))) bs

functions_sought : (ms : List Made) (fs : List Text) (name : Text) → sought (function_pairs ms fs) name ≡ cond (list_any (λ f. bytes_eq f name) fs) (Some (Calls (made_for name ms))) None
functions_sought ms [] name = refl
functions_sought ms (f ∷ fs) name = sought_first (f, Calls (made_for f ms)) (function_pairs ms fs) name ∙ one (bytes_eq f name) refl (functions_sought ms fs name)
  where
    one : (t : Bool) → bytes_eq f name ≡ t → sought (function_pairs ms fs) name ≡ cond (list_any (λ f. bytes_eq f name) fs) (Some (Calls (made_for name ms))) None
        → cond t (Some (Calls (made_for f ms))) (sought (function_pairs ms fs) name) ≡ cond (t || list_any (λ f. bytes_eq f name) fs) (Some (Calls (made_for name ms))) None
    one true e rest = ap (λ n. Some (Calls (made_for n ms))) (same_text f name e)
    one false e rest = rest

bindings_sought : (bs : List Binding) (name : Text) → sought (binding_pairs bs) name ≡ bound_in name bs
bindings_sought [] name = refl
bindings_sought (b ∷ bs) name =
    sought_first (b.name, Holds (number_of b.role)) (binding_pairs bs) name ∙ ap (cond (bytes_eq b.name name) (Some (Holds (number_of b.role)))) (bindings_sought bs name)

pub thing_sought : (c : Content) (name : Text) → thing_of c name ≡ sought (content_things c) name
thing_sought c name =
    sym
    (ap (option_map (λ (p : Text × Thing). p.1)) (find-append (λ p. bytes_eq name p.0) (function_pairs c.methods c.functions) (binding_pairs c.bindings))
    ∙ split (find (λ p. bytes_eq name p.0) (function_pairs c.methods c.functions)) (find (λ p. bytes_eq name p.0) (binding_pairs c.bindings))
    ∙ ap (λ o. option_or o (sought (binding_pairs c.bindings) name)) (functions_sought c.methods c.functions name)
    ∙ one (has_function c name) (bindings_sought c.bindings name))
  where
    split : (o q : Option (Text × Thing)) → option_map (λ (p : Text × Thing). p.1) (option_or o q) ≡ option_or (option_map (λ (p : Text × Thing). p.1) o) (option_map (λ (p : Text × Thing). p.1) q)
    split None q = refl
    split (Some p) q = refl

    one : (t : Bool) → sought (binding_pairs c.bindings) name ≡ bound_in name c.bindings
        → option_or (cond t (Some (Calls (made_for name c.methods))) None) (sought (binding_pairs c.bindings) name) ≡ cond t (Some (Calls (made_for name c.methods))) (bound_in name c.bindings)
    one true rest = refl
    one false rest = rest

-- by places, as an index answers

pub own_at : (es : List Event) (name : Text) → own_in es name ≡ slice_get (named_by (own_things es)) (place_of name (names_of (own_things es)))
own_at es name = own_sought es name ∙ sought_at (own_things es) name

pub image_at : (es : List Event) (home : Text) → image_in es home ≡ slice_get (named_by (images es)) (place_of home (names_of (images es)))
image_at es home = image_sought es home ∙ sought_at (images es) home

pub thing_at : (c : Content) (name : Text) → thing_of c name ≡ slice_get (named_by (content_things c)) (place_of name (names_of (content_things c)))
thing_at c name = thing_sought c name ∙ sought_at (content_things c) name

-- the argument at its parameter's place

pub argument_at : (ps : List Text) (zs : List ℤ) (name : Text) → length zs ≡ length ps → argument_of ps zs name ≡ slice_index_or zs (place_of name ps) (pos 0)
argument_at [] [] name count = refl
argument_at [] (z ∷ zs) name count = absurd (omega (arith, count))
argument_at (p ∷ ps) [] name count = absurd (omega (arith, count))
argument_at (p ∷ ps) (z ∷ zs) name count =
    ap (λ t. cond t z (argument_of ps zs name)) (bytes_eq-comm p name) ∙ one (bytes_eq name p) (argument_at ps zs name (omega (arith, count)))
  where
    one : (t : Bool) → argument_of ps zs name ≡ slice_index_or zs (place_of name ps) (pos 0)
        → cond t z (argument_of ps zs name) ≡ slice_index_or (z ∷ zs) (cond (not t) (1 + place_of name ps) 0) (pos 0)
    one true rest = refl
    one false rest =
        let next : suc (place_of name ps) ≡ 1 + place_of name ps = omega arith in
        rest ∙ ap (λ i. slice_index_or (z ∷ zs) i (pos 0)) next
