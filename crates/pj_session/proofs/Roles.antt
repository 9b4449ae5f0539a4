-- What a name means after events.
use Rattle.std.proofs.Common.{◌≡◌, Bool, true, false, cond, ◌&&◌, ◌||◌, List, [], ◌∷◌, ◌++◌, Option, Some, None, find, map, refl, sym, ap, subst, ◌∙◌}
use Rattle.std.specs.List.{list_any}
use Rattle.std.specs.Option.{option_or}
use Rattle.std.specs.Str.{bytes_eq}
use Rattle.std.proofs.lemmas.List.Folds.{find-append}
use Rattle.pj_meaning.specs.Tree.{Text}
use Rattle.pj_meaning.specs.Names.{id, base_name}
use Rattle.pj_meaning.specs.Values.{Whole}
use Rattle.pj_meaning.specs.State.{Role, FunctionName, Constant, Binding, role_in, role_of, or_role}
use Rattle.pj_meaning.specs.Base.{base_bindings}
use Rattle.pj_meaning.specs.Content.{Content}
use Rattle.pj_meaning.specs.Packages.{own_function}
use Rattle.pj_session.specs.Events.{Event, Defines, Binds, Loads}
use Rattle.pj_session.specs.Things.{Calls, Holds, number_of, bound_in, made_for, has_function, thing_of, own_in, image_in, image_thing, thing_in, RoleAs}
use Rattle.pj_session.specs.Good.{GoodEvents, PlainBindings, Plainly}
use Rattle.pj_session.proofs.Texts.{same_text, text_itself, bytes_eq-comm}
use Rattle.pj_session.proofs.Closed.{bindings_in, image_bindings}

pub role_append : (xs ys : List Binding) (home name : Text) → role_of (xs ++ ys) home name ≡ or_role (role_of xs home name) (role_of ys home name)
role_append xs ys home name =
    let test : Binding → Bool = λ b. bytes_eq b.home home && bytes_eq b.name name in
    ap role_in (find-append test xs ys) ∙ one (find test xs) (find test ys)
  where
    one : (o p : Option Binding) → role_in (option_or o p) ≡ or_role (role_in o) (role_in p)
    one None p = refl
    one (Some b) p = refl

-- Base binds no name of another module
pub none_of_base : (home name : Text) → bytes_eq base_name home ≡ false → role_of base_bindings home name ≡ None
none_of_base home name other = rw other refl

-- what one binding adds
bound_here : (b : Binding) (bs : List Binding) (home name : Text) → bytes_eq b.home home ≡ true → role_of (b ∷ bs) home name ≡ cond (bytes_eq b.name name) (Some b.role) (role_of bs home name)
bound_here b bs home name is = rw is (one (bytes_eq b.name name))
  where
    one : (t : Bool) → role_in (cond t (Some b) (find (λ b. bytes_eq b.home home && bytes_eq b.name name) bs)) ≡ cond t (Some b.role) (role_of bs home name)
    one true = refl
    one false = refl

bound_there : (b : Binding) (bs : List Binding) (home name : Text) → bytes_eq b.home home ≡ false → role_of (b ∷ bs) home name ≡ role_of bs home name
bound_there b bs home name other = rw other refl

-- a content's own names

functions_elsewhere : (fs : List Text) (module_name home name : Text) → bytes_eq module_name home ≡ false → role_of (map (own_function module_name) fs) home name ≡ None
functions_elsewhere [] module_name home name other = refl
functions_elsewhere (f ∷ fs) module_name home name other = rw other (functions_elsewhere fs module_name home name other)

bindings_elsewhere : (c : Content) (bs : List Binding) (home name : Text) → PlainBindings c bs → bytes_eq c.name home ≡ false → role_of bs home name ≡ None
bindings_elsewhere c [] home name plain other = refl
bindings_elsewhere c (b ∷ bs) home name plain other =
    bound_there b bs home name (rw plain.0.home other) ∙ bindings_elsewhere c bs home name plain.1 other

pub image_elsewhere : (here : Text) (c : Content) (home name : Text) → Plainly here c → bytes_eq c.name home ≡ false → role_of (image_bindings c) home name ≡ None
image_elsewhere here c home name plain other =
    role_append (map (own_function c.name) c.functions) c.bindings home name
    ∙ ap (λ r. or_role r (role_of c.bindings home name)) (functions_elsewhere c.functions c.name home name other)
    ∙ bindings_elsewhere c c.bindings home name plain.bindings other

function_role : (fs : List Text) (home name : Text) → role_of (map (own_function home) fs) home name ≡ cond (list_any (λ f. bytes_eq f name) fs) (Some (FunctionName (id home name))) None
function_role [] home name = refl
function_role (f ∷ fs) home name =
    bound_here (own_function home f) (map (own_function home) fs) home name (text_itself home) ∙ one (bytes_eq f name) refl (function_role fs home name)
  where
    one : (t : Bool) → bytes_eq f name ≡ t → role_of (map (own_function home) fs) home name ≡ cond (list_any (λ f. bytes_eq f name) fs) (Some (FunctionName (id home name))) None
        → cond t (Some (FunctionName (id home f))) (role_of (map (own_function home) fs) home name) ≡ cond (t || list_any (λ f. bytes_eq f name) fs) (Some (FunctionName (id home name))) None
    one true e rest = ap (λ n. Some (FunctionName (id home n))) (same_text f name e)
    one false e rest = rest

binding_role : (c : Content) (bs : List Binding) (name : Text) → PlainBindings c bs → RoleAs c.name name (bound_in name bs) (role_of bs c.name name)
binding_role c [] name plain = refl
binding_role c (b ∷ bs) name plain =
    subst (RoleAs c.name name (bound_in name (b ∷ bs))) (sym (bound_here b bs c.name name (rw plain.0.home (text_itself c.name))))
    (one (bytes_eq b.name name) (binding_role c bs name plain.1))
  where
    one : (t : Bool) → RoleAs c.name name (bound_in name bs) (role_of bs c.name name)
        → RoleAs c.name name (cond t (Some (Holds (number_of b.role))) (bound_in name bs)) (cond t (Some b.role) (role_of bs c.name name))
    one true rest = plain.0.number
    one false rest = rest

pub image_role : (here : Text) (c : Content) (name : Text) → Plainly here c → RoleAs c.name name (thing_of c name) (role_of (image_bindings c) c.name name)
image_role here c name plain =
    subst (RoleAs c.name name (thing_of c name))
    (sym (role_append (map (own_function c.name) c.functions) c.bindings c.name name ∙ ap (λ r. or_role r (role_of c.bindings c.name name)) (function_role c.functions c.name name)))
    (one (has_function c name) (binding_role c c.bindings name plain.bindings))
  where
    one : (t : Bool) → RoleAs c.name name (bound_in name c.bindings) (role_of c.bindings c.name name)
        → RoleAs c.name name (cond t (Some (Calls (made_for name c.methods))) (bound_in name c.bindings))
        (or_role (cond t (Some (FunctionName (id c.name name))) None) (role_of c.bindings c.name name))
    one true rest = refl
    one false rest = rest

-- the events' names

-- the events bind nothing in a module that is neither that of the text nor an image's
pub elsewhere : (here home name : Text) (es : List Event) → GoodEvents here es → bytes_eq here home ≡ false → image_in es home ≡ None → role_of (bindings_in here es) home name ≡ None
elsewhere here home name [] good other none = refl
elsewhere here home name (Defines f ps e ∷ es) good other none =
    bound_there (record { home = here; name = f; role = FunctionName (id here f) }) (bindings_in here es) home name other ∙ elsewhere here home name es good.1.1 other none
elsewhere here home name (Binds x z ∷ es) good other none =
    bound_there (record { home = here; name = x; role = Constant (Whole z) }) (bindings_in here es) home name other ∙ elsewhere here home name es good.1.1 other none
elsewhere here home name (Loads held ∷ es) good other none =
    role_append (image_bindings held.content) (bindings_in here es) home name
    ∙ one (bytes_eq held.content.name home) refl none (λ e n. ap (λ r. or_role r (role_of (bindings_in here es) home name)) (image_elsewhere here held.content home name good.0 e) ∙ elsewhere here home name es good.1.1 other n)
  where
    one : (t : Bool) → bytes_eq held.content.name home ≡ t → cond t (Some held.content) (image_in es home) ≡ None
        → (bytes_eq held.content.name home ≡ false → image_in es home ≡ None → or_role (role_of (image_bindings held.content) home name) (role_of (bindings_in here es) home name) ≡ None)
        → or_role (role_of (image_bindings held.content) home name) (role_of (bindings_in here es) home name) ≡ None
    one true e n rest = cc
    one false e n rest = rest e n

pub own_role : (here name : Text) (es : List Event) → GoodEvents here es → RoleAs here name (own_in es name) (role_of (bindings_in here es) here name)
own_role here name [] good = refl
own_role here name (Defines f ps e ∷ es) good =
    subst (RoleAs here name (own_in (Defines f ps e ∷ es) name)) (sym (bound_here (record { home = here; name = f; role = FunctionName (id here f) }) (bindings_in here es) here name (text_itself here)))
    (one (bytes_eq f name) refl (own_role here name es good.1.1))
  where
    one : (t : Bool) → bytes_eq f name ≡ t → RoleAs here name (own_in es name) (role_of (bindings_in here es) here name)
        → RoleAs here name (cond t (Some (Calls (Some (ps, e)))) (own_in es name)) (cond t (Some (FunctionName (id here f))) (role_of (bindings_in here es) here name))
    one true is rest = ap (λ n. Some (FunctionName (id here n))) (same_text f name is)
    one false is rest = rest
own_role here name (Binds x z ∷ es) good =
    subst (RoleAs here name (own_in (Binds x z ∷ es) name)) (sym (bound_here (record { home = here; name = x; role = Constant (Whole z) }) (bindings_in here es) here name (text_itself here)))
    (one (bytes_eq x name) (own_role here name es good.1.1))
  where
    one : (t : Bool) → RoleAs here name (own_in es name) (role_of (bindings_in here es) here name)
        → RoleAs here name (cond t (Some (Holds z)) (own_in es name)) (cond t (Some (Constant (Whole z))) (role_of (bindings_in here es) here name))
    one true rest = refl
    one false rest = rest
own_role here name (Loads held ∷ es) good =
    subst (RoleAs here name (own_in es name))
    (sym (role_append (image_bindings held.content) (bindings_in here es) here name
    ∙ ap (λ r. or_role r (role_of (bindings_in here es) here name)) (image_elsewhere here held.content here name good.0 (bytes_eq-comm held.content.name here ∙ good.0.not_here))))
    (own_role here name es good.1.1)

pub loaded_role : (here home name : Text) (es : List Event) → GoodEvents here es → bytes_eq here home ≡ false
    → RoleAs home name (image_thing (image_in es home) name) (role_of (bindings_in here es) home name)
loaded_role here home name [] good other = refl
loaded_role here home name (Defines f ps e ∷ es) good other =
    subst (RoleAs home name (image_thing (image_in es home) name)) (sym (bound_there (record { home = here; name = f; role = FunctionName (id here f) }) (bindings_in here es) home name other)) (loaded_role here home name es good.1.1 other)
loaded_role here home name (Binds x z ∷ es) good other =
    subst (RoleAs home name (image_thing (image_in es home) name)) (sym (bound_there (record { home = here; name = x; role = Constant (Whole z) }) (bindings_in here es) home name other)) (loaded_role here home name es good.1.1 other)
loaded_role here home name (Loads held ∷ es) good other =
    subst (RoleAs home name (image_thing (image_in (Loads held ∷ es) home) name)) (sym (role_append (image_bindings held.content) (bindings_in here es) home name))
    (one (bytes_eq held.content.name home) refl (loaded_role here home name es good.1.1 other))
  where
    -- its own names are found first, and no other image has its name
    this : bytes_eq held.content.name home ≡ true → RoleAs home name (thing_of held.content name) (or_role (role_of (image_bindings held.content) home name) (role_of (bindings_in here es) home name))
    this is =
        let same : held.content.name ≡ home = same_text held.content.name home is in
        let none : image_in es home ≡ None = subst (λ t. image_in es t ≡ None) same good.1.0 in
        let rest : role_of (bindings_in here es) home name ≡ None = elsewhere here home name es good.1.1 other none in
        let first : RoleAs home name (thing_of held.content name) (role_of (image_bindings held.content) home name) = subst (λ t. RoleAs t name (thing_of held.content name) (role_of (image_bindings held.content) t name)) same (image_role here held.content name good.0) in
        rw rest (subst (RoleAs home name (thing_of held.content name)) (sym (alone (role_of (image_bindings held.content) home name))) first)
      where
        alone : (o : Option Role) → or_role o None ≡ o
        alone None = refl
        alone (Some r) = refl

    one : (t : Bool) → bytes_eq held.content.name home ≡ t → RoleAs home name (image_thing (image_in es home) name) (role_of (bindings_in here es) home name)
        → RoleAs home name (image_thing (cond t (Some held.content) (image_in es home)) name) (or_role (role_of (image_bindings held.content) home name) (role_of (bindings_in here es) home name))
    one true is rest = this is
    one false is rest = rw (image_elsewhere here held.content home name good.0 is) rest

-- in a module other than Base
pub role_means : (here home name : Text) (es : List Event) → GoodEvents here es → bytes_eq base_name home ≡ false
    → RoleAs home name (thing_in here es home name) (role_of (base_bindings ++ bindings_in here es) home name)
role_means here home name es good not_base =
    subst (RoleAs home name (thing_in here es home name))
    (sym (role_append base_bindings (bindings_in here es) home name ∙ ap (λ r. or_role r (role_of (bindings_in here es) home name)) (none_of_base home name not_base)))
    (one (bytes_eq here home) refl)
  where
    one : (t : Bool) → bytes_eq here home ≡ t → RoleAs home name (cond t (own_in es name) (image_thing (image_in es home) name)) (role_of (bindings_in here es) home name)
    one true is = subst (λ h. RoleAs h name (own_in es name) (role_of (bindings_in here es) h name)) (same_text here home is) (own_role here name es good)
    one false is = loaded_role here home name es good is

-- no image is called Base
pub no_base_image : (here : Text) (es : List Event) → GoodEvents here es → image_in es base_name ≡ None
no_base_image here [] good = refl
no_base_image here (Defines f ps e ∷ es) good = no_base_image here es good.1.1
no_base_image here (Binds x z ∷ es) good = no_base_image here es good.1.1
no_base_image here (Loads held ∷ es) good = rw good.0.not_base (no_base_image here es good.1.1)

-- Base's names mean what they mean in Base alone
pub base_role : (here name : Text) (es : List Event) → GoodEvents here es → bytes_eq here base_name ≡ false
    → role_of (base_bindings ++ bindings_in here es) base_name name ≡ role_of base_bindings base_name name
base_role here name es good other =
    role_append base_bindings (bindings_in here es) base_name name
    ∙ ap (or_role (role_of base_bindings base_name name)) (elsewhere here base_name name es good other (no_base_image here es good))
    ∙ alone (role_of base_bindings base_name name)
  where
    alone : (o : Option Role) → or_role o None ≡ o
    alone None = refl
    alone (Some r) = refl
