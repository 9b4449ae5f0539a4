-- A definition of a function, and of a constant, after good events.
use Rattle.std.proofs.Common.{◌≡◌, ℕ, suc, ℤ, Bool, true, false, cond, ◌&&◌, ◌||◌, not, List, [], ◌∷◌, Ok, Err, Some, None, map, length, refl, sym, ap, subst, ◌∙◌, arith}
use Rattle.std.specs.Prelude.{codes, is_some}
use Rattle.std.specs.Str.{bytes_eq}
use Rattle.std.proofs.lemmas.Bool.{false≢true}
use Rattle.std.proofs.lemmas.List.Folds.{list_any-append}
use Rattle.pj_meaning.specs.Tree.{Text, Param, Expr}
use Rattle.pj_meaning.specs.Tree as tree
use Rattle.pj_meaning.specs.Names.{Id, id, base_name, int_type, same_id, same_ids}
use Rattle.pj_meaning.specs.Values.{Value, Whole, Function}
use Rattle.pj_meaning.specs.Methods.{Method}
use Rattle.pj_meaning.specs.State.{State, TypeName, Constant, role_of, is_building}
use Rattle.pj_meaning.specs.Lookup.{Target, then_check, role_at, target_of, own_target, type_of_role, types_at, has_signature, bind_new}
use Rattle.pj_meaning.specs.Outcome.{Undefined, Redefinition, Overwriting, Outcome, Gives, after}
use Rattle.pj_meaning.specs.Calls.{changed}
use Rattle.pj_meaning.specs.Evaluation.{added, defined, expr, enter_at}
use Rattle.pj_meaning.specs.Base.{base_methods}
use Rattle.pj_meaning.specs.Content.{Made, Content}
use Rattle.pj_meaning.specs.Packages.{born_at}
use Rattle.pj_meaning.specs.Top.{top}
use Rattle.pj_plain.specs.Plain.{plain_expr}
use Rattle.pj_words.specs.Words.{base_names, is_among, is_base_name}
use Rattle.pj_session.specs.Numbers.{number_in}
use Rattle.pj_session.specs.States.{run}
use Rattle.pj_session.specs.Events.{Parts, ints, body_of, method_of, Event, Defines, Binds, Loads, with_event, state_of}
use Rattle.pj_session.specs.Things.{Calls, Holds, own_in}
use Rattle.pj_session.specs.Good.{Good, GoodEvents, PlainMethods}
use Rattle.pj_session.specs.Items.{Got, Has, Fails, Short, got_number, got_value, got_ends, is_call, is_valued, call_number, valued, const_ends, int_param, define_item}
use Rattle.pj_session.proofs.Texts.{text_itself, bytes_eq-comm}
use Rattle.pj_session.proofs.Evaluates.{evaluates}
use Rattle.pj_session.proofs.Closed.{closed_state, closed, methods_in}
use Rattle.pj_session.proofs.Roles.{role_means}
use Rattle.pj_session.proofs.Known.{like, base_at, base_unbound}
use Rattle.pj_session.proofs.Called.{asks, as_got}

-- no method of a new name

abbrev of_signature : Text → Text → List Id → List Method → Bool
of_signature home name types ms = has_signature ms (id home name) types

made_none : (c : Content) (ms : List Made) (home name : Text) (types : List Id) (w : ℕ) → PlainMethods c ms → bytes_eq c.name home ≡ false → of_signature home name types (map (born_at w c.name) ms) ≡ false
made_none c [] home name types w plain other = refl
made_none c (m ∷ ms) home name types w plain other =
    let differs : bytes_eq m.fun.home home ≡ false = rw plain.0.home other in
    rw differs (made_none c ms home name types w plain.1.1 other)

none_named : (here name : Text) (types : List Id) (w : ℕ) (es : List Event) → GoodEvents here es → own_in es name ≡ None → of_signature here name types (methods_in here w es) ≡ false
none_named here name types w [] good none = refl
none_named here name types w (Defines f ps e ∷ es) good none = one (bytes_eq f name) refl none (none_named here name types (suc w) es good.1.1)
  where
    one : (t : Bool) → bytes_eq f name ≡ t → cond t (Some (Calls (Some (ps, e)))) (own_in es name) ≡ None
        → (own_in es name ≡ None → of_signature here name types (methods_in here (suc w) es) ≡ false)
        → of_signature here name types (method_of here f (ps, e) (suc w) ∷ methods_in here (suc w) es) ≡ false
    one true is n rest = cc
    one false is n rest = rw (text_itself here, is) (rest n)
none_named here name types w (Binds x z ∷ es) good none = one (bytes_eq x name) none (none_named here name types w es good.1.1)
  where
    one : (t : Bool) → cond t (Some (Holds z)) (own_in es name) ≡ None → (own_in es name ≡ None → of_signature here name types (methods_in here w es) ≡ false) → of_signature here name types (methods_in here w es) ≡ false
    one true n rest = cc
    one false n rest = rest n
none_named here name types w (Loads held ∷ es) good none =
    list_any-append (λ m. same_id m.fun (id here name) && same_ids m.signature types) (map (born_at (suc w) held.content.name) held.content.methods) (methods_in here (suc w) es)
    ∙ ap (λ b. b || of_signature here name types (methods_in here (suc w) es)) (made_none held.content held.content.methods here name types (suc w) good.0.methods (bytes_eq-comm held.content.name here ∙ good.0.not_here))
    ∙ none_named here name types (suc w) es good.1.1 none

none_in_base : (here name : Text) (types : List Id) → bytes_eq base_name here ≡ false → of_signature here name types base_methods ≡ false
none_in_base here name types other = rw other refl

module _ (here : Text) (es : List Event) (printed : Text) (good : Good here es) where
  abbrev s : State
  s = closed_state here es printed

  other_base : bytes_eq base_name here ≡ false
  other_base = bytes_eq-comm base_name here ∙ good.home

  -- a name that is free, and that the module doesn't bind
  unbound_here : (name : Text) → own_in es name ≡ None → role_of s.bindings here name ≡ None
  unbound_here name new = rw (text_itself here, new) at (role_means here here name es good.each other_base)

  int_means : role_at s here [] (codes "Int64") ≡ Ok (TypeName int_type)
  unfolding base_names is_among
  int_means = base_at here es printed good (codes "Int64") (TypeName int_type) refl refl

  types_found : (ps : List Text) → types_at s here (map int_param ps) ≡ Ok (ints (length ps))
  types_found [] = refl
  types_found (p ∷ ps) =
      ap (λ role. then_check (then_check role (λ r. type_of_role r (Undefined here (codes "Int64")))) (λ t. then_check (types_at s here (map int_param ps)) (λ ts. Ok (t ∷ ts)))) int_means
      ∙ ap (λ ts. then_check ts (λ us. Ok (int_type ∷ us))) (types_found ps)

  abbrev fresh : Text → Target
  fresh name = record { fun = id here name; is_new = true }

  target_found : (name : Text) → is_base_name name ≡ false → own_in es name ≡ None → target_of s here [] name ≡ Ok (fresh name)
  target_found name free new =
      ap (λ r. cond (not (bytes_eq here base_name) && is_some r) (Err (Redefinition here name)) (own_target (role_of s.bindings here name) here name)) (base_unbound here es printed good name free)
      ∙ one (bytes_eq here base_name)
      ∙ ap (λ r. own_target r here name) (unbound_here name new)
    where
      one : (t : Bool) → cond (not t && false) (Err (Redefinition here name)) (own_target (role_of s.bindings here name) here name) ≡ own_target (role_of s.bindings here name) here name
      one true = refl
      one false = refl

  -- no method is overwritten
  adds_it : (name : Text) (d : Parts) → own_in es name ≡ None
      → added s here (fresh name) (ints (length d.0)) (body_of d) ≡ Ok (with_event s (Defines name d.0 d.1))
  adds_it name d new =
      ap (λ b. cond (is_building s && b) (Err (Overwriting (id here name) (ints (length d.0)))) (Ok (with_event s (Defines name d.0 d.1)))) not_there
      ∙ one (is_building s)
    where
      not_there : has_signature s.methods (id here name) (ints (length d.0)) ≡ false
      not_there =
          list_any-append (λ m. same_id m.fun (id here name) && same_ids m.signature (ints (length d.0))) base_methods (methods_in here 1 es)
          ∙ ap (λ b. b || of_signature here name (ints (length d.0)) (methods_in here 1 es)) (none_in_base here name (ints (length d.0)) other_base)
          ∙ none_named here name (ints (length d.0)) 1 es good.each new

      one : (t : Bool) → cond (t && false) (Err (Overwriting (id here name) (ints (length d.0)))) (Ok (with_event s (Defines name d.0 d.1))) ≡ Ok (with_event s (Defines name d.0 d.1))
      one true = refl
      one false = refl

  defines_closed : (name : Text) (d : Parts) (left : ℕ) → is_base_name name ≡ false → own_in es name ≡ None
      → top (define_item name d) (run s left) ≡ Gives (Function (id here name)) (run (with_event s (Defines name d.0 d.1)) left)
  defines_closed name d left free new =
      ap (λ found. defined (then_check found (λ target. then_check (types_at s here (map int_param d.0)) (λ types. then_check (added s here target types (body_of d)) (λ q. Ok (q, target.fun))))) (run s left)) (target_found name free new)
      ∙ ap (λ found. defined (then_check found (λ types. then_check (added s here (fresh name) types (body_of d)) (λ q. Ok (q, id here name)))) (run s left)) (types_found d.0)
      ∙ ap (λ found. defined (then_check found (λ q. Ok (q, id here name))) (run s left)) (adds_it name d new)

  -- constants

  binds_it : (x : Text) (z : ℤ) → is_base_name x ≡ false → own_in es x ≡ None → bind_new s here x (Constant (Whole z)) ≡ Ok (with_event s (Binds x z))
  binds_it x z free new =
      ap (λ r. cond (not ((not (bytes_eq here base_name) && is_some r) || is_some (role_of s.bindings here x))) (Ok (with_event s (Binds x z))) (Err (Redefinition here x))) (base_unbound here es printed good x free)
      ∙ ap (λ r. cond (not ((not (bytes_eq here base_name) && false) || is_some r)) (Ok (with_event s (Binds x z))) (Err (Redefinition here x))) (unbound_here x new)
      ∙ one (bytes_eq here base_name)
    where
      one : (t : Bool) → cond (not ((not t && false) || false)) (Ok (with_event s (Binds x z))) (Err (Redefinition here x)) ≡ Ok (with_event s (Binds x z))
      one true = refl
      one false = refl

  value_of : (e : Expr) (left : ℕ) → is_valued e ≡ true
      → expr (enter_at left) (record { home = here; world = s.newest; depth = 0 }) [] e (run s left) ≡ got_ends s (got_value (valued here es e left))
  value_of e left is = one (plain_expr [] e) refl is
    where
      by_call : (f : Expr) → is_call f ≡ true → expr (enter_at left) (record { home = here; world = s.newest; depth = 0 }) [] f (run s left) ≡ got_ends s (got_value (call_number here es f left))
      by_call (tree.Call m f as_) call = asks here es printed good (tree.Call m f as_) [] left left call (omega arith)
      by_call (tree.Global m x) call = absurd (false≢true call)
      by_call tree.Nothing call = absurd (false≢true call)
      by_call tree.False call = absurd (false≢true call)
      by_call tree.True call = absurd (false≢true call)
      by_call (tree.Int z) call = absurd (false≢true call)
      by_call (tree.Str t) call = absurd (false≢true call)
      by_call (tree.Local x) call = absurd (false≢true call)
      by_call (tree.Field a x) call = absurd (false≢true call)
      by_call (tree.CallLocal x as_) call = absurd (false≢true call)
      by_call (tree.Latest a as_) call = absurd (false≢true call)
      by_call (tree.And a b) call = absurd (false≢true call)
      by_call (tree.Or a b) call = absurd (false≢true call)
      by_call (tree.Cond a b c) call = absurd (false≢true call)
      by_call (tree.Same a b) call = absurd (false≢true call)
      by_call (tree.Intrin i as_) call = absurd (false≢true call)

      one : (t : Bool) → plain_expr [] e ≡ t → (t || is_call e) ≡ true
          → expr (enter_at left) (record { home = here; world = s.newest; depth = 0 }) [] e (run s left)
          ≡ got_ends s (got_value (cond t (got_number (number_in [] [] e left)) (call_number here es e left)))
      one true plain is' = evaluates s (like here es printed good) 0 refl here [] [] refl e plain left left (omega arith) ∙ as_got s (number_in [] [] e left)
      one false plain is' = by_call e is'

  abbrev bound_behind : Text → Outcome Value → Outcome Value
  bound_behind x o = after o (λ v q. changed (bind_new q.state q.state.here x (Constant v)) v q)

  const_is : (x : Text) (g : Got ℤ) → is_base_name x ≡ false → own_in es x ≡ None → bound_behind x (got_ends s (got_value g)) ≡ const_ends s x g
  unfolding after
  const_is x (Has z left) free new = ap (λ b. changed b (Whole z) (run s left)) (binds_it x z free new)
  const_is x (Fails e left) free new = refl
  const_is x Short free new = refl

  binds_closed : (x : Text) (e : Expr) (left : ℕ) → is_valued e ≡ true → is_base_name x ≡ false → own_in es x ≡ None
      → top (tree.Const x e) (run s left) ≡ const_ends s x (valued here es e left)
  binds_closed x e left is free new = ap (bound_behind x) (value_of e left is) ∙ const_is x (valued here es e left) free new

pub defines : (here : Text) (es : List Event) (printed : Text) → Good here es → (name : Text) (d : Parts) (left : ℕ) → is_base_name name ≡ false → own_in es name ≡ None
    → top (define_item name d) (run (state_of here es printed) left) ≡ Gives (Function (id here name)) (run (with_event (state_of here es printed) (Defines name d.0 d.1)) left)
defines here es printed good name d left free new =
    subst (λ s. top (define_item name d) (run s left) ≡ Gives (Function (id here name)) (run (with_event s (Defines name d.0 d.1)) left)) (sym (closed here es printed good.each)) (defines_closed here es printed good name d left free new)

pub binds : (here : Text) (es : List Event) (printed : Text) → Good here es → (x : Text) (e : Expr) (left : ℕ) → is_valued e ≡ true → is_base_name x ≡ false → own_in es x ≡ None
    → top (tree.Const x e) (run (state_of here es printed) left) ≡ const_ends (state_of here es printed) x (valued here es e left)
binds here es printed good x e left is free new =
    subst (λ s. top (tree.Const x e) (run s left) ≡ const_ends s x (valued here es e left)) (sym (closed here es printed good.each)) (binds_closed here es printed good x e left is free new)
