-- The content of the state after a package's own events.
use Rattle.std.proofs.Common.{◌≡◌, ℕ, suc, ◌≤◌, Bool, true, false, cond, nat_lt, List, [], ◌∷◌, ◌++◌, map, filter, filter_map, length, option_map, option_to_list, refl, sym, ap, subst, ◌∙◌, arith}
use Rattle.std.specs.List.{flat_map, list_all, zip}
use Rattle.std.specs.Str.{bytes_eq}
use Rattle.std.proofs.lemmas.Slice.Eq.{bytes_eq-Decides}
use Rattle.std.proofs.lemmas.Bool.Decides.{nat_tests}
use Rattle.std.proofs.lemmas.Grind.{flat_map-append}
use Rattle.std.proofs.lemmas.List.Elements.{filter-append}
use Rattle.pj_plain.proofs.Bools.{both_true}
use Rattle.pj_meaning.specs.Tree.{Text}
use Rattle.pj_meaning.specs.Names.{id, base_name}
use Rattle.pj_meaning.specs.Types.{TypeRow}
use Rattle.pj_meaning.specs.Methods.{Method}
use Rattle.pj_meaning.specs.Values.{ObjectName, ObjectRow, object_of, Whole}
use Rattle.pj_meaning.specs.State.{State, Binding, FunctionName, Constant}
use Rattle.pj_meaning.specs.Base.{base_types, base_methods, base_bindings}
use Rattle.pj_meaning.specs.Content.{Made, Content, content_of, own_bindings, saved_objects, found_with, renumbered, renamed_row, named_by, held_in, function_name, kept_binding}
use Rattle.pj_session.specs.Events.{ints, body_of, Event, state_of}
use Rattle.pj_session.specs.Good.{Good}
use Rattle.pj_session.proofs.Closed.{methods_in, bindings_in, closed_state, closed}
use Rattle.pj_content.proofs.Names.{flipped}
use Rattle.pj_session.specs.declared.own.Own.{Own}
use Rattle.pj_session.specs.declared.own.Own.TheVariants as own
use Rattle.pj_build.specs.Own.{Named, parts_of, own_event, own_events, functions_in, constants_in, mades_in}

abbrev pub events_of : Named → List Event
events_of ps = map (λ p. own_event p.0 p.1) ps

-- a method that an image keeps of those born behind the world 1
abbrev kept : Method → List Made
kept m = cond (nat_lt 1 m.birth) (record { fun = m.fun; signature = m.signature; code = m.code } ∷ []) []

later : (w : ℕ) → 1 ≤ w → nat_lt 1 (suc w) ≡ true
later w le = grind (arith, nat_tests)

methods_kept : (here : Text) (w : ℕ) (ps : Named) → 1 ≤ w → flat_map kept (methods_in here w (events_of ps)) ≡ mades_in here ps
methods_kept here w [] le = refl
methods_kept here w ((name, own.Function d) ∷ ps) le = rw (later w le) (ap (λ (l : List Made). record { fun = id here name; signature = ints (length (parts_of d).0); code = body_of (parts_of d) } ∷ l) (methods_kept here (suc w) ps (omega arith)))
methods_kept here w ((name, own.Constant z) ∷ ps) le = methods_kept here w ps le

base_born : flat_map kept base_methods ≡ []
base_born = refl

-- ---- what is of Base is not the package's

module _ {A : Type 0} (home : A → Text) (here : Text) (other : bytes_eq here base_name ≡ false) where
  one_less : (x : A) (xs ys : List A) (b : Bool) → bytes_eq (home x) here ≡ b → b ≡ false → filter (λ y. bytes_eq (home y) here) (x ∷ xs) ≡ filter (λ y. bytes_eq (home y) here) xs
  one_less x xs ys b e f = rw (e ∙ f) refl

  of_base : (xs : List A) → list_all (λ x. bytes_eq (home x) base_name) xs ≡ true → filter (λ x. bytes_eq (home x) here) xs ≡ []
  of_base [] h = refl
  of_base (x ∷ xs) h =
      let two = both_true (bytes_eq (home x) base_name) (list_all (λ y. bytes_eq (home y) base_name) xs) h in
      let same : home x ≡ base_name = (bytes_eq-Decides (home x) base_name).0 two.0 in
      let no : bytes_eq base_name here ≡ false = flipped here base_name (bytes_eq base_name here) refl other in
      let no' : bytes_eq (home x) here ≡ false = subst (λ (t : Text). bytes_eq t here ≡ false) (sym same) no in
      rw no' (of_base xs two.1)

own_home : (here : Text) (ps : Named) → filter (λ b. bytes_eq b.home here) (bindings_in here (events_of ps)) ≡ bindings_in here (events_of ps)
own_home here [] = refl
own_home here ((name, own.Function d) ∷ ps) = rw ((bytes_eq-Decides here here).1 refl) (ap (λ (l : List Binding). record { home = here; name = name; role = FunctionName (id here name) } ∷ l) (own_home here ps))
own_home here ((name, own.Constant z) ∷ ps) = rw ((bytes_eq-Decides here here).1 refl) (ap (λ (l : List Binding). record { home = here; name = name; role = Constant (Whole z) } ∷ l) (own_home here ps))

functions_kept : (here : Text) (ps : Named) → filter_map (λ b. function_name b.name b.role) (bindings_in here (events_of ps)) ≡ functions_in ps
functions_kept here [] = refl
functions_kept here ((name, own.Function d) ∷ ps) = ap (λ (l : List Text). name ∷ l) (functions_kept here ps)
functions_kept here ((name, own.Constant z) ∷ ps) = functions_kept here ps

constants_kept : (new : ObjectName → ObjectName) (here : Text) (ps : Named) → filter_map (λ b. kept_binding new b b.role) (bindings_in here (events_of ps)) ≡ constants_in here ps
constants_kept new here [] = refl
constants_kept new here ((name, own.Function d) ∷ ps) = constants_kept new here ps
constants_kept new here ((name, own.Constant z) ∷ ps) = ap (λ (l : List Binding). record { home = here; name = name; role = Constant (Whole z) } ∷ l) (constants_kept new here ps)

no_objects : (here : Text) (ps : Named) → flat_map named_by (filter_map (λ b. held_in b.role) (bindings_in here (events_of ps))) ≡ []
no_objects here [] = refl
no_objects here ((name, own.Function d) ∷ ps) = no_objects here ps
no_objects here ((name, own.Constant z) ∷ ps) = no_objects here ps

-- ---- all together

abbrev pub content : Text → List TypeRow → List Text → List Made → List Binding → List ObjectRow → Content
content name types functions methods bindings objects = record { name = name; types = types; functions = functions; methods = methods; bindings = bindings; objects = objects; wanted = [] }

pub same_content : (name : Text) (t t' : List TypeRow) (f f' : List Text) (m m' : List Made) (b b' : List Binding) (o o' : List ObjectRow)
    → t ≡ t' → f ≡ f' → m ≡ m' → b ≡ b' → o ≡ o' → content name t f m b o ≡ content name t' f' m' b' o'
same_content name t t' f f' m m' b b' o o' p q r s u =
    ap (λ (x : List TypeRow). content name x f m b o) p
    ∙ ap (λ (x : List Text). content name t' x m b o) q
    ∙ ap (λ (x : List Made). content name t' f' x b o) r
    ∙ ap (λ (x : List Binding). content name t' f' m' x o) s
    ∙ ap (λ (x : List ObjectRow). content name t' f' m' b' x) u

module _ (here : Text) (other : bytes_eq here base_name ≡ false) (ps : Named) (printed : Text) where
  abbrev es : List Event
  es = events_of ps

  abbrev s : State
  s = closed_state here es printed

  own_are : own_bindings s ≡ bindings_in here es
  own_are =
      filter-append (λ b. bytes_eq b.home here) base_bindings (bindings_in here es)
      ∙ ap (λ (l : List Binding). l ++ filter (λ b. bytes_eq b.home here) (bindings_in here es)) (of_base (λ (b : Binding). b.home) here other base_bindings refl)
      ∙ own_home here ps

  nothing_saved : saved_objects s ≡ []
  nothing_saved = ap (λ (l : List Binding). found_with here [] (flat_map named_by (filter_map (λ b. held_in b.role) l))) own_are ∙ ap (found_with here []) (no_objects here ps)

  content_at : content_of 1 s ≡ content here [] (functions_in ps) (mades_in here ps) (constants_in here ps) []
  content_at =
      let new = renumbered here (saved_objects s) in
      same_content here _ [] _ (functions_in ps) _ (mades_in here ps) _ (constants_in here ps) _ []
      (of_base (λ (row : TypeRow). row.name.home) here other base_types refl)
      (ap (λ (l : List Binding). filter_map (λ b. function_name b.name b.role) l) own_are ∙ functions_kept here ps)
      (flat_map-append kept base_methods (methods_in here 1 es) ∙ ap (λ (l : List Made). l ++ flat_map kept (methods_in here 1 es)) base_born ∙ methods_kept here 1 ps (omega arith))
      (ap (λ (l : List Binding). filter_map (λ b. kept_binding new b b.role) l) own_are ∙ constants_kept new here ps)
      (ap (λ (l : List ObjectName). flat_map (λ o. option_to_list (option_map (renamed_row new) (object_of s.objects o))) l) nothing_saved)

pub content_after : (here : Text) (names : List Text) (things : List Own) (printed : Text) → Good here (own_events names things)
    → content_of 1 (state_of here (own_events names things) printed) ≡ content here [] (functions_in (zip names things)) (mades_in here (zip names things)) (constants_in here (zip names things)) []
content_after here names things printed good =
    ap (content_of 1) (closed here (own_events names things) printed good.each) ∙ content_at here good.home (zip names things) printed
