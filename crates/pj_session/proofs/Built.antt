-- What is kept of a package that was built without dependencies.
use Rattle.std.proofs.Common.{◌≡◌, ℕ, suc, ◌≤◌, true, false, cond, List, [], ◌∷◌, ◌++◌, filter, nat_lt, option_map, refl, sym, ap, subst, ◌∙◌, arith}
use Rattle.std.specs.Prelude.{filter_map, flat_map, option_to_list}
use Rattle.std.specs.Str.{bytes_eq}
use Rattle.std.proofs.lemmas.Bool.Decides.{nat_tests}
use Rattle.std.proofs.lemmas.Grind.{flat_map-append}
use Rattle.std.proofs.lemmas.List.Elements.{filter-append}
use Rattle.pj_meaning.specs.Tree.{Text}
use Rattle.pj_meaning.specs.Names.{base_name}
use Rattle.pj_meaning.specs.Values.{ObjectName, object_of}
use Rattle.pj_meaning.specs.Methods.{Method}
use Rattle.pj_meaning.specs.State.{State, Binding}
use Rattle.pj_meaning.specs.Base.{base_types, base_methods, base_bindings}
use Rattle.pj_meaning.specs.Content.{Made, Content, named_by, held_in, own_bindings, found_with, renumbered, renamed_row, kept_binding, function_name, content_of}
use Rattle.pj_session.specs.Events.{Event, Defines, Binds, Loads, state_of}
use Rattle.pj_session.specs.Good.{Good}
use Rattle.pj_session.specs.Uses.{image_count}
use Rattle.pj_session.specs.Built.{made_functions, made_methods, made_const, made_consts, content_in}
use Rattle.pj_session.proofs.Texts.{text_itself, bytes_eq-comm}
use Rattle.pj_session.proofs.Closed.{closed_state, closed, methods_in, bindings_in}

-- where no image is loaded, all that was added is the module's own

all_own : (here : Text) (es : List Event) → image_count es ≡ 0 → filter (λ b. bytes_eq b.home here) (bindings_in here es) ≡ bindings_in here es
all_own here [] none = refl
all_own here (Defines f ps e ∷ es) none = rw (text_itself here, all_own here es none) refl
all_own here (Binds x z ∷ es) none = rw (text_itself here, all_own here es none) refl
all_own here (Loads held ∷ es) none = cc

nothing_named : (here : Text) (es : List Event) → image_count es ≡ 0 → flat_map named_by (filter_map (λ (b : Binding). held_in b.role) (bindings_in here es)) ≡ []
nothing_named here [] none = refl
nothing_named here (Defines f ps e ∷ es) none = nothing_named here es none
nothing_named here (Binds x z ∷ es) none = nothing_named here es none
nothing_named here (Loads held ∷ es) none = cc

functions_are : (here : Text) (es : List Event) → image_count es ≡ 0 → filter_map (λ (b : Binding). function_name b.name b.role) (bindings_in here es) ≡ made_functions es
functions_are here [] none = refl
functions_are here (Defines f ps e ∷ es) none = ap (λ fs. f ∷ fs) (functions_are here es none)
functions_are here (Binds x z ∷ es) none = functions_are here es none
functions_are here (Loads held ∷ es) none = cc

consts_are : (new : ObjectName → ObjectName) (here : Text) (es : List Event) → image_count es ≡ 0 → filter_map (λ (b : Binding). kept_binding new b b.role) (bindings_in here es) ≡ made_consts here es
consts_are new here [] none = refl
consts_are new here (Defines f ps e ∷ es) none = consts_are new here es none
consts_are new here (Binds x z ∷ es) none = ap (λ bs. made_const here x z ∷ bs) (consts_are new here es none)
consts_are new here (Loads held ∷ es) none = cc

-- the methods that are born behind the first world
abbrev later : Method → List Made
later m = cond (nat_lt 1 m.birth) (record { fun = m.fun; signature = m.signature; code = m.code } ∷ []) []

methods_are : (here : Text) (w : ℕ) (es : List Event) → 1 ≤ w → image_count es ≡ 0 → flat_map later (methods_in here w es) ≡ made_methods here es
methods_are here w [] from none = refl
methods_are here w (Defines f ps e ∷ es) from none =
    let now : nat_lt 1 (suc w) ≡ true = grind (arith, nat_tests) in
    rw (now, methods_are here (suc w) es (omega (arith, from)) none) refl
methods_are here w (Binds x z ∷ es) from none = methods_are here w es from none
methods_are here w (Loads held ∷ es) from none = cc

module _ (here : Text) (es : List Event) (printed : Text) (good : Good here es) (none : image_count es ≡ 0) where
  abbrev s : State
  s = closed_state here es printed

  other_base : bytes_eq base_name here ≡ false
  other_base = bytes_eq-comm base_name here ∙ good.home

  no_types : filter (λ row. bytes_eq row.name.home here) base_types ≡ []
  no_types = rw other_base refl

  own_are : own_bindings s ≡ bindings_in here es
  own_are =
      filter-append (λ (b : Binding). bytes_eq b.home here) base_bindings (bindings_in here es)
      ∙ ap (λ bs. bs ++ filter (λ b. bytes_eq b.home here) (bindings_in here es)) base_part
      ∙ all_own here es none
    where
      base_part : filter (λ b. bytes_eq b.home here) base_bindings ≡ []
      base_part = rw other_base refl

  abbrev content_by : List Binding → List ObjectName → Content
  content_by own saved = record {
    name = here;
    types = filter (λ row. bytes_eq row.name.home here) base_types;
    functions = filter_map (λ (b : Binding). function_name b.name b.role) own;
    methods = flat_map later s.methods;
    bindings = filter_map (λ (b : Binding). kept_binding (renumbered here saved) b b.role) own;
    objects = flat_map (λ o. option_to_list (option_map (renamed_row (renumbered here saved)) (object_of [] o))) saved;
    wanted = [];
  }

  abbrev content_as : List Text → List Made → List Binding → Content
  content_as functions methods bindings =
      record { name = here; types = []; functions = functions; methods = methods; bindings = bindings; objects = []; wanted = [] }

  built_closed : content_of 1 s ≡ content_in here es
  built_closed =
      ap (λ own. content_by own (found_with here [] (flat_map named_by (filter_map (λ (b : Binding). held_in b.role) own)))) own_are
      ∙ ap (λ objects. content_by (bindings_in here es) (found_with here [] objects)) (nothing_named here es none)
      ∙ (rw no_types refl)
      ∙ ap (λ fs. content_as fs (flat_map later s.methods) (filter_map (λ (b : Binding). kept_binding (renumbered here []) b b.role) (bindings_in here es))) (functions_are here es none)
      ∙ ap (λ ms. content_as (made_functions es) ms (filter_map (λ (b : Binding). kept_binding (renumbered here []) b b.role) (bindings_in here es)))
      (flat_map-append later base_methods (methods_in here 1 es) ∙ methods_are here 1 es (omega arith) none)
      ∙ ap (λ bs. content_as (made_functions es) (made_methods here es) bs) (consts_are (renumbered here []) here es none)

pub built : (here : Text) (es : List Event) (printed : Text) → Good here es → image_count es ≡ 0 → content_of 1 (state_of here es printed) ≡ content_in here es
built here es printed good none = subst (λ s. content_of 1 s ≡ content_in here es) (sym (closed here es printed good.each)) (built_closed here es printed good none)
