-- Sections as they grow.
use Rattle.std.proofs.Common.{◌≡◌, ℕ, zero, suc, ◌+◌, ◌^◌, ◌<◌, ◌≤◌, ℤ, List, [], ◌∷◌, ◌++◌, map, length, get_or, take, Some, refl, sym, ap, subst, ◌∙◌, append-nil, add-one, slice_get, arith}
use Rattle.std.specs.Prelude.{FitsSigned}
use Rattle.std.specs.Int.{w64}
use Rattle.std.specs.List.{flat_map, zip, AllByRecursion}
use Rattle.std.proofs.lemmas.List.{take_all}
use Rattle.std.proofs.lemmas.Slice.Zip.{length-zip}
use Rattle.std.proofs.lemmas.Grind.{flat_map-append}
use Rattle.std.proofs.lemmas.List.Concat.{flat_map-cons}
use Rattle.pj_base.proofs.PlaceLemmas.{map-push}
use Rattle.pj_meaning.specs.Tree as tree
use Rattle.pj_meaning.specs.Tree.{Text}
use Rattle.pj_meaning.specs.Values.{Whole}
use Rattle.pj_meaning.specs.State as state
use Rattle.pj_tree.specs.Reads.{Strings, Parts, Meant, OfBody, texts_of, block_of, stmt_of, node_of, body_of, Defined, part_layer, payload_layer, stmt_layer, node_layer, body_layer, def_layer}
use Rattle.pj_tree.specs.declared.tree.Sym.{Sym}
use Rattle.pj_tree.specs.declared.tree.Expr.{Expr}
use Rattle.pj_tree.specs.declared.tree.Stmt.{Stmt}
use Rattle.pj_tree.specs.declared.tree.Stmt.TheVariants as stmt
use Rattle.pj_tree.specs.declared.tree.Body.{roll-Body}
use Rattle.pj_tree.specs.declared.tree.Part.TheFolds.{fold-roll-Body}
use Rattle.pj_tree.specs.declared.tree.TreeNode.{TreeNode}
use Rattle.pj_tree.specs.declared.tree.TreeNode.TheVariants as node
use Rattle.pj_tree.proofs.TreeReads.{stmt_of-Value, node_of-Body}
use Rattle.pj_parts.specs.declared.types.FunDef.{FunDef}
use Rattle.pj_parts.specs.declared.types.Binding.{Binding}
use Rattle.pj_parts.specs.declared.types.BindingForm.TheVariants as forms
use Rattle.pj_parts.specs.declared.types.Value.TheVariants as values
use Rattle.pj_parts.specs.Fits.{FunDefFits, BindingFits}
use Rattle.pj_parts.proofs.Values.{value_layers}
use Rattle.pj_session.specs.Events as events
use Rattle.pj_session.specs.declared.own.Definition.{Definition}
use Rattle.pj_session.specs.declared.own.Own.{Own}
use Rattle.pj_session.specs.declared.own.Own.TheVariants as own
use Rattle.pj_build.specs.Own.{Named, parts_of, function_of, constant_of, functions_in, constants_in, bodies_in}
use Rattle.pj_build.specs.Strings.{Begins, Grown}
use Rattle.pj_build.specs.Numbered.{NumberedSyms, NumberedExpr}
use Rattle.pj_build.specs.Sections.{KeptFunctions, binding_in, KeptBindings, KeptBody, TreesOf, KeptTrees}
use Rattle.pj_build.proofs.Interning.{grown_same, grown_more}
use Rattle.pj_build.proofs.Growing.{begins_less, syms_later, expr_later}

-- two lists side by side, as far as a loop has come
pub pairs_turn : {A B : Type 0} (ns : List A) (os : List B) (i : ℕ) (n : A) (o : B) → slice_get ns i ≡ Some n → i < length os → o ≡ get_or os i o → take (i + 1) (zip ns os) ≡ take i (zip ns os) ++ (n, o) ∷ []
pairs_turn [] os i n o h lt e = absurd cc
pairs_turn (x ∷ ns) [] i n o h lt e = absurd (omega arith)
pairs_turn (x ∷ ns) (y ∷ os) zero n o h lt e = let a : x ≡ n = cc in let b : y ≡ o = sym e in rw (a, b) refl
pairs_turn {A} {B} (x ∷ ns) (y ∷ os) (suc i) n o h lt e =
    let more : take (suc i) (zip ns os) ≡ take i (zip ns os) ++ (n, o) ∷ [] = rw add-one at (pairs_turn ns os i n o h (omega arith) e) in
    rw add-one (ap (λ (l : List (A × B)). (x, y) ∷ l) more)

pub pairs_all : {A B : Type 0} (ns : List A) (os : List B) (i : ℕ) → length os ≤ i → take i (zip ns os) ≡ zip ns os
pairs_all ns os i le = take_all i (zip ns os) (omega (arith, length-zip ns os))

pub named_turn : (R : Named → Type 0) (ns : List Text) (os : List Own) (i : ℕ) (n : Text) (o : Own) → slice_get ns i ≡ Some n → i < length os → o ≡ get_or os i o → R (take i (zip ns os) ++ (n, o) ∷ []) → R (take (i + 1) (zip ns os))
named_turn R ns os i n o h lt e r = subst R (sym (pairs_turn ns os i n o h lt e)) r

pub flat_map-push : {A B : Type 0} (f : A → List B) (xs : List A) (x : A) → flat_map f (xs ++ x ∷ []) ≡ flat_map f xs ++ f x
flat_map-push {A} {B} f xs x = flat_map-append f xs (x ∷ []) ∙ ap (λ (l : List B). flat_map f xs ++ l) (flat_map-cons f x [] ∙ append-nil (f x))

pub fit_push : {A : Type 0} (P : A → Type 0) (xs : List A) (x : A) → AllByRecursion P xs → P x → AllByRecursion P (xs ++ x ∷ [])
fit_push P [] x all p = (p, tt)
fit_push P (y ∷ xs) x all p = (all.0, fit_push P xs x all.1 p)

-- ---- functions

pub kept_functions-none : (strings : List Text) → KeptFunctions strings [] []
kept_functions-none strings = record { means = λ all b. refl; fit = tt }

pub kept_function : (old new : List Text) (named : Named) (fs gs : List FunDef) (name : Text) (o : Own) (d : Definition) (n : ℕ)
    → KeptFunctions old named fs → Grown old new → o ≡ own.Function d → slice_get new n ≡ Some name → n < 2 ^ 32 → gs ≡ fs ++ record { name = n } ∷ []
    → KeptFunctions new (named ++ (name, o) ∷ []) gs
kept_function old new named fs gs name o d n p g od h lt e = record {
  means = λ all b.
      rw (e, od) (map-push (λ (f : FunDef). all f.name) fs (record { name = n })
      ∙ ap (λ (l : List Text). l ++ all n ∷ []) (p.means all (begins_less old new all g b))
      ∙ ap (λ (t : Text). functions_in named ++ t ∷ []) (b.at n name h)
      ∙ sym (flat_map-push (λ (q : Text × Own). function_of q.0 q.1) named (name, own.Function d)));
  fit = rw e (fit_push FunDefFits fs (record { name = n }) p.fit lt);
}

pub kept_no_function : (strings : List Text) (named : Named) (fs : List FunDef) (name : Text) (o : Own) (z : ℤ) → KeptFunctions strings named fs → o ≡ own.Constant z → KeptFunctions strings (named ++ (name, o) ∷ []) fs
kept_no_function strings named fs name o z p oz = record {
  means = λ all b.
      rw oz (p.means all b ∙ sym (flat_map-push (λ (q : Text × Own). function_of q.0 q.1) named (name, own.Constant z) ∙ append-nil (functions_in named)));
  fit = p.fit;
}

-- ---- constants

pub kept_bindings-none : (strings : List Text) → KeptBindings strings [] []
kept_bindings-none strings = record { means = λ home all b. refl; fit = tt }

const_of : ℕ → ℤ → Binding
const_of n z = record { name = n; form = forms.Const; value = values.Int z }

const_in : (home : Text) (all : Strings) (n : ℕ) (z : ℤ) → binding_in home all (const_of n z) ≡ record { home = home; name = all n; role = state.Constant (Whole z) }
unfolding const_of
const_in home all n z = simp value_layers refl

pub kept_binding : (old new : List Text) (named : Named) (bs cs : List Binding) (name : Text) (o : Own) (z : ℤ) (n : ℕ)
    → KeptBindings old named bs → Grown old new → o ≡ own.Constant z → slice_get new n ≡ Some name → n < 2 ^ 32 → FitsSigned w64 z → cs ≡ bs ++ record { name = n; form = forms.Const; value = values.Int z } ∷ []
    → KeptBindings new (named ++ (name, o) ∷ []) cs
unfolding const_of
kept_binding old new named bs cs name o z n p g oz h lt whole e = record {
  means = λ home all b.
      rw (e, oz) (map-push (binding_in home all) bs (const_of n z)
      ∙ ap (λ (l : List state.Binding). l ++ binding_in home all (const_of n z) ∷ []) (p.means home all (begins_less old new all g b))
      ∙ ap (λ (x : state.Binding). constants_in home named ++ x ∷ []) (const_in home all n z ∙ ap (λ (t : Text). record { home = home; name = t; role = state.Constant (Whole z) }) (b.at n name h))
      ∙ sym (flat_map-push (λ (q : Text × Own). constant_of home q.0 q.1) named (name, own.Constant z)));
  fit = rw e (fit_push BindingFits bs (const_of n z) p.fit (lt, (tt, rw (values.outs-Int z) whole)));
}

pub kept_no_binding : (strings : List Text) (named : Named) (bs : List Binding) (name : Text) (o : Own) (d : Definition) → KeptBindings strings named bs → o ≡ own.Function d → KeptBindings strings (named ++ (name, o) ∷ []) bs
kept_no_binding strings named bs name o d p od = record {
  means = λ home all b.
      rw od (p.means home all b ∙ sym (flat_map-push (λ (q : Text × Own). constant_of home q.0 q.1) named (name, own.Function d) ∙ append-nil (constants_in home named)));
  fit = p.fit;
}

-- ---- trees

body_roll : (all : Strings) (parts : Parts) (a b : List Sym) (c : List Stmt)
    → body_of all parts (roll-Body (record { params = a; introduced = b; block = c })) ≡ tree.body (texts_of all a) (texts_of all b) (block_of (map (stmt_of all parts) c))
body_roll all parts a b c =
    fold-roll-Body Meant tree.Payload tree.Stmt Meant tree.Body Defined
    (part_layer parts) (payload_layer all) (stmt_layer all) node_layer (body_layer all) (def_layer all)
    (record { params = a; introduced = b; block = c })

pub kept_body : (before strings : List Text) (d : Definition) (params introduced : List Sym) (block : List Stmt) (value : Expr)
    → NumberedSyms before d.params params → Grown before strings → NumberedExpr strings d.body value → introduced ≡ [] → block ≡ stmt.Value value ∷ []
    → KeptBody strings d (node.Body (roll-Body (record { params = params; introduced = introduced; block = block })))
kept_body before strings d params introduced block value p g q none one =
    record { params = params; value = value; is = rw (none, one) refl; named = syms_later before strings d.params params p g; numbered = q }

-- such a body means the function's, whatever other trees there are
body_means : (strings : List Text) (d : Definition) (t : TreeNode) (all : Strings) (parts : Parts) → KeptBody strings d t → Begins strings all → node_of all parts t ≡ OfBody (events.body_of (parts_of d))
body_means strings d t all parts k begun = rw k.is
    (node_of-Body all parts (roll-Body (record { params = k.params; introduced = []; block = stmt.Value k.value ∷ [] }))
    ∙ ap OfBody (body_roll all parts k.params [] (stmt.Value k.value ∷ [])
    ∙ ap (λ (l : List Text). tree.body l [] (block_of (map (stmt_of all parts) (stmt.Value k.value ∷ [])))) (k.named.means all begun)
    ∙ ap (λ (s : tree.Stmt). tree.body (parts_of d).0 [] (tree.step s tree.end)) (stmt_of-Value all parts k.value ∙ ap tree.Value (k.numbered.means all begun))))

trees_mean : (strings : List Text) (things : List Own) (ts : List TreeNode) (all : Strings) (parts : Parts) → TreesOf strings things ts → Begins strings all → map (node_of all parts) ts ≡ map OfBody (bodies_in things)
trees_mean strings [] [] all parts k begun = refl
trees_mean strings [] (t ∷ ts) all parts k begun = absurd k
trees_mean strings (own.Function d ∷ things) [] all parts k begun = absurd k
trees_mean strings (own.Function d ∷ things) (t ∷ ts) all parts k begun = rw (body_means strings d t all parts k.0 begun, trees_mean strings things ts all parts k.1 begun) refl
trees_mean strings (own.Constant z ∷ things) ts all parts k begun = trees_mean strings things ts all parts k begun

pub kept_mean : (strings : List Text) (things : List Own) (ts : List TreeNode) (all : Strings) (parts : Parts) → KeptTrees strings things ts → Begins strings all → map (node_of all parts) ts ≡ map OfBody (bodies_in things)
kept_mean strings things ts all parts k begun = trees_mean strings things ts all parts k.each begun

body_later : (old new : List Text) (d : Definition) (t : TreeNode) → KeptBody old d t → Grown old new → KeptBody new d t
body_later old new d t k g = record { params = k.params; value = k.value; is = k.is; named = syms_later old new d.params k.params k.named g; numbered = expr_later old new d.body k.value k.numbered g }

trees_later : (old new : List Text) (things : List Own) (ts : List TreeNode) → TreesOf old things ts → Grown old new → TreesOf new things ts
trees_later old new [] [] k g = tt
trees_later old new [] (t ∷ ts) k g = absurd k
trees_later old new (own.Function d ∷ things) [] k g = absurd k
trees_later old new (own.Function d ∷ things) (t ∷ ts) k g = (body_later old new d t k.0 g, trees_later old new things ts k.1 g)
trees_later old new (own.Constant z ∷ things) ts k g = trees_later old new things ts k g

trees_push : (strings : List Text) (things : List Own) (ts : List TreeNode) (d : Definition) (t : TreeNode) → TreesOf strings things ts → KeptBody strings d t → TreesOf strings (things ++ own.Function d ∷ []) (ts ++ t ∷ [])
trees_push strings [] [] d t k b = (b, tt)
trees_push strings [] (u ∷ ts) d t k b = absurd k
trees_push strings (own.Function f ∷ things) [] d t k b = absurd k
trees_push strings (own.Function f ∷ things) (u ∷ ts) d t k b = (k.0, trees_push strings things ts d t k.1 b)
trees_push strings (own.Constant z ∷ things) ts d t k b = trees_push strings things ts d t k b

trees_past : (strings : List Text) (things : List Own) (ts : List TreeNode) (z : ℤ) → TreesOf strings things ts → TreesOf strings (things ++ own.Constant z ∷ []) ts
trees_past strings [] [] z k = tt
trees_past strings [] (u ∷ ts) z k = absurd k
trees_past strings (own.Function f ∷ things) [] z k = absurd k
trees_past strings (own.Function f ∷ things) (u ∷ ts) z k = (k.0, trees_past strings things ts z k.1)
trees_past strings (own.Constant y ∷ things) ts z k = trees_past strings things ts z k

pub kept_trees-none : (strings : List Text) → KeptTrees strings [] []
kept_trees-none strings = record { each = tt }

pub kept_tree : (old new : List Text) (things : List Own) (ts us : List TreeNode) (o : Own) (d : Definition) (t : TreeNode)
    → KeptTrees old things ts → Grown old new → o ≡ own.Function d → KeptBody new d t → us ≡ ts ++ t ∷ [] → KeptTrees new (things ++ o ∷ []) us
kept_tree old new things ts us o d t p g od k e = rw (e, od) (record { each = trees_push new things ts d t (trees_later old new things ts p.each g) k })

pub kept_no_tree : (strings : List Text) (things : List Own) (ts : List TreeNode) (o : Own) (z : ℤ) → KeptTrees strings things ts → o ≡ own.Constant z → KeptTrees strings (things ++ o ∷ []) ts
kept_no_tree strings things ts o z p oz = rw oz (record { each = trees_past strings things ts z p.each })

pub ruleset functions = (kept_functions-none, kept_function, kept_no_function, grown_same, grown_more)

pub ruleset bindings = (kept_bindings-none, kept_binding, kept_no_binding, grown_same, grown_more)

pub ruleset bodies = (kept_body, grown_same, grown_more)

pub ruleset trees = (kept_trees-none, kept_tree, kept_no_tree, grown_same, grown_more)
