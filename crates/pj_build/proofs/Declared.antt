-- What an image declares, and what its whole content is.
use Rattle.std.proofs.Common.{◌≡◌, ℕ, zero, suc, ◌+◌, List, [], ◌∷◌, ◌++◌, map, length, take, Some, None, refl, sym, ap, subst, ◌∙◌, slice_get, arith}
use Rattle.std.specs.List.{zip}
use Rattle.std.proofs.lemmas.List.{take_more, length-map}
use Rattle.std.proofs.lemmas.Option.{get_or_from_slice_get, slice_get_within}
use Rattle.pj_meaning.specs.Tree as tree
use Rattle.pj_meaning.specs.Tree.{Text}
use Rattle.pj_tree.specs.Reads.{Parts, Meant, OfBody, as_body, node_of, parts_of}
use Rattle.pj_tree.specs.declared.tree.TreeNode.{TreeNode}
use Rattle.pj_parts.specs.declared.types.FunDef.{FunDef}
use Rattle.pj_parts.specs.declared.types.Binding as parts
use Rattle.pj_image.specs.declared.image.Image.{Image}
use Rattle.pj_content.specs.Content as image
use Rattle.pj_content.specs.Content.{strings_in, content_of}
use Rattle.pj_content.specs.Misfit.{misfit}
use Rattle.pj_content.proofs.Trees.{tree_at}
use Rattle.pj_session.specs.Good.{Good}
use Rattle.pj_plain.specs.Held.{no_parts}
use Rattle.pj_session.specs.declared.own.Own.{Own}
use Rattle.pj_session.specs.declared.own.Own.TheVariants as own
use Rattle.pj_build.specs.Own.{Named, own_events, functions_in, constants_in, mades_in, bodies_in, counts_in}
use Rattle.pj_build.specs.Strings.{Begins, Grown}
use Rattle.pj_build.specs.Sections.{KeptFunctions, KeptBindings}
use Rattle.pj_build.specs.Wiring.{all_methods, all_entries}
use Rattle.pj_build.specs.Built.{Keeps, Declares, with_methods}
use Rattle.pj_build.proofs.Growing.{begins_less}
use Rattle.pj_build.proofs.Kept.{kept_mean}
use Rattle.pj_build.proofs.States.{content, same_content, content_after}
use Rattle.pj_build.proofs.Contents.{things_of, mades_meant}
use Rattle.pj_build.proofs.Fitting.{all_fit}

-- ---- strings as texts, as a loop goes on

pub text_turn : (all texts more : List Text) (i : ℕ) (t : Text) → slice_get all i ≡ Some t → texts ≡ take i all → more ≡ texts ++ t ∷ [] → more ≡ take (i + 1) all
text_turn all texts more i t h e m =
    m ∙ ap (λ (l : List Text). l ++ t ∷ []) e ∙ ap (λ (x : Text). take i all ++ x ∷ []) (sym (get_or_from_slice_get all i t t h)) ∙ sym (take_more all i t (slice_get_within all i t h))

-- ---- what is kept stays so

pub functions_later : (old new : List Text) (named : Named) (fs : List FunDef) → KeptFunctions old named fs → Grown old new → KeptFunctions new named fs
functions_later old new named fs k g = record { means = λ all b. k.means all (begins_less old new all g b); fit = k.fit }

pub bindings_later : (old new : List Text) (named : Named) (bs : List parts.Binding) → KeptBindings old named bs → Grown old new → KeptBindings new named bs
bindings_later old new named bs k g = record { means = λ home all b. k.means home all (begins_less old new all g b); fit = k.fit }

pub begins_all : (strings : List Text) → Begins strings (strings_in strings)
begins_all strings = record { at = λ n t h. get_or_from_slice_get strings n t [] h }

-- ---- trees by their numbers

at_map : {A : Type 0} (f : A → Meant) (ts : List A) (bs : List tree.Body) (n : ℕ) (b : tree.Body) → map f ts ≡ map OfBody bs → slice_get bs n ≡ Some b → (t : A) × (slice_get ts n ≡ Some t) × (f t ≡ OfBody b)
at_map f [] [] n b e h = absurd cc
at_map f [] (c ∷ bs) n b e h = absurd cc
at_map f (t ∷ ts) [] n b e h = absurd cc
at_map f (t ∷ ts) (c ∷ bs) zero b e h = let first : f t ≡ OfBody c = cc in let same : c ≡ b = cc in (t, refl, first ∙ ap OfBody same)
at_map f (t ∷ ts) (c ∷ bs) (suc n) b e h = let rest : map f ts ≡ map OfBody bs = cc in at_map f ts bs n b rest h

-- ---- pairs

pub things_zip : (names : List Text) (things : List Own) → length names ≡ length things → things_of (zip names things) ≡ things
things_zip [] [] e = refl
things_zip [] (o ∷ os) e = absurd (omega arith)
things_zip (n ∷ ns) [] e = absurd (omega arith)
things_zip (n ∷ ns) (o ∷ os) e = ap (λ (l : List Own). o ∷ l) (things_zip ns os (omega arith))

so_many : (ps : Named) → length (functions_in ps) ≡ length (counts_in (things_of ps))
so_many [] = refl
so_many ((name, own.Function d) ∷ ps) = ap suc (so_many ps)
so_many ((name, own.Constant z) ∷ ps) = so_many ps

-- ---- the whole

code_at : (i : Image) (bs : List tree.Body) → ((parts : Parts) → map (node_of (strings_in i.strings) parts) i.trees ≡ map OfBody bs) → (n : ℕ) (b : tree.Body) → slice_get bs n ≡ Some b → as_body (parts_of (strings_in i.strings) i.trees n) ≡ b
code_at i bs k n b h =
    let all = strings_in i.strings in
    let one = at_map (node_of all no_parts) i.trees bs n b (k no_parts) h in
    tree_at (λ (m : Meant). as_body m ≡ b) all i.trees n 0 n one.0 (omega arith) one.1 (λ (parts : Parts).
    let two = at_map (node_of all parts) i.trees bs n b (k parts) h in
    let a = one.1 in
    let c = two.1 in
    let same : two.0 ≡ one.0 = cc in
    ap as_body (subst (λ (y : TreeNode). node_of all parts y ≡ OfBody b) same two.2))

module _ (name : Text) (names : List Text) (things : List Own) (i : Image) (place : ℕ) (each : length names ≡ length things) (d : Declares name names things i) where
  abbrev pub with_all : List Own → Image
  with_all os = with_methods i (all_methods 0 0 (counts_in os)) (all_entries place 0 (counts_in os))

  abbrev ps : Named
  ps = zip names things

  paired : things_of ps ≡ things
  paired = things_zip names things each

  functions_are : map (λ (f : FunDef). strings_in i.strings f.name) i.functions ≡ functions_in ps
  functions_are = d.functions.means (strings_in i.strings) (begins_all i.strings)

  trees_are : (parts : Parts) → map (node_of (strings_in i.strings) parts) i.trees ≡ map OfBody (bodies_in (things_of ps))
  trees_are parts = kept_mean i.strings things i.trees (strings_in i.strings) parts d.trees (begins_all i.strings) ∙ ap (λ (os : List Own). map OfBody (bodies_in os)) (sym paired)

  content_is : content_of (with_all (things_of ps)) ≡ content name [] (functions_in ps) (mades_in name ps) (constants_in name ps) []
  content_is =
      let j = with_all (things_of ps) in
      same_content i.head.name [] [] _ (functions_in ps) _ (mades_in i.head.name ps) _ (constants_in i.head.name ps) [] []
      refl
      functions_are
      (mades_meant i.head.name (image.functions_of j) j.entries (λ (n : ℕ). as_body (parts_of (strings_in i.strings) i.trees n)) ps [] [] [] place functions_are refl (code_at i (bodies_in (things_of ps)) trees_are) refl)
      (d.bindings.means i.head.name (strings_in i.strings) (begins_all i.strings))
      refl
      ∙ ap (λ (n : Text). content n [] (functions_in ps) (mades_in n ps) (constants_in n ps) []) d.called

  pub built_content : Good name (own_events names things) → Keeps name names things (content_of (with_all things))
  built_content good =
      subst (λ (os : List Own). Keeps name names things (content_of (with_all os))) paired (λ printed. content_is ∙ sym (content_after name names things printed good))

  pub built_fits : misfit (with_all things) ≡ None
  built_fits =
      let counts = counts_in things in
      let many : length i.functions ≡ length counts =
      sym (length-map i.functions (λ (f : FunDef). strings_in i.strings f.name)) ∙ ap (λ (l : List Text). length l) functions_are ∙ so_many ps ∙ ap (λ (os : List Own). length (counts_in os)) paired in
      all_fit (all_entries place 0 counts) (length i.functions) counts [] place 0 [] refl (omega arith) (λ p le. refl)
