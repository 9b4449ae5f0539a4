-- What the wired methods of an image mean.
use Rattle.std.proofs.Common.{◌≡◌, ℕ, zero, suc, ◌+◌, ◌*◌, List, [], ◌∷◌, ◌++◌, map, length, Some, refl, sym, ap, subst, ◌∙◌, append_assoc, length-append, slice_get, slice_index_or, arith}
use Rattle.std.proofs.lemmas.List.{length-map}
use Rattle.std.proofs.Math.Seq.{get_or-append_seam}
use Rattle.pj_meaning.specs.Tree as tree
use Rattle.pj_meaning.specs.Tree.{Text}
use Rattle.pj_meaning.specs.Names.{Id, id, int_type}
use Rattle.pj_meaning.specs.Content.{Made}
use Rattle.pj_tree.specs.Reads.{text_of_sym}
use Rattle.pj_plain.specs.Held.{no_strings}
use Rattle.pj_base.specs.declared.kinds.KindTag.TheVariants as kinds
use Rattle.pj_reloc.specs.declared.entry.Entry.{Entry}
use Rattle.pj_parts.specs.declared.types.Method.{Method}
use Rattle.pj_image.specs.Mentions.{count_from}
use Rattle.pj_content.specs.Content.{function_named, type_named}
use Rattle.pj_session.specs.Events.{ints, body_of}
use Rattle.pj_session.specs.declared.own.Own.{Own}
use Rattle.pj_session.specs.declared.own.Own.TheVariants as own
use Rattle.pj_build.specs.Own.{Named, parts_of, functions_in, mades_in, bodies_in, counts_in}
use Rattle.pj_build.specs.Wiring.{entry_at, int_entries, wired_entries, all_methods, all_entries}
use Rattle.pj_build.proofs.Wires.{length-wired}

pub get_seam : {A : Type 0} (xs : List A) (y : A) (ys : List A) → slice_get (xs ++ y ∷ ys) (length xs) ≡ Some y
get_seam [] y ys = refl
get_seam (x ∷ xs) y ys = get_seam xs y ys

pub length-push : {A : Type 0} (xs : List A) (x : A) → length (xs ++ x ∷ []) ≡ length xs + 1
length-push xs x = length-append xs (x ∷ [])

abbrev pub things_of : Named → List Own
things_of ps = map (λ p. p.1) ps

module _ (home : Text) (functions : List Text) (entries : List Entry) (code : ℕ → tree.Body) where
  abbrev pub meant : Method → Made
  meant m = record { fun = function_named home functions (slice_get entries m.fun); signature = map (λ k. type_named (slice_get entries k)) m.types; code = code m.body }

  ints_meant : (before rest : List Entry) (at count : ℕ) → entries ≡ before ++ (int_entries at count ++ rest) → map (λ k. type_named (slice_get entries k)) (count_from (length before) count) ≡ ints count
  ints_meant before rest at zero e = refl
  ints_meant before rest at (suc count) e =
      let x = entry_at at kinds.TypeKind 0 5 in
      let here : slice_get entries (length before) ≡ Some x = ap (λ (l : List Entry). slice_get l (length before)) e ∙ get_seam before x (int_entries (at + 4) count ++ rest) in
      let again : entries ≡ (before ++ x ∷ []) ++ (int_entries (at + 4) count ++ rest) = e ∙ sym (append_assoc before (x ∷ []) (int_entries (at + 4) count ++ rest)) in
      ap (λ (t : Id). t ∷ map (λ k. type_named (slice_get entries k)) (count_from (length before + 1) count)) (ap type_named here)
      ∙ ap (λ (n : ℕ). int_type ∷ map (λ k. type_named (slice_get entries k)) (count_from n count)) (sym (length-push before x))
      ∙ ap (λ (l : List Id). int_type ∷ l) (ints_meant (before ++ x ∷ []) rest (at + 4) count again)

  pub mades_meant : (ps : Named) (fs : List Text) (bs : List tree.Body) (es : List Entry) (at : ℕ)
      → functions ≡ fs ++ functions_in ps → length bs ≡ length fs → ((n : ℕ) (b : tree.Body) → slice_get (bs ++ bodies_in (things_of ps)) n ≡ Some b → code n ≡ b)
      → entries ≡ es ++ all_entries at (length fs) (counts_in (things_of ps))
      → map meant (all_methods (length es) (length fs) (counts_in (things_of ps))) ≡ mades_in home ps
  mades_meant [] fs bs es at f l c e = refl
  mades_meant ((name, own.Constant z) ∷ ps) fs bs es at f l c e = mades_meant ps fs bs es at f l c e
  mades_meant ((name, own.Function d) ∷ ps) fs bs es at f l c e =
      let count = length d.params in
      let counts = counts_in (things_of ps) in
      let body = body_of (parts_of d) in
      let x = entry_at at kinds.FunKind 1 (length fs) in
      let wired = wired_entries at (length fs) count in
      let behind = all_entries (at + 12 + 4 * count) (length fs + 1) counts in
      let here : slice_get entries (length es) ≡ Some x = ap (λ (l : List Entry). slice_get l (length es)) e ∙ get_seam es x (int_entries (at + 8) count ++ behind) in
      let fun : function_named home functions (slice_get entries (length es)) ≡ id home name =
      ap (function_named home functions) here ∙ ap (λ (l : List Text). id home (slice_index_or l (length fs) [])) f ∙ ap (id home) (get_or-append_seam fs name (functions_in ps) []) in
      let types : map (λ k. type_named (slice_get entries k)) (count_from (length es + 1) count) ≡ ints (length (parts_of d).0) =
      ap (λ (n : ℕ). map (λ k. type_named (slice_get entries k)) (count_from n count)) (sym (length-push es x))
      ∙ ints_meant (es ++ x ∷ []) behind (at + 8) count (e ∙ sym (append_assoc es (x ∷ []) (int_entries (at + 8) count ++ behind)))
      ∙ ap ints (sym (length-map d.params (text_of_sym no_strings))) in
      let meaning : code (length fs) ≡ body = ap code (sym l) ∙ c (length bs) body (get_seam bs body (bodies_in (things_of ps))) in
      let fs' : length (fs ++ name ∷ []) ≡ length fs + 1 = length-push fs name in
      let es' : length (es ++ wired) ≡ length es + 1 + count = length-append es wired ∙ (let k = length-wired at (length fs) count in omega (arith, k)) in
      let rest =
      mades_meant ps (fs ++ name ∷ []) (bs ++ body ∷ []) (es ++ wired) (at + 12 + 4 * count)
      (f ∙ sym (append_assoc fs (name ∷ []) (functions_in ps)))
      (length-push bs body ∙ ap (λ (n : ℕ). n + 1) l ∙ sym fs')
      (subst (λ (bl : List tree.Body). (n : ℕ) (b : tree.Body) → slice_get bl n ≡ Some b → code n ≡ b) (sym (append_assoc bs (body ∷ []) (bodies_in (things_of ps)))) c)
      (e ∙ sym (append_assoc es wired behind) ∙ ap (λ (n : ℕ). (es ++ wired) ++ all_entries (at + 12 + 4 * count) n counts) (sym fs')) in
      ap (λ (i : Id). record { fun = i; signature = map (λ k. type_named (slice_get entries k)) (count_from (length es + 1) count); code = code (length fs) } ∷ map meant (all_methods (length es + 1 + count) (length fs + 1) counts)) fun
      ∙ ap (λ (t : List Id). record { fun = id home name; signature = t; code = code (length fs) } ∷ map meant (all_methods (length es + 1 + count) (length fs + 1) counts)) types
      ∙ ap (λ (b : tree.Body). record { fun = id home name; signature = ints (length (parts_of d).0); code = b } ∷ map meant (all_methods (length es + 1 + count) (length fs + 1) counts)) meaning
      ∙ ap (λ (l : List Made). record { fun = id home name; signature = ints (length (parts_of d).0); code = body } ∷ l)
      (ap (λ (n : ℕ). map meant (all_methods n (length fs + 1) counts)) (sym es') ∙ ap (λ (n : ℕ). map meant (all_methods (length (es ++ wired)) n counts)) (sym fs') ∙ rest)
