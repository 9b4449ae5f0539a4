-- No entry of wired methods is refused.
use Rattle.std.proofs.Common.{◌≡◌, ℕ, zero, suc, ◌+◌, ◌*◌, ◌≤◌, ◌<◌, ◌==◌, true, false, nat_lt, List, [], ◌∷◌, ◌++◌, length, Option, Some, None, refl, sym, ap, ◌∙◌, append_assoc, length-append, slice_get, arith}
use Rattle.std.specs.Prelude.{option_and_then}
use Rattle.std.specs.List.{list_any}
use Rattle.std.proofs.lemmas.Bool.Decides.{nat_tests}
use Rattle.std.proofs.lemmas.List.Folds.{list_any-append}
use Rattle.pj_base.specs.declared.kinds.KindTag.TheVariants as kinds
use Rattle.pj_reloc.specs.declared.entry.Entry.{Entry}
use Rattle.pj_reloc.specs.Resolving.{resolved}
use Rattle.pj_image.specs.Mentions.{count_from}
use Rattle.pj_content.specs.Misfit.{tables, target, own_place, is_int64, free_place, place_for, types_misfit, first_of, or_with, methods_misfit}
use Rattle.pj_build.specs.Wiring.{entry_at, int_entries, wired_entries, all_methods, all_entries}
use Rattle.pj_build.proofs.Wires.{length-wired}
use Rattle.pj_build.proofs.Contents.{get_seam, length-push}

-- none of these is the number or above it
abbrev Below : List ℕ → ℕ → Type 0
Below taken n = (p : ℕ) → n ≤ p → list_any (λ other. other == p) taken ≡ false

below_more : (taken : List ℕ) (n : ℕ) → Below taken n → Below (taken ++ n ∷ []) (n + 1)
below_more taken n b p le =
    let no : (n == p) ≡ false = grind (arith, nat_tests) in
    list_any-append (λ other. other == p) taken (n ∷ []) ∙ rw (b p (omega arith), no) refl

module _ (entries : List Entry) (functions : ℕ) where
  ints_fit : (before rest : List Entry) (at count : ℕ) → entries ≡ before ++ (int_entries at count ++ rest) → types_misfit entries (tables functions) (count_from (length before) count) ≡ None
  ints_fit before rest at zero e = refl
  ints_fit before rest at (suc count) e =
      let x = entry_at at kinds.TypeKind 0 5 in
      let here : slice_get entries (length before) ≡ Some x = ap (λ (l : List Entry). slice_get l (length before)) e ∙ get_seam before x (int_entries (at + 4) count ++ rest) in
      let fits : is_int64 (target entries (tables functions) kinds.TypeKind (length before)) ≡ true = ap (λ (o : Option Entry). is_int64 (option_and_then (λ y. resolved kinds.TypeKind y (tables functions)) o)) here in
      let again : entries ≡ (before ++ x ∷ []) ++ (int_entries (at + 4) count ++ rest) = e ∙ sym (append_assoc before (x ∷ []) (int_entries (at + 4) count ++ rest)) in
      rw fits (ap (λ (n : ℕ). types_misfit entries (tables functions) (count_from n count)) (sym (length-push before x)) ∙ ints_fit (before ++ x ∷ []) rest (at + 4) count again)

  own_fits : (before rest : List Entry) (at ordinal : ℕ) → entries ≡ before ++ entry_at at kinds.FunKind 1 ordinal ∷ rest → ordinal < functions → own_place (target entries (tables functions) kinds.FunKind (length before)) ≡ Some ordinal
  own_fits before rest at ordinal e lt =
      let x = entry_at at kinds.FunKind 1 ordinal in
      let here : slice_get entries (length before) ≡ Some x = ap (λ (l : List Entry). slice_get l (length before)) e ∙ get_seam before x rest in
      let within : nat_lt ordinal functions ≡ true = grind (arith, nat_tests) in
      ap (λ (o : Option Entry). own_place (option_and_then (λ y. resolved kinds.FunKind y (tables functions)) o)) here ∙ rw within refl

  pub all_fit : (counts : List ℕ) (es : List Entry) (at ordinal : ℕ) (taken : List ℕ) → entries ≡ es ++ all_entries at ordinal counts → ordinal + length counts ≤ functions → Below taken ordinal
      → methods_misfit entries (tables functions) taken (all_methods (length es) ordinal counts) ≡ None
  unfolding methods_misfit
  all_fit [] es at ordinal taken e le below = refl
  all_fit (count ∷ counts) es at ordinal taken e le below =
      let x = entry_at at kinds.FunKind 1 ordinal in
      let wired = wired_entries at ordinal count in
      let behind = all_entries (at + 12 + 4 * count) (ordinal + 1) counts in
      let own = own_fits es (int_entries (at + 8) count ++ behind) at ordinal e (omega arith) in
      let free : place_for entries (tables functions) taken (length es) ≡ Some ordinal = ap (free_place taken) own ∙ rw (below ordinal (omega arith)) refl in
      let types : types_misfit entries (tables functions) (count_from (length es + 1) count) ≡ None =
      ap (λ (n : ℕ). types_misfit entries (tables functions) (count_from n count)) (sym (length-push es x))
      ∙ ints_fit (es ++ x ∷ []) behind (at + 8) count (e ∙ sym (append_assoc es (x ∷ []) (int_entries (at + 8) count ++ behind))) in
      let es' : length (es ++ wired) ≡ length es + 1 + count = length-append es wired ∙ (let k = length-wired at ordinal count in omega (arith, k)) in
      let rest = all_fit counts (es ++ wired) (at + 12 + 4 * count) (ordinal + 1) (taken ++ ordinal ∷ []) (e ∙ sym (append_assoc es wired behind)) (omega arith) (below_more taken ordinal below) in
      let more = all_methods (length es + 1 + count) (ordinal + 1) counts in
      ap (λ (o : Option ℕ). or_with (length es) (λ place. first_of (types_misfit entries (tables functions) (count_from (length es + 1) count)) (methods_misfit entries (tables functions) (taken ++ place ∷ []) more)) o) free
      ∙ ap (λ (o : Option ℕ). first_of o (methods_misfit entries (tables functions) (taken ++ ordinal ∷ []) more)) types
      ∙ ap (λ (n : ℕ). methods_misfit entries (tables functions) (taken ++ ordinal ∷ []) (all_methods n (ordinal + 1) counts)) (sym es')
      ∙ rest
