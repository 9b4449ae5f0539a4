-- A misfit is the number that a mention holds, and so that of an entry.
use Rattle.std.proofs.Common.{◌≡◌, ◌<◌, ℕ, zero, suc, ◌+◌, ◌==◌, ◌||◌, Bool, true, false, not, cond, List, [], ◌∷◌, ◌++◌, map, length, Option, Some, None, refl, sym, ap, subst, ◌∙◌, arith}
use Rattle.std.specs.Prelude.{find}
use Rattle.std.specs.List.{flat_map, list_any}
use Rattle.std.proofs.lemmas.Bool.{eq-eqb}
use Rattle.std.proofs.lemmas.Bool.Decides.{nat_tests}
use Rattle.std.proofs.lemmas.List.{append-nil}
use Rattle.std.proofs.lemmas.List.Concat.{flat_map-cons}
use Rattle.std.proofs.lemmas.List.Folds.{list_any-append}
use Rattle.pj_base.specs.declared.kinds.KindTag.TheVariants as kinds
use Rattle.pj_fields.specs.Fields.{number}
use Rattle.pj_reloc.specs.declared.entry.Entry.{Entry}
use Rattle.pj_reloc.specs.declared.deps.Counts.{Counts}
use Rattle.pj_parts.specs.declared.types.Method.{Method}
use Rattle.pj_image.specs.declared.image.Image.{Image}
use Rattle.pj_image.specs.Formed.{Formed}
use Rattle.pj_image.specs.Spelled.{methods_place}
use Rattle.pj_image.specs.Pieces.{Piece, Plain, Mention, method_pieces, methods_pieces}
use Rattle.pj_image.specs.Mentions.{mentions_of, count_from}
use Rattle.pj_image.proofs.PieceLaws.{over_right}
use Rattle.pj_content.specs.Misfit.{is_int64, target, types_misfit, first_of, or_with, place_for, tables, methods_misfit, misfit}
use Rattle.pj_content.proofs.Names.{either}

abbrev Holds : ℕ → List ℕ → Type 0
Holds k ks = list_any (λ j. j == k) ks ≡ true

held_first : (k : ℕ) (ks : List ℕ) → Holds k (k ∷ ks)
held_first k ks = rw (eq-eqb k k refl) refl

held_later : (j k : ℕ) (ks : List ℕ) → Holds k ks → Holds k (j ∷ ks)
held_later j k ks h = either (j == k) (list_any (λ i. i == k) ks) h

held_left : (k : ℕ) (js ks : List ℕ) → Holds k js → Holds k (js ++ ks)
held_left k js ks h = list_any-append (λ j. j == k) js ks ∙ rw h refl

held_right : (k : ℕ) (js ks : List ℕ) → Holds k ks → Holds k (js ++ ks)
held_right k js ks h = list_any-append (λ j. j == k) js ks ∙ either (list_any (λ j. j == k) js) (list_any (λ j. j == k) ks) h

by_found : (j k : ℕ) (ks : List ℕ) (found : Option ℕ) → (found ≡ Some k → Holds k ks) → (b : Bool) → cond b (Some j) found ≡ Some k → Holds k (j ∷ ks)
by_found j k ks found later true e = let same : j ≡ k = cc in subst (λ (i : ℕ). Holds i (j ∷ ks)) same (held_first j ks)
by_found j k ks found later false e = held_later j k ks (later e)

found_held : (p : ℕ → Bool) (ks : List ℕ) (k : ℕ) → find p ks ≡ Some k → Holds k ks
found_held p [] k h = absurd cc
found_held p (j ∷ ks) k h = by_found j k ks (find p ks) (found_held p ks k) (p j) h

-- ---- what the mentions of methods hold

mentions-append : (ps qs : List Piece) → mentions_of (ps ++ qs) ≡ mentions_of ps ++ mentions_of qs
mentions-append [] qs = refl
mentions-append (Plain b ∷ ps) qs = mentions-append ps qs
mentions-append (Mention n ∷ ps) qs = ap (λ (ks : List ℕ). n ∷ ks) (mentions-append ps qs)

mentions-map : (ns : List ℕ) → mentions_of (map Mention ns) ≡ ns
mentions-map [] = refl
mentions-map (n ∷ ns) = ap (λ (ks : List ℕ). n ∷ ks) (mentions-map ns)

mentions-method : (m : Method) → mentions_of (method_pieces m) ≡ m.fun ∷ m.types
mentions-method m =
    ap (λ (ks : List ℕ). m.fun ∷ ks) (mentions-append (map Mention m.types) (Plain (number m.body) ∷ []) ∙ append-nil (mentions_of (map Mention m.types)) ∙ mentions-map m.types)

pub mentions-methods : (m : Method) (ms : List Method) → mentions_of (flat_map method_pieces (m ∷ ms)) ≡ m.fun ∷ (m.types ++ mentions_of (flat_map method_pieces ms))
mentions-methods m ms =
    ap mentions_of (flat_map-cons method_pieces m ms) ∙ mentions-append (method_pieces m) (flat_map method_pieces ms) ∙ ap (λ (ks : List ℕ). ks ++ mentions_of (flat_map method_pieces ms)) (mentions-method m)

module _ (entries : List Entry) (images : List Counts) where
  by_first : (m : Method) (later : List ℕ) (a b : Option ℕ) (k : ℕ) → (a ≡ Some k → Holds k m.types) → (b ≡ Some k → Holds k later) → first_of a b ≡ Some k → Holds k (m.types ++ later)
  by_first m later None b k types rest h = held_right k m.types later (rest h)
  by_first m later (Some j) b k types rest h = held_left k m.types later (types h)

  by_place : (m : Method) (later : List ℕ) (place : Option ℕ) (a : Option ℕ) (b : ℕ → Option ℕ) (k : ℕ) → (a ≡ Some k → Holds k m.types) → ((p : ℕ) → b p ≡ Some k → Holds k later)
      → or_with m.fun (λ p. first_of a (b p)) place ≡ Some k → Holds k (m.fun ∷ (m.types ++ later))
  by_place m later None a b k types rest h = let same : m.fun ≡ k = cc in subst (λ (i : ℕ). Holds i (m.fun ∷ (m.types ++ later))) same (held_first m.fun (m.types ++ later))
  by_place m later (Some p) a b k types rest h = held_later m.fun k (m.types ++ later) (by_first m later a (b p) k types (rest p) h)

  mentioned : (ms : List Method) (taken : List ℕ) (k : ℕ) → methods_misfit entries images taken ms ≡ Some k → Holds k (mentions_of (flat_map method_pieces ms))
  unfolding methods_misfit
  mentioned [] taken k h = absurd cc
  mentioned (m ∷ ms) taken k h =
      subst (λ (ks : List ℕ). Holds k ks) (sym (mentions-methods m ms))
      (by_place m (mentions_of (flat_map method_pieces ms)) (place_for entries images taken m.fun) (types_misfit entries images m.types) (λ p. methods_misfit entries images (taken ++ p ∷ []) ms) k
      (found_held (λ j. not (is_int64 (target entries images kinds.TypeKind j))) m.types k) (λ p e. mentioned ms (taken ++ p ∷ []) k e) h)

by_count : (n first k : ℕ) (later : List ℕ) → (Holds k later → k < (first + 1) + n) → (b : Bool) → (first == k) ≡ b → (b || list_any (λ j. j == k) later) ≡ true → k < first + suc n
by_count n first k later less true e held = let same : first ≡ k = grind (arith, nat_tests) in omega arith
by_count n first k later less false e held = let is = less held in omega arith

counted : (n first k : ℕ) → Holds k (count_from first n) → k < first + n
counted zero first k h = absurd cc
counted (suc n) first k h = by_count n first k (count_from (first + 1) n) (counted n (first + 1) k) (first == k) refl h

pub within : (i : Image) (k : ℕ) → Formed i → misfit i ≡ Some k → k < length i.entries
within i k formed h =
    let numbers = (over_right (methods_pieces i.methods) 0 (methods_place i) i.entries formed.right).numbers in
    let held = mentioned i.entries (tables (length i.functions)) i.methods [] k h in
    let less = counted (length i.entries) 0 k (subst (λ (ks : List ℕ). Holds k ks) numbers held) in
    omega arith
