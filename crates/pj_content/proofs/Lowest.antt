-- The misfit is the lowest mention that isn't right.
use Rattle.std.proofs.Common.{◌≡◌, ◌<◌, ◌+◌, ℕ, zero, suc, ◌==◌, ◌||◌, Bool, true, false, not, cond, List, [], ◌∷◌, ◌++◌, length, Option, Some, None, refl, sym, ap, subst, ◌∙◌, arith}
use Rattle.std.specs.Prelude.{⊤}
use Rattle.std.specs.List.{AllByRecursion, flat_map, list_any}
use Rattle.std.proofs.lemmas.Bool.{eq-eqb}
use Rattle.std.proofs.lemmas.Bool.Decides.{nat_tests}
use Rattle.pj_base.specs.declared.kinds.KindTag.TheVariants as kinds
use Rattle.pj_parts.specs.declared.types.Method.{Method}
use Rattle.pj_image.specs.declared.image.Image.{Image}
use Rattle.pj_image.specs.Formed.{Formed}
use Rattle.pj_image.specs.Spelled.{methods_place}
use Rattle.pj_image.specs.Pieces.{method_pieces, methods_pieces}
use Rattle.pj_image.specs.Mentions.{mentions_of, count_from}
use Rattle.pj_image.proofs.PieceLaws.{over_right}
use Rattle.pj_content.specs.Misfit.{tables, target, is_int64, free_place, place_for, types_misfit, first_of, or_with, methods_misfit, misfit}
use Rattle.pj_content.specs.Right.{own_function, FunctionRight, TypeRight, RightBehind, RightWhere}
use Rattle.pj_content.proofs.Numbers.{mentions-methods}
use Rattle.pj_content.proofs.Methods.{placed_by}

-- ---- numbers that rise

abbrev Above : ℕ → List ℕ → Type 0
Above k ks = AllByRecursion (λ j. k < j) ks

abbrev Rising : List ℕ → Type 0
Rising [] = ⊤
Rising (k ∷ ks) = Above k ks × Rising ks

above_count : (n first k : ℕ) → k < first → Above k (count_from first n)
above_count zero first k h = tt
above_count (suc n) first k h = (h, above_count n (first + 1) k (omega arith))

rising_count : (n first : ℕ) → Rising (count_from first n)
rising_count zero first = tt
rising_count (suc n) first = (above_count n (first + 1) first (omega arith), rising_count n (first + 1))

above_left : (k : ℕ) (js ks : List ℕ) → Above k (js ++ ks) → Above k js
above_left k [] ks h = tt
above_left k (j ∷ js) ks h = (h.0, above_left k js ks h.1)

above_right : (k : ℕ) (js ks : List ℕ) → Above k (js ++ ks) → Above k ks
above_right k [] ks h = h
above_right k (j ∷ js) ks h = above_right k js ks h.1

rising_right : (js ks : List ℕ) → Rising (js ++ ks) → Rising ks
rising_right [] ks h = h
rising_right (j ∷ js) ks h = rising_right js ks h.1

module _ (i : Image) where
  -- ---- methods, and the places of their functions

  abbrev Places : List Method → List ℕ → Type 0
  Places [] [] = ⊤
  Places [] (p ∷ ps) = ⊥
  Places (m ∷ ms) [] = ⊥
  Places (m ∷ ms) (p ∷ ps) = (own_function i m.fun ≡ Some p) × Places ms ps

  one_more : (before : List Method) (taken : List ℕ) (m : Method) (p : ℕ) → Places before taken → own_function i m.fun ≡ Some p → Places (before ++ m ∷ []) (taken ++ p ∷ [])
  one_more [] [] m p h own = (own, tt)
  one_more [] (q ∷ taken) m p h own = absurd h
  one_more (b ∷ before) [] m p h own = absurd h
  one_more (b ∷ before) (q ∷ taken) m p h own = (h.0, one_more before taken m p h.1 own)

  other_place : (m : Method) (q p : ℕ) → own_function i m.fun ≡ Some q → (own_function i m.fun ≡ Some p → ⊥) → (b : Bool) → (q == p) ≡ b → (q == p) ≡ false
  other_place m q p own none false e = e
  other_place m q p own none true e = let same : q ≡ p = grind (arith, nat_tests) in absurd (none (own ∙ ap (λ (n : ℕ). Some n) same))

  not_taken : (before : List Method) (taken : List ℕ) (p : ℕ) → Places before taken → AllByRecursion (λ m. own_function i m.fun ≡ Some p → ⊥) before → list_any (λ other. other == p) taken ≡ false
  not_taken [] [] p h none = refl
  not_taken [] (q ∷ taken) p h none = absurd h
  not_taken (b ∷ before) [] p h none = absurd h
  not_taken (b ∷ before) (q ∷ taken) p h none = rw (other_place b q p h.0 none.0 (q == p) refl) (not_taken before taken p h.1 none.1)

  two_false : (a b : Bool) → (a || b) ≡ false → (a ≡ false) × (b ≡ false)
  two_false true b h = absurd cc
  two_false false b h = (refl, h)

  apart : (m : Method) (q p : ℕ) → own_function i m.fun ≡ Some q → (q == p) ≡ false → own_function i m.fun ≡ Some p → ⊥
  apart m q p own differ e = let same : q ≡ p = cc in let is : (q == p) ≡ true = eq-eqb q p same in absurd cc

  none_before : (before : List Method) (taken : List ℕ) (p : ℕ) → Places before taken → list_any (λ other. other == p) taken ≡ false → AllByRecursion (λ m. own_function i m.fun ≡ Some p → ⊥) before
  none_before [] [] p h free = tt
  none_before [] (q ∷ taken) p h free = absurd h
  none_before (b ∷ before) [] p h free = absurd h
  none_before (b ∷ before) (q ∷ taken) p h free =
      let two = two_false (q == p) (list_any (λ other. other == p) taken) free in
      (apart b q p h.0 two.0, none_before before taken p h.1 two.1)

  function_right : (before : List Method) (taken : List ℕ) (m : Method) (p : ℕ) → Places before taken → own_function i m.fun ≡ Some p → list_any (λ other. other == p) taken ≡ false → FunctionRight i before m.fun
  function_right before taken m p h own free = record { place = p; own = own; first = none_before before taken p h free }

  -- ---- types

  abbrev T : List ℕ → Option ℕ
  T ks = types_misfit i.entries (tables (length i.functions)) ks

  abbrev int_at : ℕ → Bool
  int_at k = is_int64 (target i.entries (tables (length i.functions)) kinds.TypeKind k)

  right_type : (Meant : ℕ → Type 0) (k : ℕ) (ks : List ℕ) → (T ks ≡ None → AllByRecursion (λ j. Meant j → TypeRight i j) ks) → (b : Bool) → int_at k ≡ b → cond (not b) (Some k) (T ks) ≡ None → AllByRecursion (λ j. Meant j → TypeRight i j) (k ∷ ks)
  right_type Meant k ks rest false e h = absurd cc
  right_type Meant k ks rest true e h = ((λ meant. e), rest h)

  right_types : (Meant : ℕ → Type 0) (ks : List ℕ) → T ks ≡ None → AllByRecursion (λ j. Meant j → TypeRight i j) ks
  right_types Meant [] h = tt
  right_types Meant (k ∷ ks) h = right_type Meant k ks (right_types Meant ks) (int_at k) refl h

  -- none of these is below
  none_below : (k : ℕ) (ks : List ℕ) → Above k ks → AllByRecursion (λ j. j < k → TypeRight i j) ks
  none_below k [] h = tt
  none_below k (j ∷ ks) h = let over : k < j = h.0 in ((λ lt. absurd (omega arith)), none_below k ks h.1)

  record TypesLowest (k : ℕ) (ks later : List ℕ) : Type 0 where
    pub below : AllByRecursion (λ j. j < k → TypeRight i j) ks
    pub over : Above k later

  lowest_type : (k j : ℕ) (ks later : List ℕ) → Above j (ks ++ later) → (T ks ≡ Some k → TypesLowest k ks later) → (b : Bool) → int_at j ≡ b → cond (not b) (Some j) (T ks) ≡ Some k → TypesLowest k (j ∷ ks) later
  lowest_type k j ks later over rest true e h = let r = rest h in record { below = ((λ lt. e), r.below); over = r.over }
  lowest_type k j ks later over rest false e h =
      let same : j ≡ k = cc in
      let all : Above k (ks ++ later) = subst (λ (n : ℕ). Above n (ks ++ later)) same over in
      record { below = ((λ lt. absurd (omega arith)), none_below k ks (above_left k ks later all)); over = above_right k ks later all }

  lowest_types : (k : ℕ) (ks later : List ℕ) → Rising (ks ++ later) → T ks ≡ Some k → TypesLowest k ks later
  lowest_types k [] later up h = absurd cc
  lowest_types k (j ∷ ks) later up h = lowest_type k j ks later up.0 (lowest_types k ks later up.1) (int_at j) refl h

  refused_type : (k j : ℕ) (ks : List ℕ) → (T ks ≡ Some k → AllByRecursion (λ n. n ≡ k → TypeRight i n) ks → ⊥) → (b : Bool) → int_at j ≡ b → cond (not b) (Some j) (T ks) ≡ Some k → AllByRecursion (λ n. n ≡ k → TypeRight i n) (j ∷ ks) → ⊥
  refused_type k j ks rest true e h right = rest h right.1
  refused_type k j ks rest false e h right = let same : j ≡ k = cc in let is : int_at j ≡ true = right.0 same in absurd cc

  refused_types : (k : ℕ) (ks : List ℕ) → T ks ≡ Some k → AllByRecursion (λ n. n ≡ k → TypeRight i n) ks → ⊥
  refused_types k [] h right = absurd cc
  refused_types k (j ∷ ks) h right = refused_type k j ks (refused_types k ks) (int_at j) refl h right

  -- ---- methods

  abbrev M : List ℕ → List Method → Option ℕ
  M taken ms = methods_misfit i.entries (tables (length i.functions)) taken ms

  -- where the misfit is: at the method's function, at its types, or behind it
  data Where (taken : List ℕ) (m : Method) (ms : List Method) (k : ℕ) : Type 0 where
    AtFunction : place_for i.entries (tables (length i.functions)) taken m.fun ≡ None → m.fun ≡ k → Where taken m ms k
    AtType : (p : ℕ) → own_function i m.fun ≡ Some p → list_any (λ other. other == p) taken ≡ false → T m.types ≡ Some k → Where taken m ms k
    Behind : (p : ℕ) → own_function i m.fun ≡ Some p → list_any (λ other. other == p) taken ≡ false → T m.types ≡ None → M (taken ++ p ∷ []) ms ≡ Some k → Where taken m ms k

  by_types : (taken : List ℕ) (m : Method) (ms : List Method) (k p : ℕ) (types : Option ℕ) → own_function i m.fun ≡ Some p → list_any (λ other. other == p) taken ≡ false → T m.types ≡ types → first_of types (M (taken ++ p ∷ []) ms) ≡ Some k → Where taken m ms k
  by_types taken m ms k p None own free e h = Behind p own free e h
  by_types taken m ms k p (Some j) own free e h = AtType p own free (e ∙ h)

  by_free : (taken : List ℕ) (m : Method) (ms : List Method) (k p : ℕ) (b : Bool) → own_function i m.fun ≡ Some p → list_any (λ other. other == p) taken ≡ b
      → or_with m.fun (λ q. first_of (T m.types) (M (taken ++ q ∷ []) ms)) (cond b None (Some p)) ≡ Some k → Where taken m ms k
  by_free taken m ms k p true own e h = let same : m.fun ≡ k = cc in AtFunction (rw (own, e) refl) same
  by_free taken m ms k p false own e h = by_types taken m ms k p (T m.types) own e refl h

  by_own : (taken : List ℕ) (m : Method) (ms : List Method) (k : ℕ) (own : Option ℕ) → own_function i m.fun ≡ own
      → or_with m.fun (λ q. first_of (T m.types) (M (taken ++ q ∷ []) ms)) (free_place taken own) ≡ Some k → Where taken m ms k
  by_own taken m ms k None e h = let same : m.fun ≡ k = cc in AtFunction (rw e refl) same
  by_own taken m ms k (Some p) e h = by_free taken m ms k p (list_any (λ other. other == p) taken) e refl h

  where_is : (taken : List ℕ) (m : Method) (ms : List Method) (k : ℕ) → M taken (m ∷ ms) ≡ Some k → Where taken m ms k
  unfolding methods_misfit
  where_is taken m ms k h = by_own taken m ms k (own_function i m.fun) refl h

  -- without a misfit
  all_right : (Meant : ℕ → Type 0) (ms before : List Method) (taken : List ℕ) → Places before taken → M taken ms ≡ None → RightBehind i Meant before ms
  all_right Meant [] before taken h none = tt
  all_right Meant (m ∷ ms) before taken h none =
      let p = placed_by i.entries (length i.functions) taken m ms none in
      ((λ meant. function_right before taken m p.place h p.own p.free), (right_types Meant m.types p.types, all_right Meant ms (before ++ m ∷ []) (taken ++ p.place ∷ []) (one_more before taken m p.place h p.own) p.rest))

  -- behind the misfit
  none_meant : (ms before : List Method) (k : ℕ) → Above k (mentions_of (flat_map method_pieces ms)) → RightBehind i (λ j. j < k) before ms
  none_meant [] before k over = tt
  none_meant (m ∷ ms) before k over =
      let later = mentions_of (flat_map method_pieces ms) in
      let all : Above k (m.fun ∷ (m.types ++ later)) = subst (λ (ks : List ℕ). Above k ks) (mentions-methods m ms) over in
      let first : k < m.fun = all.0 in
      ((λ lt. absurd (omega arith)), (none_below k m.types (above_left k m.types later all.1), none_meant ms (before ++ m ∷ []) k (above_right k m.types later all.1)))

  lowest_by : (ms before : List Method) (taken : List ℕ) (m : Method) (k : ℕ) → Places before taken → Rising (m.fun ∷ (m.types ++ mentions_of (flat_map method_pieces ms)))
      → ((p : ℕ) → own_function i m.fun ≡ Some p → M (taken ++ p ∷ []) ms ≡ Some k → RightBehind i (λ j. j < k) (before ++ m ∷ []) ms) → Where taken m ms k → RightBehind i (λ j. j < k) before (m ∷ ms)
  lowest_by ms before taken m k h up rest (AtFunction none same) =
      let later = mentions_of (flat_map method_pieces ms) in
      let over : Above k (m.types ++ later) = subst (λ (n : ℕ). Above n (m.types ++ later)) same up.0 in
      ((λ lt. absurd (omega arith)), (none_below k m.types (above_left k m.types later over), none_meant ms (before ++ m ∷ []) k (above_right k m.types later over)))
  lowest_by ms before taken m k h up rest (AtType p own free wrong) =
      let types = lowest_types k m.types (mentions_of (flat_map method_pieces ms)) up.1 wrong in
      ((λ lt. function_right before taken m p h own free), (types.below, none_meant ms (before ++ m ∷ []) k types.over))
  lowest_by ms before taken m k h up rest (Behind p own free types later) =
      ((λ lt. function_right before taken m p h own free), (right_types (λ j. j < k) m.types types, rest p own later))

  lowest_in : (ms before : List Method) (taken : List ℕ) (k : ℕ) → Places before taken → Rising (mentions_of (flat_map method_pieces ms)) → M taken ms ≡ Some k → RightBehind i (λ j. j < k) before ms
  unfolding methods_misfit
  lowest_in [] before taken k h up found = absurd cc
  lowest_in (m ∷ ms) before taken k h up found =
      let all : Rising (m.fun ∷ (m.types ++ mentions_of (flat_map method_pieces ms))) = subst (λ (ks : List ℕ). Rising ks) (mentions-methods m ms) up in
      lowest_by ms before taken m k h all
      (λ p own later. lowest_in ms (before ++ m ∷ []) (taken ++ p ∷ []) k (one_more before taken m p h own) (rising_right m.types (mentions_of (flat_map method_pieces ms)) all.1) later)
      (where_is taken m ms k found)

  refused_function : (before : List Method) (taken : List ℕ) (k : ℕ) → Places before taken → place_for i.entries (tables (length i.functions)) taken k ≡ None → FunctionRight i before k → ⊥
  refused_function before taken k h none right =
      let free = not_taken before taken right.place h right.first in
      let own : own_function i k ≡ Some right.place = right.own in
      let some : place_for i.entries (tables (length i.functions)) taken k ≡ Some right.place = rw (own, free) refl in
      absurd cc

  refused_by : (ms before : List Method) (taken : List ℕ) (m : Method) (k : ℕ) → Places before taken → RightBehind i (λ j. j ≡ k) before (m ∷ ms)
      → ((p : ℕ) → own_function i m.fun ≡ Some p → M (taken ++ p ∷ []) ms ≡ Some k → ⊥) → Where taken m ms k → ⊥
  refused_by ms before taken m k h right rest (AtFunction none same) = refused_function before taken m.fun h none (right.0 same)
  refused_by ms before taken m k h right rest (AtType p own free wrong) = refused_types k m.types wrong right.1.0
  refused_by ms before taken m k h right rest (Behind p own free types later) = rest p own later

  refused_in : (ms before : List Method) (taken : List ℕ) (k : ℕ) → Places before taken → M taken ms ≡ Some k → RightBehind i (λ j. j ≡ k) before ms → ⊥
  unfolding methods_misfit
  refused_in [] before taken k h found right = absurd cc
  refused_in (m ∷ ms) before taken k h found right =
      refused_by ms before taken m k h right (λ p own later. refused_in ms (before ++ m ∷ []) (taken ++ p ∷ []) k (one_more before taken m p h own) later right.1.1) (where_is taken m ms k found)

pub none_wrong : (i : Image) → misfit i ≡ None → RightWhere (λ k. ⊤) i
none_wrong i h = all_right i (λ k. ⊤) i.methods [] [] tt h

pub lowest : (i : Image) (k : ℕ) → Formed i → misfit i ≡ Some k → RightWhere (λ j. j < k) i
lowest i k formed h =
    let numbers = (over_right (methods_pieces i.methods) 0 (methods_place i) i.entries formed.right).numbers in
    lowest_in i i.methods [] [] k tt (subst (λ (ks : List ℕ). Rising ks) (sym numbers) (rising_count (length i.entries) 0)) h

pub refused : (i : Image) (k : ℕ) → misfit i ≡ Some k → RightWhere (λ j. j ≡ k) i → ⊥
refused i k h right = refused_in i i.methods [] [] k tt h right
