-- Methods without a misfit are plain, and each is of another function.
use Rattle.std.proofs.Common.{◌≡◌, ◌≤◌, ◌<◌, ℕ, ◌==◌, Bool, true, false, not, cond, List, [], ◌∷◌, ◌++◌, map, length, Option, Some, None, refl, sym, ap, subst, ◌∙◌, slice_get, slice_index_or, nat_le, arith}
use Rattle.std.specs.List.{list_all, list_any, AllByRecursion}
use Rattle.std.proofs.lemmas.Bool.{eq-eqb}
use Rattle.std.proofs.lemmas.Bool.Decides.{nat_tests}
use Rattle.std.proofs.lemmas.List.{length-map}
use Rattle.std.proofs.lemmas.List.Folds.{list_any-append}
use Rattle.pj_reloc.specs.declared.entry.Entry.{Entry}
use Rattle.pj_parts.specs.declared.types.Method.{Method}
use Rattle.pj_meaning.specs.Tree.{Text}
use Rattle.pj_tree.specs.Reads.{as_body, parts_of}
use Rattle.pj_tree.specs.declared.tree.TreeNode.{TreeNode}
use Rattle.pj_base.specs.declared.kinds.KindTag.TheVariants as kinds
use Rattle.pj_plain.specs.Names.{all_different, is_among}
use Rattle.pj_plain.proofs.Bools.{both_true}
use Rattle.pj_image.specs.declared.image.Image.{Image}
use Rattle.pj_image.specs.Pieces.{takes, method_fine}
use Rattle.pj_image.specs.PlainTrees.{is_plain}
use Rattle.pj_content.specs.Content.{strings_in, functions_of, function_at, type_at, made_of}
use Rattle.pj_content.specs.Misfit.{tables, target, own_place, free_place, types_misfit, first_of, or_with, methods_misfit}
use Rattle.pj_content.specs.Plainly.{PlainCode, PlainMethod}
use Rattle.pj_content.proofs.Bools.{both, not_false, all_at}
use Rattle.pj_content.proofs.Names.{either, places_differ, among_at}
use Rattle.pj_content.proofs.Trees.{tree_at}
use Rattle.pj_content.proofs.Bodies.{tree_is}
use Rattle.pj_content.proofs.Entries.{own_named, all_ints}

-- one method without a misfit, in its place, and the others behind it
pub record Placed (entries : List Entry) (functions : ℕ) (taken : List ℕ) (m : Method) (ms : List Method) : Type 0 where
  pub place : ℕ
  pub own : own_place (target entries (tables functions) kinds.FunKind m.fun) ≡ Some place
  pub free : list_any (λ other. other == place) taken ≡ false
  pub types : types_misfit entries (tables functions) m.types ≡ None
  pub rest : methods_misfit entries (tables functions) (taken ++ place ∷ []) ms ≡ None

none_first : (a b : Option ℕ) → first_of a b ≡ None → (a ≡ None) × (b ≡ None)
none_first None b h = (refl, h)
none_first (Some k) b h = absurd cc

free_is : (taken : List ℕ) (place : ℕ) (b : Bool) → list_any (λ other. other == place) taken ≡ b → free_place taken (Some place) ≡ cond b None (Some place)
free_is taken place b e = rw e refl

module _ (entries : List Entry) (functions : ℕ) where
  by_free : (taken : List ℕ) (m : Method) (ms : List Method) (place : ℕ) (b : Bool) → own_place (target entries (tables functions) kinds.FunKind m.fun) ≡ Some place → list_any (λ other. other == place) taken ≡ b
      → or_with m.fun (λ p. first_of (types_misfit entries (tables functions) m.types) (methods_misfit entries (tables functions) (taken ++ p ∷ []) ms)) (cond b None (Some place)) ≡ None
      → Placed entries functions taken m ms
  by_free taken m ms place true own e h = absurd cc
  by_free taken m ms place false own e h =
      let two = none_first (types_misfit entries (tables functions) m.types) (methods_misfit entries (tables functions) (taken ++ place ∷ []) ms) h in
      record { place = place; own = own; free = e; types = two.0; rest = two.1 }

  by_own : (taken : List ℕ) (m : Method) (ms : List Method) (own : Option ℕ) → own_place (target entries (tables functions) kinds.FunKind m.fun) ≡ own
      → or_with m.fun (λ p. first_of (types_misfit entries (tables functions) m.types) (methods_misfit entries (tables functions) (taken ++ p ∷ []) ms)) (free_place taken own) ≡ None
      → Placed entries functions taken m ms
  by_own taken m ms None e h = absurd cc
  by_own taken m ms (Some place) e h = by_free taken m ms place (list_any (λ other. other == place) taken) e refl h

  pub placed_by : (taken : List ℕ) (m : Method) (ms : List Method) → methods_misfit entries (tables functions) taken (m ∷ ms) ≡ None → Placed entries functions taken m ms
  unfolding methods_misfit
  placed_by taken m ms h = by_own taken m ms (own_place (target entries (tables functions) kinds.FunKind m.fun)) refl h

-- ---- one method

code_from : (strings : List (List ℕ)) (trees : List TreeNode) (count n : ℕ) (t : Option TreeNode) → slice_get trees n ≡ t → list_all (is_plain strings) trees ≡ true → takes count t ≡ true
    → PlainCode count (as_body (parts_of (strings_in strings) trees n))
code_from strings trees count n None e all h = absurd cc
code_from strings trees count n (Some t) e all h =
    tree_at (λ x. PlainCode count (as_body x)) (strings_in strings) trees n 0 n t (omega arith) e (λ parts. tree_is strings parts count t (all_at (is_plain strings) trees n t all e) h)

at_most : (a b : ℕ) → nat_le a b ≡ true → a ≤ b
at_most a b h = grind (arith, nat_tests)

pub plain_method : (i : Image) (taken : List ℕ) (m : Method) (ms : List Method) → list_all (is_plain i.strings) i.trees ≡ true → method_fine i.trees m ≡ true → Placed i.entries (length (functions_of i)) taken m ms
    → PlainMethod i.head.name (functions_of i) (made_of i m)
plain_method i taken m ms plain fine p =
    let fun = own_named i.head.name (functions_of i) i.entries m.fun p.place p.own in
    let two = both_true (nat_le (length m.types) 16) (takes (length m.types) (slice_get i.trees m.body)) fine in
    let many : length (map (type_at i) m.types) ≡ length m.types = length-map m.types (type_at i) in
    record {
      home = ap (λ d. d.home) fun.is;
      among = subst (λ (t : Text). is_among t (functions_of i) ≡ true) (sym (ap (λ d. d.name) fun.is)) (among_at (functions_of i) p.place fun.within);
      few = rw many (at_most (length m.types) 16 two.0);
      ints = rw many (all_ints (length (functions_of i)) i.entries m.types p.types);
      code = rw many (code_from i.strings i.trees (length m.types) m.body (slice_get i.trees m.body) refl plain two.1);
    }

-- ---- all methods

pub plain_methods : (i : Image) (ms : List Method) (taken : List ℕ) → list_all (is_plain i.strings) i.trees ≡ true → list_all (method_fine i.trees) ms ≡ true
    → methods_misfit i.entries (tables (length (functions_of i))) taken ms ≡ None → AllByRecursion (PlainMethod i.head.name (functions_of i)) (map (made_of i) ms)
plain_methods i [] taken plain fine h = tt
plain_methods i (m ∷ ms) taken plain fine h =
    let two = both_true (method_fine i.trees m) (list_all (method_fine i.trees) ms) fine in
    let p = placed_by i.entries (length (functions_of i)) taken m ms h in
    (plain_method i taken m ms plain two.0 p, plain_methods i ms (taken ++ p.place ∷ []) plain two.1 p.rest)

abbrev pub method_names : Image → List Method → List Text
method_names i ms = map (λ d. d.fun.name) (map (made_of i) ms)

has_place : (n : ℕ) (taken : List ℕ) → list_any (λ other. other == n) (taken ++ n ∷ []) ≡ true
has_place n [] = rw (eq-eqb n n refl) refl
has_place n (x ∷ taken) = either (x == n) (list_any (λ other. other == n) (taken ++ n ∷ [])) (has_place n taken)

keeps_place : (n p : ℕ) (taken : List ℕ) → list_any (λ other. other == n) taken ≡ true → list_any (λ other. other == n) (taken ++ p ∷ []) ≡ true
keeps_place n p taken h = list_any-append (λ other. other == n) taken (p ∷ []) ∙ rw h refl

apart : (n p : ℕ) (taken : List ℕ) → list_any (λ other. other == n) taken ≡ true → list_any (λ other. other == p) taken ≡ false → (b : Bool) → (n == p) ≡ b → (n == p) ≡ false
apart n p taken is free false e = e
apart n p taken is free true e =
    let same : n ≡ p = grind (arith, nat_tests) in
    let there : list_any (λ other. other == p) taken ≡ true = subst (λ (k : ℕ). list_any (λ other. other == k) taken ≡ true) same is in
    absurd cc

-- no method adds to a function whose place is taken
away : (i : Image) (ms : List Method) (taken : List ℕ) (n : ℕ) → all_different (functions_of i) ≡ true → n < length (functions_of i) → list_any (λ other. other == n) taken ≡ true
    → methods_misfit i.entries (tables (length (functions_of i))) taken ms ≡ None → is_among (slice_index_or (functions_of i) n []) (method_names i ms) ≡ false
away i [] taken n different within is h = refl
away i (m ∷ ms) taken n different within is h =
    let p = placed_by i.entries (length (functions_of i)) taken m ms h in
    let fun = own_named i.head.name (functions_of i) i.entries m.fun p.place p.own in
    let name : (function_at i m.fun).name ≡ slice_index_or (functions_of i) p.place [] = ap (λ d. d.name) fun.is in
    let differs = places_differ (functions_of i) n p.place different within fun.within (apart n p.place taken is p.free (n == p.place) refl) in
    rw (name, differs) (away i ms (taken ++ p.place ∷ []) n different within (keeps_place n p.place taken is) p.rest)

pub single_methods : (i : Image) (ms : List Method) (taken : List ℕ) → all_different (functions_of i) ≡ true
    → methods_misfit i.entries (tables (length (functions_of i))) taken ms ≡ None → all_different (method_names i ms) ≡ true
single_methods i [] taken different h = refl
single_methods i (m ∷ ms) taken different h =
    let p = placed_by i.entries (length (functions_of i)) taken m ms h in
    let fun = own_named i.head.name (functions_of i) i.entries m.fun p.place p.own in
    let name : (function_at i m.fun).name ≡ slice_index_or (functions_of i) p.place [] = ap (λ d. d.name) fun.is in
    let none = away i ms (taken ++ p.place ∷ []) p.place different fun.within (has_place p.place taken) p.rest in
    both (not (is_among (function_at i m.fun).name (method_names i ms))) (all_different (method_names i ms))
    (not_false (is_among (function_at i m.fun).name (method_names i ms)) (subst (λ (t : Text). is_among t (method_names i ms) ≡ false) (sym name) none))
    (single_methods i ms (taken ++ p.place ∷ []) different p.rest)
