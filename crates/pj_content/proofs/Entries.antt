-- What entries name that are not refused.
use Rattle.std.proofs.Common.{◌≡◌, ℕ, zero, suc, ◌<◌, ◌==◌, nat_lt, Bool, true, false, not, cond, List, [], ◌∷◌, map, length, replicate, Option, Some, None, refl, subst, slice_get, slice_index_or, arith}
use Rattle.std.specs.Prelude.{option_and_then}
use Rattle.std.proofs.lemmas.Bool.Decides.{nat_tests}
use Rattle.pj_base.specs.Kinds.{kind_number}
use Rattle.pj_base.specs.declared.kinds.KindTag.TheVariants as kinds
use Rattle.pj_reloc.specs.declared.entry.Entry.{Entry}
use Rattle.pj_reloc.specs.Resolving.{among, resolved}
use Rattle.pj_meaning.specs.Tree.{Text}
use Rattle.pj_meaning.specs.Names.{Id, id, int_type}
use Rattle.pj_plain.proofs.Bools.{both_true}
use Rattle.pj_content.specs.Content.{base_function, function_named, type_named}
use Rattle.pj_content.specs.Misfit.{tables, target, own_place, is_int64, types_misfit}

below : (a b : ℕ) → nat_lt a b ≡ true → a < b
below a b h = grind (arith, nat_tests)

-- a function of the package's own
pub record Own (functions : ℕ) (dependency ordinal place : ℕ) : Type 0 where
  pub own : dependency ≡ 1
  pub same : ordinal ≡ place
  pub within : place < functions

own_among : (b : Bool) (functions ordinal place : ℕ) → nat_lt ordinal functions ≡ b → own_place (cond b (Some (1, ordinal)) None) ≡ Some place → Own functions 1 ordinal place
own_among true functions ordinal place e h =
    let same : ordinal ≡ place = cc in
    record { own = refl; same = same; within = subst (λ (n : ℕ). n < functions) same (below ordinal functions e) }
own_among false functions ordinal place e h = absurd cc

base_among : (b : Bool) (ordinal place : ℕ) → own_place (cond b (Some (0, ordinal)) None) ≡ Some place → ⊥
base_among true ordinal place h = absurd cc
base_among false ordinal place h = absurd cc

own_resolved : (b : Bool) (functions dependency ordinal place : ℕ) → own_place (cond b (among kinds.FunKind ordinal (slice_get (tables functions) dependency)) None) ≡ Some place → Own functions dependency ordinal place
own_resolved false functions dependency ordinal place h = absurd cc
own_resolved true functions zero ordinal place h = absurd (base_among (nat_lt ordinal 18) ordinal place h)
own_resolved true functions (suc zero) ordinal place h = own_among (nat_lt ordinal functions) functions ordinal place refl h
own_resolved true functions (suc (suc d)) ordinal place h = absurd cc

own_name : (home : Text) (functions : List Text) (dependency ordinal place : ℕ) → Own (length functions) dependency ordinal place
    → cond (dependency == 0) (base_function ordinal) (id home (slice_index_or functions ordinal [])) ≡ id home (slice_index_or functions place [])
own_name home functions dependency ordinal place own = rw (own.own, own.same) refl

-- an entry that is the package's own function, by its name
pub record OwnName (home : Text) (functions : List Text) (place : ℕ) (name : Id) : Type 0 where
  pub is : name ≡ id home (slice_index_or functions place [])
  pub within : place < length functions

named_by : (home : Text) (functions : List Text) (place : ℕ) (e : Option Entry) → own_place (option_and_then (λ x. resolved kinds.FunKind x (tables (length functions))) e) ≡ Some place → OwnName home functions place (function_named home functions e)
named_by home functions place None h = absurd cc
named_by home functions place (Some e) h =
    let own = own_resolved (kind_number e.kind == 1) (length functions) e.dependency e.ordinal place h in
    record { is = own_name home functions e.dependency e.ordinal place own; within = own.within }

pub own_named : (home : Text) (functions : List Text) (entries : List Entry) (k place : ℕ) → own_place (target entries (tables (length functions)) kinds.FunKind k) ≡ Some place
    → OwnName home functions place (function_named home functions (slice_get entries k))
own_named home functions entries k place h = named_by home functions place (slice_get entries k) h

-- ---- types

base_five : (b : Bool) (ordinal : ℕ) → is_int64 (cond b (Some (0, ordinal)) None) ≡ true → ordinal ≡ 5
base_five true ordinal h = let two = both_true (0 == 0) (ordinal == 5) h in let is : (ordinal == 5) ≡ true = two.1 in grind (arith, nat_tests)
base_five false ordinal h = absurd cc

no_own : (b : Bool) (ordinal : ℕ) → is_int64 (cond b (Some (1, ordinal)) None) ≡ true → ⊥
no_own true ordinal h = absurd cc
no_own false ordinal h = absurd cc

record Int64Entry (dependency ordinal : ℕ) : Type 0 where
  pub base : dependency ≡ 0
  pub five : ordinal ≡ 5

int_resolved : (b : Bool) (functions dependency ordinal : ℕ) → is_int64 (cond b (among kinds.TypeKind ordinal (slice_get (tables functions) dependency)) None) ≡ true → Int64Entry dependency ordinal
int_resolved false functions dependency ordinal h = absurd cc
int_resolved true functions zero ordinal h = record { base = refl; five = base_five (nat_lt ordinal 11) ordinal h }
int_resolved true functions (suc zero) ordinal h = absurd (no_own (nat_lt ordinal 0) ordinal h)
int_resolved true functions (suc (suc d)) ordinal h = absurd cc

int_by : (functions : ℕ) (e : Option Entry) → is_int64 (option_and_then (λ x. resolved kinds.TypeKind x (tables functions)) e) ≡ true → type_named e ≡ int_type
int_by functions None h = absurd cc
int_by functions (Some e) h =
    let is = int_resolved (kind_number e.kind == 0) functions e.dependency e.ordinal h in
    rw (is.base, is.five) refl

pub int_named : (functions : ℕ) (entries : List Entry) (k : ℕ) → is_int64 (target entries (tables functions) kinds.TypeKind k) ≡ true → type_named (slice_get entries k) ≡ int_type
int_named functions entries k h = int_by functions (slice_get entries k) h

one_int : (functions : ℕ) (entries : List Entry) (k : ℕ) (rest : List Id) (count : ℕ) (more : Option ℕ) → (more ≡ None → rest ≡ replicate count int_type) → (b : Bool) → is_int64 (target entries (tables functions) kinds.TypeKind k) ≡ b
    → cond (not b) (Some k) more ≡ None → (type_named (slice_get entries k) ∷ rest) ≡ replicate (suc count) int_type
one_int functions entries k rest count more h false e none = absurd cc
one_int functions entries k rest count more h true e none = rw (int_named functions entries k e, h none) refl

pub all_ints : (functions : ℕ) (entries : List Entry) (ks : List ℕ) → types_misfit entries (tables functions) ks ≡ None → map (λ k. type_named (slice_get entries k)) ks ≡ replicate (length ks) int_type
all_ints functions entries [] h = refl
all_ints functions entries (k ∷ ks) h =
    one_int functions entries k (map (λ j. type_named (slice_get entries j)) ks) (length ks) (types_misfit entries (tables functions) ks) (all_ints functions entries ks)
    (is_int64 (target entries (tables functions) kinds.TypeKind k)) refl h
