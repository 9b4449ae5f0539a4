-- Two operands in a list.
use Rattle.std.proofs.Common.{◌≡◌, ◌≤◌, ◌<◌, ℕ, ℤ, List, [], ◌∷◌, Option, Some, None, map, length, get_or, refl, arith, to_z, of_z, w64, subst}
use Rattle.std.specs.Int.Signed.{mag}
use Rattle.std.proofs.Math.Facts.{sfits_lit, yes_ltb}
use Rattle.std.proofs.lemmas.Int.{to_z-of_z}
use Rattle.pj_meaning.specs.Tree.{Text, Expr, Call}
use Rattle.pj_tree.specs.Reads.{exprs_of}
use Rattle.pj_session.specs.Numbers.{charge, with_number, applied, number_in}
use Rattle.pj_session.specs.Counting.{Counts, operated}

pub two_operands : (ps : List Text) (zs : List ℤ) (m f : Text) (es : List Expr) (left : ℕ) → number_in ps zs (Call m f (exprs_of es)) left ≡ operated ps zs f es left
two_operands ps zs m f [] left = refl
two_operands ps zs m f (a ∷ []) left = refl
two_operands ps zs m f (a ∷ (b ∷ [])) left = refl
two_operands ps zs m f (a ∷ (b ∷ (c ∷ es))) left = refl

pub two_items : {A B : Type 0} (f : A → B) (xs : List A) (a b : A) → 2 ≤ length xs → length xs < 3 → a ≡ get_or xs 0 a → b ≡ get_or xs 1 b → map f xs ≡ f a ∷ (f b ∷ [])
two_items f [] a b low high ha hb = absurd (omega (arith, low))
two_items f (x ∷ []) a b low high ha hb = absurd (omega (arith, low))
two_items f (x ∷ (y ∷ [])) a b low high ha hb = rw (ha, hb) refl
two_items f (x ∷ (y ∷ (z ∷ xs))) a b low high ha hb = absurd (omega (arith, high))

-- a number of 64 bits comes back from its bits
pub same_integer : (z : ℤ) → mag z < 9223372036854775808 → to_z w64 (of_z w64 z) ≡ z
same_integer z small = to_z-of_z w64 z (sfits_lit {w = w64} {z = z} (yes_ltb small))

-- an operation's result from those of its operands
pub after_two : (ps : List Text) (zs : List ℤ) (f : Text) (es : List Expr) (a b : Expr) (left : ℕ) (x y : ℤ) (l m n : ℕ) (result : Option ℤ)
    → es ≡ a ∷ (b ∷ []) → number_in ps zs a left ≡ Some (x, l) → number_in ps zs b l ≡ Some (y, m) → mag x < 9223372036854775808 → mag y < 9223372036854775808
    → Counts result n (charge m (λ k. Some (applied f (to_z w64 (of_z w64 x)) (to_z w64 (of_z w64 y)), k))) → Counts result n (operated ps zs f es left)
unfolding with_number
after_two ps zs f es a b left x y l m n result e ha hb fits_x fits_y h =
    let same_x : to_z w64 (of_z w64 x) ≡ x = same_integer x fits_x in
    let same_y : to_z w64 (of_z w64 y) ≡ y = same_integer y fits_y in
    rw (e, ha, hb)
    (subst (λ (v : ℤ). Counts result n (charge m (λ k. Some (applied f x v, k)))) same_y
    (subst (λ (u : ℤ). Counts result n (charge m (λ k. Some (applied f u (to_z w64 (of_z w64 y)), k)))) same_x h))

pub first_short : (ps : List Text) (zs : List ℤ) (f : Text) (es : List Expr) (a b : Expr) (left : ℕ) → es ≡ a ∷ (b ∷ []) → number_in ps zs a left ≡ None → operated ps zs f es left ≡ None
unfolding with_number
first_short ps zs f es a b left e ha = rw (e, ha) refl

pub second_short : (ps : List Text) (zs : List ℤ) (f : Text) (es : List Expr) (a b : Expr) (left : ℕ) (x : ℤ) (l : ℕ) → es ≡ a ∷ (b ∷ []) → number_in ps zs a left ≡ Some (x, l) → number_in ps zs b l ≡ None → operated ps zs f es left ≡ None
unfolding with_number
second_short ps zs f es a b left x l e ha hb = rw (e, ha, hb) refl
