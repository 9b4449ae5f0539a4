-- Tests joined.
use Rattle.std.proofs.Common.{◌≡◌, refl, Bool, true, false, not, ◌&&◌, ℕ, zero, suc, subst, List, [], ◌∷◌, Some, slice_get}
use Rattle.std.specs.List.{list_all}
use Rattle.pj_plain.proofs.Bools.{both_true}

pub both : (a b : Bool) → a ≡ true → b ≡ true → (a && b) ≡ true
both true b h k = k
both false b h k = absurd cc

pub not_true : (a : Bool) → not a ≡ true → a ≡ false
not_true true h = absurd cc
not_true false h = refl

pub not_false : (a : Bool) → a ≡ false → not a ≡ true
not_false true h = absurd cc
not_false false h = refl

-- what holds of all holds of the one in a place
pub all_at : {A : Type 0} (p : A → Bool) (xs : List A) (n : ℕ) (x : A) → list_all p xs ≡ true → slice_get xs n ≡ Some x → p x ≡ true
all_at p [] n x h e = absurd cc
all_at p (y ∷ ys) zero x h e =
    let two = both_true (p y) (list_all p ys) h in
    let same : y ≡ x = cc in
    subst (λ z. p z ≡ true) same two.0
all_at p (y ∷ ys) (suc n) x h e = all_at p ys n x (both_true (p y) (list_all p ys) h).1 e
