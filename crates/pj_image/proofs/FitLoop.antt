-- One more of a list that is as P says.
use Rattle.std.proofs.Common.{◌≡◌, ℕ, zero, suc, ◌+◌, ◌<◌, List, [], ◌∷◌, length, get_or, take, subst, add-one, arith}
use Rattle.std.specs.List.{AllByRecursion}

module _ {A : Type 0} (P : A → Type 0) where
  at_front : (xs : List A) (i : ℕ) (d : A) → i < length xs → AllByRecursion P (take i xs) → P (get_or xs i d) → AllByRecursion P (take (suc i) xs)
  at_front [] i d lt h p = absurd (omega (arith, lt))
  at_front (x ∷ xs) zero d lt h p = (p, tt)
  at_front (x ∷ xs) (suc i) d lt h p = (h.0, at_front xs i d (omega (arith, lt)) h.1 p)

  pub one_more : (xs : List A) (i : ℕ) (x : A) → i < length xs → x ≡ get_or xs i x → AllByRecursion P (take i xs) → P x → AllByRecursion P (take (i + 1) xs)
  one_more xs i x lt is h p = rw add-one (at_front xs i x lt h (subst P is p))
