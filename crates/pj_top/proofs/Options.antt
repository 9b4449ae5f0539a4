-- Texts that stand behind others, and a list of three.
use Rattle.std.proofs.Common.{◌≡◌, List, [], ◌∷◌, Option, Some, None, get_or, length, map, refl, sym, ap, arith}
use Rattle.std.specs.Option.{IfSome}
use Rattle.std.proofs.lemmas.List.{append-nil}
use Rattle.pj_meaning.specs.Tree.{Text}
use Rattle.pj_top.specs.Claims.{Adds, AddsFront}

-- where nothing was put, a front of any text was
pub nothing_put : (written : Option Text) (text : Text) → IfSome written (λ old. AddsFront old text written)
nothing_put None text = tt
nothing_put (Some old) text = (0, ap Some (sym (append-nil old)))

-- where nothing was put, nothing was added
pub nothing_added : (written : Option Text) → IfSome written (λ old. Adds old [] written)
nothing_added None = tt
nothing_added (Some old) = ap Some (sym (append-nil old))

pub empty_list : {X : Type 0} (xs : List X) → length xs ≡ 0 → xs ≡ []
empty_list [] e = refl
empty_list (x ∷ xs) e = absurd (omega (arith, e))

-- a list of three, by its elements
pub three_of : {X : Type 0} (f : X → Text) (xs : List X) (x y z : X) → length xs ≡ 3 → x ≡ get_or xs 0 x → y ≡ get_or xs 1 y → z ≡ get_or xs 2 z → map f xs ≡ f x ∷ f y ∷ f z ∷ []
three_of f [] x y z e a b c = absurd (omega (arith, e))
three_of f (p ∷ []) x y z e a b c = absurd (omega (arith, e))
three_of f (p ∷ q ∷ []) x y z e a b c = absurd (omega (arith, e))
three_of f (p ∷ q ∷ r ∷ []) x y z e a b c = rw (← a, ← b, ← c) refl
three_of f (p ∷ q ∷ r ∷ s ∷ xs) x y z e a b c = absurd (omega (arith, e))
