-- A sign that stands at the front is no longer than the text.
use Rattle.std.proofs.Common.{◌≡◌, ℕ, ◌≤◌, Bool, true, false, cond, List, [], ◌∷◌, Option, Some, length, take, nat_eq, refl, sym, ap, arith}
use Rattle.std.specs.List.{find, starts_with}
use Rattle.std.proofs.lemmas.List.{length-take}
use Rattle.std.proofs.lemmas.Slice.Eq.{bytes_eq-Decides}
use Rattle.pj_lex.specs.declared.sign.Sign.{Sign}
use Rattle.pj_lex.specs.Signs.{sign_text, sign_at, all_signs}

passes_by : {X : Type 0} (p : X → Bool) (y x : X) (rest : Option X) (b : Bool) → b ≡ p y → (rest ≡ Some x → p x ≡ true) → cond b (Some y) rest ≡ Some x → p x ≡ true
passes_by p y x rest true is later found = let same : y ≡ x = cc in rw (← same) (sym is)
passes_by p y x rest false is later found = later found

-- what is found passes the test
pub find_passes : {X : Type 0} (p : X → Bool) (xs : List X) (x : X) → find p xs ≡ Some x → p x ≡ true
find_passes p [] x found = cc
find_passes p (y ∷ xs) x found = passes_by p y x (find p xs) (p y) refl (find_passes p xs x) found

pub front_fits : (xs front : List ℕ) → starts_with nat_eq xs front ≡ true → length front ≤ length xs
front_fits xs front starts =
    let same : front ≡ take (length front) xs = (bytes_eq-Decides front (take (length front) xs)).0 starts in
    omega (arith, ap length same, length-take (length front) xs)

pub sign_fits : (cs : List ℕ) (sign : Sign) → sign_at cs ≡ Some sign → length (sign_text sign) ≤ length cs
unfolding sign_at
sign_fits cs sign found = front_fits cs (sign_text sign) (find_passes (λ s. starts_with nat_eq cs (sign_text s)) all_signs sign found)
