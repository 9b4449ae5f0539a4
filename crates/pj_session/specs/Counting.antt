-- A result with the charges that are left, beside what direct evaluation counts.
use Rattle.std.specs.Prelude.{◌≡◌, ℕ, zero, suc, ℤ, List, [], ◌∷◌, Option, Some, None}
use Rattle.pj_meaning.specs.Tree.{Text, Expr, Int}
use Rattle.pj_session.specs.Numbers.{Counted, charge, with_number, applied, number_in}

-- the result, and in the budget what is left; where there is no result, a charge found no budget
abbrev pub Counts : {A : Type 0} → Option A → ℕ → Option (A × ℕ) → Type 0
Counts None left counted = counted ≡ None
Counts (Some a) left counted = counted ≡ Some (a, left)

-- one charge less, or none where there is none
abbrev pub charged : ℕ → Option (Unit {0} × ℕ)
charged zero = None
charged (suc n) = Some (tt, n)

-- two charges less, as printing takes
abbrev pub charged_twice : ℕ → Option (Unit {0} × ℕ)
charged_twice left = charge left (λ l. charge l (λ k. Some (tt, k)))

-- the integer that an expression is
abbrev pub integer_in : Expr → Option ℤ
integer_in (Int z) = Some z
integer_in e = None

-- an operation on two operands
abbrev pub operated : List Text → List ℤ → Text → List Expr → ℕ → Counted
operated ps zs f (a ∷ (b ∷ [])) left =
    with_number (number_in ps zs a left) (λ x l. with_number (number_in ps zs b l) (λ y k. charge k (λ n. Some (applied f x y, n))))
operated ps zs f es left = None
