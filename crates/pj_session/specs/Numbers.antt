-- What an expression over whole numbers gives for its parameters' arguments, and which charges it takes.
-- It is no definition of meaning; `proofs/` shows that it is what direct evaluation gives.
use Rattle.std.specs.Prelude.{ℕ, zero, suc, ℤ, pos, List, [], ◌∷◌, Option, Some, None, codes, if◌then◌else◌}
use Rattle.std.specs.Int.{w64, int_wrapping_add, int_wrapping_sub, int_wrapping_mul}
use Rattle.std.specs.Str.{bytes_eq}
use Rattle.pj_meaning.specs.Tree.{Text, Expr, Int, Local, Call, none, also}

-- a number with the charges that are left, or none where a charge found no budget
abbrev pub Counted : Type 0
Counted = Option (ℤ × ℕ)

-- goes on with one charge less, where there is one
unfoldable pub charge : {A : Type 0} → ℕ → (ℕ → Option A) → Option A
charge zero next = None
charge (suc n) next = next n

unfoldable pub with_number : {A : Type 0} → Counted → (ℤ → ℕ → Option A) → Option A
with_number None next = None
with_number (Some p) next = next p.0 p.1

-- the argument of the first parameter of this name
abbrev pub argument_of : List Text → List ℤ → Text → ℤ
argument_of [] zs x = pos 0
argument_of (p ∷ ps) [] x = pos 0
argument_of (p ∷ ps) (z ∷ zs) x = if bytes_eq p x then z else argument_of ps zs x

-- `+`, `-` or `*`, each of which wraps
abbrev pub applied : Text → ℤ → ℤ → ℤ
applied f x y =
    if bytes_eq f (codes "+") then int_wrapping_add w64 x y else if bytes_eq f (codes "-") then int_wrapping_sub w64 x y else int_wrapping_mul w64 x y

-- The value of an expression over parameters and their arguments. An operation takes a charge once its operands are numbers.
abbrev pub number_in : List Text → List ℤ → Expr → ℕ → Counted
number_in ps zs (Int z) left = Some (z, left)
number_in ps zs (Local x) left = Some (argument_of ps zs x, left)
number_in ps zs (Call m f (also a (also b none))) left =
    with_number (number_in ps zs a left) (λ x l. with_number (number_in ps zs b l) (λ y k. charge k (λ n. Some (applied f x y, n))))
number_in ps zs e left = None
