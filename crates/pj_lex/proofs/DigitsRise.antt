-- A number never falls as its digits are read.
use Rattle.std.proofs.Common.{◌≡◌, ℕ, ◌+◌, ◌-◌, ◌*◌, ◌<◌, ◌≤◌, Bool, true, false, cond, List, [], ◌∷◌, length, get_or, arith, ◌==◌, ◌&&◌, refl, subst}
use Rattle.pj_lex.specs.Characters.{is_digit, first_is}
use Rattle.pj_lex.specs.Numbers.{digits}

rises_by : (n : ℕ) (c : ℕ) (cs : List ℕ) (p q : Bool) → 10 * n + (c - 48) ≤ (digits (10 * n + (c - 48)) cs).0 → n ≤ (digits n cs).0 → n ≤ (cond p (digits (10 * n + (c - 48)) cs) (cond q (digits n cs) (n, c ∷ cs))).0
rises_by n c cs true q h i = omega arith
rises_by n c cs false true h i = i
rises_by n c cs false false h i = omega arith

pub rises : (cs : List ℕ) (n : ℕ) → n ≤ (digits n cs).0
unfolding digits
rises [] n = omega arith
rises (c ∷ cs) n =
    rises_by n c cs (is_digit c) ((c == 95) && first_is is_digit cs) (rises cs (10 * n + (c - 48))) (rises cs n)

pub too_large : (value limit first : ℕ) (rest : List ℕ) → 1 ≤ length rest → first ≡ get_or rest 0 first → is_digit first ≡ true → limit < 10 * value + (first - 48) → limit < (digits value rest).0
unfolding digits
too_large value limit first [] some is digit past = absurd (omega arith)
too_large value limit first (c ∷ cs) some is digit past =
    let digit_c : is_digit c ≡ true = subst (λ x. is_digit x ≡ true) is digit in
    let e : digits value (c ∷ cs) ≡ digits (10 * value + (c - 48)) cs = rw digit_c refl in
    let less : limit < 10 * value + (c - 48) = subst (λ x. limit < 10 * value + (x - 48)) is past in
    rw e (omega (arith, rises cs (10 * value + (c - 48))))
