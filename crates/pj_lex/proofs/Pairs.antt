-- A step over one character of a comment, where pairs of characters are read one by one.
use Rattle.std.proofs.Common.{◌≡◌, ℕ, ◌+◌, ◌-◌, ◌≤◌, ◌==◌, ◌&&◌, true, false, List, [], ◌∷◌, Option, length, get_or, take, drop, refl, sym, ap, ◌∙◌, arith}
use Rattle.std.proofs.Math.Seq.{take-length}
use Rattle.std.proofs.lemmas.Bool.{ne_eqb}
use Rattle.pj_lex.specs.Comments.{past_comments}

-- a blank belongs to no pair
pub blank_first : (open_ones : ℕ) (cs : List ℕ) → past_comments open_ones (32 ∷ cs) ≡ past_comments open_ones cs
unfolding past_comments
blank_first open_ones [] = refl
blank_first open_ones (c ∷ cs) = refl

behind_first : (c : ℕ) (cs : List ℕ) → take (length (c ∷ cs) - 1) (drop 1 (c ∷ cs)) ≡ cs
behind_first c cs =
    let size : length (c ∷ cs) - 1 ≡ length cs = omega arith in
    rw size (take-length cs)

pub opens : (n last first : ℕ) (rest : List ℕ) (whole : Option (List ℕ)) → 1 ≤ length rest → first ≡ get_or rest 0 first → ((last == 35) && (first == 61)) ≡ true
    → past_comments n (last ∷ rest) ≡ whole → past_comments (n + 1) (32 ∷ take (length rest - 1) (drop 1 rest)) ≡ whole
unfolding past_comments
opens n last first [] whole some is pair so_far = absurd (omega arith)
opens n last first (c ∷ cs) whole some is pair so_far =
    let same : ((last == 35) && (c == 61)) ≡ true = rw (← is) pair in
    let step : past_comments n (last ∷ c ∷ cs) ≡ past_comments (n + 1) cs = rw same refl in
    rw (behind_first c cs) (blank_first (n + 1) cs ∙ sym step ∙ so_far)

pub closes : (n last first : ℕ) (rest : List ℕ) (whole : Option (List ℕ)) → 1 ≤ length rest → first ≡ get_or rest 0 first → ((last == 35) && (first == 61)) ≡ false → ((last == 61) && (first == 35)) ≡ true → (n ≡ 1 → ⊥)
    → past_comments n (last ∷ rest) ≡ whole → past_comments (n - 1) (32 ∷ take (length rest - 1) (drop 1 rest)) ≡ whole
unfolding past_comments
closes n last first [] whole some is no_pair pair more so_far = absurd (omega arith)
closes n last first (c ∷ cs) whole some is no_pair pair more so_far =
    let other : ((last == 35) && (c == 61)) ≡ false = rw (← is) no_pair in
    let same : ((last == 61) && (c == 35)) ≡ true = rw (← is) pair in
    let step : past_comments n (last ∷ c ∷ cs) ≡ past_comments (n - 1) cs = rw (other, same, ne_eqb n 1 more) refl in
    rw (behind_first c cs) (blank_first (n - 1) cs ∙ sym step ∙ so_far)

pub passes : (n last first : ℕ) (rest : List ℕ) (whole : Option (List ℕ)) → 1 ≤ length rest → first ≡ get_or rest 0 first → ((last == 35) && (first == 61)) ≡ false → ((last == 61) && (first == 35)) ≡ false
    → past_comments n (last ∷ rest) ≡ whole → past_comments n (first ∷ take (length rest - 1) (drop 1 rest)) ≡ whole
unfolding past_comments
passes n last first [] whole some is no_open no_close so_far = absurd (omega arith)
passes n last first (c ∷ cs) whole some is no_open no_close so_far =
    let other : ((last == 35) && (c == 61)) ≡ false = rw (← is) no_open in
    let another : ((last == 61) && (c == 35)) ≡ false = rw (← is) no_close in
    let step : past_comments n (last ∷ c ∷ cs) ≡ past_comments n (c ∷ cs) = rw (other, another) refl in
    let here : past_comments n (first ∷ cs) ≡ past_comments n (c ∷ cs) = ap (λ x. past_comments n (x ∷ cs)) is in
    rw (behind_first c cs) (here ∙ sym step ∙ so_far)
