-- Positions behind bytes, one by one.
use Rattle.std.proofs.Common.{◌≡◌, ℕ, zero, suc, ◌+◌, ◌<◌, ◌≤◌, Bool, true, false, cond, ◌==◌, List, [], ◌∷◌, drop, take, length, slice_index_or, ◌⊎◌, inl, inr, refl, sym, ap, ◌∙◌, arith}
use Rattle.std.proofs.lemmas.List.{drop_all, take_all}
use Rattle.pj_top.specs.Positions.{begins_character, behind, past}
use Rattle.pj_top.specs.declared.position.Position.{Position}

-- one byte more
behind_one : (p : Position) (i : ℕ) (bytes : List ℕ) → i < length bytes → behind p (drop i bytes) ≡ behind (past p (slice_index_or bytes i 0)) (drop (suc i) bytes)
unfolding behind
behind_one p i [] h = let bad : ⊥ = omega (arith, h) in absurd bad
behind_one p zero (b ∷ bytes) h = refl
behind_one p (suc i) (b ∷ bytes) h = behind_one p i bytes (omega (arith, h))

pub one_more : (p : Position) (i : ℕ) (bytes : List ℕ) → i < length bytes → behind p (drop i bytes) ≡ behind (past p (slice_index_or bytes i 0)) (drop (i + 1) bytes)
one_more p i bytes h =
    let next : suc i ≡ i + 1 = omega arith in behind_one p i bytes h ∙ ap (λ j. behind (past p (slice_index_or bytes i 0)) (drop j bytes)) next

-- no number grows by more than one
line_by : (p : Position) (a b : Bool) → (cond a (record { line = p.line + 1; column = 1 }) (cond b (record { line = p.line; column = p.column + 1 }) p)).line ≤ p.line + 1
line_by p true b = omega arith
line_by p false true = omega arith
line_by p false false = omega arith

column_by : (p : Position) (a b : Bool) → (cond a (record { line = p.line + 1; column = 1 }) (cond b (record { line = p.line; column = p.column + 1 }) p)).column ≤ p.column + 1
column_by p true b = omega arith
column_by p false true = omega arith
column_by p false false = omega arith

pub line_grows : (p : Position) (b : ℕ) → (past p b).line ≤ p.line + 1
line_grows p b = line_by p (b == 10) (begins_character b)

pub column_grows : (p : Position) (b : ℕ) → (past p b).column ≤ p.column + 1
column_grows p b = column_by p (b == 10) (begins_character b)

-- all bytes are a front of themselves
pub whole : (bytes : List ℕ) (n : ℕ) → (n < 0) ⊎ (length bytes < n) → bytes ≡ take n bytes
whole bytes n (inl h) = let bad : ⊥ = omega (arith, h) in absurd bad
whole bytes n (inr h) = sym (take_all n bytes (omega (arith, h)))

pub ruleset fronts = (whole)

-- behind all bytes
pub at_the_end : (p q : Position) (i : ℕ) (bytes : List ℕ) → length bytes ≤ i → behind p (drop i bytes) ≡ behind q bytes → p ≡ behind q bytes
unfolding behind
at_the_end p q i bytes h goes = ap (behind p) (sym (drop_all i bytes h)) ∙ goes
