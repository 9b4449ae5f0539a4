-- What follows a comment is read as comments nest.
use Rattle.std.proofs.Common.{◌≡◌, ℕ, zero, suc, ◌+◌, ◌-◌, ◌==◌, ◌&&◌, Bool, true, false, cond, List, [], ◌∷◌, Option, Some, refl, sym, subst, ◌∙◌, arith}
use Rattle.std.proofs.lemmas.Bool.{eqb-true, ne_eqb}
use Rattle.pj_lex.specs.Comments.{past_comments}
use Rattle.pj_lex.specs.Nested.{Closes, closes, nests, passes}

-- so many comments close, one behind another
Chain : ℕ → List ℕ → List ℕ → Type 0
Chain zero cs rest = cs ≡ rest
Chain (suc n) cs rest = (behind : List ℕ) × Closes cs behind × Chain n behind rest

-- what is left to read where so many are open
left : ℕ → List ℕ → Option (List ℕ)
left zero cs = Some cs
left (suc n) cs = past_comments (suc n) cs

and_both : (a b : Bool) → (a && b) ≡ true → (a ≡ true) × (b ≡ true)
and_both true b e = (refl, e)
and_both false b e = cc

pair_is : (c d x y : ℕ) → ((c == x) && (d == y)) ≡ true → (c ≡ x) × (d ≡ y)
pair_is c d x y e =
    let both = and_both (c == x) (d == y) e in
    (eqb-true c x both.0, eqb-true d y both.1)

-- one comment fewer is open
one_less : (n : ℕ) (cs : List ℕ) → cond (suc n == 1) (Some cs) (past_comments (suc n - 1) cs) ≡ left n cs
unfolding left
one_less zero cs = refl
one_less (suc n) cs =
    let more : (suc (suc n) == 1) ≡ false = ne_eqb (suc (suc n)) 1 (λ e. omega arith) in
    let less : suc (suc n) - 1 ≡ suc n = omega arith in
    rw (more, less) refl

module _ (n : ℕ) (c d : ℕ) (cs : List ℕ) where
  opening : ((c == 35) && (d == 61)) ≡ true → past_comments (suc n) (c ∷ d ∷ cs) ≡ past_comments (suc (suc n)) cs
  unfolding past_comments
  opening pair = let more : suc n + 1 ≡ suc (suc n) = omega arith in rw (pair, more) refl

  closing : ((c == 35) && (d == 61)) ≡ false → ((c == 61) && (d == 35)) ≡ true → past_comments (suc n) (c ∷ d ∷ cs) ≡ left n cs
  unfolding past_comments
  closing other pair = rw (other, pair) (one_less n cs)

  passing : ((c == 35) && (d == 61)) ≡ false → ((c == 61) && (d == 35)) ≡ false → past_comments (suc n) (c ∷ d ∷ cs) ≡ past_comments (suc n) (d ∷ cs)
  unfolding past_comments
  passing other another = rw (other, another) refl

-- ---- what closes is read

read_by : {cs behind : List ℕ} → Closes cs behind → (n : ℕ) → past_comments (suc n) cs ≡ left n behind
unfolding left
read_by {cs} {behind} closes n = closing n 61 35 behind refl refl
read_by (nests {cs = cs} first then) n = opening n 35 61 cs refl ∙ read_by first (suc n) ∙ read_by then n
read_by (passes {c} {d} {cs} other another later) n = passing n c d cs other another ∙ read_by later n

-- ---- what is read closes

left_chain : (n : ℕ) (cs rest : List ℕ) → ((m : ℕ) → past_comments (suc m) cs ≡ Some rest → Chain (suc m) cs rest) → left n cs ≡ Some rest → Chain n cs rest
unfolding left Chain
left_chain zero cs rest onward read = cc
left_chain (suc n) cs rest onward read = onward n read

by_pair : (n c d : ℕ) (cs rest : List ℕ) (opens ends : Bool) → opens ≡ ((c == 35) && (d == 61)) → ends ≡ ((c == 61) && (d == 35)) → past_comments (suc n) (c ∷ d ∷ cs) ≡ Some rest
    → ((m : ℕ) → past_comments (suc m) cs ≡ Some rest → Chain (suc m) cs rest) → (past_comments (suc n) (d ∷ cs) ≡ Some rest → Chain (suc n) (d ∷ cs) rest) → Chain (suc n) (c ∷ d ∷ cs) rest
unfolding Chain
by_pair n c d cs rest true ends opening_is ends_is read onward passed =
    let are = pair_is c d 35 61 (sym opening_is) in
    let found : Chain (suc (suc n)) cs rest = onward (suc n) (sym (opening n c d cs (sym opening_is)) ∙ read) in
    rw (are.0, are.1) (found.2.0, nests found.1 found.2.1, found.2.2)
by_pair n c d cs rest false true opening_is ends_is read onward passed =
    let are = pair_is c d 61 35 (sym ends_is) in
    let found : Chain n cs rest = left_chain n cs rest onward (sym (closing n c d cs (sym opening_is) (sym ends_is)) ∙ read) in
    rw (are.0, are.1) (cs, closes, found)
by_pair n c d cs rest false false opening_is ends_is read onward passed =
    let found : Chain (suc n) (d ∷ cs) rest = passed (sym (passing n c d cs (sym opening_is) (sym ends_is)) ∙ read) in
    (found.0, passes (sym opening_is) (sym ends_is) found.1, found.2)

chains : (cs : List ℕ) (n : ℕ) (rest : List ℕ) → past_comments (suc n) cs ≡ Some rest → Chain (suc n) cs rest
unfolding past_comments
chains [] n rest read = cc
chains (c ∷ []) n rest read = cc
chains (c ∷ d ∷ cs) n rest read = by_pair n c d cs rest _ _ refl refl read (λ m e. chains cs m rest e) (λ e. chains (d ∷ cs) n rest e)

-- what is read behind a comment follows it as comments nest
pub nested : (cs rest : List ℕ) → past_comments 1 cs ≡ Some rest → Closes cs rest
unfolding Chain
nested cs rest read =
    let found : Chain (suc zero) cs rest = chains cs zero rest read in
    subst (Closes cs) found.2 found.1

-- what follows a comment as comments nest is read
pub read : (cs rest : List ℕ) → Closes cs rest → past_comments 1 cs ≡ Some rest
unfolding left
read cs rest closing_is = read_by closing_is zero
