-- Where a text of the grammar begins with some tokens, it begins with fewer of them too; so a list of tokens has one fault at most.
use Rattle.std.proofs.Common.{◌≡◌, ℕ, zero, suc, ◌≤◌, ◌<◌, ◌⊎◌, inl, inr, arith, List, [], ◌∷◌, ◌++◌, take, drop, refl, sym, ap, subst, ◌∙◌}
use Rattle.std.proofs.lemmas.Bool.{cases_order}
use Rattle.std.proofs.lemmas.List.{append_assoc, take-append-drop}
use Rattle.pj_lex.specs.declared.token.Token.{Token}
use Rattle.pj_grammar.specs.declared.mode.Parsed.{Parsed}
use Rattle.pj_grammar.specs.Modules.{Modules}
use Rattle.pj_grammar.specs.Texts.{IsText, Kind}
use Rattle.pj_grammar.specs.Theorems.{Begins, IsDeepFault, IsGrammarFault, Viable}

front : {X : Type 0} (j i : ℕ) (xs : List X) → j ≤ i → take j xs ++ drop j (take i xs) ≡ take i xs
front zero i xs h = refl
front (suc j) zero xs h = let bad : ⊥ = omega arith in absurd bad
front (suc j) (suc i) [] h = refl
front (suc j) (suc i) (x ∷ xs) h = ap (λ ys. x ∷ ys) (front j i xs (omega arith))

-- fewer tokens, and what stood behind them
behind : {X : Type 0} (j i : ℕ) (xs more : List X) → j ≤ i → take i xs ++ more ≡ take j xs ++ (drop j (take i xs) ++ more)
behind j i xs more h = ap (λ ys. ys ++ more) (sym (front j i xs h)) ∙ append_assoc (take j xs) (drop j (take i xs)) more

pub viable-front : {modules : Modules} {kind : Kind} {limit : ℕ} (j i : ℕ) (ts : List Token) → j ≤ i → Viable modules kind limit (take i ts) → Viable modules kind limit (take j ts)
viable-front {modules} {kind} j i ts h v = record {
  more = drop j (take i ts) ++ v.more;
  tree = v.tree;
  nesting = v.nesting;
  is = subst (λ us. IsText modules kind us v.tree v.nesting) (behind j i ts v.more h) v.is;
  within = v.within;
}

pub begins-front : {modules : Modules} {kind : Kind} {limit : ℕ} (j i : ℕ) (ts : List Token) → j ≤ i → Viable modules kind limit (take i ts) → Begins modules kind (take j ts)
begins-front {modules} {kind} j i ts h v = record {
  more = drop j (take i ts) ++ v.more;
  tree = v.tree;
  nesting = v.nesting;
  is = subst (λ us. IsText modules kind us v.tree v.nesting) (behind j i ts v.more h) v.is;
}

-- the tokens of a text begin a text
pub text-viable : {modules : Modules} {kind : Kind} {limit : ℕ} {tree : Parsed} {nesting : ℕ} (i : ℕ) (ts : List Token) → IsText modules kind ts tree nesting → nesting ≤ limit
    → Viable modules kind limit (take i ts)
text-viable {modules} {kind} {limit} {tree} {nesting} i ts is low = record {
  more = drop i ts;
  tree = tree;
  nesting = nesting;
  is = subst (λ us. IsText modules kind us tree nesting) (sym (take-append-drop i ts)) is;
  within = low;
}

begins : {modules : Modules} {kind : Kind} {limit : ℕ} {ts : List Token} → Viable modules kind limit ts → Begins modules kind ts
begins v = record { more = v.more; tree = v.tree; nesting = v.nesting; is = v.is }

-- the longest front that can go on within the limit
pub record Stop (modules : Modules) (kind : Kind) (limit : ℕ) (ts : List Token) (i : ℕ) : Type 0 where
  pub here : Viable modules kind limit (take i ts)
  pub beyond : Viable modules kind limit (take (suc i) ts) → ⊥

pub grammar-stop : {modules : Modules} {kind : Kind} {limit : ℕ} (ts : List Token) (i : ℕ) → IsGrammarFault modules kind limit ts i → Stop modules kind limit ts i
grammar-stop ts i f = record { here = f.0; beyond = λ v. f.1 (begins v) }

pub deep-stop : {modules : Modules} {kind : Kind} {limit : ℕ} (ts : List Token) (i : ℕ) → IsDeepFault modules kind limit ts i → Stop modules kind limit ts i
deep-stop ts i f = record { here = f.0; beyond = f.2 }

not-before : {modules : Modules} {kind : Kind} {limit : ℕ} (ts : List Token) (i j : ℕ) → Stop modules kind limit ts i → Stop modules kind limit ts j → i < j → ⊥
not-before ts i j a b h = a.beyond (viable-front (suc i) j ts (omega arith) b.here)

by-order : {modules : Modules} {kind : Kind} {limit : ℕ} (ts : List Token) (i j : ℕ) → Stop modules kind limit ts i → Stop modules kind limit ts j
    → (i ≡ j) ⊎ ((i < j) ⊎ (j < i)) → i ≡ j
by-order ts i j a b (inl same) = same
by-order ts i j a b (inr (inl less)) = absurd (not-before ts i j a b less)
by-order ts i j a b (inr (inr more)) = absurd (not-before ts j i b a more)

pub one-stop : {modules : Modules} {kind : Kind} {limit : ℕ} (ts : List Token) (i j : ℕ) → Stop modules kind limit ts i → Stop modules kind limit ts j → i ≡ j
one-stop ts i j a b = by-order ts i j a b (cases_order i j)

-- the token behind a stop is told as of no text, or as too deep, and never as both
pub never-both : {modules : Modules} {kind : Kind} {limit : ℕ} (ts : List Token) (i j : ℕ) → IsGrammarFault modules kind limit ts i → IsDeepFault modules kind limit ts j → ⊥
never-both {modules} {kind} ts i j f g =
    f.1 (subst (λ k. Begins modules kind (take (suc k) ts)) (sym (one-stop ts i j (grammar-stop ts i f) (deep-stop ts j g))) g.1)

-- a text within the limit has no stop
pub no-stop : {modules : Modules} {kind : Kind} {limit nesting : ℕ} {tree : Parsed} (ts : List Token) (i : ℕ) → IsText modules kind ts tree nesting → nesting ≤ limit
    → Stop modules kind limit ts i → ⊥
no-stop ts i is low stop = stop.beyond (text-viable (suc i) ts is low)
