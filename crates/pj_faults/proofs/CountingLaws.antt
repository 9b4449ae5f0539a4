-- The first of a list counts.
use Rattle.std.proofs.Common.{◌≡◌, ℕ, ◌<◌, Bool, true, false, List, [], ◌∷◌, Option, Some, None, cond, refl, sym, arith, ◌⊎◌, inl, inr, subst}
use Rattle.pj_faults.specs.declared.fault.Fault.{Fault}
use Rattle.pj_faults.specs.First.{rank, before, sooner, first}
use Rattle.pj_faults.specs.Counting.{NoneBefore, Counts, FirstCounts, NoneIsEmpty}
use Rattle.pj_faults.proofs.FirstLaws.{lex, lex_true, lex_more, lex_not, before-not}

before-same : (f : Fault) → before f f ≡ false
unfolding before lex
before-same f = lex_not f.place (rank f.kind) f.place (rank f.kind) refl (omega arith)

not_back : (p i q j : ℕ) → (p < q) ⊎ ((p ≡ q) × (i < j)) → lex q j p i ≡ false
not_back p i q j (inl a) = lex_more q j p i a
not_back p i q j (inr a) = lex_not q j p i (sym (a.0)) (omega (arith, a.1))

before-back : (f g : Fault) → before f g ≡ true → before g f ≡ false
unfolding before lex
before-back f g h = not_back f.place (rank f.kind) g.place (rank g.kind) (lex_true f.place (rank f.kind) g.place (rank g.kind) h)

-- what isn't before one that isn't before another isn't before that
further : (f g : Fault) (fs : List Fault) → before g f ≡ false → NoneBefore g fs → NoneBefore f fs
further f g [] h k = tt
further f g (x ∷ xs) h k = (before-not f g x h (k.0), further f g xs h (k.1))

none_by : (g : Fault) (r : Option Fault) → sooner (Some g) r ≡ None → ⊥
unfolding sooner
none_by g None h = cc
none_by g (Some f) h = cc

pub none_is_empty : NoneIsEmpty
unfolding first
none_is_empty [] h = refl
none_is_empty (g ∷ gs) h = absurd (none_by g (first gs) h)

chosen : (g h : Fault) (gs : List Fault) (b : Bool) (f : Fault) → before h g ≡ b → Counts h gs → cond b h g ≡ f → Counts f (g ∷ gs)
chosen g h gs true f e c is = subst (λ f. Counts f (g ∷ gs)) is (record { is_one = inr c.is_one; none_before = (before-back h g e, c.none_before) })
chosen g h gs false f e c is = subst (λ f. Counts f (g ∷ gs)) is (record { is_one = inl refl; none_before = (before-same g, further g h gs e c.none_before) })

alone : (g f : Fault) (gs : List Fault) → gs ≡ [] → g ≡ f → Counts f (g ∷ gs)
alone g f gs none is = subst (λ f. Counts f (g ∷ gs)) is (record { is_one = inl refl; none_before = (before-same g, rw none tt) })

step : (g : Fault) (gs : List Fault) (r : Option Fault) (f : Fault) → (r ≡ None → gs ≡ []) → ((h : Fault) → r ≡ Some h → Counts h gs) → sooner (Some g) r ≡ Some f → Counts f (g ∷ gs)
unfolding sooner
step g gs None f none some is = let e : g ≡ f = cc is in alone g f gs (none refl) e
step g gs (Some h) f none some is = let e : cond (before h g) h g ≡ f = cc is in chosen g h gs (before h g) f refl (some h refl) e

pub first_counts : FirstCounts
unfolding first
first_counts [] f h = absurd (cc h)
first_counts (g ∷ gs) f h = step g gs (first gs) f (none_is_empty gs) (first_counts gs) h
