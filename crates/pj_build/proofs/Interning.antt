-- Texts that strings get.
use Rattle.std.proofs.Common.{◌≡◌, ℕ, suc, ◌+◌, arith, Bool, true, false, ◌||◌, List, [], ◌∷◌, ◌++◌, Some, refl, sym, ap, ◌∙◌, append_assoc, append-nil, slice_get}
use Rattle.std.specs.Str.{bytes_eq}
use Rattle.std.proofs.lemmas.Slice.Eq.{bytes_eq-Decides}
use Rattle.pj_base.specs.Interned.{Interns, has_text, place_of}
use Rattle.pj_meaning.specs.Tree.{Text}
use Rattle.pj_build.specs.Strings.{Grown}

one_more : (n : ℕ) → 1 + n ≡ suc n
one_more n = omega arith

place_there : (t x : Text) (names : List Text) (b : Bool) → bytes_eq t x ≡ b → (has_text t names ≡ true → slice_get names (place_of t names) ≡ Some t) → (b || has_text t names) ≡ true → slice_get (x ∷ names) (place_of t (x ∷ names)) ≡ Some t
place_there t x names true e more h = rw e (ap Some (sym ((bytes_eq-Decides t x).0 e)))
place_there t x names false e more h = rw (e, one_more) (more h)

at_place : (t : Text) (names : List Text) → has_text t names ≡ true → slice_get names (place_of t names) ≡ Some t
at_place t [] h = absurd cc
at_place t (x ∷ names) h = place_there t x names (bytes_eq t x) refl (at_place t names) h

end_there : (t x : Text) (names : List Text) (b : Bool) → bytes_eq t x ≡ b → (has_text t names ≡ false → slice_get (names ++ t ∷ []) (place_of t names) ≡ Some t) → (b || has_text t names) ≡ false → slice_get ((x ∷ names) ++ t ∷ []) (place_of t (x ∷ names)) ≡ Some t
end_there t x names true e more h = absurd cc
end_there t x names false e more h = rw (e, one_more) (more h)

at_end : (t : Text) (names : List Text) → has_text t names ≡ false → slice_get (names ++ t ∷ []) (place_of t names) ≡ Some t
at_end t [] h = refl
at_end t (x ∷ names) h = end_there t x names (bytes_eq t x) refl (at_end t names) h

pub interned_at : (t : Text) (old new : List Text) (place : ℕ) → Interns t old place new → slice_get new place ≡ Some t
interned_at t old new place i = by (has_text t old) refl
  where
    by : (b : Bool) → has_text t old ≡ b → slice_get new place ≡ Some t
    by true e = let after = rw e at i.after in rw (after, i.at) (at_place t old e)
    by false e = let after = rw e at i.after in rw (after, i.at) (at_end t old e)

pub interned_grown : (t : Text) (old new : List Text) (place : ℕ) → Interns t old place new → Grown old new
interned_grown t old new place i = by (has_text t old) refl
  where
    by : (b : Bool) → has_text t old ≡ b → Grown old new
    by true e = let after = rw e at i.after in record { more = []; is = after ∙ sym (append-nil old) }
    by false e = let after = rw e at i.after in record { more = t ∷ []; is = after }

pub grown_same : (old new : List Text) → new ≡ old → Grown old new
grown_same old new e = record { more = []; is = e ∙ sym (append-nil old) }

pub grown_more : (old between new : List Text) → Grown old between → Grown between new → Grown old new
grown_more old between new g h = record {
  more = g.more ++ h.more;
  is = h.is ∙ ap (λ (l : List Text). l ++ h.more) g.is ∙ append_assoc old g.more h.more;
}

pub ruleset interning = (interned_at, interned_grown, grown_same)
