-- The two laws of sections.
use Rattle.std.proofs.Common.{◌≡◌, ℕ, ◌+◌, ◌≤◌, ◌^◌, ◌<◌, Bool, true, false, cond, eqb, leb, List, [], ◌∷◌, ◌++◌, length, take, drop, Option, Some, None, refl, sym, ap, subst, ◌∙◌, append_assoc, arith, eq-eqb}
use Rattle.std.specs.Prelude.{◌&&◌}
use Rattle.std.proofs.lemmas.Bool.{eqb-true, leb-true, le-leb}
use Rattle.std.proofs.lemmas.List.{take_at, drop_at, take-append-drop, length-append, append-nil, length-take-le}
use Rattle.pj_fields.specs.Fields.{Reader, number, after, number_at}
use Rattle.pj_fields.proofs.Laws.{IsBytes, IsBytes-take, Taken, Laws, rest_of, after_some, some_is, number_laws}
use Rattle.pj_parts.proofs.Sizes.{length-number}
use Rattle.pj_image.specs.Frames.{section, alone, with_rest, sized, framed}

guard_both : {A : Type 0} (a b : Bool) (r : Option A) (y : A) → cond (a && b) r None ≡ Some y → (a ≡ true) × ((b ≡ true) × (r ≡ Some y))
guard_both true true r y e = (refl, (refl, e))
guard_both true false r y e = absurd cc
guard_both false b r y e = absurd cc

with_some : {A : Type 0} (rest : List ℕ) (r : Option A) (x : A) (left : List ℕ) → with_rest rest r ≡ Some (x, left) → (r ≡ Some x) × (rest ≡ left)
with_some {A = A} rest None x left e = absurd cc
with_some {A = A} rest (Some z) x left e =
    let parts : (z, rest) ≡ (x, left) = some_is (z, rest) (x, left) e in
    (ap (λ (p : A × List ℕ). Some p.0) parts, ap (λ (p : A × List ℕ). p.1) parts)

alone_by : {A : Type 0} (z x : A) (left : List ℕ) (test : Bool) → eqb (length left) 0 ≡ test → cond test (Some z) None ≡ Some x → (z ≡ x) × (length left ≡ 0)
alone_by z x left true is e = (some_is z x e, eqb-true (length left) 0 is)
alone_by z x left false is e = absurd cc

alone_some : {A : Type 0} (r : Option (A × List ℕ)) (x : A) → alone r ≡ Some x → (left : List ℕ) × (r ≡ Some (x, left)) × (length left ≡ 0)
alone_some {A = A} None x e = absurd cc
alone_some {A = A} (Some z) x e =
    let p = alone_by z.0 x z.1 (eqb (length z.1) 0) refl e in
    (z.1, ap (λ (y : A). Some (y, z.1)) p.0, p.1)

pub nothing_left : {A : Type 0} (xs : List A) → length xs ≡ 0 → xs ≡ []
nothing_left [] e = refl
nothing_left (x ∷ xs) e = absurd (omega (arith, e))

module _ {A : Type 0} (put : A → List ℕ) (get : Reader A) (P : A → Type 0) (one : Laws put get P) where
  sized_takes : (asked found size : ℕ) (bytes : List ℕ) (x : A) (rest : List ℕ) → IsBytes bytes → sized asked get found size bytes ≡ Some (x, rest)
      → (found ≡ asked) × ((size ≡ length (put x)) × ((bytes ≡ put x ++ rest) × P x))
  sized_takes asked found size bytes x rest are e =
      let g = guard_both (eqb found asked) (leb size (length bytes)) (with_rest (drop size bytes) (alone (get (take size bytes)))) (x, rest) e in
      let w = with_some (drop size bytes) (alone (get (take size bytes))) x rest g.1.1 in
      let a = alone_some (get (take size bytes)) x w.0 in
      let t = one.takes (take size bytes) x a.0 (IsBytes-take size bytes are) a.1 in
      let nothing : a.0 ≡ [] = nothing_left a.0 a.2 in
      let whole : take size bytes ≡ put x = t.parts ∙ ap (λ (l : List ℕ). put x ++ l) nothing ∙ append-nil (put x) in
      let within : size ≤ length bytes = leb-true size (length bytes) g.1.0 in
      let count : size ≡ length (put x) = sym (length-take-le size bytes within) ∙ ap (λ (l : List ℕ). length l) whole in
      let parts : bytes ≡ put x ++ rest = sym (take-append-drop size bytes) ∙ ap (λ (l : List ℕ). l ++ drop size bytes) whole ∙ ap (λ (l : List ℕ). put x ++ l) w.1 in
      (eqb-true found asked g.0, (count, (parts, t.fits)))

  framed_takes : (asked : ℕ) (bytes : List ℕ) (x : A) (rest : List ℕ) → IsBytes bytes → framed asked get bytes ≡ Some (x, rest)
      → Taken (λ y. section asked (put y)) (λ y. P y × (length (put y) < 2 ^ 32)) bytes x rest
  unfolding framed
  framed_takes asked bytes x rest are e =
      let a = after_some (number_at bytes) (λ found rest. after (number_at rest) (λ size behind. sized asked get found size behind)) (x, rest) e in
      let first = number_laws.takes bytes a.0.0 a.0.1 are a.1 in
      let are-1 : IsBytes a.0.1 = rest_of number (λ n. n < 2 ^ 32) bytes a.0.0 a.0.1 are first in
      let b = after_some (number_at a.0.1) (λ size behind. sized asked get a.0.0 size behind) (x, rest) a.2 in
      let second = number_laws.takes a.0.1 b.0.0 b.0.1 are-1 b.1 in
      let are-2 : IsBytes b.0.1 = rest_of number (λ n. n < 2 ^ 32) a.0.1 b.0.0 b.0.1 are-1 second in
      let s = sized_takes asked a.0.0 b.0.0 b.0.1 x rest are-2 b.2 in
      let payload = put x in
      let inner : a.0.1 ≡ (number (length payload) ++ payload) ++ rest = second.parts ∙ ap (λ (n : ℕ). number n ++ b.0.1) s.1.0 ∙ ap (λ (l : List ℕ). number (length payload) ++ l) s.1.1.0 ∙ sym (append_assoc (number (length payload)) payload rest) in
      let whole : bytes ≡ section asked payload ++ rest = first.parts ∙ ap (λ (n : ℕ). number n ++ a.0.1) s.0 ∙ ap (λ (l : List ℕ). number asked ++ l) inner ∙ sym (append_assoc (number asked) (number (length payload) ++ payload) rest) in
      record { fits = (s.1.1.1, subst (λ (n : ℕ). n < 2 ^ 32) s.1.0 second.fits); parts = whole }

  sized_again : (asked : ℕ) (x : A) (rest : List ℕ) → P x → sized asked get asked (length (put x)) (put x ++ rest) ≡ Some (x, rest)
  sized_again asked x rest fits =
      let same : eqb asked asked ≡ true = eq-eqb asked asked refl in
      let within : leb (length (put x)) (length (put x ++ rest)) ≡ true = le-leb _ _ (omega (arith, length-append (put x) rest)) in
      let alone-is : get (put x) ≡ Some (x, []) = ap get (sym (append-nil (put x))) ∙ one.again x [] fits in
      rw (same, within, take_at (put x) rest (length (put x)) refl, drop_at (put x) rest (length (put x)) refl, alone-is) refl

  framed_again : (asked : ℕ) → asked < 2 ^ 32 → (x : A) (rest : List ℕ) → P x × (length (put x) < 2 ^ 32) → framed asked get (section asked (put x) ++ rest) ≡ Some (x, rest)
  unfolding framed
  framed_again asked lt x rest fits =
      let payload = put x in
      let regrouped : section asked payload ++ rest ≡ number asked ++ (number (length payload) ++ (payload ++ rest)) =
      append_assoc (number asked) (number (length payload) ++ payload) rest ∙ ap (λ (l : List ℕ). number asked ++ l) (append_assoc (number (length payload)) payload rest) in
      ap (framed asked get) regrouped ∙ rw (number_laws.again asked (number (length payload) ++ (payload ++ rest)) lt, number_laws.again (length payload) (payload ++ rest) fits.1) (sized_again asked x rest fits.0)

  pub framed_laws : (asked : ℕ) → asked < 2 ^ 32 → Laws (λ x. section asked (put x)) (framed asked get) (λ x. P x × (length (put x) < 2 ^ 32))
  framed_laws asked lt = record { takes = framed_takes asked; again = framed_again asked lt }

  -- how many bytes a section takes
  pub framed_length : (asked : ℕ) (bytes : List ℕ) (x : A) (rest : List ℕ) → IsBytes bytes → framed asked get bytes ≡ Some (x, rest) → length bytes ≡ 8 + length (put x) + length rest
  framed_length asked bytes x rest are e =
      let t = framed_takes asked bytes x rest are e in
      let a = length-append (section asked (put x)) rest in
      let b = length-append (number asked) (number (length (put x)) ++ put x) in
      let d = length-append (number (length (put x))) (put x) in
      ap (λ (l : List ℕ). length l) t.parts ∙ omega (arith, a, b, d, length-number asked, length-number (length (put x)))

  pub framed_rest : (asked : ℕ) (bytes : List ℕ) (x : A) (rest : List ℕ) → IsBytes bytes → framed asked get bytes ≡ Some (x, rest) → IsBytes rest
  framed_rest asked bytes x rest are e = rest_of (λ y. section asked (put y)) (λ y. P y × (length (put y) < 2 ^ 32)) bytes x rest are (framed_takes asked bytes x rest are e)
