-- One section after another: what is read was put so, and what is put is read again.
use Rattle.std.proofs.Common.{◌≡◌, ℕ, ◌^◌, ◌<◌, true, List, ◌++◌, Option, Some, None, Result, Ok, Err, refl, sym, ap, ◌∙◌, append_assoc}
use Rattle.std.specs.Prelude.{is_some, option_and_then}
use Rattle.pj_fields.specs.Fields.{Reader}
use Rattle.pj_fields.proofs.Laws.{IsBytes, Laws}
use Rattle.pj_image.specs.Found.{◌>>=◌, or_fault}
use Rattle.pj_image.specs.Frames.{section, framed}
use Rattle.pj_image.specs.Formed.{Counted}
use Rattle.pj_image.proofs.Founds.{found_some}
use Rattle.pj_image.proofs.FrameLaws.{framed_laws, framed_rest}

pub bind_then : {A B C : Type 0} (r : Result A ℕ) (f : A → Result B ℕ) (y : B) → (r >>= f) ≡ Ok y → ((x : A) → r ≡ Ok x → f x ≡ Ok y → C) → C
bind_then (Ok x) f y e then = then x refl e
bind_then (Err k) f y e then = absurd cc

pub record Read {A : Type 0} (k : ℕ) (put : A → List ℕ) (P : A → Type 0) (bytes : List ℕ) (x : A × List ℕ) : Type 0 where
  pub counted : Counted put P x.0
  pub parts : bytes ≡ section k (put x.0) ++ x.1
  pub rest : IsBytes x.1

module _ {A : Type 0} (put : A → List ℕ) (get : Reader A) (P : A → Type 0) (one : Laws put get P) (k : ℕ) (lt : k < 2 ^ 32) where
  pub read_section : (bytes : List ℕ) (x : A × List ℕ) → IsBytes bytes → or_fault k (framed k get bytes) ≡ Ok x → Read k put P bytes x
  read_section bytes x are e =
      let h = found_some k (framed k get bytes) x e in
      let t = (framed_laws put get P one k lt).takes bytes x.0 x.1 are h in
      record { counted = t.fits; parts = t.parts; rest = framed_rest put get P one k bytes x.0 x.1 are h }

  pub read_again : (x : A) (rest : List ℕ) → Counted put P x → or_fault k (framed k get (section k (put x) ++ rest)) ≡ Ok (x, rest)
  read_again x rest fits = ap (λ (r : Option (A × List ℕ)). or_fault k r) ((framed_laws put get P one k lt).again x rest fits)

pub joined : (b x r y t : List ℕ) → b ≡ x ++ r → r ≡ y ++ t → b ≡ (x ++ y) ++ t
joined b x r y t e f = e ∙ ap (λ (l : List ℕ). x ++ l) f ∙ sym (append_assoc x y t)

-- ---- names in two sections

pub some_again : {A : Type 0} (x : A) → is_some {T = A} (Some x) ≡ true
some_again x = refl

pub two_seen : {A B : Type 0} (r : Option A) (f : A → Option B) (x : A) (y : B) → r ≡ Some x → f x ≡ Some y → is_some (option_and_then f r) ≡ true
two_seen {B = B} r f x y e h = ap (λ q. is_some (option_and_then f q)) e ∙ ap (λ (q : Option B). is_some q) h

pub some_of : {A : Type 0} (r : Option A) → is_some r ≡ true → (x : A) × (r ≡ Some x)
some_of None e = absurd cc
some_of (Some x) e = (x, refl)

pub both_of : {A B : Type 0} (r : Option A) (f : A → Option B) → is_some (option_and_then f r) ≡ true → (x : A) × (y : B) × (r ≡ Some x) × (f x ≡ Some y)
both_of None f e = absurd cc
both_of (Some x) f e = let s = some_of (f x) e in (x, s.0, refl, s.1)
