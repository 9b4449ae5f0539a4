-- Equality of texts, and lists in which a text is sought.
use Rattle.std.proofs.Common.{◌≡◌, Bool, true, false, ◌&&◌, ◌||◌, not, refl, sym, ◌∙◌}
use Rattle.std.specs.Str.{bytes_eq}
use Rattle.std.proofs.lemmas.Slice.Eq.{bytes_eq-Decides}
use Rattle.std.proofs.lemmas.Bool.{false≢true}
use Rattle.pj_meaning.specs.Tree.{Text}

pub same_text : (a b : Text) → bytes_eq a b ≡ true → a ≡ b
same_text a b e = (bytes_eq-Decides a b).0 e

pub text_itself : (a : Text) → bytes_eq a a ≡ true
text_itself a = (bytes_eq-Decides a a).1 refl

-- a test that can't be true is false
pub never_true : (b : Bool) → (b ≡ true → ⊥) → b ≡ false
never_true true h = absurd (h refl)
never_true false h = refl

pub not_both : (b : Bool) → b ≡ true → b ≡ false → ⊥
not_both true p q = false≢true (sym q)
not_both false p q = false≢true p

pub bytes_eq-comm : (a b : Text) → bytes_eq a b ≡ bytes_eq b a
bytes_eq-comm a b = flipped (bytes_eq a b) refl
  where
    flipped : (t : Bool) → bytes_eq a b ≡ t → bytes_eq a b ≡ bytes_eq b a
    flipped true e = e ∙ sym ((bytes_eq-Decides b a).1 (sym (same_text a b e)))
    flipped false e = e ∙ sym (never_true (bytes_eq b a) (λ h. not_both (bytes_eq a b) ((bytes_eq-Decides a b).1 (sym (same_text b a h))) e))

pub other_text : (a b : Text) → (a ≡ b → ⊥) → bytes_eq a b ≡ false
other_text a b h = never_true (bytes_eq a b) (λ e. h (same_text a b e))

pub or_left : (a b : Bool) → (a || b) ≡ false → a ≡ false
or_left true b e = absurd (false≢true (sym e))
or_left false b e = refl

pub or_right : (a b : Bool) → (a || b) ≡ false → b ≡ false
or_right true b e = absurd (false≢true (sym e))
or_right false b e = e

pub and_left : (a b : Bool) → (a && b) ≡ true → a ≡ true
and_left true b e = refl
and_left false b e = e

pub and_right : (a b : Bool) → (a && b) ≡ true → b ≡ true
and_right true b e = e
and_right false b e = absurd (false≢true e)

pub not_true : (b : Bool) → not b ≡ true → b ≡ false
not_true true e = absurd (false≢true e)
not_true false e = refl
