-- What is put is read again, whatever follows it, and what is read was put so.
use Rattle.std.proofs.Common.{◌≡◌, ℕ, zero, suc, ◌+◌, ◌^◌, ◌<◌, ◌≤◌, Bool, true, false, cond, ltb, eqb, List, [], ◌∷◌, ◌++◌, length, get_or, take, drop, Option, Some, None, refl, sym, ap, subst, ◌∙◌, append_assoc, arith, inl, inr}
use Rattle.std.specs.Prelude.{ℤ, FitsSigned, ⊤}
use Rattle.std.specs.List.{flat_map, AllByRecursion}
use Rattle.std.specs.Int.{Width, w32, w64, byte_len, to_le_bytes, from_le_bytes, cast_unsigned, cast_signed}
use Rattle.std.proofs.lemmas.Bool.{cases_lt, eqb-true, ltb-false, le-ltb}
use Rattle.std.proofs.lemmas.List.{take_at, drop_at, take-append-drop, length-append, length-take, get_or-drop, get_or-take, get_or_past}
use Rattle.std.proofs.lemmas.List.Concat.{flat_map-cons}
use Rattle.std.proofs.lemmas.Nat.{le_bytes_4, le_bytes_8, from_le_bytes-to_le_bytes_4, from_le_bytes-to_le_bytes_8}
use Rattle.std.proofs.lemmas.Int.{of_z-to_z, to_z-of_z}
use mir.Val.{bits}
use Rattle.std.proofs.Math.Facts.{sfits_to_z, Fits-of_z, Fits-of_lt, Fits-lt-pow}
use Rattle.pj_fields.specs.Fields.{Reader, number, int, list, after, done, made, both, number_at, int_at, many, list_at, pick, tagged}

abbrev pub IsBytes : List ℕ → Type 0
IsBytes bytes = (i : ℕ) → get_or bytes i 0 < 256

pub IsBytes-drop : (n : ℕ) (bytes : List ℕ) → IsBytes bytes → IsBytes (drop n bytes)
IsBytes-drop n bytes h i = rw get_or-drop (h (n + i))

pub IsBytes-take : (n : ℕ) (bytes : List ℕ) → IsBytes bytes → IsBytes (take n bytes)
IsBytes-take n bytes h i =
    elim (cases_lt i n) [
      | inl lt ↦ rw (get_or-take n bytes i 0 lt) (h i)
      | inr le ↦ rw (get_or_past (take n bytes) i 0 (omega (arith, length-take n bytes))) (omega arith)
    ]

pub IsBytes-rest : (front rest : List ℕ) → IsBytes (front ++ rest) → IsBytes rest
IsBytes-rest front rest h = subst IsBytes (drop_at front rest (length front) refl) (IsBytes-drop (length front) (front ++ rest) h)

pub record Taken {A : Type 0} (put : A → List ℕ) (P : A → Type 0) (bytes : List ℕ) (x : A) (rest : List ℕ) : Type 0 where
  pub fits : P x
  pub parts : bytes ≡ put x ++ rest

pub record Laws {A : Type 0} (put : A → List ℕ) (get : Reader A) (P : A → Type 0) : Type 0 where
  pub takes : (bytes : List ℕ) (x : A) (rest : List ℕ) → IsBytes bytes → get bytes ≡ Some (x, rest) → Taken put P bytes x rest
  pub again : (x : A) (rest : List ℕ) → P x → get (put x ++ rest) ≡ Some (x, rest)

pub rest_of : {A : Type 0} (put : A → List ℕ) (P : A → Type 0) (bytes : List ℕ) (x : A) (rest : List ℕ) → IsBytes bytes → Taken put P bytes x rest → IsBytes rest
rest_of put P bytes x rest h t = IsBytes-rest (put x) rest (subst IsBytes t.parts h)

-- ---- steps that did not fail

pub after_some : {A B : Type 0} (r : Option (A × List ℕ)) (f : A → Reader B) (y : B × List ℕ) → after r f ≡ Some y → (x : A × List ℕ) × (r ≡ Some x) × (f x.0 x.1 ≡ Some y)
after_some (Some x) f y e = (x, refl, e)
after_some None f y e = absurd cc

pub guard_some : {A : Type 0} (b : Bool) (x y : A) → cond b None (Some x) ≡ Some y → (b ≡ false) × (x ≡ y)
guard_some true x y e = absurd cc
guard_some false x y e = (refl, cc)

abbrev some : {A : Type 0} → A → Option A
some x = Some x

pub some_is : {A : Type 0} (x y : A) → some x ≡ some y → x ≡ y
some_is x y e = cc

-- ---- numbers

record IsWide (w : Width) : Type 0 where
  len : (n : ℕ) → length (to_le_bytes w n) ≡ byte_len w
  back : (bytes : List ℕ) → length bytes ≡ byte_len w → IsBytes bytes → to_le_bytes w (from_le_bytes w bytes) ≡ bytes
  again : (n : ℕ) → n < 2 ^ bits w → from_le_bytes w (to_le_bytes w n) ≡ n
  below : (bytes : List ℕ) → IsBytes bytes → from_le_bytes w bytes < 2 ^ bits w

wide32 : IsWide w32
wide32 = record {
  len = λ n. refl;
  back = λ bytes len fits. le_bytes_4 bytes _ len fits refl;
  again = λ n lt. from_le_bytes-to_le_bytes_4 n lt;
  below = λ bytes fits. omega (arith, fits 0, fits 1, fits 2, fits 3);
}

wide64 : IsWide w64
wide64 = record {
  len = λ n. refl;
  back = λ bytes len fits. le_bytes_8 bytes _ len fits refl;
  again = λ n lt. from_le_bytes-to_le_bytes_8 n lt;
  below = λ bytes fits. omega (arith, fits 0, fits 1, fits 2, fits 3, fits 4, fits 5, fits 6, fits 7);
}

abbrev word_at : Width → Reader ℕ
word_at w bytes = cond (ltb (length bytes) (byte_len w)) None (Some (from_le_bytes w (take (byte_len w) bytes), drop (byte_len w) bytes))

abbrev signed_at : Width → Reader ℤ
signed_at w bytes = cond (ltb (length bytes) (byte_len w)) None (Some (cast_signed w (from_le_bytes w (take (byte_len w) bytes)), drop (byte_len w) bytes))

word_takes : (w : Width) → IsWide w → (bytes : List ℕ) (n : ℕ) (rest : List ℕ) → IsBytes bytes → word_at w bytes ≡ Some (n, rest) → Taken (to_le_bytes w) (λ n. n < 2 ^ bits w) bytes n rest
word_takes w wide bytes n rest fits e =
    let g = guard_some (ltb (length bytes) (byte_len w)) (from_le_bytes w (take (byte_len w) bytes), drop (byte_len w) bytes) (n, rest) e in
    let long : byte_len w ≤ length bytes = ltb-false _ _ g.0 in
    let n-is : from_le_bytes w (take (byte_len w) bytes) ≡ n = ap (λ (p : ℕ × List ℕ). p.0) g.1 in
    let rest-is : drop (byte_len w) bytes ≡ rest = ap (λ (p : ℕ × List ℕ). p.1) g.1 in
    let small : IsBytes (take (byte_len w) bytes) = IsBytes-take (byte_len w) bytes fits in
    let front : to_le_bytes w n ≡ take (byte_len w) bytes = rw (← n-is) (wide.back (take (byte_len w) bytes) (omega (arith, length-take (byte_len w) bytes)) small) in
    record { fits = rw (← n-is) (wide.below (take (byte_len w) bytes) small); parts = rw (front, ← rest-is) (sym (take-append-drop (byte_len w) bytes)) }

word_again : (w : Width) → IsWide w → (n : ℕ) (rest : List ℕ) → n < 2 ^ bits w → word_at w (to_le_bytes w n ++ rest) ≡ Some (n, rest)
word_again w wide n rest lt =
    let len = wide.len n in
    let long : ltb (length (to_le_bytes w n ++ rest)) (byte_len w) ≡ false = le-ltb _ _ (omega (arith, length-append (to_le_bytes w n) rest)) in
    rw (long, take_at (to_le_bytes w n) rest (byte_len w) len, drop_at (to_le_bytes w n) rest (byte_len w) len, wide.again n lt) refl

signed_is : (w : Width) (bytes : List ℕ) → signed_at w bytes ≡ made (cast_signed w) (word_at w) bytes
signed_is w bytes = by (ltb (length bytes) (byte_len w)) refl
  where
    by : (b : Bool) → ltb (length bytes) (byte_len w) ≡ b → signed_at w bytes ≡ made (cast_signed w) (word_at w) bytes
    by true e = rw e refl
    by false e = rw e refl

signed_takes : (w : Width) → IsWide w → (bytes : List ℕ) (z : ℤ) (rest : List ℕ) → IsBytes bytes → signed_at w bytes ≡ Some (z, rest) → Taken (λ z. to_le_bytes w (cast_unsigned w z)) (FitsSigned w) bytes z rest
signed_takes w wide bytes z rest fits e =
    let a = after_some (word_at w bytes) (λ n left. Some (cast_signed w n, left)) (z, rest) (sym (signed_is w bytes) ∙ e) in
    let t = word_takes w wide bytes a.0.0 a.0.1 fits a.1 in
    let whole : bytes ≡ to_le_bytes w (cast_unsigned w (cast_signed w a.0.0)) ++ a.0.1 = rw (of_z-to_z w a.0.0 t.fits) t.parts in
    subst (λ (y : ℤ × List ℕ). Taken (λ z. to_le_bytes w (cast_unsigned w z)) (FitsSigned w) bytes y.0 y.1) (some_is (cast_signed w a.0.0, a.0.1) (z, rest) a.2) (record { fits = sfits_to_z (Fits-of_lt t.fits); parts = whole })

signed_again : (w : Width) → IsWide w → (z : ℤ) (rest : List ℕ) → FitsSigned w z → signed_at w (to_le_bytes w (cast_unsigned w z) ++ rest) ≡ Some (z, rest)
signed_again w wide z rest fits =
    let lt : cast_unsigned w z < 2 ^ bits w = Fits-lt-pow (Fits-of_z fits) in
    signed_is w (to_le_bytes w (cast_unsigned w z) ++ rest) ∙ rw (word_again w wide (cast_unsigned w z) rest lt, to_z-of_z w z fits) refl

number_takes : (bytes : List ℕ) (n : ℕ) (rest : List ℕ) → IsBytes bytes → number_at bytes ≡ Some (n, rest) → Taken number (λ n. n < 2 ^ 32) bytes n rest
unfolding number number_at
number_takes bytes n rest fits e =
    let t = word_takes w32 wide32 bytes n rest fits e in
    record { fits = t.fits; parts = t.parts }

number_again : (n : ℕ) (rest : List ℕ) → n < 2 ^ 32 → number_at (number n ++ rest) ≡ Some (n, rest)
unfolding number number_at
number_again n rest lt = word_again w32 wide32 n rest lt

pub number_laws : Laws number number_at (λ n. n < 2 ^ 32)
number_laws = record { takes = number_takes; again = number_again }

int_takes : (bytes : List ℕ) (z : ℤ) (rest : List ℕ) → IsBytes bytes → int_at bytes ≡ Some (z, rest) → Taken int (FitsSigned w64) bytes z rest
unfolding int int_at
int_takes bytes z rest fits e =
    let t = signed_takes w64 wide64 bytes z rest fits e in
    record { fits = t.fits; parts = t.parts }

int_again : (z : ℤ) (rest : List ℕ) → FitsSigned w64 z → int_at (int z ++ rest) ≡ Some (z, rest)
unfolding int int_at
int_again z rest fits = signed_again w64 wide64 z rest fits

pub int_laws : Laws int int_at (FitsSigned w64)
int_laws = record { takes = int_takes; again = int_again }

-- ---- one field after another

module _ {A B : Type 0} (put : A → List ℕ) (get : Reader A) (P : A → Type 0) (put_next : B → List ℕ) (get_next : Reader B) (Q : B → Type 0) (one : Laws put get P) (two : Laws put_next get_next Q) where
  pub both_laws : Laws (λ x. put x.0 ++ put_next x.1) (both get get_next) (λ x. P x.0 × Q x.1)
  both_laws = record {
    takes = λ bytes x rest fits e.
        let a = after_some (get bytes) (λ x rest. after (get_next rest) (λ y left. Some ((x, y), left))) (x, rest) e in
        let b = after_some (get_next a.0.1) (λ y left. Some ((a.0.0, y), left)) (x, rest) a.2 in
        let first = one.takes bytes a.0.0 a.0.1 fits a.1 in
        let second = two.takes a.0.1 b.0.0 b.0.1 (rest_of put P bytes a.0.0 a.0.1 fits first) b.1 in
        let whole : bytes ≡ (put a.0.0 ++ put_next b.0.0) ++ b.0.1 = first.parts ∙ ap (λ (t : List ℕ). put a.0.0 ++ t) second.parts ∙ sym (append_assoc (put a.0.0) (put_next b.0.0) b.0.1) in
        let is : ((a.0.0, b.0.0), b.0.1) ≡ (x, rest) = some_is ((a.0.0, b.0.0), b.0.1) (x, rest) b.2 in
        subst (λ (y : (A × B) × List ℕ). Taken (λ x. put x.0 ++ put_next x.1) (λ x. P x.0 × Q x.1) bytes y.0 y.1) is (record { fits = (first.fits, second.fits); parts = whole });
    again = λ x rest fits.
        let regrouped : (put x.0 ++ put_next x.1) ++ rest ≡ put x.0 ++ (put_next x.1 ++ rest) = append_assoc (put x.0) (put_next x.1) rest in
        ap (both get get_next) regrouped ∙ rw (one.again x.0 (put_next x.1 ++ rest) fits.0, two.again x.1 rest fits.1) refl;
  }

-- ---- lists

module _ {A : Type 0} (put : A → List ℕ) (get : Reader A) (P : A → Type 0) (one : Laws put get P) where
  many_takes : (n : ℕ) (bytes : List ℕ) (x : List A × List ℕ) → IsBytes bytes → many get n bytes ≡ Some x → (bytes ≡ flat_map put x.0 ++ x.1) × ((length x.0 ≡ n) × AllByRecursion P x.0)
  unfolding many
  many_takes zero bytes x fits e =
      subst (λ (y : List A × List ℕ). (bytes ≡ flat_map put y.0 ++ y.1) × ((length y.0 ≡ 0) × AllByRecursion P y.0)) (some_is ([], bytes) x e) (refl, (refl, tt))
  many_takes (suc n) bytes x fits e =
      let a = after_some (get bytes) (λ x rest. after (many get n rest) (λ xs left. Some (x ∷ xs, left))) x e in
      let b = after_some (many get n a.0.1) (λ xs left. Some (a.0.0 ∷ xs, left)) x a.2 in
      let first = one.takes bytes a.0.0 a.0.1 fits a.1 in
      let second = many_takes n a.0.1 b.0 (rest_of put P bytes a.0.0 a.0.1 fits first) b.1 in
      let whole : bytes ≡ flat_map put (a.0.0 ∷ b.0.0) ++ b.0.1 = first.parts ∙ ap (λ (t : List ℕ). put a.0.0 ++ t) second.0 ∙ sym (append_assoc (put a.0.0) (flat_map put b.0.0) b.0.1) ∙ ap (λ (t : List ℕ). t ++ b.0.1) (sym (flat_map-cons put a.0.0 b.0.0)) in
      subst (λ (y : List A × List ℕ). (bytes ≡ flat_map put y.0 ++ y.1) × ((length y.0 ≡ suc n) × AllByRecursion P y.0)) (some_is (a.0.0 ∷ b.0.0, b.0.1) x b.2) (whole, (ap suc second.1.0, (first.fits, second.1.1)))

  many_again : (xs : List A) (rest : List ℕ) → AllByRecursion P xs → many get (length xs) (flat_map put xs ++ rest) ≡ Some (xs, rest)
  unfolding many
  many_again [] rest fits = refl
  many_again (x ∷ xs) rest fits =
      let regrouped : flat_map put (x ∷ xs) ++ rest ≡ put x ++ (flat_map put xs ++ rest) = ap (λ (t : List ℕ). t ++ rest) (flat_map-cons put x xs) ∙ append_assoc (put x) (flat_map put xs) rest in
      ap (many get (suc (length xs))) regrouped ∙ rw (one.again x (flat_map put xs ++ rest) fits.0, many_again xs rest fits.1) refl

  pub list_laws : Laws (list put) (list_at get) (λ xs. (length xs < 2 ^ 32) × AllByRecursion P xs)
  unfolding list list_at
  list_laws = record {
    takes = λ bytes xs rest fits e.
        let a = after_some (number_at bytes) (λ n rest. many get n rest) (xs, rest) e in
        let first = number_laws.takes bytes a.0.0 a.0.1 fits a.1 in
        let second = many_takes a.0.0 a.0.1 (xs, rest) (rest_of number (λ n. n < 2 ^ 32) bytes a.0.0 a.0.1 fits first) a.2 in
        let whole : bytes ≡ (number a.0.0 ++ flat_map put xs) ++ rest = first.parts ∙ ap (λ (t : List ℕ). number a.0.0 ++ t) second.0 ∙ sym (append_assoc (number a.0.0) (flat_map put xs) rest) in
        record { fits = (subst (λ (n : ℕ). n < 2 ^ 32) (sym second.1.0) first.fits, second.1.1); parts = subst (λ (n : ℕ). bytes ≡ (number n ++ flat_map put xs) ++ rest) (sym second.1.0) whole };
    again = λ xs rest fits.
        let regrouped : (number (length xs) ++ flat_map put xs) ++ rest ≡ number (length xs) ++ (flat_map put xs ++ rest) = append_assoc (number (length xs)) (flat_map put xs) rest in
        ap (list_at get) regrouped ∙ rw (number_laws.again (length xs) (flat_map put xs ++ rest) fits.0) (many_again xs rest fits.1);
  }

-- ---- a value made of what was read

module _ {A B : Type 0} (make : A → B) (put : A → List ℕ) (get : Reader A) (P : A → Type 0) (one : Laws put get P) where
  pub made_takes : (put_next : B → List ℕ) (Q : B → Type 0) → ((x : A) → put_next (make x) ≡ put x) → ((x : A) → P x → Q (make x))
      → (bytes : List ℕ) (y : B) (rest : List ℕ) → IsBytes bytes → made make get bytes ≡ Some (y, rest) → Taken put_next Q bytes y rest
  made_takes put_next Q spelled fit bytes y rest fits e =
      let a = after_some (get bytes) (λ x left. Some (make x, left)) (y, rest) e in
      let t = one.takes bytes a.0.0 a.0.1 fits a.1 in
      let whole : bytes ≡ put_next (make a.0.0) ++ a.0.1 = rw (spelled a.0.0) t.parts in
      subst (λ (y : B × List ℕ). Taken put_next Q bytes y.0 y.1) (some_is (make a.0.0, a.0.1) (y, rest) a.2) (record { fits = fit a.0.0 t.fits; parts = whole })

  pub made_again : (x : A) (rest : List ℕ) → P x → made make get (put x ++ rest) ≡ Some (make x, rest)
  made_again x rest fits = rw (one.again x rest fits) refl

-- ---- the choice by a tag

-- behind the tag stands what the reader beside it reads
pub record Arm {B : Type 0} (put : B → List ℕ) (P : B → Type 0) (tag : ℕ) (get : Reader B) : Type 0 where
  pub takes : (bytes : List ℕ) (y : B) (rest : List ℕ) → IsBytes bytes → get bytes ≡ Some (y, rest) → P y × (number tag ++ bytes ≡ put y ++ rest)

abbrev pub Arms : {B : Type 0} (put : B → List ℕ) (P : B → Type 0) → List (ℕ × Reader B) → Type 0
Arms put P [] = ⊤
Arms put P (row ∷ rows) = Arm put P row.0 row.1 × Arms put P rows

module _ {B : Type 0} (put : B → List ℕ) (P : B → Type 0) where
  pub arm_of : {A : Type 0} (tag : ℕ) (make : A → B) (put_a : A → List ℕ) (get_a : Reader A) (P_a : A → Type 0) → Laws put_a get_a P_a
      → ((x : A) → put (make x) ≡ number tag ++ put_a x) → ((x : A) → P_a x → P (make x)) → Arm put P tag (made make get_a)
  arm_of {A} tag make put_a get_a P_a one spelled fit = record {
    takes = λ bytes y rest fits e.
        let a = after_some (get_a bytes) (λ x left. Some (make x, left)) (y, rest) e in
        let t = one.takes bytes a.0.0 a.0.1 fits a.1 in
        let whole : number tag ++ bytes ≡ put (make a.0.0) ++ a.0.1 = ap (λ (b : List ℕ). number tag ++ b) t.parts ∙ sym (append_assoc (number tag) (put_a a.0.0) a.0.1) ∙ ap (λ (b : List ℕ). b ++ a.0.1) (sym (spelled a.0.0)) in
        subst (λ (y : B × List ℕ). P y.0 × (number tag ++ bytes ≡ put y.0 ++ y.1)) (some_is (make a.0.0, a.0.1) (y, rest) a.2) (fit a.0.0 t.fits, whole);
  }

  pub arm_done : (tag : ℕ) (x : B) → put x ≡ number tag → P x → Arm put P tag (done x)
  arm_done tag x spelled fit = record {
    takes = λ bytes y rest fits e.
        let whole : number tag ++ bytes ≡ put x ++ bytes = ap (λ (b : List ℕ). b ++ bytes) (sym spelled) in
        subst (λ (y : B × List ℕ). P y.0 × (number tag ++ bytes ≡ put y.0 ++ y.1)) (some_is (x, bytes) (y, rest) e) (fit, whole);
  }

  pick_by : (row : ℕ × Reader B) (rows : List (ℕ × Reader B)) → Arm put P row.0 row.1 → (tag : ℕ) (bytes : List ℕ) (y : B) (rest : List ℕ) → IsBytes bytes
      → (pick rows tag bytes ≡ Some (y, rest) → P y × (number tag ++ bytes ≡ put y ++ rest))
      → (test : Bool) → eqb tag row.0 ≡ test → cond test (row.1 bytes) (pick rows tag bytes) ≡ Some (y, rest) → P y × (number tag ++ bytes ≡ put y ++ rest)
  pick_by row rows arm tag bytes y rest fits later true same e =
      subst (λ (n : ℕ). P y × (number n ++ bytes ≡ put y ++ rest)) (sym (eqb-true tag row.0 same)) (arm.takes bytes y rest fits e)
  pick_by row rows arm tag bytes y rest fits later false same e = later e

  pick_takes : (rows : List (ℕ × Reader B)) → Arms put P rows → (tag : ℕ) (bytes : List ℕ) (y : B) (rest : List ℕ) → IsBytes bytes → pick rows tag bytes ≡ Some (y, rest) → P y × (number tag ++ bytes ≡ put y ++ rest)
  pick_takes [] arms tag bytes y rest fits e = absurd cc
  pick_takes (row ∷ rows) arms tag bytes y rest fits e = pick_by row rows arms.0 tag bytes y rest fits (pick_takes rows arms.1 tag bytes y rest fits) (eqb tag row.0) refl e

  pub tagged_takes : (rows : List (ℕ × Reader B)) → Arms put P rows → (bytes : List ℕ) (y : B) (rest : List ℕ) → IsBytes bytes → tagged rows bytes ≡ Some (y, rest) → Taken put P bytes y rest
  tagged_takes rows arms bytes y rest fits e =
      let a = after_some (number_at bytes) (λ tag rest. pick rows tag rest) (y, rest) e in
      let first = number_laws.takes bytes a.0.0 a.0.1 fits a.1 in
      let t = pick_takes rows arms a.0.0 a.0.1 y rest (rest_of number (λ n. n < 2 ^ 32) bytes a.0.0 a.0.1 fits first) a.2 in
      record { fits = t.0; parts = first.parts ∙ t.1 }

  pub tagged_again : (rows : List (ℕ × Reader B)) (tag : ℕ) (y : B) (body rest : List ℕ) → tag < 2 ^ 32 → put y ≡ number tag ++ body → pick rows tag (body ++ rest) ≡ Some (y, rest) → tagged rows (put y ++ rest) ≡ Some (y, rest)
  tagged_again rows tag y body rest lt spelled picked =
      let regrouped : put y ++ rest ≡ number tag ++ (body ++ rest) = ap (λ (b : List ℕ). b ++ rest) spelled ∙ append_assoc (number tag) body rest in
      ap (tagged rows) regrouped ∙ rw (number_laws.again tag (body ++ rest) lt) picked
