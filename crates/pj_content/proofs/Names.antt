-- Names that an image declares, as texts.
use Rattle.std.proofs.Common.{◌≡◌, ℕ, zero, suc, ◌<◌, ◌==◌, Bool, true, false, not, ◌&&◌, ◌||◌, List, [], ◌∷◌, ◌++◌, map, length, Option, Some, None, refl, sym, ap, subst, ◌∙◌, append_assoc, append-nil, slice_get, slice_index_or, arith}
use Rattle.std.specs.List.{list_all}
use Rattle.std.specs.Str.{bytes_eq}
use Rattle.std.proofs.lemmas.Option.{option_and_then_some, get_or_from_slice_get, cond_some}
use Rattle.std.proofs.lemmas.List.Folds.{list_any-append, list_all-append}
use Rattle.std.proofs.lemmas.Bool.Decides.{nat_tests}
use Rattle.std.proofs.lemmas.Slice.Eq.{bytes_eq-Decides}
use Rattle.pj_base.specs.Interned.{has_text}
use Rattle.pj_plain.specs.Names.{all_different, is_among}
use Rattle.pj_plain.proofs.Bools.{both_true}
use Rattle.pj_image.specs.Names.{text_seen, name_seen, all_seen}
use Rattle.pj_image.specs.New.{all_new}
use Rattle.pj_content.proofs.Bools.{both, not_true, not_false}

-- these texts stand behind those that were seen, pass, and are new
pub record SeenAll (good : List ℕ → Bool) (seen texts all : List (List ℕ)) : Type 0 where
  pub whole : all ≡ seen ++ texts
  pub pass : list_all good texts ≡ true
  pub new : all_new seen texts ≡ true

-- one number is that of a text that passes and is new
record SeenOne (good : List ℕ → Bool) (strings seen : List (List ℕ)) (number : Option ℕ) (more : List (List ℕ)) : Type 0 where
  pub place : ℕ
  pub text : List ℕ
  pub numbered : number ≡ Some place
  pub there : slice_get strings place ≡ Some text
  pub pass : good text ≡ true
  pub new : has_text text seen ≡ false
  pub longer : more ≡ seen ++ text ∷ []

seen_text : (good : List ℕ → Bool) (strings seen : List (List ℕ)) (n : ℕ) (text : Option (List ℕ)) (more : List (List ℕ)) → slice_get strings n ≡ text → text_seen good seen text ≡ Some more → SeenOne good strings seen (Some n) more
seen_text good strings seen n None more e h = absurd cc
seen_text good strings seen n (Some t) more e h =
    let two = cond_some (good t && not (has_text t seen)) (seen ++ t ∷ []) more h in
    let passes = both_true (good t) (not (has_text t seen)) two.0 in
    record { place = n; text = t; numbered = refl; there = e; pass = passes.0; new = not_true (has_text t seen) passes.1; longer = sym two.1 }

seen_one : (good : List ℕ → Bool) (strings seen : List (List ℕ)) (number : Option ℕ) (more : List (List ℕ)) → name_seen good strings seen number ≡ Some more → SeenOne good strings seen number more
seen_one good strings seen None more h = absurd cc
seen_one good strings seen (Some n) more h = seen_text good strings seen n (slice_get strings n) more refl h

-- things with numbers of names, and with texts, which are those that their numbers are of
module _ {A : Type 0} (good : List ℕ → Bool) (strings : List (List ℕ)) (number : A → Option ℕ) (view : A → List ℕ) (is : (x : A) (n : ℕ) → number x ≡ Some n → view x ≡ slice_index_or strings n []) where
  joined : (x : A) (xs : List A) (seen more all : List (List ℕ)) → SeenOne good strings seen (number x) more → SeenAll good more (map view xs) all → SeenAll good seen (map view (x ∷ xs)) all
  joined x xs seen more all one rest =
      let same : view x ≡ one.text = is x one.place one.numbered ∙ get_or_from_slice_get strings one.place one.text [] one.there in
      let longer : more ≡ seen ++ view x ∷ [] = one.longer ∙ ap (λ (t : List ℕ). seen ++ t ∷ []) (sym same) in
      record {
        whole = rest.whole ∙ ap (λ (l : List (List ℕ)). l ++ map view xs) longer ∙ append_assoc seen (view x ∷ []) (map view xs);
        pass = both (good (view x)) (list_all good (map view xs)) (subst (λ (t : List ℕ). good t ≡ true) (sym same) one.pass) rest.pass;
        new = both (not (has_text (view x) seen)) (all_new (seen ++ view x ∷ []) (map view xs))
            (not_false (has_text (view x) seen) (subst (λ (t : List ℕ). has_text t seen ≡ false) (sym same) one.new))
            (subst (λ (l : List (List ℕ)). all_new l (map view xs) ≡ true) longer rest.new);
      }

  pub seen_all : (xs : List A) (seen all : List (List ℕ)) → all_seen good strings seen (map number xs) ≡ Some all → SeenAll good seen (map view xs) all
  unfolding all_seen
  seen_all [] seen all e = record { whole = (let same : seen ≡ all = cc in sym same ∙ sym (append-nil seen)); pass = refl; new = refl }
  seen_all (x ∷ xs) seen all e =
      option_and_then_some {P = SeenAll good seen (map view (x ∷ xs)) all} (λ more. all_seen good strings more (map number xs)) (name_seen good strings seen (number x)) all e
      (λ more h rest. joined x xs seen more all (seen_one good strings seen (number x) more h) (seen_all xs more all rest))

-- ---- texts that are new one after another are different

pub either : (a b : Bool) → b ≡ true → (a || b) ≡ true
either true b h = refl
either false b h = h

has_last : (t : List ℕ) (seen : List (List ℕ)) → has_text t (seen ++ t ∷ []) ≡ true
has_last t [] = rw ((bytes_eq-Decides t t).1 refl) refl
has_last t (x ∷ seen) = either (bytes_eq t x) (has_text t (seen ++ t ∷ [])) (has_last t seen)

has_more : (t x : List ℕ) (seen : List (List ℕ)) → has_text t seen ≡ true → has_text t (seen ++ x ∷ []) ≡ true
has_more t x seen h = list_any-append (bytes_eq t) seen (x ∷ []) ∙ rw h refl

apart : (t : List ℕ) (texts seen : List (List ℕ)) → has_text t seen ≡ true → all_new seen texts ≡ true → is_among t texts ≡ false
apart t [] seen is h = refl
apart t (x ∷ texts) seen is h =
    let two = both_true (not (has_text x seen)) (all_new (seen ++ x ∷ []) texts) h in
    rw (differs two.0 (bytes_eq t x) refl, apart t texts (seen ++ x ∷ []) (has_more t x seen is) two.1) refl
  where
    differs : not (has_text x seen) ≡ true → (b : Bool) → bytes_eq t x ≡ b → bytes_eq t x ≡ false
    differs new false e = e
    differs new true e =
        let same : t ≡ x = (bytes_eq-Decides t x).0 e in
        let there : has_text x seen ≡ true = subst (λ (y : List ℕ). has_text y seen ≡ true) same is in
        let not_there : has_text x seen ≡ false = not_true (has_text x seen) new in
        absurd cc

pub different : (texts seen : List (List ℕ)) → all_new seen texts ≡ true → all_different texts ≡ true
different [] seen h = refl
different (t ∷ texts) seen h =
    let two = both_true (not (has_text t seen)) (all_new (seen ++ t ∷ []) texts) h in
    both (not (is_among t texts)) (all_different texts) (not_false (is_among t texts) (apart t texts (seen ++ t ∷ []) (has_last t seen) two.1)) (different texts (seen ++ t ∷ []) two.1)

pub new_append : (xs ys seen : List (List ℕ)) → all_new seen xs ≡ true → all_new (seen ++ xs) ys ≡ true → all_new seen (xs ++ ys) ≡ true
new_append [] ys seen h k = subst (λ (l : List (List ℕ)). all_new l ys ≡ true) (append-nil seen) k
new_append (x ∷ xs) ys seen h k =
    let two = both_true (not (has_text x seen)) (all_new (seen ++ x ∷ []) xs) h in
    both (not (has_text x seen)) (all_new (seen ++ x ∷ []) (xs ++ ys)) two.0
    (new_append xs ys (seen ++ x ∷ []) two.1 (subst (λ (l : List (List ℕ)). all_new l ys ≡ true) (sym (append_assoc seen (x ∷ []) xs)) k))

pub good_append : (good : List ℕ → Bool) (xs ys : List (List ℕ)) → list_all good xs ≡ true → list_all good ys ≡ true → list_all good (xs ++ ys) ≡ true
good_append good xs ys h k = list_all-append good xs ys ∙ both (list_all good xs) (list_all good ys) h k

-- ---- texts in two places of different texts

pub flipped : (x y : List ℕ) (b : Bool) → bytes_eq y x ≡ b → bytes_eq x y ≡ false → bytes_eq y x ≡ false
flipped x y false e h = e
flipped x y true e h = let same : y ≡ x = (bytes_eq-Decides y x).0 e in let no : bytes_eq x y ≡ true = (bytes_eq-Decides x y).1 (sym same) in absurd cc

none_at : (t : List ℕ) (texts : List (List ℕ)) (n : ℕ) → is_among t texts ≡ false → n < length texts → bytes_eq t (slice_index_or texts n []) ≡ false
none_at t [] n h lt = absurd (omega arith)
none_at t (x ∷ texts) zero h lt = by (bytes_eq t x) refl h
  where
    by : (b : Bool) → bytes_eq t x ≡ b → (b || is_among t texts) ≡ false → bytes_eq t x ≡ false
    by true e none = absurd cc
    by false e none = e
none_at t (x ∷ texts) (suc n) h lt = none_at t texts n (by (bytes_eq t x) h) (omega arith)
  where
    by : (b : Bool) → (b || is_among t texts) ≡ false → is_among t texts ≡ false
    by true none = absurd cc
    by false none = none

less_one : (n p : ℕ) → (suc n == suc p) ≡ false → (n == p) ≡ false
less_one n p ne = grind (arith, nat_tests)

pub places_differ : (texts : List (List ℕ)) (n p : ℕ) → all_different texts ≡ true → n < length texts → p < length texts → (n == p) ≡ false → bytes_eq (slice_index_or texts n []) (slice_index_or texts p []) ≡ false
places_differ [] n p h ln lp ne = absurd (omega arith)
places_differ (t ∷ texts) zero zero h ln lp ne = absurd cc
places_differ (t ∷ texts) zero (suc p) h ln lp ne =
    none_at t texts p (not_true (is_among t texts) (both_true (not (is_among t texts)) (all_different texts) h).0) (omega arith)
places_differ (t ∷ texts) (suc n) zero h ln lp ne =
    let other = none_at t texts n (not_true (is_among t texts) (both_true (not (is_among t texts)) (all_different texts) h).0) (omega arith) in
    flipped t (slice_index_or texts n []) (bytes_eq (slice_index_or texts n []) t) refl other
places_differ (t ∷ texts) (suc n) (suc p) h ln lp ne =
    places_differ texts n p (both_true (not (is_among t texts)) (all_different texts) h).1 (omega arith) (omega arith) (less_one n p ne)

pub among_at : (texts : List (List ℕ)) (n : ℕ) → n < length texts → is_among (slice_index_or texts n []) texts ≡ true
among_at [] n lt = absurd (omega arith)
among_at (t ∷ texts) zero lt = rw ((bytes_eq-Decides t t).1 refl) refl
among_at (t ∷ texts) (suc n) lt = either (bytes_eq (slice_index_or texts n []) t) (is_among (slice_index_or texts n []) texts) (among_at texts n (omega arith))
