-- Images by their numbers.
use Rattle.std.proofs.Common.{◌≡◌, ◌<◌, ◌≤◌, ◌+◌, ◌||◌, ℕ, suc, nat_lt, Bool, true, false, cond, map, List, [], ◌∷◌, Option, Some, None, length, option_map, refl, sym, ap, ◌∙◌, arith}
use Rattle.std.specs.Prelude.{is_some}
use Rattle.std.specs.List.{list_any, position_or_len}
use Rattle.std.specs.Str.{bytes_eq}
use Rattle.std.proofs.lemmas.Bool.Decides.{nat_tests}
use Rattle.std.proofs.lemmas.List.{length-map}
use Rattle.std.proofs.lemmas.List.Quantifiers.{position-Some}
use Rattle.pj_base.specs.Interned.{found_at, has_text, place_of}
use Rattle.pj_meaning.specs.Tree.{Text}
use Rattle.pj_session.specs.Events.{Event}
use Rattle.pj_session.specs.Things.{image_in}
use Rattle.pj_session.specs.Places as places
use Rattle.pj_session.specs.Places.{names_of, image_number}
use Rattle.pj_session.specs.Merged.{image_name, merged, is_ordered}
use Rattle.pj_session.specs.declared.own.Own.{Own}
use Rattle.pj_session.specs.declared.own.Own.TheVariants as own
use Rattle.pj_session.specs.declared.package.Package.{Package}
use Rattle.pj_session.specs.declared.own.Kind.{Kind}
use Rattle.pj_session.specs.declared.own.Kind.TheVariants as kind
use Rattle.pj_session.proofs.Ordered.{pos_cons}
use Rattle.pj_session.proofs.Places.{image_sought, sought_there}

-- a text is found exactly where it is among the names

at_front : (n : ℕ) → nat_lt 0 (suc n) ≡ true
at_front n = grind (arith, nat_tests)

one_less : (m n : ℕ) → nat_lt (suc m) (suc n) ≡ nat_lt m n
one_less m n = grind (arith, nat_tests)

nowhere : nat_lt 0 0 ≡ false
nowhere = refl

before_end : (p : Text → Bool) (xs : List Text) → nat_lt (position_or_len p xs) (length xs) ≡ list_any p xs
before_end p [] = nowhere
before_end p (x ∷ xs) = ap (λ (k : ℕ). nat_lt k (suc (length xs))) (pos_cons p x xs) ∙ one (p x) (before_end p xs)
  where
    one : (b : Bool) → nat_lt (position_or_len p xs) (length xs) ≡ list_any p xs → nat_lt (cond b 0 (suc (position_or_len p xs))) (suc (length xs)) ≡ (b || list_any p xs)
    one true rest = at_front (length xs)
    one false rest = one_less (position_or_len p xs) (length xs) ∙ rest

is_chosen : (b : Bool) (n : ℕ) → is_some (cond b (Some n) None) ≡ b
is_chosen true n = refl
is_chosen false n = refl

found_there : (name : Text) (names : List Text) → is_some (found_at name names) ≡ has_text name names
found_there name names = is_chosen (nat_lt (place_of name names) (length names)) (place_of name names) ∙ before_end (bytes_eq name) names

one_more : (o : Option ℕ) → is_some (option_map suc o) ≡ is_some o
one_more None = refl
one_more (Some n) = refl

-- so a name has a number exactly where it has an image
pub number_there : (es : List Event) (name : Text) → is_some (image_number es name) ≡ is_some (image_in es name)
number_there es name =
    one_more (found_at name (names_of (places.images es)))
    ∙ found_there name (names_of (places.images es))
    ∙ sym (ap is_some (image_sought es name) ∙ sought_there (places.images es) name)

-- the names of the images stand in their order

names_kept : (order : List Kind) (names : List Text) (things : List Own) (images : List Package) → is_ordered order names things images ≡ true
    → map image_name images ≡ names_of (places.images (merged order names things images))
names_kept [] [] [] [] fits = refl
names_kept [] (n ∷ names) things images fits = absurd cc
names_kept [] [] (t ∷ things) images fits = absurd cc
names_kept [] [] [] (p ∷ images) fits = absurd cc
names_kept (kind.Own ∷ order) [] things images fits = absurd cc
names_kept (kind.Own ∷ order) (n ∷ names) [] images fits = absurd cc
names_kept (kind.Own ∷ order) (n ∷ names) (own.Function d ∷ things) images fits = names_kept order names things images fits
names_kept (kind.Own ∷ order) (n ∷ names) (own.Constant z ∷ things) images fits = names_kept order names things images fits
names_kept (kind.Image ∷ order) names things [] fits = absurd cc
names_kept (kind.Image ∷ order) names things (p ∷ images) fits = ap (λ (xs : List Text). image_name p ∷ xs) (names_kept order names things images fits)

module _ (order : List Kind) (names : List Text) (things : List Own) (images : List Package) (packages : List Text) (name : Text) (fits : is_ordered order names things images ≡ true) (named : packages ≡ map image_name images) where
  numbered_by : (found : Option ℕ) → found ≡ found_at name packages → option_map suc found ≡ image_number (merged order names things images) name
  numbered_by found e = ap (λ (o : Option ℕ). option_map suc o) (e ∙ ap (found_at name) (named ∙ names_kept order names things images fits))

  pub number_found : (at : ℕ) → Some at ≡ found_at name packages → Some (at + 1) ≡ image_number (merged order names things images) name
  number_found at e =
      let next : at + 1 ≡ suc at = omega arith in
      ap Some next ∙ numbered_by (Some at) e

  pub number_not_found : None ≡ found_at name packages → None ≡ image_number (merged order names things images) name
  number_not_found e = numbered_by None e

  pub number_below : (at : ℕ) → length images ≤ 1024 → Some at ≡ found_at name packages → at < 1024
  number_below at few e =
      let less : at < length packages = (position-Some (bytes_eq name) packages at [] (sym e)).0 in
      let many : length packages ≡ length images = ap length named ∙ length-map images image_name in
      omega (arith, less, many, few)
