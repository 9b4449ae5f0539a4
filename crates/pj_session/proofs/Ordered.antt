-- Names and things in their order.
use Rattle.std.proofs.Common.{◌≡◌, ◌≤◌, ◌||◌, ℕ, suc, Bool, true, false, cond, map, List, [], ◌∷◌, ◌++◌, Option, Some, None, slice_get, length, nat_lt, refl, sym, ap, ◌∙◌, arith}
use Rattle.std.specs.Prelude.{option_map, is_some}
use Rattle.std.specs.List.{position_or_len}
use Rattle.std.specs.Str.{bytes_eq}
use Rattle.std.proofs.lemmas.Bool.Decides.{nat_tests}
use Rattle.std.proofs.lemmas.List.{length-map}
use Rattle.std.proofs.lemmas.Option.{slice_get_past}
use Rattle.pj_base.specs.Interned.{Interns, has_text, found_at}
use Rattle.pj_meaning.specs.Tree.{Text}
use Rattle.pj_session.specs.Events.{Loads}
use Rattle.pj_session.specs.Things.{Thing, own_in, image_in}
use Rattle.pj_session.specs.Merged.{thing_in_own, own_event, held_of, package_content, image_name, merged, is_ordered}
use Rattle.pj_session.specs.declared.own.Own.{Own}
use Rattle.pj_session.specs.declared.own.Own.TheVariants as own
use Rattle.pj_session.specs.declared.package.Package.{Package}
use Rattle.pj_session.specs.declared.own.Kind.{Kind}
use Rattle.pj_session.specs.declared.own.Kind.TheVariants as kind
use Rattle.pj_session.proofs.Texts.{bytes_eq-comm}

abbrev pub own_at : List Own → ℕ → Option Thing
own_at things at = option_map thing_in_own (slice_get things at)

pub pos_cons : (p : Text → Bool) (x : Text) (xs : List Text) → position_or_len p (x ∷ xs) ≡ cond (p x) 0 (suc (position_or_len p xs))
pos_cons p x xs = grind arith

-- an own thing is found at the place of its name
pub at_place : (order : List Kind) (names : List Text) (things : List Own) (images : List Package) (name : Text) → is_ordered order names things images ≡ true
    → own_in (merged order names things images) name ≡ own_at things (position_or_len (bytes_eq name) names)
at_place [] [] [] [] name fits = refl
at_place [] (n ∷ names) things images name fits = absurd cc
at_place [] [] (t ∷ things) images name fits = absurd cc
at_place [] [] [] (p ∷ images) name fits = absurd cc
at_place (kind.Own ∷ order) [] things images name fits = absurd cc
at_place (kind.Own ∷ order) (n ∷ names) [] images name fits = absurd cc
at_place (kind.Own ∷ order) (n ∷ names) (own.Function d ∷ things) images name fits =
    rw (bytes_eq-comm n name) (chosen (bytes_eq name n) (at_place order names things images name fits) ∙ ap (own_at (own.Function d ∷ things)) (sym (pos_cons (bytes_eq name) n names)))
  where
    chosen : (b : Bool) → own_in (merged order names things images) name ≡ own_at things (position_or_len (bytes_eq name) names)
        → cond b (Some (thing_in_own (own.Function d))) (own_in (merged order names things images) name) ≡ own_at (own.Function d ∷ things) (cond b 0 (suc (position_or_len (bytes_eq name) names)))
    chosen true rest = refl
    chosen false rest = rest
at_place (kind.Own ∷ order) (n ∷ names) (own.Constant z ∷ things) images name fits =
    rw (bytes_eq-comm n name) (chosen (bytes_eq name n) (at_place order names things images name fits) ∙ ap (own_at (own.Constant z ∷ things)) (sym (pos_cons (bytes_eq name) n names)))
  where
    chosen : (b : Bool) → own_in (merged order names things images) name ≡ own_at things (position_or_len (bytes_eq name) names)
        → cond b (Some (thing_in_own (own.Constant z))) (own_in (merged order names things images) name) ≡ own_at (own.Constant z ∷ things) (cond b 0 (suc (position_or_len (bytes_eq name) names)))
    chosen true rest = refl
    chosen false rest = rest
at_place (kind.Image ∷ order) names things [] name fits = absurd cc
at_place (kind.Image ∷ order) names things (p ∷ images) name fits = at_place order names things images name fits

chosen_at : (b : Bool) (i at : ℕ) → Some at ≡ cond b (Some i) None → at ≡ i
chosen_at true i at h = cc
chosen_at false i at h = cc

not_chosen : (b : Bool) (i : ℕ) → None ≡ cond b (Some i) None → b ≡ false
not_chosen true i h = cc
not_chosen false i h = refl

past_end : (p n : ℕ) → nat_lt p n ≡ false → n ≤ p
past_end p n e = grind (arith, nat_tests)

as_long : (order : List Kind) (names : List Text) (things : List Own) (images : List Package) → is_ordered order names things images ≡ true → length things ≡ length names
as_long [] [] [] [] fits = refl
as_long [] (n ∷ names) things images fits = absurd cc
as_long [] [] (t ∷ things) images fits = absurd cc
as_long [] [] [] (p ∷ images) fits = absurd cc
as_long (kind.Own ∷ order) [] things images fits = absurd cc
as_long (kind.Own ∷ order) (n ∷ names) [] images fits = absurd cc
as_long (kind.Own ∷ order) (n ∷ names) (t ∷ things) images fits = ap suc (as_long order names things images fits)
as_long (kind.Image ∷ order) names things [] fits = absurd cc
as_long (kind.Image ∷ order) names things (p ∷ images) fits = as_long order names things images fits

pub found : (order : List Kind) (names : List Text) (things : List Own) (images : List Package) (name : Text) (at : ℕ) → is_ordered order names things images ≡ true → Some at ≡ found_at name names
    → own_in (merged order names things images) name ≡ own_at things at
found order names things images name at fits e =
    at_place order names things images name fits ∙ ap (own_at things) (sym (chosen_at (nat_lt (position_or_len (bytes_eq name) names) (length names)) _ at e))

pub not_found : (order : List Kind) (names : List Text) (things : List Own) (images : List Package) (name : Text) → is_ordered order names things images ≡ true → None ≡ found_at name names
    → own_in (merged order names things images) name ≡ None
not_found order names things images name fits e =
    let p = position_or_len (bytes_eq name) names in
    let past = past_end p (length names) (not_chosen (nat_lt p (length names)) p e) in
    at_place order names things images name fits ∙ ap (option_map thing_in_own) (slice_get_past things p (omega (arith, past, as_long order names things images fits)))

-- an image is found at the place of its name
image_place : (order : List Kind) (names : List Text) (things : List Own) (images : List Package) (name : Text) → is_ordered order names things images ≡ true
    → image_in (merged order names things images) name ≡ option_map package_content (slice_get images (position_or_len (bytes_eq name) (map image_name images)))
image_place [] [] [] [] name fits = refl
image_place [] (n ∷ names) things images name fits = absurd cc
image_place [] [] (t ∷ things) images name fits = absurd cc
image_place [] [] [] (p ∷ images) name fits = absurd cc
image_place (kind.Own ∷ order) [] things images name fits = absurd cc
image_place (kind.Own ∷ order) (n ∷ names) [] images name fits = absurd cc
image_place (kind.Own ∷ order) (n ∷ names) (own.Function d ∷ things) images name fits = image_place order names things images name fits
image_place (kind.Own ∷ order) (n ∷ names) (own.Constant z ∷ things) images name fits = image_place order names things images name fits
image_place (kind.Image ∷ order) names things [] name fits = absurd cc
image_place (kind.Image ∷ order) names things (p ∷ images) name fits =
    rw (bytes_eq-comm (image_name p) name) (chosen (bytes_eq name (image_name p)) (image_place order names things images name fits)
    ∙ ap (λ (k : ℕ). option_map package_content (slice_get (p ∷ images) k)) (sym (pos_cons (bytes_eq name) (image_name p) (map image_name images))))
  where
    chosen : (b : Bool) → image_in (merged order names things images) name ≡ option_map package_content (slice_get images (position_or_len (bytes_eq name) (map image_name images)))
        → cond b (Some (package_content p)) (image_in (merged order names things images) name) ≡ option_map package_content (slice_get (p ∷ images) (cond b 0 (suc (position_or_len (bytes_eq name) (map image_name images)))))
    chosen true rest = refl
    chosen false rest = rest

pub image_found : (order : List Kind) (names : List Text) (things : List Own) (images : List Package) (packages : List Text) (name : Text) (at : ℕ) → is_ordered order names things images ≡ true → packages ≡ map image_name images
    → Some at ≡ found_at name packages → image_in (merged order names things images) name ≡ option_map package_content (slice_get images at)
image_found order names things images packages name at fits is e =
    let e' : Some at ≡ found_at name (map image_name images) = rw is at e in
    image_place order names things images name fits
    ∙ ap (λ (k : ℕ). option_map package_content (slice_get images k)) (sym (chosen_at (nat_lt (position_or_len (bytes_eq name) (map image_name images)) (length (map image_name images))) _ at e'))

pub image_not_found : (order : List Kind) (names : List Text) (things : List Own) (images : List Package) (packages : List Text) (name : Text) → is_ordered order names things images ≡ true → packages ≡ map image_name images
    → None ≡ found_at name packages → image_in (merged order names things images) name ≡ None
image_not_found order names things images packages name fits is e =
    let e' : None ≡ found_at name (map image_name images) = rw is at e in
    let p = position_or_len (bytes_eq name) (map image_name images) in
    let past = past_end p (length (map image_name images)) (not_chosen (nat_lt p (length (map image_name images))) p e') in
    image_place order names things images name fits ∙ ap (option_map package_content) (slice_get_past images p (omega (arith, past, length-map images image_name)))

-- one more own thing

pub merged_more : (order : List Kind) (names : List Text) (things : List Own) (images : List Package) (n : Text) (t : Own) → is_ordered order names things images ≡ true
    → merged (order ++ kind.Own ∷ []) (names ++ n ∷ []) (things ++ t ∷ []) images ≡ merged order names things images ++ own_event n t ∷ []
merged_more [] [] [] [] n t fits = refl
merged_more [] (x ∷ names) things images n t fits = absurd cc
merged_more [] [] (x ∷ things) images n t fits = absurd cc
merged_more [] [] [] (p ∷ images) n t fits = absurd cc
merged_more (kind.Own ∷ order) [] things images n t fits = absurd cc
merged_more (kind.Own ∷ order) (x ∷ names) [] images n t fits = absurd cc
merged_more (kind.Own ∷ order) (x ∷ names) (y ∷ things) images n t fits = ap (λ es. own_event x y ∷ es) (merged_more order names things images n t fits)
merged_more (kind.Image ∷ order) names things [] n t fits = absurd cc
merged_more (kind.Image ∷ order) names things (p ∷ images) n t fits = ap (λ es. Loads (held_of p) ∷ es) (merged_more order names things images n t fits)

pub ordered_more : (order : List Kind) (names : List Text) (things : List Own) (images : List Package) (n : Text) (t : Own) → is_ordered order names things images ≡ true
    → is_ordered (order ++ kind.Own ∷ []) (names ++ n ∷ []) (things ++ t ∷ []) images ≡ true
ordered_more [] [] [] [] n t fits = refl
ordered_more [] (x ∷ names) things images n t fits = absurd cc
ordered_more [] [] (x ∷ things) images n t fits = absurd cc
ordered_more [] [] [] (p ∷ images) n t fits = absurd cc
ordered_more (kind.Own ∷ order) [] things images n t fits = absurd cc
ordered_more (kind.Own ∷ order) (x ∷ names) [] images n t fits = absurd cc
ordered_more (kind.Own ∷ order) (x ∷ names) (y ∷ things) images n t fits = ordered_more order names things images n t fits
ordered_more (kind.Image ∷ order) names things [] n t fits = absurd cc
ordered_more (kind.Image ∷ order) names things (p ∷ images) n t fits = ordered_more order names things images n t fits

later : (b : Bool) (t : Thing) (rest : Option Thing) (has : Bool) → cond b (Some t) rest ≡ None → (rest ≡ None → has ≡ false) → (b || has) ≡ false
later true t rest has e next = absurd cc
later false t rest has e next = next e

absent : (order : List Kind) (names : List Text) (things : List Own) (images : List Package) (n : Text) → is_ordered order names things images ≡ true → own_in (merged order names things images) n ≡ None → has_text n names ≡ false
absent [] [] [] [] n fits none = refl
absent [] (x ∷ names) things images n fits none = absurd cc
absent [] [] (x ∷ things) images n fits none = absurd cc
absent [] [] [] (p ∷ images) n fits none = absurd cc
absent (kind.Own ∷ order) [] things images n fits none = absurd cc
absent (kind.Own ∷ order) (x ∷ names) [] images n fits none = absurd cc
absent (kind.Own ∷ order) (x ∷ names) (own.Function d ∷ things) images n fits none =
    rw (bytes_eq-comm n x) (later (bytes_eq x n) (thing_in_own (own.Function d)) (own_in (merged order names things images) n) (has_text n names) none (absent order names things images n fits))
absent (kind.Own ∷ order) (x ∷ names) (own.Constant z ∷ things) images n fits none =
    rw (bytes_eq-comm n x) (later (bytes_eq x n) (thing_in_own (own.Constant z)) (own_in (merged order names things images) n) (has_text n names) none (absent order names things images n fits))
absent (kind.Image ∷ order) names things [] n fits none = absurd cc
absent (kind.Image ∷ order) names things (p ∷ images) n fits none = absent order names things images n fits none

pub named_more : (order : List Kind) (names : List Text) (things : List Own) (images : List Package) (n : Text) (place : ℕ) (new : List Text) → is_ordered order names things images ≡ true → own_in (merged order names things images) n ≡ None
    → Interns n names place new → new ≡ names ++ n ∷ []
named_more order names things images n place new fits none interned =
    let absent' : has_text n names ≡ false = absent order names things images n fits none in
    (rw absent' at interned.after)

pub is_found : (found : Option Package) → is_some (option_map package_content found) ≡ is_some found
is_found None = refl
is_found (Some p) = refl
