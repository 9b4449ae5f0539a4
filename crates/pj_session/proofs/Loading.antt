-- Loading a file.
use Rattle.std.proofs.Common.{◌≡◌, ◌≤◌, ◌||◌, ℕ, suc, Bool, true, false, cond, map, List, [], ◌∷◌, ◌++◌, Option, Some, None, length, nat_le, ◌<◌, Ok, refl, sym, ap, subst, ◌∙◌, arith}
use Rattle.std.specs.Prelude.{is_some, option_map}
use Rattle.std.specs.Str.{bytes_eq}
use Rattle.pj_base.specs.Interned.{Interns, has_text}
use Rattle.pj_meaning.specs.Tree.{Text}
use Rattle.pj_meaning.specs.Content.{Content}
use Rattle.pj_session.specs.Events.{Event, Defines, Binds, Loads}
use Rattle.pj_session.specs.Things.{image_in}
use Rattle.pj_session.specs.Uses.{image_count}
use Rattle.pj_session.specs.Merged.{own_event, held_of, package_content, image_name, merged, is_ordered}
use Rattle.pj_session.specs.declared.own.Own.{Own}
use Rattle.pj_session.specs.declared.own.Own.TheVariants as own
use Rattle.pj_session.specs.declared.package.Package.{Package}
use Rattle.pj_session.specs.declared.own.Kind.{Kind}
use Rattle.pj_session.specs.declared.own.Kind.TheVariants as kind
use Rattle.std.proofs.lemmas.Bool.Decides.{nat_tests}
use Rattle.pj_meaning.specs.Script as script
use Rattle.pj_meaning.specs.Script.{Refusal}
use Rattle.pj_image.specs.declared.image.Image.{Image}
use Rattle.pj_image.specs.File.{file_at}
use Rattle.pj_image.specs.Formed.{IsFileOf}
use Rattle.pj_image.specs.Spelled.{before_identity, spelled}
use Rattle.sha2.specs.Sha256.{sha256}
use Rattle.sha2.proofs.Facts256.{length-sha256}
use Rattle.std.proofs.lemmas.List.{length-append}
use Rattle.pj_content.specs.Misfit.{misfit}
use Rattle.pj_content.specs.Readings.{identity_in, image_of}
use Rattle.pj_content.proofs.Read as read
use Rattle.pj_session.specs.Uses.{builds, counts_loaded, no_room, refused_for}
use Rattle.pj_session.specs.FromFiles.{why_refused, held_of as held_of_file}
use Rattle.pj_session.specs.Seen.{events_of}
use Rattle.pj_session.specs.Good.{Good}
use Rattle.pj_session.specs.Loading.{Judged, Added, Refuses, Tells}
use Rattle.pj_session.specs.declared.state.Session.{Session}
use Rattle.pj_session.specs.declared.load.LoadFault.{LoadFault}
use Rattle.pj_session.specs.declared.load.LoadFault.TheVariants as faults
use Rattle.pj_session.proofs.FromFiles.{file_law, refusal_law}
use Rattle.pj_session.proofs.Texts.{bytes_eq-comm}

pub is_found : (found : Option Package) → is_some (option_map package_content found) ≡ is_some found
is_found None = refl
is_found (Some p) = refl

-- the images are as many as the events tell
pub counted : (order : List Kind) (names : List Text) (things : List Own) (images : List Package) → is_ordered order names things images ≡ true
    → image_count (merged order names things images) ≡ length images
counted [] [] [] [] fits = refl
counted [] (x ∷ names) things images fits = absurd cc
counted [] [] (x ∷ things) images fits = absurd cc
counted [] [] [] (p ∷ images) fits = absurd cc
counted (kind.Own ∷ order) [] things images fits = absurd cc
counted (kind.Own ∷ order) (x ∷ names) [] images fits = absurd cc
counted (kind.Own ∷ order) (x ∷ names) (own.Function d ∷ things) images fits = counted order names things images fits
counted (kind.Own ∷ order) (x ∷ names) (own.Constant z ∷ things) images fits = counted order names things images fits
counted (kind.Image ∷ order) names things [] fits = absurd cc
counted (kind.Image ∷ order) names things (p ∷ images) fits = ap suc (counted order names things images fits)

-- one more image

pub merged_image : (order : List Kind) (names : List Text) (things : List Own) (images : List Package) (q : Package) → is_ordered order names things images ≡ true
    → merged (order ++ kind.Image ∷ []) names things (images ++ q ∷ []) ≡ merged order names things images ++ Loads (held_of q) ∷ []
merged_image [] [] [] [] q fits = refl
merged_image [] (x ∷ names) things images q fits = absurd cc
merged_image [] [] (x ∷ things) images q fits = absurd cc
merged_image [] [] [] (p ∷ images) q fits = absurd cc
merged_image (kind.Own ∷ order) [] things images q fits = absurd cc
merged_image (kind.Own ∷ order) (x ∷ names) [] images q fits = absurd cc
merged_image (kind.Own ∷ order) (x ∷ names) (y ∷ things) images q fits = ap (λ es. own_event x y ∷ es) (merged_image order names things images q fits)
merged_image (kind.Image ∷ order) names things [] q fits = absurd cc
merged_image (kind.Image ∷ order) names things (p ∷ images) q fits = ap (λ es. Loads (held_of p) ∷ es) (merged_image order names things images q fits)

pub ordered_image : (order : List Kind) (names : List Text) (things : List Own) (images : List Package) (q : Package) → is_ordered order names things images ≡ true
    → is_ordered (order ++ kind.Image ∷ []) names things (images ++ q ∷ []) ≡ true
ordered_image [] [] [] [] q fits = refl
ordered_image [] (x ∷ names) things images q fits = absurd cc
ordered_image [] [] (x ∷ things) images q fits = absurd cc
ordered_image [] [] [] (p ∷ images) q fits = absurd cc
ordered_image (kind.Own ∷ order) [] things images q fits = absurd cc
ordered_image (kind.Own ∷ order) (x ∷ names) [] images q fits = absurd cc
ordered_image (kind.Own ∷ order) (x ∷ names) (y ∷ things) images q fits = ordered_image order names things images q fits
ordered_image (kind.Image ∷ order) names things [] q fits = absurd cc
ordered_image (kind.Image ∷ order) names things (p ∷ images) q fits = ordered_image order names things images q fits

later : (b : Bool) (c : Content) (rest : Option Content) (has : Bool) → cond b (Some c) rest ≡ None → (rest ≡ None → has ≡ false) → (b || has) ≡ false
later true c rest has e next = absurd cc
later false c rest has e next = next e

absent : (order : List Kind) (names : List Text) (things : List Own) (images : List Package) (n : Text) → is_ordered order names things images ≡ true → image_in (merged order names things images) n ≡ None → has_text n (map image_name images) ≡ false
absent [] [] [] [] n fits none = refl
absent [] (x ∷ names) things images n fits none = absurd cc
absent [] [] (x ∷ things) images n fits none = absurd cc
absent [] [] [] (p ∷ images) n fits none = absurd cc
absent (kind.Own ∷ order) [] things images n fits none = absurd cc
absent (kind.Own ∷ order) (x ∷ names) [] images n fits none = absurd cc
absent (kind.Own ∷ order) (x ∷ names) (own.Function d ∷ things) images n fits none = absent order names things images n fits none
absent (kind.Own ∷ order) (x ∷ names) (own.Constant z ∷ things) images n fits none = absent order names things images n fits none
absent (kind.Image ∷ order) names things [] n fits none = absurd cc
absent (kind.Image ∷ order) names things (p ∷ images) n fits none =
    rw (bytes_eq-comm n (image_name p)) (later (bytes_eq (image_name p) n) (package_content p) (image_in (merged order names things images) n) (has_text n (map image_name images)) none (absent order names things images n fits))

more_names : (images : List Package) (q : Package) (n : Text) → image_name q ≡ n → map image_name images ++ n ∷ [] ≡ map image_name (images ++ q ∷ [])
more_names [] q n is = ap (λ (x : Text). x ∷ []) (sym is)
more_names (p ∷ images) q n is = ap (λ (xs : List Text). image_name p ∷ xs) (more_names images q n is)

pub named_image : (order : List Kind) (names : List Text) (things : List Own) (images : List Package) (packages : List Text) (q : Package) (n : Text) (place : ℕ) (new : List Text)
    → is_ordered order names things images ≡ true → packages ≡ map image_name images → image_in (merged order names things images) n ≡ None → image_name q ≡ n
    → Interns n packages place new → new ≡ map image_name (images ++ q ∷ [])
named_image order names things images packages q n place new fits is none called interned =
    let absent' : has_text n packages ≡ false = rw is (absent order names things images n fits none) in
    (rw absent' at interned.after) ∙ ap (λ (xs : List Text). xs ++ n ∷ []) is ∙ more_names images q n called

-- room

pub room : (here : Text) (order : List Kind) (names : List Text) (things : List Own) (images : List Package) → is_ordered order names things images ≡ true
    → no_room here (merged order names things images) ≡ cond (builds here) (nat_le 1023 (length images)) (nat_le 1024 (length images))
room here order names things images fits = rw (counted order names things images fits) (by (builds here))
  where
    by : (b : Bool) → nat_le 1024 (cond b (suc (length images)) (length images)) ≡ cond b (nat_le 1023 (length images)) (nat_le 1024 (length images))
    by true = grind (arith, nat_tests)
    by false = refl

-- what was read

ends : (body seal : List ℕ) → length seal ≡ 32 → 32 ≤ length (body ++ seal)
ends body seal is = omega (arith, is, length-append body seal)

pub long_enough : (name bytes : List ℕ) (i : Image) → IsFileOf name bytes i → 32 ≤ length bytes
unfolding spelled
long_enough name bytes i is = rw is.whole (ends (before_identity i) (sha256 (before_identity i)) (length-sha256 (before_identity i)))

pub judged : (before : Session) (name bytes : List ℕ) (i : Image) (why : Option Refusal) → length bytes ≤ 67108864 → file_at name bytes ≡ Ok i → IsFileOf name bytes i
    → why_refused before.here (events_of before) name (misfit i) ≡ why → Judged before name bytes (image_of (identity_in bytes) i) why
judged before name bytes i why short e is w = record {
  read = read.held name bytes i short e;
  called = is.called;
  alone = read.no_needs i is.formed;
  refused = λ good. refusal_law before.here (events_of before) before.printed good name bytes i is ∙ w;
}

told_loaded : (loaded : Bool) (wrong : Option ℕ) (full : Bool) → cond loaded (Some script.IsLoaded) (refused_for wrong full) ≡ Some script.IsLoaded → loaded ≡ true
told_loaded true wrong full h = refl
told_loaded false (Some k) full h = absurd cc
told_loaded false None true h = absurd cc
told_loaded false None false h = absurd cc

pub kept : (before : Session) (name bytes : List ℕ) (i : Image) (fault : LoadFault) → length bytes ≤ 67108864 → file_at name bytes ≡ Ok i → IsFileOf name bytes i
    → Tells fault (why_refused before.here (events_of before) name (misfit i)) → Refuses before name bytes fault
kept before name bytes i (faults.Format k) short e is t = absurd t
kept before name bytes i faults.Loaded short e is t = (
  record { image = image_of (identity_in bytes) i; judged = judged before name bytes i (Some script.IsLoaded) short e is t },
  told_loaded (counts_loaded before.here (events_of before) name) (misfit i) (no_room before.here (events_of before)) t,
)
kept before name bytes i (faults.Relocation k) short e is t = record { image = image_of (identity_in bytes) i; judged = judged before name bytes i (Some (script.Relocation k)) short e is t }
kept before name bytes i faults.Full short e is t = record { image = image_of (identity_in bytes) i; judged = judged before name bytes i (Some script.Full) short e is t }
kept before name bytes i faults.NoMemory short e is t = tt

unrefused : (loaded : Bool) (wrong : Option ℕ) (full : Bool) → cond loaded (Some script.IsLoaded) (refused_for wrong full) ≡ None → (loaded ≡ false) × (wrong ≡ None)
unrefused true wrong full h = absurd cc
unrefused false None full h = (refl, refl)
unrefused false (Some k) full h = absurd cc

pub added : (before after : Session) (name bytes : List ℕ) (i : Image) (count : ℕ) → length bytes ≤ 67108864 → file_at name bytes ≡ Ok i → IsFileOf name bytes i
    → why_refused before.here (events_of before) name (misfit i) ≡ None → events_of after ≡ events_of before ++ Loads (held_of_file bytes i) ∷ [] → count ≡ length after.tables.images.items
    → Added before name bytes count after
added before after name bytes i count short e is alone events many = record {
  image = image_of (identity_in bytes) i;
  judged = judged before name bytes i None short e is alone;
  events = events;
  many = many ∙ sym (counted after.tables.order.items after.tables.own after.tables.things.items after.tables.images.items after.tables.ordered);
  good = λ good.
      let two = unrefused (counts_loaded before.here (events_of before) name) (misfit i) (no_room before.here (events_of before)) alone in
      subst (λ (es : List Event). Good before.here es) (sym events) (file_law before.here (events_of before) good name bytes i is two.1 two.0).after;
}

-- fewer than 1,024 images were loaded before

not_full : (f : Bool) → refused_for None f ≡ None → f ≡ false
not_full true h = absurd cc
not_full false h = refl

below : (a b : ℕ) → nat_le a b ≡ false → b < a
below a b h = grind (arith, nat_tests)

few : (loaded : Bool) (wrong : Option ℕ) (b : Bool) (n : ℕ) → cond loaded (Some script.IsLoaded) (refused_for wrong (nat_le 1024 (cond b (suc n) n))) ≡ None → n < 1024
few true wrong b n h = absurd cc
few false (Some k) b n h = absurd cc
few false None true n h = omega (arith, below 1024 (suc n) (not_full (nat_le 1024 (suc n)) h))
few false None false n h = below 1024 n (not_full (nat_le 1024 n) h)

pub has_room : (here : Text) (es : List Event) (name : Text) (wrong : Option ℕ) → why_refused here es name wrong ≡ None → image_count es < 1024
has_room here es name wrong h = few (counts_loaded here es name) wrong (builds here) (image_count es) h

pub few_more : (order : List Kind) (names : List Text) (things : List Own) (images : List Package) (q : Package) → is_ordered order names things images ≡ true → image_count (merged order names things images) < 1024
    → length (images ++ q ∷ []) ≤ 1024
few_more order names things images q fits room = omega (arith, counted order names things images fits, room, length-append images (q ∷ []))
