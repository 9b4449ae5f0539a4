-- What one more definition or constant of the module that runs changes: a name more is known, and the images are the same.
use Rattle.std.proofs.Common.{◌≡◌, ℕ, ℤ, false, cond, ◌&&◌, ◌||◌, List, [], ◌∷◌, ◌++◌, Option, Some, None, Result, Ok, Err, OnOk, OnErr, length, refl, ap, ◌∙◌}
use Rattle.std.specs.Prelude.{is_some}
use Rattle.std.specs.Str.{bytes_eq}
use Rattle.pj_meaning.specs.Tree.{Text, Expr}
use Rattle.pj_meaning.specs.Content.{Content}
use Rattle.pj_plain.specs.Forms.{Known}
use Rattle.pj_words.specs.Words.{is_base_name}
use Rattle.pj_session.specs.Events.{Event, Defines, Binds, Loads}
use Rattle.pj_session.specs.Things.{image_in}
use Rattle.pj_session.specs.Good.{Good}
use Rattle.pj_session.specs.OwnItems.{known_in}
use Rattle.pj_session.specs.Uses.{builds, counts_loaded}
use Rattle.pj_session.specs.declared.end.End.{End}

-- names that are known

known_defined : (es : List Event) (f : Text) (ps : List Text) (e : Expr) → known_in (es ++ Defines f ps e ∷ []) ≡ known_in es ++ (f, Some (length ps)) ∷ []
known_defined [] f ps e = refl
known_defined (Defines g qs d ∷ es) f ps e = ap (λ (k : Known). (g, Some (length qs)) ∷ k) (known_defined es f ps e)
known_defined (Binds x z ∷ es) f ps e = ap (λ (k : Known). (x, None) ∷ k) (known_defined es f ps e)
known_defined (Loads held ∷ es) f ps e = known_defined es f ps e

known_bound : (es : List Event) (x : Text) (z : ℤ) → known_in (es ++ Binds x z ∷ []) ≡ known_in es ++ (x, None) ∷ []
known_bound [] x z = refl
known_bound (Defines g qs d ∷ es) x z = ap (λ (k : Known). (g, Some (length qs)) ∷ k) (known_bound es x z)
known_bound (Binds y w ∷ es) x z = ap (λ (k : Known). (y, None) ∷ k) (known_bound es x z)
known_bound (Loads held ∷ es) x z = known_bound es x z

pub define_known : {A : Type 0} (result : Result A End) (es es' : List Event) (f : Text) (ps : List Text) (e : Expr) (n : ℕ) → length ps ≡ n → OnOk result (es' ≡ es ++ Defines f ps e ∷ [])
    → OnOk result (known_in es' ≡ known_in es ++ (f, Some n) ∷ [])
define_known (Ok done) es es' f ps e n count added = ap known_in added ∙ known_defined es f ps e ∙ ap (λ (k : ℕ). known_in es ++ (f, Some k) ∷ []) count
define_known (Err end) es es' f ps e n count added = tt

pub bind_known : {A : Type 0} (result : Result A End) (es es' : List Event) (x : Text) → OnOk result ((z : ℤ) × (es' ≡ es ++ Binds x z ∷ [])) → OnOk result (known_in es' ≡ known_in es ++ (x, None) ∷ [])
bind_known (Ok done) es es' x added = ap known_in added.1 ∙ known_bound es x added.0
bind_known (Err end) es es' x added = tt

-- images

image_defined : (es : List Event) (f : Text) (ps : List Text) (e : Expr) (home : Text) → image_in (es ++ Defines f ps e ∷ []) home ≡ image_in es home
image_defined [] f ps e home = refl
image_defined (Defines g qs d ∷ es) f ps e home = image_defined es f ps e home
image_defined (Binds x z ∷ es) f ps e home = image_defined es f ps e home
image_defined (Loads held ∷ es) f ps e home = ap (λ (o : Option Content). cond (bytes_eq held.content.name home) (Some held.content) o) (image_defined es f ps e home)

image_bound : (es : List Event) (x : Text) (z : ℤ) (home : Text) → image_in (es ++ Binds x z ∷ []) home ≡ image_in es home
image_bound [] x z home = refl
image_bound (Defines g qs d ∷ es) x z home = image_bound es x z home
image_bound (Binds y w ∷ es) x z home = image_bound es x z home
image_bound (Loads held ∷ es) x z home = ap (λ (o : Option Content). cond (bytes_eq held.content.name home) (Some held.content) o) (image_bound es x z home)

same_loaded : (here here' : Text) (es es' : List Event) (other : Text) → here' ≡ here → image_in es' other ≡ image_in es other → counts_loaded here' es' other ≡ counts_loaded here es other
same_loaded here here' es es' other same_here same_image =
    ap (λ (h : Text). is_some (image_in es' other) || (builds h && bytes_eq h other)) same_here ∙ ap (λ (o : Option Content). is_some o || (builds here && bytes_eq here other)) same_image

pub kept_loaded : (here here' : Text) (es es' : List Event) → here' ≡ here → es' ≡ es → (other : Text) → counts_loaded here' es' other ≡ counts_loaded here es other
kept_loaded here here' es es' same_here same other = same_loaded here here' es es' other same_here (ap (λ (l : List Event). image_in l other) same)

pub define_loaded : {A : Type 0} (result : Result A End) (here here' : Text) (es es' : List Event) (f : Text) (ps : List Text) (e : Expr) → here' ≡ here
    → OnOk result (es' ≡ es ++ Defines f ps e ∷ []) → OnErr result (es' ≡ es) → (other : Text) → counts_loaded here' es' other ≡ counts_loaded here es other
define_loaded (Ok done) here here' es es' f ps e same_here added unchanged other =
    same_loaded here here' es es' other same_here (ap (λ (l : List Event). image_in l other) added ∙ image_defined es f ps e other)
define_loaded (Err end) here here' es es' f ps e same_here added unchanged other = kept_loaded here here' es es' same_here unchanged other

pub bind_loaded : {A : Type 0} (result : Result A End) (here here' : Text) (es es' : List Event) (x : Text) → here' ≡ here
    → OnOk result ((z : ℤ) × (es' ≡ es ++ Binds x z ∷ [])) → OnErr result (es' ≡ es) → (other : Text) → counts_loaded here' es' other ≡ counts_loaded here es other
bind_loaded (Ok done) here here' es es' x same_here added unchanged other =
    same_loaded here here' es es' other same_here (ap (λ (l : List Event). image_in l other) added.1 ∙ image_bound es x added.0 other)
bind_loaded (Err end) here here' es es' x same_here added unchanged other = kept_loaded here here' es es' same_here unchanged other

-- good events

pub kept_good : (here here' : Text) (es es' : List Event) → here' ≡ here → es' ≡ es → Good here es → Good here' es'
kept_good here here' es es' same_here same good = rw (same_here, same) good

pub either_good : {A : Type 0} (result : Result A End) (here here' : Text) (es es' : List Event) → here' ≡ here → OnOk result (Good here es → Good here' es') → OnErr result (es' ≡ es) → Good here es → Good here' es'
either_good (Ok done) here here' es es' same_here better unchanged good = better good
either_good (Err end) here here' es es' same_here better unchanged good = kept_good here here' es es' same_here unchanged good

pub plain_good : {A P : Type 0} (result : Result A End) (here here' : Text) (es es' : List Event) → P → OnOk result (P → Good here es → Good here' es') → OnOk result (Good here es → Good here' es')
plain_good (Ok done) here here' es es' plain better = better plain
plain_good (Err end) here here' es es' plain better = tt

pub free_good : {A : Type 0} (result : Result A End) (here here' x : Text) (es es' : List Event) → is_base_name x ≡ false → OnOk result (Good here es → is_base_name x ≡ false → Good here' es') → OnOk result (Good here es → Good here' es')
free_good (Ok done) here here' x es es' free better = λ good. better good free
free_good (Err end) here here' x es es' free better = tt

-- a constant that was bound

pub some_bound : {A : Type 0} (result : Result A End) (es es' : List Event) (x : Text) (v : ℤ) → OnOk result (es' ≡ es ++ Binds x v ∷ []) → OnOk result ((z : ℤ) × (es' ≡ es ++ Binds x z ∷ []))
some_bound (Ok done) es es' x v added = (v, added)
some_bound (Err end) es es' x v added = tt
