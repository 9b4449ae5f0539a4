-- What a read of a file gives.
use Rattle.std.proofs.Common.{◌≡◌, ◌≤◌, ◌<◌, ◌-◌, ℕ, true, false, nat_lt, List, [], ◌∷◌, ◌++◌, map, length, take, drop, Some, Ok, refl, sym, ap, ◌∙◌, arith}
use Rattle.std.specs.List.{AllByRecursion}
use Rattle.std.proofs.lemmas.Bool.Decides.{nat_tests}
use Rattle.std.proofs.lemmas.List.{take_at, drop_at, length-append}
use Rattle.sha2.specs.Sha256.{sha256}
use Rattle.sha2.proofs.Facts256.{length-sha256}
use Rattle.pj_meaning.specs.Using.{Holds, TooMuch}
use Rattle.pj_meaning.specs.State.{Loaded}
use Rattle.pj_parts.specs.declared.types.Dependency.{Dependency}
use Rattle.pj_parts.specs.Fits.{NoneYet}
use Rattle.pj_image.specs.declared.image.Image.{Image}
use Rattle.pj_image.specs.File.{file_at}
use Rattle.pj_image.specs.Formed.{Formed, IsFileOf}
use Rattle.pj_image.specs.Spelled.{before_identity, spelled}
use Rattle.pj_content.specs.Readings.{identity_in, image_of, needs_of, reading_of}

not_above : (a b : ℕ) → b ≤ a → nat_lt a b ≡ false
not_above a b h = grind (arith, nat_tests)

above : (a b : ℕ) → a < b → nat_lt a b ≡ true
above a b h = grind (arith, nat_tests)

pub held : (name bytes : List ℕ) (i : Image) → length bytes ≤ 67108864 → file_at name bytes ≡ Ok i → reading_of name (Some bytes) ≡ Holds (image_of (identity_in bytes) i)
held name bytes i short e = rw (not_above 67108864 (length bytes) short, e) refl

pub long : (name bytes : List ℕ) → 67108864 < length bytes → reading_of name (Some bytes) ≡ TooMuch
long name bytes h = rw (above 67108864 (length bytes) h) refl

seal_of : (body seal : List ℕ) → length seal ≡ 32 → (drop (length (body ++ seal) - 32) (body ++ seal) ≡ seal) × (take (length (body ++ seal) - 32) (body ++ seal) ≡ body)
seal_of body seal is =
    let at : length body ≡ length (body ++ seal) - 32 = omega (arith, is, length-append body seal) in
    (drop_at body seal (length (body ++ seal) - 32) at, take_at body seal (length (body ++ seal) - 32) at)

sealed : (i : Image) → identity_in (spelled i) ≡ sha256 (take (length (spelled i) - 32) (spelled i))
unfolding spelled
sealed i =
    let body = before_identity i in
    let parts = seal_of body (sha256 body) (length-sha256 body) in
    parts.0 ∙ ap sha256 (sym parts.1)

pub identity_is : (name bytes : List ℕ) (i : Image) → IsFileOf name bytes i → identity_in bytes ≡ sha256 (take (length bytes - 32) bytes)
identity_is name bytes i is = rw is.whole (sealed i)

none_needed : (ds : List Dependency) (f : Dependency → Loaded) → AllByRecursion NoneYet ds → map f ds ≡ []
none_needed [] f h = refl
none_needed (d ∷ ds) f h = absurd h.0

pub no_needs : (i : Image) → Formed i → needs_of i ≡ []
no_needs i formed = none_needed i.head.dependencies (λ d. record { name = d.name; identity = d.identity }) formed.head.0.1.1
