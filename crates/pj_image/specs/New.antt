-- Texts that differ from those before them.
use Rattle.std.specs.Prelude.{◌≡◌, ℕ, Bool, true, not, List, [], ◌∷◌, ◌++◌, ◌&&◌, if◌then◌else◌, Option, Some, None, option_and_then, slice_get}
use Rattle.pj_base.specs.Interned.{has_text}

-- each of the texts differs from those that are seen, and from those before it
abbrev pub all_new : List (List ℕ) → List (List ℕ) → Bool
all_new seen [] = true
all_new seen (text ∷ texts) = not (has_text text seen) && all_new (seen ++ text ∷ []) texts

-- two lists have the same texts
abbrev pub SameTexts : List (List ℕ) → List (List ℕ) → Type 0
SameTexts xs ys = (text : List ℕ) → has_text text xs ≡ has_text text ys

-- ---- names of which only that they pass has been asked

-- the texts so far and one more, if it passes
abbrev pub text_taken : (List ℕ → Bool) → List (List ℕ) → Option (List ℕ) → Option (List (List ℕ))
text_taken good seen None = None
text_taken good seen (Some text) = if good text then Some (seen ++ text ∷ []) else None

abbrev pub name_taken : (List ℕ → Bool) → List (List ℕ) → List (List ℕ) → Option ℕ → Option (List (List ℕ))
name_taken good strings seen number = text_taken good seen (option_and_then (λ n. slice_get strings n) number)

-- the texts so far and these, if each is a string of the image that passes
unfoldable pub all_taken : (List ℕ → Bool) → List (List ℕ) → List (List ℕ) → List (Option ℕ) → Option (List (List ℕ))
all_taken good strings seen [] = Some seen
all_taken good strings seen (number ∷ numbers) = option_and_then (λ more. all_taken good strings more numbers) (name_taken good strings seen number)
