-- A list of names, each kept once.
use Rattle.std.specs.Prelude.{ℕ, List, [], ◌∷◌, ◌++◌, if◌then◌else◌}
use Rattle.pj_base.specs.Interned.{has_text}

-- some names, and one more where it is new
abbrev pub with_text : List (List ℕ) → List ℕ → List (List ℕ)
with_text known x = if has_text x known then known else known ++ x ∷ []

-- some names, and each of a list that is new, in their order
abbrev pub with_texts : List (List ℕ) → List (List ℕ) → List (List ℕ)
with_texts known [] = known
with_texts known (x ∷ xs) = with_texts (with_text known x) xs

abbrev pub distinct : List (List ℕ) → List (List ℕ)
distinct xs = with_texts [] xs
