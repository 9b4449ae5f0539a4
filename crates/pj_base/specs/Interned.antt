-- A list of different texts, each numbered by its place.
use Rattle.std.specs.Prelude.{◌≡◌, ℕ, Bool, List, [], ◌∷◌, ◌++◌, Option, position, if◌then◌else◌}
use Rattle.std.specs.List.{list_any, position_or_len}
use Rattle.std.specs.Str.{bytes_eq}

-- the list has this text
abbrev pub has_text : List ℕ → List (List ℕ) → Bool
has_text text names = list_any (bytes_eq text) names

-- the first place of a text, or the list's length where it isn't there
abbrev pub place_of : List ℕ → List (List ℕ) → ℕ
place_of text names = position_or_len (bytes_eq text) names

-- asking for a text answers its place, and puts it last where it is new
pub record Interns (text : List ℕ) (old : List (List ℕ)) (place : ℕ) (new : List (List ℕ)) : Type 0 where
  pub at : place ≡ place_of text old
  pub after : new ≡ (if has_text text old then old else old ++ text ∷ [])

-- a text's place, where it is there
abbrev pub found_at : List ℕ → List (List ℕ) → Option ℕ
found_at text names = position (bytes_eq text) names
