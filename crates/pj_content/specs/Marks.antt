-- Which of some functions have a method, a mark for each.
use Rattle.std.specs.Prelude.{◌≡◌, ◌<◌, ℕ, Bool, false, List, length, ◌==◌, slice_index_or}
use Rattle.std.specs.List.{list_any}

-- the functions in these places are marked, and no others
pub record Marks (marks : List Bool) (places : List ℕ) : Type 0 where
  pub is : (place : ℕ) → place < length marks → slice_index_or marks place false ≡ list_any (λ other. other == place) places
