-- Strings that grow.
use Rattle.std.specs.Prelude.{◌≡◌, ℕ, List, ◌++◌, slice_get, Some}
use Rattle.pj_meaning.specs.Tree.{Text}
use Rattle.pj_tree.specs.Reads.{Strings}

-- these texts are the first of the strings
pub record Begins (texts : List Text) (strings : Strings) : Type 0 where
  pub at : (n : ℕ) (text : Text) → slice_get texts n ≡ Some text → strings n ≡ text

-- texts with others behind them
pub record Grown (old new : List Text) : Type 0 where
  pub more : List Text
  pub is : new ≡ old ++ more
