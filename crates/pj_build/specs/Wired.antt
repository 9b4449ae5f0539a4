-- A method that is added, with the entries of its mentions.
use Rattle.std.specs.Prelude.{◌≡◌, ℕ, ◌+◌, ◌*◌, List, [], ◌∷◌, ◌++◌, length}
use Rattle.pj_build.specs.declared.wiring.Wiring.{Wiring}
use Rattle.pj_build.specs.Wiring.{wired_method, wired_entries, all_methods, all_entries}

-- one more method with so many parameters
pub record Wires (old : Wiring) (count : ℕ) (new : Wiring) : Type 0 where
  pub methods : new.methods ≡ old.methods ++ wired_method (length old.entries) (length old.methods) count ∷ []
  pub entries : new.entries ≡ old.entries ++ wired_entries old.at (length old.methods) count
  pub at : new.at ≡ old.at + 12 + 4 * count

-- The methods of these functions are added: with those of any others behind them, what is there and what is still to be
-- added stays the same.
pub record Continues (old : Wiring) (counts : List ℕ) (new : Wiring) : Type 0 where
  pub methods : (rest : List ℕ) → new.methods ++ all_methods (length new.entries) (length new.methods) rest ≡ old.methods ++ all_methods (length old.entries) (length old.methods) (counts ++ rest)
  pub entries : (rest : List ℕ) → new.entries ++ all_entries new.at (length new.methods) rest ≡ old.entries ++ all_entries old.at (length old.methods) (counts ++ rest)
