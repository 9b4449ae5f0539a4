-- States that are like Base alone, as far as Base's own names and functions go.
use Rattle.std.specs.Prelude.{◌≡◌, ℕ, List, []}
use Rattle.pj_meaning.specs.Tree.{Text}
use Rattle.pj_meaning.specs.Names.{Id, base, base_name}
use Rattle.pj_meaning.specs.Methods.{pick}
use Rattle.pj_meaning.specs.State.{State, role_of}
use Rattle.pj_meaning.specs.Outcome.{Run}
use Rattle.pj_meaning.specs.Base.{base_types, base_methods, base_bindings}

abbrev pub run : State → ℕ → Run
run s left = record { state = s; left = left }

-- No type and no object was added. Base's names mean what they mean in Base alone, and a call of a function of Base picks
-- what it picks there.
pub record BaseLike (s : State) : Type 0 where
  pub types : s.types ≡ base_types
  pub objects : s.objects ≡ []
  pub roles : (name : Text) → role_of s.bindings base_name name ≡ role_of base_bindings base_name name
  pub picks : (name : Text) (args : List Id) → pick s.types s.methods s.newest (base name) args ≡ pick base_types base_methods 1 (base name) args
