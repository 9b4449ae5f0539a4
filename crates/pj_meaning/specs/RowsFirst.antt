-- First rows: a script by itself, and a package.
use Rattle.std.specs.Prelude.{List, [], ◌∷◌}
use Rattle.pj_meaning.specs.Tree.{TopItem}
use Rattle.pj_meaning.specs.Written.{int, local, call, op, typed, def, show, Puts, Prints}

abbrev pub nothing_at_all : Type 0
nothing_at_all = Prints [] ""

abbrev tenfold : List TopItem
tenfold = def "f" (typed "x" "Int64" ∷ []) (op "*" (local "x") (int 10)) ∷ show (call "f" (int 4 ∷ [])) ∷ []

abbrev pub four_steps_suffice : Type 0
four_steps_suffice = Puts [] 4 tenfold "40\n"

abbrev pub three_steps_are_too_few : Type 0
three_steps_are_too_few = Puts [] 3 tenfold "steps\n"
