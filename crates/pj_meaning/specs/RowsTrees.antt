-- Rows on trees that no text writes, but an image may hold.
use Rattle.std.specs.Prelude.{[], ◌∷◌}
use Rattle.pj_meaning.specs.Tree.{True, Value}
use Rattle.pj_meaning.specs.Written.{int, local, call, set, println, typed, def, function, run, show, Prints}

-- the body assigns the empty name, which its parameter without a name doesn't introduce
abbrev pub a_parameter_without_a_name_introduces_nothing : Type 0
a_parameter_without_a_name_introduces_nothing =
    Prints (function "f" (typed "" "Int64" ∷ []) ("" ∷ []) (println (local "") ∷ set "" (int 1) ∷ []) ∷ run (Value (call "f" (int 7 ∷ []))) ∷ []) "ERROR: UndefVarError: local  not defined\n"

abbrev pub parameters_without_names : Type 0
parameters_without_names = Prints (def "f" (typed "" "Int64" ∷ typed "" "Bool" ∷ []) (int 3) ∷ show (call "f" (int 1 ∷ True ∷ [])) ∷ []) "3\n"
