-- The list of methods, in the order in which they were added, and the pick among them.
use Rattle.std.specs.Prelude.{ℕ, Bool, List, [], ◌∷◌, ◌&&◌, Option, Some, None, nat_le, filter}
use Rattle.std.specs.List.{list_all}
use Rattle.pj_meaning.specs.Tree.{Text, Body}
use Rattle.pj_meaning.specs.Names.{Id, same_id}
use Rattle.pj_meaning.specs.Types.{TypeRow, all_below}

-- a method: of which function, for which types, its body in the text of which module, and the world in which it was born
pub record Method : Type 0 where
  pub fun : Id
  pub signature : List Id
  pub code : Body
  pub home : Text
  pub birth : ℕ

-- the methods that are seen at a world
abbrev pub seen : List Method → ℕ → List Method
seen methods world = filter (λ m. nat_le m.birth world) methods

-- of this function, and each argument's type is below its place
abbrev pub is_applicable : List TypeRow → Id → List Id → Method → Bool
is_applicable types f args m = same_id m.fun f && all_below types args m.signature

abbrev pub applicable : List TypeRow → List Method → ℕ → Id → List Id → List Method
applicable types methods world f args = filter (is_applicable types f args) (seen methods world)

-- at least as specific, in each place, as every one of these
abbrev pub is_least : List TypeRow → List Method → Method → Bool
is_least types others m = list_all (λ o. all_below types m.signature o.signature) others

abbrev pub last : List Method → Option Method
last [] = None
last (m ∷ []) = Some m
last (m ∷ n ∷ ms) = last (n ∷ ms)

pub data Pick : Type 0 where
  One : Method → Pick
  NoneMatch : Pick
  Ambiguous : Pick

-- the latest of the least ones, where there are any
abbrev pub chosen : List Method → Option Method → Pick
chosen [] found = NoneMatch
chosen (m ∷ ms) None = Ambiguous
chosen (m ∷ ms) (Some least) = One least

abbrev pub chosen_among : List TypeRow → List Method → Pick
chosen_among types among = chosen among (last (filter (is_least types among) among))

-- Among the methods of a function that are seen at the world and applicable to the arguments' types: the
-- one whose signature is at least as specific as that of each, and the latest of those of equal signature.
abbrev pub pick : List TypeRow → List Method → ℕ → Id → List Id → Pick
pick types methods world f args = chosen_among types (applicable types methods world f args)
