-- Which names a scope introduces. The scopes of a method's body are the body and its loops; those of a statement at top level are
-- its loops. The condition of a `while` and the bounds of a `for` stand outside the loop's scope.
use Rattle.std.specs.Prelude.{Bool, List, [], ◌∷◌, ◌++◌, Option, Some, None, if◌then◌else◌}
use Rattle.std.specs.List.{list_any}
use Rattle.std.specs.Str.{bytes_eq}
use Rattle.pj_syntax.specs.declared.expression.Spot.{Spot}
use Rattle.pj_syntax.specs.declared.statement.Param.{Param}
use Rattle.pj_faults.specs.Located.{Text, Statement, Block, Set, If, While, For, end, step}

unfoldable pub is_among : Text → List Text → Bool
is_among x names = list_any (bytes_eq x) names

-- names with one more, which stands last where it is new
unfoldable pub with_name : List Text → Text → List Text
with_name names x = if is_among x names then names else names ++ x ∷ []

unfoldable pub with_names : List Text → List Spot → List Text
with_names names [] = names
with_names names (x ∷ xs) = with_names (with_name names x.text) xs

-- those of a list that aren't among the names, each at its first place
unfoldable pub new_names : List Text → List Spot → List Spot
new_names names [] = []
new_names names (x ∷ xs) =
    if is_among x.text names then new_names names xs else x ∷ new_names (with_name names x.text) xs

-- the names that are assigned directly in a scope, in order, each as often as it is assigned
abbrev mutual
  pub assigned : Block → List Spot
  assigned end = []
  assigned (step s rest) = assigned_by s ++ assigned rest

  pub assigned_by : Statement → List Spot
  assigned_by (Set x e) = x ∷ []
  assigned_by (If c a b) = assigned a ++ assigned b
  assigned_by s = []

-- the parameters that have a name
abbrev pub own_name : Option Spot → List Spot
own_name None = []
own_name (Some x) = x ∷ []

abbrev pub named : List Param → List Spot
named [] = []
named (p ∷ ps) = own_name p.name ++ named ps

-- what a body's own scope introduces, each name at the token that introduces it
abbrev pub body_names : List Param → Block → List Spot
body_names params b = named params ++ assigned b

-- What loops introduce, where enclosing scopes introduce the names that are given: their variables, and what is assigned directly in
-- them and introduced by no scope round them.
abbrev mutual
  pub looped : List Text → Block → List Spot
  looped names end = []
  looped names (step s rest) = looped_by names s ++ looped names rest

  pub looped_by : List Text → Statement → List Spot
  looped_by names (If c a b) = looped names a ++ looped names b
  looped_by names (While c b) = new_names names (assigned b) ++ looped (with_names names (assigned b)) b
  looped_by names (For x from to b) =
      x ∷ (new_names (with_name names x.text) (assigned b) ++ looped (with_names (with_name names x.text) (assigned b)) b)
  looped_by names s = []
