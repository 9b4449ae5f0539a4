-- Lists that are taken apart from their end, and put together from their front.
use Rattle.std.proofs.Common.{◌≡◌, List, [], ◌∷◌, ◌++◌, reverse, Option, Some, None, sym, ap, ◌∙◌}
use Rattle.std.proofs.lemmas.List.{reverse-append}
use Rattle.pj_syntax.specs.declared.expression.Path.{Path}
use Rattle.pj_syntax.specs.declared.expression.Spot.{Spot}
use Rattle.pj_syntax.specs.declared.statement.Param.{Param}
use Rattle.pj_grammar.specs.declared.node.Arguments.{Arguments}
use Rattle.pj_grammar.specs.Makers.{argument_after, name_of, no_arguments, paths_given}
use Rattle.pj_grammar.proofs.Adding.{join, join-after, join-none, none-join}

-- the last of a list is the first of it reversed
pub last-first : {A : Type 0} (rest' : List A) (x : A) (rest : List A) → rest ≡ rest' ++ x ∷ [] → reverse rest ≡ x ∷ reverse rest'
last-first rest' x rest e = ap reverse e ∙ reverse-append rest' (x ∷ [])

-- paths as arguments, one more of which was taken
pub given-more : (given : Arguments) (rest' rest : List Path) (goal : Arguments) (x : Path) → rest ≡ rest' ++ x ∷ []
    → join given (paths_given (reverse rest)) ≡ goal → join (argument_after given (name_of x)) (paths_given (reverse rest')) ≡ goal
unfolding paths_given
given-more given rest' rest goal x e h =
    join-after given (paths_given (reverse rest')) (name_of x)
    ∙ ap (λ ys. join given (paths_given ys)) (sym (last-first rest' x rest e)) ∙ h

pub given-begun : (ps : List Path) → join no_arguments (paths_given ps) ≡ paths_given ps
given-begun ps = none-join (paths_given ps)

pub given-ended : (given : Arguments) → join given (paths_given []) ≡ given
unfolding paths_given
given-ended given = join-none given

-- parameters, behind others
abbrev pub behind : List Param → Option (List Param) → Option (List Param)
behind made (Some qs) = Some (made ++ qs)
behind made None = None

abbrev pub bare : Spot → Param
bare x = record { at = x.at; name = Some x; declared = None }
