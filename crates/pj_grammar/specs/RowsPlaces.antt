-- Rows on places. The place of a token is its number.
use Rattle.std.specs.Prelude.{Some, None, [], ◌∷◌, codes}
use Rattle.pj_syntax.specs.declared.expression.Expr.TheVariants as trees
use Rattle.pj_syntax.specs.declared.statement.Stmt.TheVariants as statements
use Rattle.pj_syntax.specs.declared.item.Item.TheVariants as items
use Rattle.pj_grammar.specs.RowTexts.{Each, argument_at, bare_at, int, method, of_at, placed, script_of, spot_at}
use Rattle.pj_grammar.specs.Texts.{script}

-- an argument has the place of its first token, and an operator's function that of the operator
abbrev pub places_of_arguments : Type 0
places_of_arguments =
    Each
    (placed script (codes "f ( a , - b )") 4 (script_of (items.Run (statements.Value (trees.Call (bare_at 0 "f") (argument_at 2 (trees.Name (bare_at 2 "a")) ∷ argument_at 4 (trees.Call (of_at 4 "Base" 4 "-") (argument_at 5 (trees.Name (bare_at 5 "b")) ∷ [])) ∷ []))) ∷ []))
    ∷ placed script (codes "f ( Base . g ( ) , 1 + ( 2 ) )") 5 (script_of (items.Run (statements.Value (trees.Call (bare_at 0 "f") (argument_at 2 (trees.Call (of_at 2 "Base" 4 "g") []) ∷ argument_at 8 (trees.Call (of_at 9 "Base" 9 "+") (argument_at 8 (int 1) ∷ argument_at 10 (int 2) ∷ [])) ∷ []))) ∷ []))
    ∷ [])

-- `x.y += e` computes with `+` at its sign
abbrev pub places_of_assignments : Type 0
places_of_assignments =
    Each
    (placed script (codes "x . y += ( 1 )") 4 (script_of (items.Run (statements.SetField (trees.Name (bare_at 0 "x")) (spot_at 2 "y") (trees.Call (of_at 3 "Base" 3 "+") (argument_at 0 (trees.Field (trees.Name (bare_at 0 "x")) (spot_at 2 "y")) ∷ argument_at 4 (int 1) ∷ []))) ∷ []))
    ∷ placed script (codes "global x = 1 ; return ; break") 2 (script_of (items.Run (statements.Global 0 (spot_at 1 "x") (int 1)) ∷ items.Run (statements.Return 5 None) ∷ items.Run (statements.Break 7) ∷ []))
    ∷ [])

-- a parameter has the place of its name or of its `::`
abbrev pub places_of_parameters : Type 0
places_of_parameters =
    Each
    (placed script (codes "f ( a , b :: T , :: Base . U ) = 1") 4 (script_of (items.Def (method (bare_at 0 "f") (record { at = 2; name = Some (spot_at 2 "a"); declared = None } ∷ record { at = 4; name = Some (spot_at 4 "b"); declared = Some (bare_at 6 "T") } ∷ record { at = 8; name = None; declared = Some (of_at 9 "Base" 11 "U") } ∷ []) (statements.Value (int 1) ∷ [])) ∷ []))
    ∷ [])
