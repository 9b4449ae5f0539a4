-- Rows on expressions.
use Rattle.std.specs.Prelude.{[], ◌∷◌, codes}
use Rattle.pj_syntax.specs.declared.expression.Expr.TheVariants as trees
use Rattle.pj_syntax.specs.declared.statement.Stmt.TheVariants as statements
use Rattle.pj_syntax.specs.declared.item.Item.TheVariants as items
use Rattle.pj_grammar.specs.RowTexts.{Each, bare, call, int, latest, method, of, script_of, spot, stops, whole}
use Rattle.pj_grammar.specs.Texts.{script}

abbrev pub levels : Type 0
levels =
    Each
    (whole script (codes "x") 2 (script_of ((items.Run (statements.Value (trees.Name (bare "x")))) ∷ []))
    ∷ whole script (codes "1 + 2 * 3") 4 (script_of ((items.Run (statements.Value (call (of "Base" "+") ((int 1) ∷ (call (of "Base" "*") ((int 2) ∷ (int 3) ∷ [])) ∷ [])))) ∷ []))
    ∷ whole script (codes "1 * 2 + 3") 4 (script_of ((items.Run (statements.Value (call (of "Base" "+") ((call (of "Base" "*") ((int 1) ∷ (int 2) ∷ [])) ∷ (int 3) ∷ [])))) ∷ []))
    ∷ whole script (codes "1 - 2 - 3") 4 (script_of ((items.Run (statements.Value (call (of "Base" "-") ((call (of "Base" "-") ((int 1) ∷ (int 2) ∷ [])) ∷ (int 3) ∷ [])))) ∷ []))
    ∷ whole script (codes "a % b") 3 (script_of ((items.Run (statements.Value (call (of "Base" "rem") ((trees.Name (bare "a")) ∷ (trees.Name (bare "b")) ∷ [])))) ∷ []))
    ∷ whole script (codes "a && b && c") 4 (script_of ((items.Run (statements.Value (trees.And (trees.Name (bare "a")) (trees.And (trees.Name (bare "b")) (trees.Name (bare "c")))))) ∷ []))
    ∷ whole script (codes "a || b && c") 4 (script_of ((items.Run (statements.Value (trees.Or (trees.Name (bare "a")) (trees.And (trees.Name (bare "b")) (trees.Name (bare "c")))))) ∷ []))
    ∷ whole script (codes "a && b || c") 4 (script_of ((items.Run (statements.Value (trees.Or (trees.And (trees.Name (bare "a")) (trees.Name (bare "b"))) (trees.Name (bare "c"))))) ∷ []))
    ∷ whole script (codes "a == b") 3 (script_of ((items.Run (statements.Value (call (of "Base" "==") ((trees.Name (bare "a")) ∷ (trees.Name (bare "b")) ∷ [])))) ∷ []))
    ∷ whole script (codes "a !== b") 4 (script_of ((items.Run (statements.Value (trees.Cond (trees.Same (trees.Name (bare "a")) (trees.Name (bare "b"))) trees.False trees.True))) ∷ []))
    ∷ whole script (codes "a === b") 3 (script_of ((items.Run (statements.Value (trees.Same (trees.Name (bare "a")) (trees.Name (bare "b"))))) ∷ []))
    ∷ whole script (codes "a < b && c") 4 (script_of ((items.Run (statements.Value (trees.And (call (of "Base" "<") ((trees.Name (bare "a")) ∷ (trees.Name (bare "b")) ∷ [])) (trees.Name (bare "c"))))) ∷ []))
    ∷ [])

abbrev pub conditions : Type 0
conditions =
    Each
    (whole script (codes "a ? b : c ? d : e") 4 (script_of ((items.Run (statements.Value (trees.Cond (trees.Name (bare "a")) (trees.Name (bare "b")) (trees.Cond (trees.Name (bare "c")) (trees.Name (bare "d")) (trees.Name (bare "e")))))) ∷ []))
    ∷ whole script (codes "a ? b ? c : d : e") 4 (script_of ((items.Run (statements.Value (trees.Cond (trees.Name (bare "a")) (trees.Cond (trees.Name (bare "b")) (trees.Name (bare "c")) (trees.Name (bare "d"))) (trees.Name (bare "e"))))) ∷ []))
    ∷ whole script (codes "a || b ? c : d") 4 (script_of ((items.Run (statements.Value (trees.Cond (trees.Or (trees.Name (bare "a")) (trees.Name (bare "b"))) (trees.Name (bare "c")) (trees.Name (bare "d"))))) ∷ []))
    ∷ [])

abbrev pub conditions_refused : Type 0
conditions_refused =
    Each
    (stops script (codes "a ? b ; c") 3
    ∷ stops script (codes "a ? b : c : d") 5
    ∷ [])

abbrev pub prefixes_and_fields : Type 0
prefixes_and_fields =
    Each
    (whole script (codes "- x") 3 (script_of ((items.Run (statements.Value (call (of "Base" "-") ((trees.Name (bare "x")) ∷ [])))) ∷ []))
    ∷ whole script (codes "! ! x") 4 (script_of ((items.Run (statements.Value (call (of "Base" "!") ((call (of "Base" "!") ((trees.Name (bare "x")) ∷ [])) ∷ [])))) ∷ []))
    ∷ whole script (codes "- x * y") 4 (script_of ((items.Run (statements.Value (call (of "Base" "*") ((call (of "Base" "-") ((trees.Name (bare "x")) ∷ [])) ∷ (trees.Name (bare "y")) ∷ [])))) ∷ []))
    ∷ whole script (codes "- x . y") 4 (script_of ((items.Run (statements.Value (call (of "Base" "-") ((trees.Field (trees.Name (bare "x")) (spot "y")) ∷ [])))) ∷ []))
    ∷ whole script (codes "( 1 )") 3 (script_of ((items.Run (statements.Value (int 1))) ∷ []))
    ∷ whole script (codes "( a + b ) * c") 5 (script_of ((items.Run (statements.Value (call (of "Base" "*") ((call (of "Base" "+") ((trees.Name (bare "a")) ∷ (trees.Name (bare "b")) ∷ [])) ∷ (trees.Name (bare "c")) ∷ [])))) ∷ []))
    ∷ whole script (codes "( a ) . x") 4 (script_of ((items.Run (statements.Value (trees.Field (trees.Name (bare "a")) (spot "x")))) ∷ []))
    ∷ whole script (codes "M . x") 3 (script_of ((items.Run (statements.Value (trees.Field (trees.Name (bare "M")) (spot "x")))) ∷ []))
    ∷ whole script (codes "using M ; M . x") 2 (script_of ((items.Using (spot "M" ∷ [])) ∷ (items.Run (statements.Value (trees.Name (of "M" "x")))) ∷ []))
    ∷ whole script (codes "Base . x . y") 3 (script_of ((items.Run (statements.Value (trees.Field (trees.Name (of "Base" "x")) (spot "y")))) ∷ []))
    ∷ whole script (codes "Base . : %") 2 (script_of ((items.Run (statements.Value (trees.Name (of "Base" "rem")))) ∷ []))
    ∷ whole script (codes "'a") 2 (script_of ((items.Run (statements.Value (trees.Str (codes "a")))) ∷ []))
    ∷ whole script (codes "nothing") 2 (script_of ((items.Run (statements.Value trees.Nothing)) ∷ []))
    ∷ [])

abbrev pub calls : Type 0
calls =
    Each
    (whole script (codes "f ( )") 2 (script_of ((items.Run (statements.Value (call (bare "f") []))) ∷ []))
    ∷ whole script (codes "f ( a , 1 , )") 3 (script_of ((items.Run (statements.Value (call (bare "f") ((trees.Name (bare "a")) ∷ (int 1) ∷ [])))) ∷ []))
    ∷ whole script (codes "Base . abs ( x )") 3 (script_of ((items.Run (statements.Value (call (of "Base" "abs") ((trees.Name (bare "x")) ∷ [])))) ∷ []))
    ∷ whole script (codes "Base . : + ( 1 , 2 )") 3 (script_of ((items.Run (statements.Value (call (of "Base" "+") ((int 1) ∷ (int 2) ∷ [])))) ∷ []))
    ∷ whole script (codes "f ( x ) . y") 4 (script_of ((items.Run (statements.Value (trees.Field (call (bare "f") ((trees.Name (bare "x")) ∷ [])) (spot "y")))) ∷ []))
    ∷ whole script (codes "f ( g ( x , 1 ) + 2 )") 5 (script_of ((items.Run (statements.Value (call (bare "f") ((call (of "Base" "+") ((call (bare "g") ((trees.Name (bare "x")) ∷ (int 1) ∷ [])) ∷ (int 2) ∷ [])) ∷ [])))) ∷ []))
    ∷ whole script (codes "invokelatest ( f , 1 )") 3 (script_of ((items.Run (statements.Value (latest ((trees.Name (bare "f")) ∷ (int 1) ∷ [])))) ∷ []))
    ∷ whole script (codes "Base . invokelatest ( f )") 3 (script_of ((items.Run (statements.Value (latest ((trees.Name (bare "f")) ∷ [])))) ∷ []))
    ∷ whole script (codes "invokelatest ( ) = 1") 4 (script_of ((items.Def (method (bare "invokelatest") [] ((statements.Value (int 1)) ∷ []))) ∷ []))
    ∷ whole script (codes "eval ( x )") 3 (script_of ((items.Run (statements.Value (call (bare "eval") ((trees.Name (bare "x")) ∷ [])))) ∷ []))
    ∷ [])

abbrev pub refused : Type 0
refused =
    Each
    (stops script (codes "a < b < c") 3
    ∷ stops script (codes "f ( , )") 2
    ∷ stops script (codes "f _( x )") 1
    ∷ stops script (codes "x = invokelatest ( )") 4
    ∷ stops script (codes "invokelatest ( )") 3
    ∷ stops script (codes "invokelatest ( ) + 1") 3
    ∷ stops script (codes "x y") 1
    ∷ stops script (codes "1 ( x )") 1
    ∷ stops script (codes "f ( x ) ( y )") 4
    ∷ stops script (codes "Base . ( x )") 2
    ∷ stops script (codes "a +") 2
    ∷ stops script (codes ")") 0
    ∷ stops script (codes "x . 1") 2
    ∷ stops script (codes "( )") 1
    ∷ stops script (codes "( a , b )") 2
    ∷ stops script (codes "M . : +") 2
    ∷ stops script (codes "Base . : =") 3
    ∷ stops script (codes "f ( x") 3
    ∷ stops script (codes "* x") 0
    ∷ stops script (codes "x = = 1") 2
    ∷ [])
