-- Rows on statements.
use Rattle.std.specs.Prelude.{Some, None, [], ◌∷◌, codes}
use Rattle.pj_syntax.specs.declared.expression.Expr.TheVariants as trees
use Rattle.pj_syntax.specs.declared.statement.Stmt.TheVariants as statements
use Rattle.pj_syntax.specs.declared.statement.Payload.TheVariants as payloads
use Rattle.pj_syntax.specs.declared.item.Item.TheVariants as items
use Rattle.pj_grammar.specs.RowTexts.{Each, bare, call, int, method, of, param, script_of, spot, stops, whole}
use Rattle.pj_grammar.specs.Texts.{script}

abbrev pub assignments : Type 0
assignments =
    Each
    (whole script (codes "x = 1") 2 (script_of ((items.Run (statements.Set (spot "x") (int 1))) ∷ []))
    ∷ whole script (codes "x += 1") 3 (script_of ((items.Run (statements.Set (spot "x") (call (of "Base" "+") ((trees.Name (bare "x")) ∷ (int 1) ∷ [])))) ∷ []))
    ∷ whole script (codes "x . y = 1") 2 (script_of ((items.Run (statements.SetField (trees.Name (bare "x")) (spot "y") (int 1))) ∷ []))
    ∷ whole script (codes "x . y . z -= 1") 5 (script_of ((items.Run (statements.SetField (trees.Field (trees.Name (bare "x")) (spot "y")) (spot "z") (call (of "Base" "-") ((trees.Field (trees.Field (trees.Name (bare "x")) (spot "y")) (spot "z")) ∷ (int 1) ∷ [])))) ∷ []))
    ∷ whole script (codes "Base . x . y = 1") 2 (script_of ((items.Run (statements.SetField (trees.Name (of "Base" "x")) (spot "y") (int 1))) ∷ []))
    ∷ whole script (codes "M . x = 1") 2 (script_of ((items.Run (statements.SetField (trees.Name (bare "M")) (spot "x") (int 1))) ∷ []))
    ∷ whole script (codes "global x = 1") 2 (script_of ((items.Run (statements.Global 0 (spot "x") (int 1))) ∷ []))
    ∷ whole script (codes "global x *= 2") 3 (script_of ((items.Run (statements.Global 0 (spot "x") (call (of "Base" "*") ((trees.Name (bare "x")) ∷ (int 2) ∷ [])))) ∷ []))
    ∷ [])

abbrev pub assignments_refused : Type 0
assignments_refused =
    Each
    (stops script (codes "x = y = 1") 3
    ∷ stops script (codes "Base . x = 1") 3
    ∷ stops script (codes "using M ; M . x = 1") 6
    ∷ stops script (codes "( x ) = 1") 3
    ∷ stops script (codes "f ( x ) . y = 1") 6
    ∷ stops script (codes "x + y = 1") 3
    ∷ stops script (codes "f ( 1 ) = 2") 4
    ∷ stops script (codes "global x") 2
    ∷ stops script (codes "global x . y = 1") 2
    ∷ stops script (codes "Base . : + = 1") 4
    ∷ [])

abbrev pub jumps : Type 0
jumps =
    Each
    (whole script (codes "return") 2 (script_of ((items.Run (statements.Return 0 None)) ∷ []))
    ∷ whole script (codes "return x") 2 (script_of ((items.Run (statements.Return 0 (Some (trees.Name (bare "x"))))) ∷ []))
    ∷ whole script (codes "return ; x") 2 (script_of ((items.Run (statements.Return 0 None)) ∷ (items.Run (statements.Value (trees.Name (bare "x")))) ∷ []))
    ∷ whole script (codes "if a ; return end") 3 (script_of ((items.Run (statements.If (trees.Name (bare "a")) ((statements.Return 0 None) ∷ []) [])) ∷ []))
    ∷ whole script (codes "break ; continue") 1 (script_of ((items.Run (statements.Break 0)) ∷ (items.Run (statements.Continue 0)) ∷ []))
    ∷ [])

abbrev pub jumps_refused : Type 0
jumps_refused =
    Each
    (stops script (codes "break x") 1
    ∷ stops script (codes "return = 1") 1
    ∷ [])

abbrev pub branches : Type 0
branches =
    Each
    (whole script (codes "if a ; x ; elseif b ; y ; else ; z ; end") 4 (script_of ((items.Run (statements.If (trees.Name (bare "a")) ((statements.Value (trees.Name (bare "x"))) ∷ []) ((statements.If (trees.Name (bare "b")) ((statements.Value (trees.Name (bare "y"))) ∷ []) ((statements.Value (trees.Name (bare "z"))) ∷ [])) ∷ []))) ∷ []))
    ∷ whole script (codes "if a ; elseif b ; elseif c ; x end ; y") 5 (script_of ((items.Run (statements.If (trees.Name (bare "a")) [] ((statements.If (trees.Name (bare "b")) [] ((statements.If (trees.Name (bare "c")) ((statements.Value (trees.Name (bare "x"))) ∷ []) []) ∷ [])) ∷ []))) ∷ (items.Run (statements.Value (trees.Name (bare "y")))) ∷ []))
    ∷ whole script (codes "if a ; else end") 2 (script_of ((items.Run (statements.If (trees.Name (bare "a")) [] [])) ∷ []))
    ∷ whole script (codes "if a ; x else y end") 3 (script_of ((items.Run (statements.If (trees.Name (bare "a")) ((statements.Value (trees.Name (bare "x"))) ∷ []) ((statements.Value (trees.Name (bare "y"))) ∷ []))) ∷ []))
    ∷ [])

abbrev pub branches_refused : Type 0
branches_refused =
    Each
    (stops script (codes "if a x end") 2
    ∷ stops script (codes "if a ; else ; elseif b ; end") 5
    ∷ stops script (codes "if a ; else ; else") 5
    ∷ stops script (codes "if ; a") 1
    ∷ stops script (codes "if a ; x") 4
    ∷ stops script (codes "else") 0
    ∷ stops script (codes "while a ; else") 3
    ∷ [])

abbrev pub loops : Type 0
loops =
    Each
    (whole script (codes "while a ; x = 1 end") 3 (script_of ((items.Run (statements.While (trees.Name (bare "a")) ((statements.Set (spot "x") (int 1)) ∷ []))) ∷ []))
    ∷ whole script (codes "for i in 1 : n ; end") 2 (script_of ((items.Run (statements.For (spot "i") (int 1) (trees.Name (bare "n")) [])) ∷ []))
    ∷ whole script (codes "for i = a + 1 : b * 2 ; f ( i ) ; end") 4 (script_of ((items.Run (statements.For (spot "i") (call (of "Base" "+") ((trees.Name (bare "a")) ∷ (int 1) ∷ [])) (call (of "Base" "*") ((trees.Name (bare "b")) ∷ (int 2) ∷ [])) ((statements.Value (call (bare "f") ((trees.Name (bare "i")) ∷ []))) ∷ []))) ∷ []))
    ∷ whole script (codes "for i in ( a < b ) : c ; end") 4 (script_of ((items.Run (statements.For (spot "i") (call (of "Base" "<") ((trees.Name (bare "a")) ∷ (trees.Name (bare "b")) ∷ [])) (trees.Name (bare "c")) [])) ∷ []))
    ∷ [])

abbrev pub loops_refused : Type 0
loops_refused =
    Each
    (stops script (codes "for i in a < b : c ; end") 4
    ∷ stops script (codes "for i in a ? b : c") 4
    ∷ stops script (codes "for i x") 2
    ∷ stops script (codes "for i in 1 ; x") 4
    ∷ stops script (codes "for 1") 1
    ∷ stops script (codes "for i in 1 : 2 : 3") 6
    ∷ stops script (codes "while a end") 2
    ∷ [])

abbrev pub evaluations : Type 0
evaluations =
    Each
    (whole script (codes "@eval x = 1") 3 (script_of ((items.Run (statements.Eval None (payloads.Set (spot "x") (int 1)))) ∷ []))
    ∷ whole script (codes "@eval f ( x ) = x") 5 (script_of ((items.Run (statements.Eval None (payloads.Def (method (bare "f") ((param (Some (spot "x")) None) ∷ []) ((statements.Value (trees.Name (bare "x"))) ∷ []))))) ∷ []))
    ∷ whole script (codes "@eval f ( x :: T ) = x") 5 (script_of ((items.Run (statements.Eval None (payloads.Def (method (bare "f") ((param (Some (spot "x")) (Some (bare "T"))) ∷ []) ((statements.Value (trees.Name (bare "x"))) ∷ []))))) ∷ []))
    ∷ whole script (codes "@eval function f ( ) end") 3 (script_of ((items.Run (statements.Eval None (payloads.Def (method (bare "f") [] [])))) ∷ []))
    ∷ whole script (codes "@eval Base x = 1") 3 (script_of ((items.Run (statements.Eval (Some (spot "Base")) (payloads.Set (spot "x") (int 1)))) ∷ []))
    ∷ whole script (codes "@eval Base") 3 (script_of ((items.Run (statements.Eval None (payloads.Value (trees.Name (bare "Base"))))) ∷ []))
    ∷ whole script (codes "@eval Base ; x") 3 (script_of ((items.Run (statements.Eval None (payloads.Value (trees.Name (bare "Base"))))) ∷ (items.Run (statements.Value (trees.Name (bare "x")))) ∷ []))
    ∷ whole script (codes "@eval Base . x") 3 (script_of ((items.Run (statements.Eval None (payloads.Value (trees.Name (of "Base" "x"))))) ∷ []))
    ∷ whole script (codes "@eval Base ( x )") 4 (script_of ((items.Run (statements.Eval None (payloads.Value (call (bare "Base") ((trees.Name (bare "x")) ∷ []))))) ∷ []))
    ∷ whole script (codes "@eval Base ( x ) = 1") 5 (script_of ((items.Run (statements.Eval None (payloads.Def (method (bare "Base") ((param (Some (spot "x")) None) ∷ []) ((statements.Value (int 1)) ∷ []))))) ∷ []))
    ∷ whole script (codes "@eval Base _( x )") 4 (script_of ((items.Run (statements.Eval (Some (spot "Base")) (payloads.Value (trees.Name (bare "x"))))) ∷ []))
    ∷ whole script (codes "@eval Base - 1") 4 (script_of ((items.Run (statements.Eval (Some (spot "Base")) (payloads.Value (call (of "Base" "-") ((int 1) ∷ []))))) ∷ []))
    ∷ whole script (codes "@eval Base Base") 3 (script_of ((items.Run (statements.Eval (Some (spot "Base")) (payloads.Value (trees.Name (bare "Base"))))) ∷ []))
    ∷ whole script (codes "if a ; @eval Base ; end") 4 (script_of ((items.Run (statements.If (trees.Name (bare "a")) ((statements.Eval None (payloads.Value (trees.Name (bare "Base")))) ∷ []) [])) ∷ []))
    ∷ [])

abbrev pub evaluations_refused : Type 0
evaluations_refused =
    Each
    (stops script (codes "@eval x += 1") 2
    ∷ stops script (codes "@eval x . y = 1") 4
    ∷ stops script (codes "@eval function f end") 3
    ∷ stops script (codes "@eval Base = 1") 2
    ∷ stops script (codes "@eval Base + 1") 2
    ∷ stops script (codes "if a ; @eval Base end") 5
    ∷ stops script (codes "@eval ; x") 1
    ∷ stops script (codes "@eval return") 1
    ∷ stops script (codes "@eval global x = 1") 1
    ∷ [])

abbrev pub quoted : Type 0
quoted =
    Each
    (whole script (codes "eval ( : ( x = 1 ) )") 3 (script_of ((items.Run (statements.Eval None (payloads.Set (spot "x") (int 1)))) ∷ []))
    ∷ whole script (codes "eval _( : ( 1 ) )") 3 (script_of ((items.Run (statements.Eval None (payloads.Value (int 1)))) ∷ []))
    ∷ whole script (codes "eval ( : ( Base ) )") 3 (script_of ((items.Run (statements.Eval None (payloads.Value (trees.Name (bare "Base"))))) ∷ []))
    ∷ whole script (codes "eval ( : ( function f ( x ) x end ) )") 5 (script_of ((items.Run (statements.Eval None (payloads.Def (method (bare "f") ((param (Some (spot "x")) None) ∷ []) ((statements.Value (trees.Name (bare "x"))) ∷ []))))) ∷ []))
    ∷ whole script (codes "if a ; eval ( : ( f ( ) = 1 ) ) end") 6 (script_of ((items.Run (statements.If (trees.Name (bare "a")) ((statements.Eval None (payloads.Def (method (bare "f") [] ((statements.Value (int 1)) ∷ [])))) ∷ []) [])) ∷ []))
    ∷ [])

abbrev pub quoted_refused : Type 0
quoted_refused =
    Each
    (stops script (codes "x = eval ( : ( 1 ) )") 4
    ∷ stops script (codes "eval ( : ( 1 ) ;") 6
    ∷ stops script (codes "eval _( x )") 2
    ∷ stops script (codes "f ( : ( 1 ) )") 2
    ∷ stops script (codes "eval ( : 1") 3
    ∷ stops script (codes "eval ( x , : (") 4
    ∷ stops script (codes "@eval eval _(") 2
    ∷ [])
