-- Rows on packages.
use Rattle.std.specs.Prelude.{Some, None, [], ◌∷◌, codes}
use Rattle.pj_syntax.specs.declared.expression.Expr.TheVariants as trees
use Rattle.pj_syntax.specs.declared.statement.Stmt.TheVariants as statements
use Rattle.pj_syntax.specs.declared.statement.Payload.TheVariants as payloads
use Rattle.pj_syntax.specs.declared.item.Item.TheVariants as items
use Rattle.pj_grammar.specs.RowTexts.{Each, bare, call, int, method, of, package_of, param, spot, stops, whole}
use Rattle.pj_grammar.specs.Texts.{«package»}

abbrev pub headers : Type 0
headers =
    Each
    (whole «package» (codes "module P ; end") 0 (package_of "P" [] [])
    ∷ whole «package» (codes "; module Q ; using A , B ; using C ; x = 1 ; end ;") 2 (package_of "Q" (spot "A" ∷ spot "B" ∷ spot "C" ∷ []) ((items.Run (statements.Set (spot "x") (int 1))) ∷ []))
    ∷ whole «package» (codes "module P ; using A ; end") 0 (package_of "P" (spot "A" ∷ []) [])
    ∷ [])

abbrev pub headers_refused : Type 0
headers_refused =
    Each
    (stops «package» (codes "module P end") 2
    ∷ stops «package» (codes "module ;") 1
    ∷ stops «package» (codes "x") 0
    ∷ stops «package» (codes "module P ; using A end") 5
    ∷ stops «package» (codes "module P ; x ; using A") 5
    ∷ stops «package» (codes "module P ; end x") 4
    ∷ stops «package» (codes "module P ; x") 4
    ∷ stops «package» ([]) 0
    ∷ stops «package» (codes "module P ; module") 3
    ∷ [])

abbrev pub directives : Type 0
directives =
    Each
    (whole «package» (codes "module P ; precompile ( f , ( ) ) ; end") 0 (package_of "P" [] ((items.Directive (bare "f") []) ∷ []))
    ∷ whole «package» (codes "module P ; precompile ( f , ( T , ) ) end") 0 (package_of "P" [] ((items.Directive (bare "f") ((bare "T") ∷ [])) ∷ []))
    ∷ whole «package» (codes "module P ; precompile ( f , ( T , U ) ) end") 0 (package_of "P" [] ((items.Directive (bare "f") ((bare "T") ∷ (bare "U") ∷ [])) ∷ []))
    ∷ whole «package» (codes "module P ; precompile _( Base . : + , ( Int64 , Base . Int64 , ) ) end") 0 (package_of "P" [] ((items.Directive (of "Base" "+") ((bare "Int64") ∷ (of "Base" "Int64") ∷ [])) ∷ []))
    ∷ whole «package» (codes "module P ; precompile ( f , ( T ) ) end") 4 (package_of "P" [] ((items.Run (statements.Value (call (bare "precompile") ((trees.Name (bare "f")) ∷ (trees.Name (bare "T")) ∷ [])))) ∷ []))
    ∷ whole «package» (codes "module P ; precompile ( f , x ) = 1 end") 4 (package_of "P" [] ((items.Def (method (bare "precompile") ((param (Some (spot "f")) None) ∷ (param (Some (spot "x")) None) ∷ []) ((statements.Value (int 1)) ∷ []))) ∷ []))
    ∷ [])

abbrev pub directives_refused : Type 0
directives_refused =
    Each
    (stops «package» (codes "module P ; precompile _( f , ( T )") 9
    ∷ stops «package» (codes "module P ; precompile ( f , ( T , ) , 1") 11
    ∷ stops «package» (codes "module P ; precompile ( f , g , ( T ,") 11
    ∷ stops «package» (codes "module P ; precompile ( f , ( T . x ,") 11
    ∷ stops «package» (codes "module P ; precompile ( 1 , ( T ,") 9
    ∷ stops «package» (codes "module P ; precompile ( f , ( T , T T") 11
    ∷ stops «package» (codes "module P ; x = precompile ( f , ( T ,") 11
    ∷ stops «package» (codes "module P ; precompile _( 1") 5
    ∷ stops «package» (codes "module P ; precompile ( f , ( Base . : + ,") 12
    ∷ stops «package» (codes "module P ; precompile ( f , ( ( T ) ,") 11
    ∷ stops «package» (codes "module P ; if a ; precompile ( f , ( )") 11
    ∷ [])

abbrev pub own_names : Type 0
own_names =
    Each
    (whole «package» (codes "module P ; P . f ( x ) = 1 end") 4 (package_of "P" [] ((items.Def (method (of "P" "f") ((param (Some (spot "x")) None) ∷ []) ((statements.Value (int 1)) ∷ []))) ∷ []))
    ∷ whole «package» (codes "module P ; @eval P x ; end") 3 (package_of "P" [] ((items.Run (statements.Eval (Some (spot "P")) (payloads.Value (trees.Name (bare "x"))))) ∷ []))
    ∷ whole «package» (codes "module P ; @eval P ; end") 3 (package_of "P" [] ((items.Run (statements.Eval None (payloads.Value (trees.Name (bare "P"))))) ∷ []))
    ∷ whole «package» (codes "module P ; using A ; A . f ( A . x , 1 ) end") 3 (package_of "P" (spot "A" ∷ []) ((items.Run (statements.Value (call (of "A" "f") ((trees.Name (of "A" "x")) ∷ (int 1) ∷ [])))) ∷ []))
    ∷ [])

abbrev pub own_names_refused : Type 0
own_names_refused =
    Each
    (stops «package» (codes "module P ; P . x = 1") 6
    ∷ stops «package» (codes "module P ; @eval P end") 5
    ∷ stops «package» (codes "module P ; @eval P") 5
    ∷ [])
