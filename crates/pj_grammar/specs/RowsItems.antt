-- Rows on items.
use Rattle.std.specs.Prelude.{true, false, Some, None, [], ◌∷◌, codes}
use Rattle.pj_syntax.specs.declared.expression.Expr.TheVariants as trees
use Rattle.pj_syntax.specs.declared.statement.Stmt.TheVariants as statements
use Rattle.pj_syntax.specs.declared.item.Item.TheVariants as items
use Rattle.pj_grammar.specs.RowTexts.{Each, bare, call, int, method, of, param, script_of, spot, stops, whole}
use Rattle.pj_grammar.specs.Texts.{script}

abbrev pub methods : Type 0
methods =
    Each
    (whole script (codes "f ( x , y :: T , :: Base . Int64 , ) = x") 4 (script_of ((items.Def (method (bare "f") ((param (Some (spot "x")) None) ∷ (param (Some (spot "y")) (Some (bare "T"))) ∷ (param None (Some (of "Base" "Int64"))) ∷ []) ((statements.Value (trees.Name (bare "x"))) ∷ []))) ∷ []))
    ∷ whole script (codes "f ( ) = 1") 4 (script_of ((items.Def (method (bare "f") [] ((statements.Value (int 1)) ∷ []))) ∷ []))
    ∷ whole script (codes "Base . : + ( a , b ) = 1") 4 (script_of ((items.Def (method (of "Base" "+") ((param (Some (spot "a")) None) ∷ (param (Some (spot "b")) None) ∷ []) ((statements.Value (int 1)) ∷ []))) ∷ []))
    ∷ whole script (codes "Base . f ( a ) = 1") 4 (script_of ((items.Def (method (of "Base" "f") ((param (Some (spot "a")) None) ∷ []) ((statements.Value (int 1)) ∷ []))) ∷ []))
    ∷ whole script (codes "function f ( x ) ; y = x ; return y end") 4 (script_of ((items.Def (method (bare "f") ((param (Some (spot "x")) None) ∷ []) ((statements.Set (spot "y") (trees.Name (bare "x"))) ∷ (statements.Return 0 (Some (trees.Name (bare "y")))) ∷ []))) ∷ []))
    ∷ whole script (codes "function Base . : ! ( x ) end") 2 (script_of ((items.Def (method (of "Base" "!") ((param (Some (spot "x")) None) ∷ []) [])) ∷ []))
    ∷ [])

abbrev pub methods_refused : Type 0
methods_refused =
    Each
    (stops script (codes "f ( a . b ) = 1") 6
    ∷ stops script (codes "f ( a , 1 , b :: T") 7
    ∷ stops script (codes "f ( a :: T + 1") 5
    ∷ stops script (codes "f ( a :: T )") 6
    ∷ stops script (codes "f ( x ) += 1") 4
    ∷ stops script (codes "if a ; f ( x ) = 1") 7
    ∷ stops script (codes "if a ; f ( x :: T") 6
    ∷ stops script (codes "f ( Base . x , y ) = 1") 8
    ∷ stops script (codes "f ( ( x ) ) = 1") 6
    ∷ stops script (codes "f ( x :: T . y )") 5
    ∷ stops script (codes "f ( :: T , , )") 5
    ∷ stops script (codes "function f ( 1 )") 3
    ∷ stops script (codes "function f ( x . y )") 4
    ∷ stops script (codes "function f ( x )") 5
    ∷ [])

abbrev pub declarations : Type 0
declarations =
    Each
    (whole script (codes "function f end") 0 (script_of ((items.Declare (spot "f")) ∷ []))
    ∷ whole script (codes "function f ; ; end") 0 (script_of ((items.Declare (spot "f")) ∷ []))
    ∷ [])

abbrev pub declarations_refused : Type 0
declarations_refused =
    Each
    (stops script (codes "function f _( x )") 2
    ∷ stops script (codes "function f x") 2
    ∷ stops script (codes "function M . f") 2
    ∷ stops script (codes "function Base . f end") 4
    ∷ stops script (codes "function f ; x") 3
    ∷ [])

abbrev pub types : Type 0
types =
    Each
    (whole script (codes "abstract type A end") 0 (script_of ((items.Abstract (spot "A") None) ∷ []))
    ∷ whole script (codes "abstract type A <: Base . Number end") 0 (script_of ((items.Abstract (spot "A") (Some (of "Base" "Number"))) ∷ []))
    ∷ whole script (codes "abstract = 1") 2 (script_of ((items.Run (statements.Set (spot "abstract") (int 1))) ∷ []))
    ∷ whole script (codes "mutable struct S end") 0 (script_of ((items.Struct true (spot "S") None []) ∷ []))
    ∷ whole script (codes "mutable = 1") 2 (script_of ((items.Run (statements.Set (spot "mutable") (int 1))) ∷ []))
    ∷ whole script (codes "struct S <: T x ; y :: Int64 end") 0 (script_of ((items.Struct false (spot "S") (Some (bare "T")) ((param (Some (spot "x")) None) ∷ (param (Some (spot "y")) (Some (bare "Int64"))) ∷ [])) ∷ []))
    ∷ whole script (codes "struct S ; ; x ; ; end") 0 (script_of ((items.Struct false (spot "S") None ((param (Some (spot "x")) None) ∷ [])) ∷ []))
    ∷ [])

abbrev pub types_refused : Type 0
types_refused =
    Each
    (stops script (codes "abstract type A ; end") 3
    ∷ stops script (codes "abstract x") 1
    ∷ stops script (codes "struct S x y") 3
    ∷ stops script (codes "mutable x") 1
    ∷ stops script (codes "if a ; struct") 3
    ∷ stops script (codes "if a ; abstract type") 4
    ∷ stops script (codes "struct S <: 1") 3
    ∷ stops script (codes "struct S x :: T y") 5
    ∷ stops script (codes "struct S :: T") 2
    ∷ stops script (codes "abstract type A <: Base . : +") 6
    ∷ stops script (codes "abstract type A <: T . x") 5
    ∷ stops script (codes "1 type") 1
    ∷ stops script (codes "x + abstract type") 3
    ∷ stops script (codes "type struct") 1
    ∷ [])

abbrev pub constants_and_uses : Type 0
constants_and_uses =
    Each
    (whole script (codes "const K = 1 + 2") 2 (script_of ((items.Const (spot "K") (call (of "Base" "+") ((int 1) ∷ (int 2) ∷ []))) ∷ []))
    ∷ whole script (codes "using A , B ; x") 2 (script_of ((items.Using (spot "A" ∷ spot "B" ∷ [])) ∷ (items.Run (statements.Value (trees.Name (bare "x")))) ∷ []))
    ∷ whole script (codes "using A , B ; B . x") 2 (script_of ((items.Using (spot "A" ∷ spot "B" ∷ [])) ∷ (items.Run (statements.Value (trees.Name (of "B" "x")))) ∷ []))
    ∷ whole script (codes "x ; using A") 2 (script_of ((items.Run (statements.Value (trees.Name (bare "x")))) ∷ (items.Using (spot "A" ∷ [])) ∷ []))
    ∷ whole script (codes "; ; x ; ;") 2 (script_of ((items.Run (statements.Value (trees.Name (bare "x")))) ∷ []))
    ∷ whole script ([]) 0 (script_of [])
    ∷ [])

abbrev pub constants_and_uses_refused : Type 0
constants_and_uses_refused =
    Each
    (stops script (codes "const K += 1") 2
    ∷ stops script (codes "const 1") 1
    ∷ stops script (codes "if a ; const") 3
    ∷ stops script (codes "using A B") 2
    ∷ stops script (codes "using A . x") 2
    ∷ stops script (codes "if a ; using") 3
    ∷ stops script (codes "x ; end") 2
    ∷ stops script (codes "precompile ( f , ( T , ) )") 6
    ∷ stops script (codes "precompile _(") 1
    ∷ stops script (codes "module P") 0
    ∷ stops script (codes "using 1") 1
    ∷ stops script (codes "using A ; A . : +") 5
    ∷ stops script (codes "const K") 2
    ∷ [])
