-- Names as the strings of an image spell them, and the rules on lists of parameters and on expressions in no scope.
use Rattle.std.specs.Prelude.{ℕ, Bool, List, [], map, slice_get, unwrap_or}
use Rattle.pj_tree.specs.Reads.{Strings, text_of_sym, params_of, expr_of, exprs_of}
use Rattle.pj_tree.specs.Scopes.{is_among, names_twice, params_ok, expr_reads, exprs_read, own_expr_ok}
use Rattle.pj_tree.specs.declared.tree.Sym.{Sym}
use Rattle.pj_tree.specs.declared.tree.Param.{Param}
use Rattle.pj_tree.specs.declared.tree.Expr.{Expr}

-- the strings of a list by their numbers; a number without a string counts as the empty text
unfoldable pub strings_at : List (List ℕ) → Strings
strings_at texts n = unwrap_or (slice_get texts n) []

unfoldable pub text : List (List ℕ) → Sym → List ℕ
text texts x = text_of_sym (strings_at texts) x

-- the text of a parameter's or a field's name
abbrev pub param_text : List (List ℕ) → Param → List ℕ
param_text texts p = text texts p.name

unfoldable pub stands_among : List (List ℕ) → List ℕ → List Param → Bool
stands_among texts x params = is_among x (map (param_text texts) params)

unfoldable pub twice_named : List (List ℕ) → List Param → Bool
twice_named texts params = names_twice (map (param_text texts) params)

unfoldable pub params_are_ok : List (List ℕ) → List Param → Bool
params_are_ok texts params = params_ok (params_of (strings_at texts) params)

-- an expression in no scope reads no local
unfoldable pub scopeless : Strings → Expr → Bool
scopeless strings e = expr_reads [] (expr_of strings e)

unfoldable pub all_scopeless : Strings → List Expr → Bool
all_scopeless strings es = exprs_read [] (exprs_of (map (expr_of strings) es))

unfoldable pub expr_is_ok : Strings → Expr → Bool
expr_is_ok strings e = own_expr_ok (expr_of strings e)
