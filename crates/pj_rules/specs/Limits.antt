-- The limits of 16 and what stands outside its place, of trees whose names and parts are read as their meaning has them.
use Rattle.std.specs.Prelude.{Bool, List, map}
use Rattle.pj_tree.specs.Reads.{Strings, Parts, expr_of, exprs_of, stmt_of, block_of}
use Rattle.pj_tree.specs.Scopes.{few_arguments, few_in_all, few_in_stmt, few_in, stmt_strays, strays}
use Rattle.pj_tree.specs.declared.tree.Expr.{Expr}
use Rattle.pj_tree.specs.declared.tree.Stmt.{Stmt}

unfoldable pub few : Strings → Expr → Bool
few strings e = few_arguments (expr_of strings e)

unfoldable pub all_few : Strings → List Expr → Bool
all_few strings es = few_in_all (exprs_of (map (expr_of strings) es))

unfoldable pub stmt_few : Strings → Parts → Stmt → Bool
stmt_few strings parts s = few_in_stmt (stmt_of strings parts s)

unfoldable pub block_few : Strings → Parts → List Stmt → Bool
block_few strings parts b = few_in (block_of (map (stmt_of strings parts) b))

unfoldable pub stray : Strings → Parts → Bool → Bool → Stmt → Bool
stray strings parts in_body in_loop s = stmt_strays in_body in_loop (stmt_of strings parts s)

unfoldable pub block_stray : Strings → Parts → Bool → Bool → List Stmt → Bool
block_stray strings parts in_body in_loop b = strays in_body in_loop (block_of (map (stmt_of strings parts) b))
