-- The tree of each part of a text, over the parser's own trees.
use Rattle.std.specs.Prelude.{Bool, List, Option, option_map}
use Rattle.pj_syntax.specs.declared.expression.Argument.{Argument}
use Rattle.pj_syntax.specs.declared.expression.Expr.{Expr as Syntax}
use Rattle.pj_syntax.specs.declared.statement.Stmt.{Stmt as Line}
use Rattle.pj_syntax.specs.declared.statement.Function.{Function}
use Rattle.pj_syntax.specs.declared.statement.Payload.{Payload as Evaluated}
use Rattle.pj_tree.specs.declared.tree.Sym.{Sym}
use Rattle.pj_tree.specs.declared.tree.Part.TheVariants as part
use Rattle.pj_tree.specs.declared.tree.TreeNode.TheVariants as node
use Rattle.pj_tree.specs.declared.tree.Expr.{Expr}
use Rattle.pj_tree.specs.declared.tree.Stmt.{Stmt}
use Rattle.pj_tree.specs.declared.tree.Payload.{Payload}
use Rattle.pj_tree.specs.declared.tree.DefTree.{DefTree}
use Rattle.pj_faults.specs.Located.{Text, value_of, arguments_of, statement_of, block_of, evaluated_of, method_of}
use Rattle.pj_scopes.specs.Resolved as r

unfoldable pub value_tree : List Text → Syntax → Expr
value_tree names a = r.value names (value_of a)

unfoldable pub values_tree : List Text → List Argument → List Expr
values_tree names es = r.values names (arguments_of es)

unfoldable pub returned_tree : List Text → Option Syntax → Expr
returned_tree names a = r.returned names (option_map value_of a)

unfoldable pub statement_tree : Bool → List Text → Line → Stmt
statement_tree top names t = r.statement top names (statement_of t)

unfoldable pub block_tree : Bool → List Text → List Line → List Stmt
block_tree top names b = r.block top names (block_of b)

unfoldable pub evaluated_tree : Evaluated → Payload
evaluated_tree p = r.evaluated (evaluated_of p)

unfoldable pub method_tree : Function → DefTree
method_tree f = r.defined (method_of f)

-- a definition, from what its body's scope introduces and its statements
abbrev pub defined_with : Function → List Sym → List Stmt → DefTree
defined_with f introduced block = record {
  «module» = r.home_of f.path;
  fun = r.own_of f.path;
  params = r.params_of f.params;
  body = part.Held (node.Body (record { params = r.names_of f.params; introduced = introduced; block = block }));
}
