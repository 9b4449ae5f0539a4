-- The trees of items, from those of their parts.
use Rattle.std.proofs.Common.{◌≡◌, true, [], refl, ap}
use Rattle.pj_syntax.specs.declared.expression.Expr.{Expr}
use Rattle.pj_syntax.specs.declared.statement.Stmt.{Stmt}
use Rattle.pj_syntax.specs.declared.statement.Stmt.TheVariants as s
use Rattle.pj_syntax.specs.declared.item.Item.TheVariants as items
use Rattle.pj_tree.specs.declared.item.TopItem.TheVariants as top
use Rattle.pj_tree.specs.declared.tree.Stmt.TheVariants as t
use Rattle.pj_faults.proofs.LocatedLaws as l
use Rattle.pj_syntax.specs.declared.statement.Function.{Function}
use Rattle.pj_faults.specs.Located.{value_of, statement_of, method_of}
use Rattle.pj_scopes.specs.Resolved as r
use Rattle.pj_scopes.specs.Made.{value_tree, statement_tree, method_tree}

pub value-is : (e : Expr) → value_tree [] e ≡ r.value [] (value_of e)
unfolding value_tree
value-is e = refl

pub statement-is : (x : Stmt) → statement_tree true [] x ≡ r.statement true [] (statement_of x)
unfolding statement_tree
statement-is x = refl

pub method-is : (f : Function) → method_tree f ≡ r.defined (method_of f)
unfolding method_tree
method-is f = refl

-- a statement that is an expression
pub value-runs : (e : Expr) → r.item (items.Run (s.Value e)) ≡ top.Run (t.Value (value_tree [] e))
unfolding value_tree
value-runs e = ap (λ x. top.Run (r.statement true [] x)) (l.statement_of-Value e)

pub ruleset item_trees = (value-is, statement-is, method-is)

pub ruleset plain_items = (item_trees, value-runs)
