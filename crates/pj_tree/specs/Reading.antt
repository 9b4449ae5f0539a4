-- The tree that stands at the front of bytes, by tags, with at most so many nodes on a path.
use Rattle.std.specs.Prelude.{ℕ, zero, suc, List, [], ◌∷◌, None}
use Rattle.pj_fields.specs.Fields.{Reader, done, made, both, number_at, int_at, list_at, tagged}
use Rattle.pj_tree.specs.declared.tree.Sym.{Sym}
use Rattle.pj_tree.specs.declared.tree.Sym.TheVariants as s
use Rattle.pj_tree.specs.declared.tree.Param.{Param}
use Rattle.pj_tree.specs.declared.tree.Expr.{Expr}
use Rattle.pj_tree.specs.declared.tree.Expr.TheVariants as e
use Rattle.pj_tree.specs.declared.tree.Stmt.{Stmt}
use Rattle.pj_tree.specs.declared.tree.Stmt.TheVariants as o
use Rattle.pj_tree.specs.declared.tree.Part.{Part}
use Rattle.pj_tree.specs.declared.tree.Part.TheVariants as part
use Rattle.pj_tree.specs.declared.tree.Payload.TheVariants as payload
use Rattle.pj_tree.specs.declared.tree.Body.{Body, roll-Body}
use Rattle.pj_tree.specs.declared.tree.DefTree.{DefTree, roll-DefTree}
use Rattle.pj_tree.specs.declared.tree.TreeNode.{TreeNode}
use Rattle.pj_tree.specs.declared.tree.TreeNode.TheVariants as node

abbrev pub sym_at : Reader Sym
sym_at = made s.Number number_at

abbrev pub syms_at : Reader (List Sym)
syms_at = list_at sym_at

abbrev pub part_at : Reader Part
part_at = made part.Number number_at

abbrev pub param_of : Sym × (Sym × Sym) → Param
param_of p = record { name = p.0; declared = record { «module» = p.1.0; name = p.1.1 } }

abbrev pub param_at : Reader Param
param_at = made param_of (both sym_at (both sym_at sym_at))

abbrev pub def_of : Sym × (Sym × (List Param × Part)) → DefTree
def_of x = roll-DefTree (record { «module» = x.0; fun = x.1.0; params = x.1.1.0; body = x.1.1.1 })

abbrev pub body_of : List Sym × (List Sym × List Stmt) → Body
body_of x = roll-Body (record { params = x.0; introduced = x.1.0; block = x.1.1 })

module _ (get : Reader Expr) where
  abbrev pub expr_rows : List (ℕ × Reader Expr)
  expr_rows =
      (0, done e.Nothing) ∷ (1, done e.False) ∷ (2, done e.True)
      ∷ (3, made e.Int int_at)
      ∷ (4, made e.Str sym_at)
      ∷ (5, made e.Local sym_at)
      ∷ (6, made (λ x. e.Global x.0 x.1) (both sym_at sym_at))
      ∷ (7, made (λ x. e.Field x.0 x.1) (both get sym_at))
      ∷ (8, made (λ x. e.Call x.0 x.1.0 x.1.1) (both sym_at (both sym_at (list_at get))))
      ∷ (9, made (λ x. e.CallLocal x.0 x.1) (both sym_at (list_at get)))
      ∷ (10, made (λ x. e.Latest x.0 x.1) (both get (list_at get)))
      ∷ (11, made (λ x. e.And x.0 x.1) (both get get))
      ∷ (12, made (λ x. e.Or x.0 x.1) (both get get))
      ∷ (13, made (λ x. e.Cond x.0 x.1.0 x.1.1) (both get (both get get)))
      ∷ (14, made (λ x. e.Same x.0 x.1) (both get get))
      ∷ []

  unfoldable pub expr_node_at : Reader Expr
  expr_node_at bytes = tagged expr_rows bytes

  module _ (get_stmt : Reader Stmt) where
    abbrev pub stmt_rows : List (ℕ × Reader Stmt)
    stmt_rows =
        (32, made o.Value get)
        ∷ (33, made (λ x. o.SetLocal x.0 x.1) (both sym_at get))
        ∷ (34, made (λ x. o.SetGlobal x.0 x.1) (both sym_at get))
        ∷ (35, made (λ x. o.SetField x.0 x.1.0 x.1.1) (both get (both sym_at get)))
        ∷ (36, made (λ x. o.If x.0 x.1.0 x.1.1) (both get (both (list_at get_stmt) (list_at get_stmt))))
        ∷ (37, made (λ x. o.While x.0 x.1.0 x.1.1) (both syms_at (both get (list_at get_stmt))))
        ∷ (38, made (λ x. o.For x.0 x.1.0 x.1.1.0 x.1.1.1.0 x.1.1.1.1) (both sym_at (both get (both get (both syms_at (list_at get_stmt))))))
        ∷ (39, done o.Break) ∷ (40, done o.Continue)
        ∷ (41, made o.Return get)
        ∷ (42, made (λ x. o.Eval x.0 x.1) (both sym_at part_at))
        ∷ []

    unfoldable pub stmt_node_at : Reader Stmt
    stmt_node_at bytes = tagged stmt_rows bytes

    abbrev pub tree_rows : List (ℕ × Reader TreeNode)
    tree_rows =
        (64, made (λ x. node.Payload (payload.Def (def_of x))) (both sym_at (both sym_at (both (list_at param_at) part_at))))
        ∷ (65, made (λ x. node.Payload (payload.SetBinding x.0 x.1)) (both sym_at get))
        ∷ (66, made (λ x. node.Payload (payload.Value x)) get)
        ∷ (67, made (λ x. node.Body (body_of x)) (both syms_at (both syms_at (list_at get_stmt))))
        ∷ []

    unfoldable pub tree_node_at : Reader TreeNode
    tree_node_at bytes = tagged tree_rows bytes

unfoldable pub expr_at : ℕ → Reader Expr
expr_at zero bytes = None
expr_at (suc below) bytes = expr_node_at (expr_at below) bytes

unfoldable pub stmt_at : ℕ → Reader Stmt
stmt_at zero bytes = None
stmt_at (suc below) bytes = stmt_node_at (expr_at below) (stmt_at below) bytes

-- the Body or payload is one node of the 128
unfoldable pub tree_at : Reader TreeNode
tree_at bytes = tree_node_at (expr_at 127) (stmt_at 127) bytes
