-- The two laws of whole trees.
use Rattle.std.proofs.Common.{◌≡◌, ℕ, List, ◌++◌, Some, sym, ap, subst, ◌∙◌, arith}
use Rattle.pj_fields.specs.Fields.{Reader, number, list, made, both, list_at, tagged}
use Rattle.pj_fields.proofs.Laws.{IsBytes, Taken, Laws, both_laws, list_laws, made_again, Arm, arm_of, tagged_takes, tagged_again}
use Rattle.pj_tree.specs.declared.tree.Sym.{Sym}
use Rattle.pj_tree.specs.declared.tree.Param.{Param}
use Rattle.pj_tree.specs.declared.tree.Expr.{Expr}
use Rattle.pj_tree.specs.declared.tree.Stmt.{Stmt}
use Rattle.pj_tree.specs.declared.tree.Part.{Part}
use Rattle.pj_tree.specs.declared.tree.Payload.{Payload, out-Payload, roll-Payload}
use Rattle.pj_tree.specs.declared.tree.Payload.TheVariants as payload
use Rattle.pj_tree.specs.declared.tree.Body.{Body, out-Body}
use Rattle.pj_tree.specs.declared.tree.DefTree.{DefTree, out-DefTree}
use Rattle.pj_tree.specs.declared.tree.TreeNode.{TreeNode, out-TreeNode, roll-TreeNode}
use Rattle.pj_tree.specs.declared.tree.TreeNode.TheVariants as node
use Rattle.pj_tree.specs.declared.tree.Part.TheOpen.{Payload-F, TreeNode-F}
use Rattle.pj_tree.specs.declared.tree.Part.TheViews.{roll-out-TreeNode, roll-out-Payload, roll-out-Body, roll-out-DefTree}
use Rattle.pj_tree.specs.declared.tree.Part.TheFolds.{fold-roll-TreeNode, fold-roll-Payload, fold-roll-Body, fold-roll-DefTree}
use Rattle.pj_tree.specs.Bytes.{Bytes, sym as sym_bytes, syms, param, params, expr, stmt, tree, part_bytes, part_step, payload_step, stmt_step, tree_step, body_step, def_step}
use Rattle.pj_tree.specs.Spelled.{payload as payload_spelled}
use Rattle.pj_tree.specs.Fits.{ListFits, SymFits, ParamFits, PartFits, ExprFits, StmtFits, DefNodeFits, BodyNodeFits, PayloadNodeFits, TreeNodeFits, TreeFitsBelow, TreeFits}
use Rattle.pj_tree.specs.Reading.{sym_at, syms_at, part_at, param_at, expr_at, stmt_at, def_of, body_of, tree_rows, tree_node_at, tree_at}
use Rattle.pj_tree.proofs.NameLaws.{parts-is, sym_laws, syms_laws, params_laws, part_laws, assoc-2, assoc-3, assoc-4}
use Rattle.pj_tree.proofs.ExprLaws.{expr_laws}
use Rattle.pj_tree.proofs.StmtLaws.{stmt_laws}

abbrev NodeFits : (Expr → Type 0) → (Stmt → Type 0) → TreeNode → Type 0
NodeFits P S t = TreeNodeFits P S (out-TreeNode t)

-- ---- the bytes of each form

as-payload : (p : Payload) → tree (node.Payload p) ≡ payload_spelled p
as-payload p = ap tree (sym (node.rolls-Payload p)) ∙ fold-roll-TreeNode Bytes Bytes Bytes Bytes Bytes Bytes part_step payload_step stmt_step tree_step body_step def_step (TreeNode-F.Payload p)

spelled-Def : (a b : Sym) (c : List Param) (d : Part) → tree (node.Payload (payload.Def (def_of (a, (b, (c, d)))))) ≡ number 64 ++ (sym_bytes a ++ (sym_bytes b ++ (list param c ++ part_bytes d)))
unfolding params
spelled-Def a b c d =
    as-payload (payload.Def (def_of (a, (b, (c, d)))))
    ∙ ap payload_spelled (sym (payload.rolls-Def (def_of (a, (b, (c, d))))))
    ∙ fold-roll-Payload Bytes Bytes Bytes Bytes Bytes Bytes part_step payload_step stmt_step tree_step body_step def_step (Payload-F.Def (def_of (a, (b, (c, d)))))
    ∙ fold-roll-DefTree Bytes Bytes Bytes Bytes Bytes Bytes part_step payload_step stmt_step tree_step body_step def_step (record { «module» = a; fun = b; params = c; body = d })
    ∙ assoc-4 (number 64) (sym_bytes a) (sym_bytes b) (list param c) (part_bytes d)

spelled-SetBinding : (a : Sym) (b : Expr) → tree (node.Payload (payload.SetBinding a b)) ≡ number 65 ++ (sym_bytes a ++ expr b)
spelled-SetBinding a b =
    as-payload (payload.SetBinding a b)
    ∙ ap payload_spelled (sym (payload.rolls-SetBinding a b))
    ∙ fold-roll-Payload Bytes Bytes Bytes Bytes Bytes Bytes part_step payload_step stmt_step tree_step body_step def_step (Payload-F.SetBinding a b)
    ∙ assoc-2 (number 65) (sym_bytes a) (expr b)

spelled-Value : (a : Expr) → tree (node.Payload (payload.Value a)) ≡ number 66 ++ expr a
spelled-Value a =
    as-payload (payload.Value a)
    ∙ ap payload_spelled (sym (payload.rolls-Value a))
    ∙ fold-roll-Payload Bytes Bytes Bytes Bytes Bytes Bytes part_step payload_step stmt_step tree_step body_step def_step (Payload-F.Payload::Value a)

spelled-Body : (a b : List Sym) (c : List Stmt) → tree (node.Body (body_of (a, (b, c)))) ≡ number 67 ++ (list sym_bytes a ++ (list sym_bytes b ++ list stmt c))
unfolding syms
spelled-Body a b c =
    ap tree (sym (node.rolls-Body (body_of (a, (b, c)))))
    ∙ fold-roll-TreeNode Bytes Bytes Bytes Bytes Bytes Bytes part_step payload_step stmt_step tree_step body_step def_step (TreeNode-F.Body (body_of (a, (b, c))))
    ∙ fold-roll-Body Bytes Bytes Bytes Bytes Bytes Bytes part_step payload_step stmt_step tree_step body_step def_step (record { params = a; introduced = b; block = c })
    ∙ ap (λ (y : Bytes). number 67 ++ list sym_bytes a ++ list sym_bytes b ++ y) (parts-is stmt c)
    ∙ assoc-3 (number 67) (list sym_bytes a) (list sym_bytes b) (list stmt c)

-- ---- one node

module _ (get : Reader Expr) (P : Expr → Type 0) (laws : Laws expr get P) (get_stmt : Reader Stmt) (S : Stmt → Type 0) (stmts : Laws stmt get_stmt S) where
  arm-Def : Arm tree (NodeFits P S) 64 (made (λ (x : (Sym × (Sym × ((List Param) × Part)))). node.Payload (payload.Def (def_of x))) (both sym_at (both sym_at (both (list_at param_at) part_at))))
  arm-Def = arm_of tree (NodeFits P S) 64 (λ (x : (Sym × (Sym × ((List Param) × Part)))). node.Payload (payload.Def (def_of x))) (λ (x : (Sym × (Sym × ((List Param) × Part)))). sym_bytes x.0 ++ (λ (x : (Sym × ((List Param) × Part))). sym_bytes x.0 ++ (λ (x : ((List Param) × Part)). (list param) x.0 ++ part_bytes x.1) x.1) x.1) (both sym_at (both sym_at (both (list_at param_at) part_at))) (λ (x : (Sym × (Sym × ((List Param) × Part)))). SymFits x.0 × (λ (x : (Sym × ((List Param) × Part))). SymFits x.0 × (λ (x : ((List Param) × Part)). (ListFits ParamFits) x.0 × PartFits x.1) x.1) x.1) (both_laws sym_bytes sym_at SymFits (λ (x : (Sym × ((List Param) × Part))). sym_bytes x.0 ++ (λ (x : ((List Param) × Part)). (list param) x.0 ++ part_bytes x.1) x.1) (both sym_at (both (list_at param_at) part_at)) (λ (x : (Sym × ((List Param) × Part))). SymFits x.0 × (λ (x : ((List Param) × Part)). (ListFits ParamFits) x.0 × PartFits x.1) x.1) sym_laws (both_laws sym_bytes sym_at SymFits (λ (x : ((List Param) × Part)). (list param) x.0 ++ part_bytes x.1) (both (list_at param_at) part_at) (λ (x : ((List Param) × Part)). (ListFits ParamFits) x.0 × PartFits x.1) sym_laws (both_laws (list param) (list_at param_at) (ListFits ParamFits) part_bytes part_at PartFits params_laws part_laws))) (λ x. spelled-Def x.0 x.1.0 x.1.1.0 x.1.1.1) (λ x h. rw (node.outs-Payload (payload.Def (def_of x)), payload.outs-Def (def_of x)) h)

  again-Def : (x : (Sym × (Sym × ((List Param) × Part)))) (rest : List ℕ) → ((λ (x : (Sym × (Sym × ((List Param) × Part)))). SymFits x.0 × (λ (x : (Sym × ((List Param) × Part))). SymFits x.0 × (λ (x : ((List Param) × Part)). (ListFits ParamFits) x.0 × PartFits x.1) x.1) x.1)) x → tagged (tree_rows get get_stmt) (tree (node.Payload (payload.Def (def_of x))) ++ rest) ≡ Some (node.Payload (payload.Def (def_of x)), rest)
  again-Def x rest fits = tagged_again tree (NodeFits P S) (tree_rows get get_stmt) 64 (node.Payload (payload.Def (def_of x))) ((sym_bytes x.0 ++ (sym_bytes x.1.0 ++ (list param x.1.1.0 ++ part_bytes x.1.1.1)))) rest (omega arith) (spelled-Def x.0 x.1.0 x.1.1.0 x.1.1.1) (made_again (λ (x : (Sym × (Sym × ((List Param) × Part)))). node.Payload (payload.Def (def_of x))) (λ (x : (Sym × (Sym × ((List Param) × Part)))). sym_bytes x.0 ++ (λ (x : (Sym × ((List Param) × Part))). sym_bytes x.0 ++ (λ (x : ((List Param) × Part)). (list param) x.0 ++ part_bytes x.1) x.1) x.1) (both sym_at (both sym_at (both (list_at param_at) part_at))) (λ (x : (Sym × (Sym × ((List Param) × Part)))). SymFits x.0 × (λ (x : (Sym × ((List Param) × Part))). SymFits x.0 × (λ (x : ((List Param) × Part)). (ListFits ParamFits) x.0 × PartFits x.1) x.1) x.1) (both_laws sym_bytes sym_at SymFits (λ (x : (Sym × ((List Param) × Part))). sym_bytes x.0 ++ (λ (x : ((List Param) × Part)). (list param) x.0 ++ part_bytes x.1) x.1) (both sym_at (both (list_at param_at) part_at)) (λ (x : (Sym × ((List Param) × Part))). SymFits x.0 × (λ (x : ((List Param) × Part)). (ListFits ParamFits) x.0 × PartFits x.1) x.1) sym_laws (both_laws sym_bytes sym_at SymFits (λ (x : ((List Param) × Part)). (list param) x.0 ++ part_bytes x.1) (both (list_at param_at) part_at) (λ (x : ((List Param) × Part)). (ListFits ParamFits) x.0 × PartFits x.1) sym_laws (both_laws (list param) (list_at param_at) (ListFits ParamFits) part_bytes part_at PartFits params_laws part_laws))) x rest fits)

  arm-SetBinding : Arm tree (NodeFits P S) 65 (made (λ (x : (Sym × Expr)). node.Payload (payload.SetBinding x.0 x.1)) (both sym_at get))
  arm-SetBinding = arm_of tree (NodeFits P S) 65 (λ (x : (Sym × Expr)). node.Payload (payload.SetBinding x.0 x.1)) (λ (x : (Sym × Expr)). sym_bytes x.0 ++ expr x.1) (both sym_at get) (λ (x : (Sym × Expr)). SymFits x.0 × P x.1) (both_laws sym_bytes sym_at SymFits expr get P sym_laws laws) (λ x. spelled-SetBinding x.0 x.1) (λ x h. rw (node.outs-Payload (payload.SetBinding x.0 x.1), payload.outs-SetBinding x.0 x.1) h)

  again-SetBinding : (x : (Sym × Expr)) (rest : List ℕ) → ((λ (x : (Sym × Expr)). SymFits x.0 × P x.1)) x → tagged (tree_rows get get_stmt) (tree (node.Payload (payload.SetBinding x.0 x.1)) ++ rest) ≡ Some (node.Payload (payload.SetBinding x.0 x.1), rest)
  again-SetBinding x rest fits = tagged_again tree (NodeFits P S) (tree_rows get get_stmt) 65 (node.Payload (payload.SetBinding x.0 x.1)) ((sym_bytes x.0 ++ expr x.1)) rest (omega arith) (spelled-SetBinding x.0 x.1) (made_again (λ (x : (Sym × Expr)). node.Payload (payload.SetBinding x.0 x.1)) (λ (x : (Sym × Expr)). sym_bytes x.0 ++ expr x.1) (both sym_at get) (λ (x : (Sym × Expr)). SymFits x.0 × P x.1) (both_laws sym_bytes sym_at SymFits expr get P sym_laws laws) x rest fits)

  arm-Value : Arm tree (NodeFits P S) 66 (made (λ (x : Expr). node.Payload (payload.Value x)) get)
  arm-Value = arm_of tree (NodeFits P S) 66 (λ (x : Expr). node.Payload (payload.Value x)) expr get P laws (λ x. spelled-Value x) (λ x h. rw (node.outs-Payload (payload.Value x), payload.outs-Value x) h)

  again-Value : (x : Expr) (rest : List ℕ) → P x → tagged (tree_rows get get_stmt) (tree (node.Payload (payload.Value x)) ++ rest) ≡ Some (node.Payload (payload.Value x), rest)
  again-Value x rest fits = tagged_again tree (NodeFits P S) (tree_rows get get_stmt) 66 (node.Payload (payload.Value x)) (expr x) rest (omega arith) (spelled-Value x) (made_again (λ (x : Expr). node.Payload (payload.Value x)) expr get P laws x rest fits)

  arm-Body : Arm tree (NodeFits P S) 67 (made (λ (x : ((List Sym) × ((List Sym) × (List Stmt)))). node.Body (body_of x)) (both syms_at (both syms_at (list_at get_stmt))))
  arm-Body = arm_of tree (NodeFits P S) 67 (λ (x : ((List Sym) × ((List Sym) × (List Stmt)))). node.Body (body_of x)) (λ (x : ((List Sym) × ((List Sym) × (List Stmt)))). (list sym_bytes) x.0 ++ (λ (x : ((List Sym) × (List Stmt))). (list sym_bytes) x.0 ++ (list stmt) x.1) x.1) (both syms_at (both syms_at (list_at get_stmt))) (λ (x : ((List Sym) × ((List Sym) × (List Stmt)))). (ListFits SymFits) x.0 × (λ (x : ((List Sym) × (List Stmt))). (ListFits SymFits) x.0 × (ListFits S) x.1) x.1) (both_laws (list sym_bytes) syms_at (ListFits SymFits) (λ (x : ((List Sym) × (List Stmt))). (list sym_bytes) x.0 ++ (list stmt) x.1) (both syms_at (list_at get_stmt)) (λ (x : ((List Sym) × (List Stmt))). (ListFits SymFits) x.0 × (ListFits S) x.1) syms_laws (both_laws (list sym_bytes) syms_at (ListFits SymFits) (list stmt) (list_at get_stmt) (ListFits S) syms_laws (list_laws stmt get_stmt S stmts))) (λ x. spelled-Body x.0 x.1.0 x.1.1) (λ x h. rw (node.outs-Body (body_of x)) h)

  again-Body : (x : ((List Sym) × ((List Sym) × (List Stmt)))) (rest : List ℕ) → ((λ (x : ((List Sym) × ((List Sym) × (List Stmt)))). (ListFits SymFits) x.0 × (λ (x : ((List Sym) × (List Stmt))). (ListFits SymFits) x.0 × (ListFits S) x.1) x.1)) x → tagged (tree_rows get get_stmt) (tree (node.Body (body_of x)) ++ rest) ≡ Some (node.Body (body_of x), rest)
  again-Body x rest fits = tagged_again tree (NodeFits P S) (tree_rows get get_stmt) 67 (node.Body (body_of x)) ((list sym_bytes x.0 ++ (list sym_bytes x.1.0 ++ list stmt x.1.1))) rest (omega arith) (spelled-Body x.0 x.1.0 x.1.1) (made_again (λ (x : ((List Sym) × ((List Sym) × (List Stmt)))). node.Body (body_of x)) (λ (x : ((List Sym) × ((List Sym) × (List Stmt)))). (list sym_bytes) x.0 ++ (λ (x : ((List Sym) × (List Stmt))). (list sym_bytes) x.0 ++ (list stmt) x.1) x.1) (both syms_at (both syms_at (list_at get_stmt))) (λ (x : ((List Sym) × ((List Sym) × (List Stmt)))). (ListFits SymFits) x.0 × (λ (x : ((List Sym) × (List Stmt))). (ListFits SymFits) x.0 × (ListFits S) x.1) x.1) (both_laws (list sym_bytes) syms_at (ListFits SymFits) (λ (x : ((List Sym) × (List Stmt))). (list sym_bytes) x.0 ++ (list stmt) x.1) (both syms_at (list_at get_stmt)) (λ (x : ((List Sym) × (List Stmt))). (ListFits SymFits) x.0 × (ListFits S) x.1) syms_laws (both_laws (list sym_bytes) syms_at (ListFits SymFits) (list stmt) (list_at get_stmt) (ListFits S) syms_laws (list_laws stmt get_stmt S stmts))) x rest fits)

  node_takes : (bytes : List ℕ) (t : TreeNode) (rest : List ℕ) → IsBytes bytes → tree_node_at get get_stmt bytes ≡ Some (t, rest) → Taken tree (NodeFits P S) bytes t rest
  unfolding tree_node_at
  node_takes = tagged_takes tree (NodeFits P S) (tree_rows get get_stmt) (arm-Def, (arm-SetBinding, (arm-Value, (arm-Body, tt))))

  Again : TreeNode → Type 0
  Again t = (rest : List ℕ) → tree_node_at get get_stmt (tree t ++ rest) ≡ Some (t, rest)

  again-def : (d : DefTree) → DefNodeFits (out-DefTree d) → Again (node.Payload (payload.Def d))
  unfolding tree_node_at Again
  again-def d fits rest =
      let r = out-DefTree d in
      subst (λ (y : DefTree). tree_node_at get get_stmt (tree (node.Payload (payload.Def y)) ++ rest) ≡ Some (node.Payload (payload.Def y), rest)) (roll-out-DefTree d) (again-Def (r.«module», (r.fun, (r.params, r.body))) rest fits)

  again-body : (b : Body) → BodyNodeFits S (out-Body b) → Again (node.Body b)
  unfolding tree_node_at Again
  again-body b fits rest =
      let r = out-Body b in
      subst (λ (y : Body). tree_node_at get get_stmt (tree (node.Body y) ++ rest) ≡ Some (node.Body y, rest)) (roll-out-Body b) (again-Body (r.params, (r.introduced, r.block)) rest fits)

  again-layer : (layer : Payload-F Part Payload Stmt TreeNode Body DefTree) → PayloadNodeFits P layer → Again (node.Payload (roll-Payload layer))
  unfolding tree_node_at Again
  again-layer (Payload-F.Def d) fits = rw (payload.rolls-Def d) (again-def d fits)
  again-layer (Payload-F.SetBinding a b) fits = rw (payload.rolls-SetBinding a b) (λ rest. again-SetBinding (a, b) rest fits)
  again-layer (Payload-F.Payload::Value a) fits = rw (payload.rolls-Value a) (λ rest. again-Value a rest fits)

  again-tree : (layer : TreeNode-F Part Payload Stmt TreeNode Body DefTree) → TreeNodeFits P S layer → Again (roll-TreeNode layer)
  unfolding Again
  again-tree (TreeNode-F.Body b) fits = rw (node.rolls-Body b) (again-body b fits)
  again-tree (TreeNode-F.Payload p) fits = rw (node.rolls-Payload p) (subst (λ (y : Payload). Again (node.Payload y)) (roll-out-Payload p) (again-layer (out-Payload p) fits))

  node_again : (t : TreeNode) (rest : List ℕ) → NodeFits P S t → tree_node_at get get_stmt (tree t ++ rest) ≡ Some (t, rest)
  unfolding Again
  node_again t rest fits = subst Again (roll-out-TreeNode t) (again-tree (out-TreeNode t) fits) rest

pub tree_laws : Laws tree tree_at TreeFits
unfolding tree_at TreeFitsBelow
tree_laws = record {
  takes = λ bytes t rest fits e.
      let taken = node_takes (expr_at 127) (ExprFits 127) (expr_laws 127) (stmt_at 127) (StmtFits 127) (stmt_laws 127) bytes t rest fits e in
      record { fits = taken.fits; parts = taken.parts };
  again = node_again (expr_at 127) (ExprFits 127) (expr_laws 127) (stmt_at 127) (StmtFits 127) (stmt_laws 127);
}
