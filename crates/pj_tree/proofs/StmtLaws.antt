-- The two laws of statements.
use Rattle.std.proofs.Common.{◌≡◌, ℕ, zero, suc, List, [], ◌++◌, Some, refl, sym, subst, ◌∙◌, arith}
use Rattle.std.proofs.lemmas.List.{append-nil}
use Rattle.pj_fields.specs.Fields.{Reader, number, list, both, list_at}
use Rattle.pj_fields.proofs.Laws.{IsBytes, Taken, Laws, both_laws, list_laws, made_again, Arms, arm_of, arm_done, tagged_takes, tagged_again}
use Rattle.pj_tree.specs.declared.tree.Sym.{Sym}
use Rattle.pj_tree.specs.declared.tree.Expr.{Expr}
use Rattle.pj_tree.specs.declared.tree.Stmt.{Stmt, out-Stmt, roll-Stmt}
use Rattle.pj_tree.specs.declared.tree.Stmt.TheVariants as o
use Rattle.pj_tree.specs.declared.tree.Part.{Part}
use Rattle.pj_tree.specs.declared.tree.Payload.{Payload}
use Rattle.pj_tree.specs.declared.tree.TreeNode.{TreeNode}
use Rattle.pj_tree.specs.declared.tree.Body.{Body}
use Rattle.pj_tree.specs.declared.tree.DefTree.{DefTree}
use Rattle.pj_tree.specs.declared.tree.Part.TheOpen.{Stmt-F}
use Rattle.pj_tree.specs.declared.tree.Part.TheViews.{roll-out-Stmt}
use Rattle.pj_tree.specs.Bytes.{sym as sym_bytes, syms, expr, stmt, part_bytes}
use Rattle.pj_tree.specs.Fits.{ListFits, SymFits, PartFits, ExprFits, StmtNodeFits, StmtFits}
use Rattle.pj_tree.specs.Reading.{sym_at, syms_at, part_at, stmt_rows, stmt_node_at, expr_at, stmt_at}
use Rattle.pj_tree.proofs.TreeSpelling.{stmt-Value, stmt-SetLocal, stmt-SetGlobal, stmt-SetField, stmt-If, stmt-While, stmt-For, stmt-Break, stmt-Continue, stmt-Return, stmt-Eval}
use Rattle.pj_tree.proofs.NameLaws.{sym_laws, syms_laws, part_laws, assoc-2, assoc-3, assoc-5}
use Rattle.pj_tree.proofs.ExprLaws.{expr_laws}

abbrev NodeFits : (Expr → Type 0) → (Stmt → Type 0) → Stmt → Type 0
NodeFits P S x = StmtNodeFits P S (out-Stmt x)

-- ---- the bytes of each form

spelled-Value : (a : Expr) → stmt (o.Value a) ≡ number 32 ++ expr a
spelled-Value a = stmt-Value a

spelled-SetLocal : (a : Sym) (b : Expr) → stmt (o.SetLocal a b) ≡ number 33 ++ ((sym_bytes a ++ expr b))
spelled-SetLocal a b = stmt-SetLocal a b ∙ assoc-2 (number 33) (sym_bytes a) (expr b)

spelled-SetGlobal : (a : Sym) (b : Expr) → stmt (o.SetGlobal a b) ≡ number 34 ++ ((sym_bytes a ++ expr b))
spelled-SetGlobal a b = stmt-SetGlobal a b ∙ assoc-2 (number 34) (sym_bytes a) (expr b)

spelled-SetField : (a : Expr) (b : Sym) (c : Expr) → stmt (o.SetField a b c) ≡ number 35 ++ ((expr a ++ (sym_bytes b ++ expr c)))
spelled-SetField a b c = stmt-SetField a b c ∙ assoc-3 (number 35) (expr a) (sym_bytes b) (expr c)

spelled-If : (a : Expr) (b : List Stmt) (c : List Stmt) → stmt (o.If a b c) ≡ number 36 ++ ((expr a ++ (list stmt b ++ list stmt c)))
spelled-If a b c = stmt-If a b c ∙ assoc-3 (number 36) (expr a) (list stmt b) (list stmt c)

spelled-While : (a : List Sym) (b : Expr) (c : List Stmt) → stmt (o.While a b c) ≡ number 37 ++ ((list sym_bytes a ++ (expr b ++ list stmt c)))
unfolding syms
spelled-While a b c = stmt-While a b c ∙ assoc-3 (number 37) (list sym_bytes a) (expr b) (list stmt c)

spelled-For : (a : Sym) (b : Expr) (c : Expr) (d : List Sym) (g : List Stmt) → stmt (o.For a b c d g) ≡ number 38 ++ ((sym_bytes a ++ (expr b ++ (expr c ++ (list sym_bytes d ++ list stmt g)))))
unfolding syms
spelled-For a b c d g = stmt-For a b c d g ∙ assoc-5 (number 38) (sym_bytes a) (expr b) (expr c) (list sym_bytes d) (list stmt g)

spelled-Break : stmt o.Break ≡ number 39
spelled-Break = stmt-Break

spelled-Continue : stmt o.Continue ≡ number 40
spelled-Continue = stmt-Continue

spelled-Return : (a : Expr) → stmt (o.Return a) ≡ number 41 ++ expr a
spelled-Return a = stmt-Return a

spelled-Eval : (a : Sym) (b : Part) → stmt (o.Eval a b) ≡ number 42 ++ ((sym_bytes a ++ part_bytes b))
spelled-Eval a b = stmt-Eval a b ∙ assoc-2 (number 42) (sym_bytes a) (part_bytes b)

-- ---- one node

module _ (get : Reader Expr) (P : Expr → Type 0) (laws : Laws expr get P) (get_stmt : Reader Stmt) (S : Stmt → Type 0) (stmts : Laws stmt get_stmt S) where
  node_arms : Arms stmt (NodeFits P S) (stmt_rows get get_stmt)
  node_arms = (
    (arm_of stmt (NodeFits P S) 32 o.Value expr get P laws spelled-Value (λ x h. rw (o.outs-Value x) h)),
    (
      (arm_of stmt (NodeFits P S) 33 (λ (x : (Sym × Expr)). o.SetLocal x.0 x.1) (λ (x : (Sym × Expr)). sym_bytes x.0 ++ expr x.1) (both sym_at get) (λ (x : (Sym × Expr)). SymFits x.0 × P x.1) (both_laws sym_bytes sym_at SymFits expr get P sym_laws laws) (λ x. spelled-SetLocal x.0 x.1) (λ x h. rw (o.outs-SetLocal x.0 x.1) h)),
      (
        (arm_of stmt (NodeFits P S) 34 (λ (x : (Sym × Expr)). o.SetGlobal x.0 x.1) (λ (x : (Sym × Expr)). sym_bytes x.0 ++ expr x.1) (both sym_at get) (λ (x : (Sym × Expr)). SymFits x.0 × P x.1) (both_laws sym_bytes sym_at SymFits expr get P sym_laws laws) (λ x. spelled-SetGlobal x.0 x.1) (λ x h. rw (o.outs-SetGlobal x.0 x.1) h)),
        (
          (arm_of stmt (NodeFits P S) 35 (λ (x : (Expr × (Sym × Expr))). o.SetField x.0 x.1.0 x.1.1) (λ (x : (Expr × (Sym × Expr))). expr x.0 ++ (λ (x : (Sym × Expr)). sym_bytes x.0 ++ expr x.1) x.1) (both get (both sym_at get)) (λ (x : (Expr × (Sym × Expr))). P x.0 × (λ (x : (Sym × Expr)). SymFits x.0 × P x.1) x.1) (both_laws expr get P (λ (x : (Sym × Expr)). sym_bytes x.0 ++ expr x.1) (both sym_at get) (λ (x : (Sym × Expr)). SymFits x.0 × P x.1) laws (both_laws sym_bytes sym_at SymFits expr get P sym_laws laws)) (λ x. spelled-SetField x.0 x.1.0 x.1.1) (λ x h. rw (o.outs-SetField x.0 x.1.0 x.1.1) h)),
          (
            (arm_of stmt (NodeFits P S) 36 (λ (x : (Expr × ((List Stmt) × (List Stmt)))). o.If x.0 x.1.0 x.1.1) (λ (x : (Expr × ((List Stmt) × (List Stmt)))). expr x.0 ++ (λ (x : ((List Stmt) × (List Stmt))). (list stmt) x.0 ++ (list stmt) x.1) x.1) (both get (both (list_at get_stmt) (list_at get_stmt))) (λ (x : (Expr × ((List Stmt) × (List Stmt)))). P x.0 × (λ (x : ((List Stmt) × (List Stmt))). (ListFits S) x.0 × (ListFits S) x.1) x.1) (both_laws expr get P (λ (x : ((List Stmt) × (List Stmt))). (list stmt) x.0 ++ (list stmt) x.1) (both (list_at get_stmt) (list_at get_stmt)) (λ (x : ((List Stmt) × (List Stmt))). (ListFits S) x.0 × (ListFits S) x.1) laws (both_laws (list stmt) (list_at get_stmt) (ListFits S) (list stmt) (list_at get_stmt) (ListFits S) (list_laws stmt get_stmt S stmts) (list_laws stmt get_stmt S stmts))) (λ x. spelled-If x.0 x.1.0 x.1.1) (λ x h. rw (o.outs-If x.0 x.1.0 x.1.1) h)),
            (
              (arm_of stmt (NodeFits P S) 37 (λ (x : ((List Sym) × (Expr × (List Stmt)))). o.While x.0 x.1.0 x.1.1) (λ (x : ((List Sym) × (Expr × (List Stmt)))). (list sym_bytes) x.0 ++ (λ (x : (Expr × (List Stmt))). expr x.0 ++ (list stmt) x.1) x.1) (both syms_at (both get (list_at get_stmt))) (λ (x : ((List Sym) × (Expr × (List Stmt)))). (ListFits SymFits) x.0 × (λ (x : (Expr × (List Stmt))). P x.0 × (ListFits S) x.1) x.1) (both_laws (list sym_bytes) syms_at (ListFits SymFits) (λ (x : (Expr × (List Stmt))). expr x.0 ++ (list stmt) x.1) (both get (list_at get_stmt)) (λ (x : (Expr × (List Stmt))). P x.0 × (ListFits S) x.1) syms_laws (both_laws expr get P (list stmt) (list_at get_stmt) (ListFits S) laws (list_laws stmt get_stmt S stmts))) (λ x. spelled-While x.0 x.1.0 x.1.1) (λ x h. rw (o.outs-While x.0 x.1.0 x.1.1) h)),
              (
                (arm_of stmt (NodeFits P S) 38 (λ (x : (Sym × (Expr × (Expr × ((List Sym) × (List Stmt)))))). o.For x.0 x.1.0 x.1.1.0 x.1.1.1.0 x.1.1.1.1) (λ (x : (Sym × (Expr × (Expr × ((List Sym) × (List Stmt)))))). sym_bytes x.0 ++ (λ (x : (Expr × (Expr × ((List Sym) × (List Stmt))))). expr x.0 ++ (λ (x : (Expr × ((List Sym) × (List Stmt)))). expr x.0 ++ (λ (x : ((List Sym) × (List Stmt))). (list sym_bytes) x.0 ++ (list stmt) x.1) x.1) x.1) x.1) (both sym_at (both get (both get (both syms_at (list_at get_stmt))))) (λ (x : (Sym × (Expr × (Expr × ((List Sym) × (List Stmt)))))). SymFits x.0 × (λ (x : (Expr × (Expr × ((List Sym) × (List Stmt))))). P x.0 × (λ (x : (Expr × ((List Sym) × (List Stmt)))). P x.0 × (λ (x : ((List Sym) × (List Stmt))). (ListFits SymFits) x.0 × (ListFits S) x.1) x.1) x.1) x.1) (both_laws sym_bytes sym_at SymFits (λ (x : (Expr × (Expr × ((List Sym) × (List Stmt))))). expr x.0 ++ (λ (x : (Expr × ((List Sym) × (List Stmt)))). expr x.0 ++ (λ (x : ((List Sym) × (List Stmt))). (list sym_bytes) x.0 ++ (list stmt) x.1) x.1) x.1) (both get (both get (both syms_at (list_at get_stmt)))) (λ (x : (Expr × (Expr × ((List Sym) × (List Stmt))))). P x.0 × (λ (x : (Expr × ((List Sym) × (List Stmt)))). P x.0 × (λ (x : ((List Sym) × (List Stmt))). (ListFits SymFits) x.0 × (ListFits S) x.1) x.1) x.1) sym_laws (both_laws expr get P (λ (x : (Expr × ((List Sym) × (List Stmt)))). expr x.0 ++ (λ (x : ((List Sym) × (List Stmt))). (list sym_bytes) x.0 ++ (list stmt) x.1) x.1) (both get (both syms_at (list_at get_stmt))) (λ (x : (Expr × ((List Sym) × (List Stmt)))). P x.0 × (λ (x : ((List Sym) × (List Stmt))). (ListFits SymFits) x.0 × (ListFits S) x.1) x.1) laws (both_laws expr get P (λ (x : ((List Sym) × (List Stmt))). (list sym_bytes) x.0 ++ (list stmt) x.1) (both syms_at (list_at get_stmt)) (λ (x : ((List Sym) × (List Stmt))). (ListFits SymFits) x.0 × (ListFits S) x.1) laws (both_laws (list sym_bytes) syms_at (ListFits SymFits) (list stmt) (list_at get_stmt) (ListFits S) syms_laws (list_laws stmt get_stmt S stmts))))) (λ x. spelled-For x.0 x.1.0 x.1.1.0 x.1.1.1.0 x.1.1.1.1) (λ x h. rw (o.outs-For x.0 x.1.0 x.1.1.0 x.1.1.1.0 x.1.1.1.1) h)),
                (
                  (arm_done stmt (NodeFits P S) 39 o.Break spelled-Break (rw o.outs-Break tt)),
                  (
                    (arm_done stmt (NodeFits P S) 40 o.Continue spelled-Continue (rw o.outs-Continue tt)),
                    (
                      (arm_of stmt (NodeFits P S) 41 o.Return expr get P laws spelled-Return (λ x h. rw (o.outs-Return x) h)),
                      (
                        (arm_of stmt (NodeFits P S) 42 (λ (x : (Sym × Part)). o.Eval x.0 x.1) (λ (x : (Sym × Part)). sym_bytes x.0 ++ part_bytes x.1) (both sym_at part_at) (λ (x : (Sym × Part)). SymFits x.0 × PartFits x.1) (both_laws sym_bytes sym_at SymFits part_bytes part_at PartFits sym_laws part_laws) (λ x. spelled-Eval x.0 x.1) (λ x h. rw (o.outs-Eval x.0 x.1) h)),
                        tt,
                      ),
                    ),
                  ),
                ),
              ),
            ),
          ),
        ),
      ),
    ),
  )

  node_takes : (bytes : List ℕ) (x : Stmt) (rest : List ℕ) → IsBytes bytes → stmt_node_at get get_stmt bytes ≡ Some (x, rest) → Taken stmt (NodeFits P S) bytes x rest
  unfolding stmt_node_at
  node_takes = tagged_takes stmt (NodeFits P S) (stmt_rows get get_stmt) node_arms

  layer_again : (layer : Stmt-F Part Payload Stmt TreeNode Body DefTree) (rest : List ℕ) → StmtNodeFits P S layer → stmt_node_at get get_stmt (stmt (roll-Stmt layer) ++ rest) ≡ Some (roll-Stmt layer, rest)
  unfolding stmt_node_at
  layer_again (Stmt-F.Stmt::Value a) rest fits = rw (o.rolls-Value a) (tagged_again stmt (NodeFits P S) (stmt_rows get get_stmt) 32 (o.Value a) (expr a) rest (omega arith) (spelled-Value a) (made_again o.Value expr get P laws a rest fits))
  layer_again (Stmt-F.SetLocal a b) rest fits = rw (o.rolls-SetLocal a b) (tagged_again stmt (NodeFits P S) (stmt_rows get get_stmt) 33 (o.SetLocal a b) ((sym_bytes a ++ expr b)) rest (omega arith) (spelled-SetLocal a b) (made_again (λ (x : (Sym × Expr)). o.SetLocal x.0 x.1) (λ (x : (Sym × Expr)). sym_bytes x.0 ++ expr x.1) (both sym_at get) (λ (x : (Sym × Expr)). SymFits x.0 × P x.1) (both_laws sym_bytes sym_at SymFits expr get P sym_laws laws) (a, b) rest fits))
  layer_again (Stmt-F.SetGlobal a b) rest fits = rw (o.rolls-SetGlobal a b) (tagged_again stmt (NodeFits P S) (stmt_rows get get_stmt) 34 (o.SetGlobal a b) ((sym_bytes a ++ expr b)) rest (omega arith) (spelled-SetGlobal a b) (made_again (λ (x : (Sym × Expr)). o.SetGlobal x.0 x.1) (λ (x : (Sym × Expr)). sym_bytes x.0 ++ expr x.1) (both sym_at get) (λ (x : (Sym × Expr)). SymFits x.0 × P x.1) (both_laws sym_bytes sym_at SymFits expr get P sym_laws laws) (a, b) rest fits))
  layer_again (Stmt-F.SetField a b c) rest fits = rw (o.rolls-SetField a b c) (tagged_again stmt (NodeFits P S) (stmt_rows get get_stmt) 35 (o.SetField a b c) ((expr a ++ (sym_bytes b ++ expr c))) rest (omega arith) (spelled-SetField a b c) (made_again (λ (x : (Expr × (Sym × Expr))). o.SetField x.0 x.1.0 x.1.1) (λ (x : (Expr × (Sym × Expr))). expr x.0 ++ (λ (x : (Sym × Expr)). sym_bytes x.0 ++ expr x.1) x.1) (both get (both sym_at get)) (λ (x : (Expr × (Sym × Expr))). P x.0 × (λ (x : (Sym × Expr)). SymFits x.0 × P x.1) x.1) (both_laws expr get P (λ (x : (Sym × Expr)). sym_bytes x.0 ++ expr x.1) (both sym_at get) (λ (x : (Sym × Expr)). SymFits x.0 × P x.1) laws (both_laws sym_bytes sym_at SymFits expr get P sym_laws laws)) (a, (b, c)) rest fits))
  layer_again (Stmt-F.If a b c) rest fits = rw (o.rolls-If a b c) (tagged_again stmt (NodeFits P S) (stmt_rows get get_stmt) 36 (o.If a b c) ((expr a ++ (list stmt b ++ list stmt c))) rest (omega arith) (spelled-If a b c) (made_again (λ (x : (Expr × ((List Stmt) × (List Stmt)))). o.If x.0 x.1.0 x.1.1) (λ (x : (Expr × ((List Stmt) × (List Stmt)))). expr x.0 ++ (λ (x : ((List Stmt) × (List Stmt))). (list stmt) x.0 ++ (list stmt) x.1) x.1) (both get (both (list_at get_stmt) (list_at get_stmt))) (λ (x : (Expr × ((List Stmt) × (List Stmt)))). P x.0 × (λ (x : ((List Stmt) × (List Stmt))). (ListFits S) x.0 × (ListFits S) x.1) x.1) (both_laws expr get P (λ (x : ((List Stmt) × (List Stmt))). (list stmt) x.0 ++ (list stmt) x.1) (both (list_at get_stmt) (list_at get_stmt)) (λ (x : ((List Stmt) × (List Stmt))). (ListFits S) x.0 × (ListFits S) x.1) laws (both_laws (list stmt) (list_at get_stmt) (ListFits S) (list stmt) (list_at get_stmt) (ListFits S) (list_laws stmt get_stmt S stmts) (list_laws stmt get_stmt S stmts))) (a, (b, c)) rest fits))
  layer_again (Stmt-F.While a b c) rest fits = rw (o.rolls-While a b c) (tagged_again stmt (NodeFits P S) (stmt_rows get get_stmt) 37 (o.While a b c) ((list sym_bytes a ++ (expr b ++ list stmt c))) rest (omega arith) (spelled-While a b c) (made_again (λ (x : ((List Sym) × (Expr × (List Stmt)))). o.While x.0 x.1.0 x.1.1) (λ (x : ((List Sym) × (Expr × (List Stmt)))). (list sym_bytes) x.0 ++ (λ (x : (Expr × (List Stmt))). expr x.0 ++ (list stmt) x.1) x.1) (both syms_at (both get (list_at get_stmt))) (λ (x : ((List Sym) × (Expr × (List Stmt)))). (ListFits SymFits) x.0 × (λ (x : (Expr × (List Stmt))). P x.0 × (ListFits S) x.1) x.1) (both_laws (list sym_bytes) syms_at (ListFits SymFits) (λ (x : (Expr × (List Stmt))). expr x.0 ++ (list stmt) x.1) (both get (list_at get_stmt)) (λ (x : (Expr × (List Stmt))). P x.0 × (ListFits S) x.1) syms_laws (both_laws expr get P (list stmt) (list_at get_stmt) (ListFits S) laws (list_laws stmt get_stmt S stmts))) (a, (b, c)) rest fits))
  layer_again (Stmt-F.For a b c d g) rest fits = rw (o.rolls-For a b c d g) (tagged_again stmt (NodeFits P S) (stmt_rows get get_stmt) 38 (o.For a b c d g) ((sym_bytes a ++ (expr b ++ (expr c ++ (list sym_bytes d ++ list stmt g))))) rest (omega arith) (spelled-For a b c d g) (made_again (λ (x : (Sym × (Expr × (Expr × ((List Sym) × (List Stmt)))))). o.For x.0 x.1.0 x.1.1.0 x.1.1.1.0 x.1.1.1.1) (λ (x : (Sym × (Expr × (Expr × ((List Sym) × (List Stmt)))))). sym_bytes x.0 ++ (λ (x : (Expr × (Expr × ((List Sym) × (List Stmt))))). expr x.0 ++ (λ (x : (Expr × ((List Sym) × (List Stmt)))). expr x.0 ++ (λ (x : ((List Sym) × (List Stmt))). (list sym_bytes) x.0 ++ (list stmt) x.1) x.1) x.1) x.1) (both sym_at (both get (both get (both syms_at (list_at get_stmt))))) (λ (x : (Sym × (Expr × (Expr × ((List Sym) × (List Stmt)))))). SymFits x.0 × (λ (x : (Expr × (Expr × ((List Sym) × (List Stmt))))). P x.0 × (λ (x : (Expr × ((List Sym) × (List Stmt)))). P x.0 × (λ (x : ((List Sym) × (List Stmt))). (ListFits SymFits) x.0 × (ListFits S) x.1) x.1) x.1) x.1) (both_laws sym_bytes sym_at SymFits (λ (x : (Expr × (Expr × ((List Sym) × (List Stmt))))). expr x.0 ++ (λ (x : (Expr × ((List Sym) × (List Stmt)))). expr x.0 ++ (λ (x : ((List Sym) × (List Stmt))). (list sym_bytes) x.0 ++ (list stmt) x.1) x.1) x.1) (both get (both get (both syms_at (list_at get_stmt)))) (λ (x : (Expr × (Expr × ((List Sym) × (List Stmt))))). P x.0 × (λ (x : (Expr × ((List Sym) × (List Stmt)))). P x.0 × (λ (x : ((List Sym) × (List Stmt))). (ListFits SymFits) x.0 × (ListFits S) x.1) x.1) x.1) sym_laws (both_laws expr get P (λ (x : (Expr × ((List Sym) × (List Stmt)))). expr x.0 ++ (λ (x : ((List Sym) × (List Stmt))). (list sym_bytes) x.0 ++ (list stmt) x.1) x.1) (both get (both syms_at (list_at get_stmt))) (λ (x : (Expr × ((List Sym) × (List Stmt)))). P x.0 × (λ (x : ((List Sym) × (List Stmt))). (ListFits SymFits) x.0 × (ListFits S) x.1) x.1) laws (both_laws expr get P (λ (x : ((List Sym) × (List Stmt))). (list sym_bytes) x.0 ++ (list stmt) x.1) (both syms_at (list_at get_stmt)) (λ (x : ((List Sym) × (List Stmt))). (ListFits SymFits) x.0 × (ListFits S) x.1) laws (both_laws (list sym_bytes) syms_at (ListFits SymFits) (list stmt) (list_at get_stmt) (ListFits S) syms_laws (list_laws stmt get_stmt S stmts))))) (a, (b, (c, (d, g)))) rest fits))
  layer_again Stmt-F.Break rest fits = rw o.rolls-Break (tagged_again stmt (NodeFits P S) (stmt_rows get get_stmt) 39 o.Break [] rest (omega arith) (spelled-Break ∙ sym (append-nil (number 39))) refl)
  layer_again Stmt-F.Continue rest fits = rw o.rolls-Continue (tagged_again stmt (NodeFits P S) (stmt_rows get get_stmt) 40 o.Continue [] rest (omega arith) (spelled-Continue ∙ sym (append-nil (number 40))) refl)
  layer_again (Stmt-F.Return a) rest fits = rw (o.rolls-Return a) (tagged_again stmt (NodeFits P S) (stmt_rows get get_stmt) 41 (o.Return a) (expr a) rest (omega arith) (spelled-Return a) (made_again o.Return expr get P laws a rest fits))
  layer_again (Stmt-F.Eval a b) rest fits = rw (o.rolls-Eval a b) (tagged_again stmt (NodeFits P S) (stmt_rows get get_stmt) 42 (o.Eval a b) ((sym_bytes a ++ part_bytes b)) rest (omega arith) (spelled-Eval a b) (made_again (λ (x : (Sym × Part)). o.Eval x.0 x.1) (λ (x : (Sym × Part)). sym_bytes x.0 ++ part_bytes x.1) (both sym_at part_at) (λ (x : (Sym × Part)). SymFits x.0 × PartFits x.1) (both_laws sym_bytes sym_at SymFits part_bytes part_at PartFits sym_laws part_laws) (a, b) rest fits))

  node_again : (x : Stmt) (rest : List ℕ) → NodeFits P S x → stmt_node_at get get_stmt (stmt x ++ rest) ≡ Some (x, rest)
  node_again x rest fits = subst (λ (y : Stmt). stmt_node_at get get_stmt (stmt y ++ rest) ≡ Some (y, rest)) (roll-out-Stmt x) (layer_again (out-Stmt x) rest fits)

-- ---- by depth

pub stmt_laws : (depth : ℕ) → Laws stmt (stmt_at depth) (StmtFits depth)
unfolding stmt_at StmtFits
stmt_laws zero = record { takes = λ bytes x rest fits e. absurd cc; again = λ x rest fits. absurd fits }
stmt_laws (suc below) =
    let laws = expr_laws below in
    let stmts = stmt_laws below in
    record {
      takes = λ bytes x rest fits e.
          let t = node_takes (expr_at below) (ExprFits below) laws (stmt_at below) (StmtFits below) stmts bytes x rest fits e in
          record { fits = t.fits; parts = t.parts };
      again = node_again (expr_at below) (ExprFits below) laws (stmt_at below) (StmtFits below) stmts;
    }
