-- The two laws of expressions.
use Rattle.std.proofs.Common.{◌≡◌, ℕ, zero, suc, List, [], ◌++◌, Some, refl, sym, subst, ◌∙◌, arith}
use Rattle.std.specs.Prelude.{ℤ, FitsSigned}
use Rattle.std.specs.Int.{w64}
use Rattle.std.proofs.lemmas.List.{append-nil}
use Rattle.pj_fields.specs.Fields.{Reader, number, int, list, both, int_at, list_at}
use Rattle.pj_fields.proofs.Laws.{IsBytes, Taken, Laws, int_laws, both_laws, list_laws, made_again, Arms, arm_of, arm_done, tagged_takes, tagged_again}
use Rattle.pj_tree.specs.declared.tree.Sym.{Sym}
use Rattle.pj_tree.specs.declared.tree.Expr.{Expr, out-Expr, roll-Expr}
use Rattle.pj_tree.specs.declared.tree.Expr.TheVariants as e
use Rattle.pj_tree.specs.declared.tree.Expr.TheOpen.{Expr-F}
use Rattle.pj_tree.specs.declared.tree.Expr.TheViews.{roll-out-Expr}
use Rattle.pj_tree.specs.Bytes.{sym as sym_bytes, expr}
use Rattle.pj_tree.specs.Fits.{ListFits, SymFits, ExprNodeFits, ExprFits}
use Rattle.pj_tree.specs.Reading.{sym_at, expr_rows, expr_node_at, expr_at}
use Rattle.pj_tree.proofs.Spelling.{expr-Nothing, expr-False, expr-True, expr-Int, expr-Str, expr-Local, expr-Global, expr-Field, expr-Call, expr-CallLocal, expr-Latest, expr-And, expr-Or, expr-Cond, expr-Same}
use Rattle.pj_tree.proofs.NameLaws.{sym_laws, assoc-2, assoc-3}

abbrev NodeFits : (Expr → Type 0) → Expr → Type 0
NodeFits P x = ExprNodeFits P (out-Expr x)

-- ---- the bytes of each form

spelled-Nothing : expr e.Nothing ≡ number 0
spelled-Nothing = expr-Nothing

spelled-False : expr e.False ≡ number 1
spelled-False = expr-False

spelled-True : expr e.True ≡ number 2
spelled-True = expr-True

spelled-Int : (a : ℤ) → expr (e.Int a) ≡ number 3 ++ int a
spelled-Int a = expr-Int a

spelled-Str : (a : Sym) → expr (e.Str a) ≡ number 4 ++ sym_bytes a
spelled-Str a = expr-Str a

spelled-Local : (a : Sym) → expr (e.Local a) ≡ number 5 ++ sym_bytes a
spelled-Local a = expr-Local a

spelled-Global : (a : Sym) (b : Sym) → expr (e.Global a b) ≡ number 6 ++ ((sym_bytes a ++ sym_bytes b))
spelled-Global a b = expr-Global a b ∙ assoc-2 (number 6) (sym_bytes a) (sym_bytes b)

spelled-Field : (a : Expr) (b : Sym) → expr (e.Field a b) ≡ number 7 ++ ((expr a ++ sym_bytes b))
spelled-Field a b = expr-Field a b ∙ assoc-2 (number 7) (expr a) (sym_bytes b)

spelled-Call : (a : Sym) (b : Sym) (c : List Expr) → expr (e.Call a b c) ≡ number 8 ++ ((sym_bytes a ++ (sym_bytes b ++ list expr c)))
spelled-Call a b c = expr-Call a b c ∙ assoc-3 (number 8) (sym_bytes a) (sym_bytes b) (list expr c)

spelled-CallLocal : (a : Sym) (b : List Expr) → expr (e.CallLocal a b) ≡ number 9 ++ ((sym_bytes a ++ list expr b))
spelled-CallLocal a b = expr-CallLocal a b ∙ assoc-2 (number 9) (sym_bytes a) (list expr b)

spelled-Latest : (a : Expr) (b : List Expr) → expr (e.Latest a b) ≡ number 10 ++ ((expr a ++ list expr b))
spelled-Latest a b = expr-Latest a b ∙ assoc-2 (number 10) (expr a) (list expr b)

spelled-And : (a : Expr) (b : Expr) → expr (e.And a b) ≡ number 11 ++ ((expr a ++ expr b))
spelled-And a b = expr-And a b ∙ assoc-2 (number 11) (expr a) (expr b)

spelled-Or : (a : Expr) (b : Expr) → expr (e.Or a b) ≡ number 12 ++ ((expr a ++ expr b))
spelled-Or a b = expr-Or a b ∙ assoc-2 (number 12) (expr a) (expr b)

spelled-Cond : (a : Expr) (b : Expr) (c : Expr) → expr (e.Cond a b c) ≡ number 13 ++ ((expr a ++ (expr b ++ expr c)))
spelled-Cond a b c = expr-Cond a b c ∙ assoc-3 (number 13) (expr a) (expr b) (expr c)

spelled-Same : (a : Expr) (b : Expr) → expr (e.Same a b) ≡ number 14 ++ ((expr a ++ expr b))
spelled-Same a b = expr-Same a b ∙ assoc-2 (number 14) (expr a) (expr b)

-- ---- one node

module _ (get : Reader Expr) (P : Expr → Type 0) (laws : Laws expr get P) where
  node_arms : Arms expr (NodeFits P) (expr_rows get)
  node_arms = (
    (arm_done expr (NodeFits P) 0 e.Nothing spelled-Nothing (rw e.outs-Nothing tt)),
    (
      (arm_done expr (NodeFits P) 1 e.False spelled-False (rw e.outs-False tt)),
      (
        (arm_done expr (NodeFits P) 2 e.True spelled-True (rw e.outs-True tt)),
        (
          (arm_of expr (NodeFits P) 3 e.Int int int_at (FitsSigned w64) int_laws spelled-Int (λ x h. rw (e.outs-Int x) h)),
          (
            (arm_of expr (NodeFits P) 4 e.Str sym_bytes sym_at SymFits sym_laws spelled-Str (λ x h. rw (e.outs-Str x) h)),
            (
              (arm_of expr (NodeFits P) 5 e.Local sym_bytes sym_at SymFits sym_laws spelled-Local (λ x h. rw (e.outs-Local x) h)),
              (
                (arm_of expr (NodeFits P) 6 (λ (x : (Sym × Sym)). e.Global x.0 x.1) (λ (x : (Sym × Sym)). sym_bytes x.0 ++ sym_bytes x.1) (both sym_at sym_at) (λ (x : (Sym × Sym)). SymFits x.0 × SymFits x.1) (both_laws sym_bytes sym_at SymFits sym_bytes sym_at SymFits sym_laws sym_laws) (λ x. spelled-Global x.0 x.1) (λ x h. rw (e.outs-Global x.0 x.1) h)),
                (
                  (arm_of expr (NodeFits P) 7 (λ (x : (Expr × Sym)). e.Field x.0 x.1) (λ (x : (Expr × Sym)). expr x.0 ++ sym_bytes x.1) (both get sym_at) (λ (x : (Expr × Sym)). P x.0 × SymFits x.1) (both_laws expr get P sym_bytes sym_at SymFits laws sym_laws) (λ x. spelled-Field x.0 x.1) (λ x h. rw (e.outs-Field x.0 x.1) h)),
                  (
                    (arm_of expr (NodeFits P) 8 (λ (x : (Sym × (Sym × (List Expr)))). e.Call x.0 x.1.0 x.1.1) (λ (x : (Sym × (Sym × (List Expr)))). sym_bytes x.0 ++ (λ (x : (Sym × (List Expr))). sym_bytes x.0 ++ (list expr) x.1) x.1) (both sym_at (both sym_at (list_at get))) (λ (x : (Sym × (Sym × (List Expr)))). SymFits x.0 × (λ (x : (Sym × (List Expr))). SymFits x.0 × (ListFits P) x.1) x.1) (both_laws sym_bytes sym_at SymFits (λ (x : (Sym × (List Expr))). sym_bytes x.0 ++ (list expr) x.1) (both sym_at (list_at get)) (λ (x : (Sym × (List Expr))). SymFits x.0 × (ListFits P) x.1) sym_laws (both_laws sym_bytes sym_at SymFits (list expr) (list_at get) (ListFits P) sym_laws (list_laws expr get P laws))) (λ x. spelled-Call x.0 x.1.0 x.1.1) (λ x h. rw (e.outs-Call x.0 x.1.0 x.1.1) h)),
                    (
                      (arm_of expr (NodeFits P) 9 (λ (x : (Sym × (List Expr))). e.CallLocal x.0 x.1) (λ (x : (Sym × (List Expr))). sym_bytes x.0 ++ (list expr) x.1) (both sym_at (list_at get)) (λ (x : (Sym × (List Expr))). SymFits x.0 × (ListFits P) x.1) (both_laws sym_bytes sym_at SymFits (list expr) (list_at get) (ListFits P) sym_laws (list_laws expr get P laws)) (λ x. spelled-CallLocal x.0 x.1) (λ x h. rw (e.outs-CallLocal x.0 x.1) h)),
                      (
                        (arm_of expr (NodeFits P) 10 (λ (x : (Expr × (List Expr))). e.Latest x.0 x.1) (λ (x : (Expr × (List Expr))). expr x.0 ++ (list expr) x.1) (both get (list_at get)) (λ (x : (Expr × (List Expr))). P x.0 × (ListFits P) x.1) (both_laws expr get P (list expr) (list_at get) (ListFits P) laws (list_laws expr get P laws)) (λ x. spelled-Latest x.0 x.1) (λ x h. rw (e.outs-Latest x.0 x.1) h)),
                        (
                          (arm_of expr (NodeFits P) 11 (λ (x : (Expr × Expr)). e.And x.0 x.1) (λ (x : (Expr × Expr)). expr x.0 ++ expr x.1) (both get get) (λ (x : (Expr × Expr)). P x.0 × P x.1) (both_laws expr get P expr get P laws laws) (λ x. spelled-And x.0 x.1) (λ x h. rw (e.outs-And x.0 x.1) h)),
                          (
                            (arm_of expr (NodeFits P) 12 (λ (x : (Expr × Expr)). e.Or x.0 x.1) (λ (x : (Expr × Expr)). expr x.0 ++ expr x.1) (both get get) (λ (x : (Expr × Expr)). P x.0 × P x.1) (both_laws expr get P expr get P laws laws) (λ x. spelled-Or x.0 x.1) (λ x h. rw (e.outs-Or x.0 x.1) h)),
                            (
                              (arm_of expr (NodeFits P) 13 (λ (x : (Expr × (Expr × Expr))). e.Cond x.0 x.1.0 x.1.1) (λ (x : (Expr × (Expr × Expr))). expr x.0 ++ (λ (x : (Expr × Expr)). expr x.0 ++ expr x.1) x.1) (both get (both get get)) (λ (x : (Expr × (Expr × Expr))). P x.0 × (λ (x : (Expr × Expr)). P x.0 × P x.1) x.1) (both_laws expr get P (λ (x : (Expr × Expr)). expr x.0 ++ expr x.1) (both get get) (λ (x : (Expr × Expr)). P x.0 × P x.1) laws (both_laws expr get P expr get P laws laws)) (λ x. spelled-Cond x.0 x.1.0 x.1.1) (λ x h. rw (e.outs-Cond x.0 x.1.0 x.1.1) h)),
                              (
                                (arm_of expr (NodeFits P) 14 (λ (x : (Expr × Expr)). e.Same x.0 x.1) (λ (x : (Expr × Expr)). expr x.0 ++ expr x.1) (both get get) (λ (x : (Expr × Expr)). P x.0 × P x.1) (both_laws expr get P expr get P laws laws) (λ x. spelled-Same x.0 x.1) (λ x h. rw (e.outs-Same x.0 x.1) h)),
                                tt,
                              ),
                            ),
                          ),
                        ),
                      ),
                    ),
                  ),
                ),
              ),
            ),
          ),
        ),
      ),
    ),
  )

  node_takes : (bytes : List ℕ) (x : Expr) (rest : List ℕ) → IsBytes bytes → expr_node_at get bytes ≡ Some (x, rest) → Taken expr (NodeFits P) bytes x rest
  unfolding expr_node_at
  node_takes = tagged_takes expr (NodeFits P) (expr_rows get) node_arms

  layer_again : (layer : Expr-F Expr) (rest : List ℕ) → ExprNodeFits P layer → expr_node_at get (expr (roll-Expr layer) ++ rest) ≡ Some (roll-Expr layer, rest)
  unfolding expr_node_at
  layer_again Expr-F.Nothing rest fits = rw e.rolls-Nothing (tagged_again expr (NodeFits P) (expr_rows get) 0 e.Nothing [] rest (omega arith) (spelled-Nothing ∙ sym (append-nil (number 0))) refl)
  layer_again Expr-F.False rest fits = rw e.rolls-False (tagged_again expr (NodeFits P) (expr_rows get) 1 e.False [] rest (omega arith) (spelled-False ∙ sym (append-nil (number 1))) refl)
  layer_again Expr-F.True rest fits = rw e.rolls-True (tagged_again expr (NodeFits P) (expr_rows get) 2 e.True [] rest (omega arith) (spelled-True ∙ sym (append-nil (number 2))) refl)
  layer_again (Expr-F.Int a) rest fits = rw (e.rolls-Int a) (tagged_again expr (NodeFits P) (expr_rows get) 3 (e.Int a) (int a) rest (omega arith) (spelled-Int a) (made_again e.Int int int_at (FitsSigned w64) int_laws a rest fits))
  layer_again (Expr-F.Str a) rest fits = rw (e.rolls-Str a) (tagged_again expr (NodeFits P) (expr_rows get) 4 (e.Str a) (sym_bytes a) rest (omega arith) (spelled-Str a) (made_again e.Str sym_bytes sym_at SymFits sym_laws a rest fits))
  layer_again (Expr-F.Local a) rest fits = rw (e.rolls-Local a) (tagged_again expr (NodeFits P) (expr_rows get) 5 (e.Local a) (sym_bytes a) rest (omega arith) (spelled-Local a) (made_again e.Local sym_bytes sym_at SymFits sym_laws a rest fits))
  layer_again (Expr-F.Global a b) rest fits = rw (e.rolls-Global a b) (tagged_again expr (NodeFits P) (expr_rows get) 6 (e.Global a b) ((sym_bytes a ++ sym_bytes b)) rest (omega arith) (spelled-Global a b) (made_again (λ (x : (Sym × Sym)). e.Global x.0 x.1) (λ (x : (Sym × Sym)). sym_bytes x.0 ++ sym_bytes x.1) (both sym_at sym_at) (λ (x : (Sym × Sym)). SymFits x.0 × SymFits x.1) (both_laws sym_bytes sym_at SymFits sym_bytes sym_at SymFits sym_laws sym_laws) (a, b) rest fits))
  layer_again (Expr-F.Field a b) rest fits = rw (e.rolls-Field a b) (tagged_again expr (NodeFits P) (expr_rows get) 7 (e.Field a b) ((expr a ++ sym_bytes b)) rest (omega arith) (spelled-Field a b) (made_again (λ (x : (Expr × Sym)). e.Field x.0 x.1) (λ (x : (Expr × Sym)). expr x.0 ++ sym_bytes x.1) (both get sym_at) (λ (x : (Expr × Sym)). P x.0 × SymFits x.1) (both_laws expr get P sym_bytes sym_at SymFits laws sym_laws) (a, b) rest fits))
  layer_again (Expr-F.Call a b c) rest fits = rw (e.rolls-Call a b c) (tagged_again expr (NodeFits P) (expr_rows get) 8 (e.Call a b c) ((sym_bytes a ++ (sym_bytes b ++ list expr c))) rest (omega arith) (spelled-Call a b c) (made_again (λ (x : (Sym × (Sym × (List Expr)))). e.Call x.0 x.1.0 x.1.1) (λ (x : (Sym × (Sym × (List Expr)))). sym_bytes x.0 ++ (λ (x : (Sym × (List Expr))). sym_bytes x.0 ++ (list expr) x.1) x.1) (both sym_at (both sym_at (list_at get))) (λ (x : (Sym × (Sym × (List Expr)))). SymFits x.0 × (λ (x : (Sym × (List Expr))). SymFits x.0 × (ListFits P) x.1) x.1) (both_laws sym_bytes sym_at SymFits (λ (x : (Sym × (List Expr))). sym_bytes x.0 ++ (list expr) x.1) (both sym_at (list_at get)) (λ (x : (Sym × (List Expr))). SymFits x.0 × (ListFits P) x.1) sym_laws (both_laws sym_bytes sym_at SymFits (list expr) (list_at get) (ListFits P) sym_laws (list_laws expr get P laws))) (a, (b, c)) rest fits))
  layer_again (Expr-F.CallLocal a b) rest fits = rw (e.rolls-CallLocal a b) (tagged_again expr (NodeFits P) (expr_rows get) 9 (e.CallLocal a b) ((sym_bytes a ++ list expr b)) rest (omega arith) (spelled-CallLocal a b) (made_again (λ (x : (Sym × (List Expr))). e.CallLocal x.0 x.1) (λ (x : (Sym × (List Expr))). sym_bytes x.0 ++ (list expr) x.1) (both sym_at (list_at get)) (λ (x : (Sym × (List Expr))). SymFits x.0 × (ListFits P) x.1) (both_laws sym_bytes sym_at SymFits (list expr) (list_at get) (ListFits P) sym_laws (list_laws expr get P laws)) (a, b) rest fits))
  layer_again (Expr-F.Latest a b) rest fits = rw (e.rolls-Latest a b) (tagged_again expr (NodeFits P) (expr_rows get) 10 (e.Latest a b) ((expr a ++ list expr b)) rest (omega arith) (spelled-Latest a b) (made_again (λ (x : (Expr × (List Expr))). e.Latest x.0 x.1) (λ (x : (Expr × (List Expr))). expr x.0 ++ (list expr) x.1) (both get (list_at get)) (λ (x : (Expr × (List Expr))). P x.0 × (ListFits P) x.1) (both_laws expr get P (list expr) (list_at get) (ListFits P) laws (list_laws expr get P laws)) (a, b) rest fits))
  layer_again (Expr-F.And a b) rest fits = rw (e.rolls-And a b) (tagged_again expr (NodeFits P) (expr_rows get) 11 (e.And a b) ((expr a ++ expr b)) rest (omega arith) (spelled-And a b) (made_again (λ (x : (Expr × Expr)). e.And x.0 x.1) (λ (x : (Expr × Expr)). expr x.0 ++ expr x.1) (both get get) (λ (x : (Expr × Expr)). P x.0 × P x.1) (both_laws expr get P expr get P laws laws) (a, b) rest fits))
  layer_again (Expr-F.Or a b) rest fits = rw (e.rolls-Or a b) (tagged_again expr (NodeFits P) (expr_rows get) 12 (e.Or a b) ((expr a ++ expr b)) rest (omega arith) (spelled-Or a b) (made_again (λ (x : (Expr × Expr)). e.Or x.0 x.1) (λ (x : (Expr × Expr)). expr x.0 ++ expr x.1) (both get get) (λ (x : (Expr × Expr)). P x.0 × P x.1) (both_laws expr get P expr get P laws laws) (a, b) rest fits))
  layer_again (Expr-F.Cond a b c) rest fits = rw (e.rolls-Cond a b c) (tagged_again expr (NodeFits P) (expr_rows get) 13 (e.Cond a b c) ((expr a ++ (expr b ++ expr c))) rest (omega arith) (spelled-Cond a b c) (made_again (λ (x : (Expr × (Expr × Expr))). e.Cond x.0 x.1.0 x.1.1) (λ (x : (Expr × (Expr × Expr))). expr x.0 ++ (λ (x : (Expr × Expr)). expr x.0 ++ expr x.1) x.1) (both get (both get get)) (λ (x : (Expr × (Expr × Expr))). P x.0 × (λ (x : (Expr × Expr)). P x.0 × P x.1) x.1) (both_laws expr get P (λ (x : (Expr × Expr)). expr x.0 ++ expr x.1) (both get get) (λ (x : (Expr × Expr)). P x.0 × P x.1) laws (both_laws expr get P expr get P laws laws)) (a, (b, c)) rest fits))
  layer_again (Expr-F.Same a b) rest fits = rw (e.rolls-Same a b) (tagged_again expr (NodeFits P) (expr_rows get) 14 (e.Same a b) ((expr a ++ expr b)) rest (omega arith) (spelled-Same a b) (made_again (λ (x : (Expr × Expr)). e.Same x.0 x.1) (λ (x : (Expr × Expr)). expr x.0 ++ expr x.1) (both get get) (λ (x : (Expr × Expr)). P x.0 × P x.1) (both_laws expr get P expr get P laws laws) (a, b) rest fits))

  node_again : (x : Expr) (rest : List ℕ) → NodeFits P x → expr_node_at get (expr x ++ rest) ≡ Some (x, rest)
  node_again x rest fits = subst (λ (y : Expr). expr_node_at get (expr y ++ rest) ≡ Some (y, rest)) (roll-out-Expr x) (layer_again (out-Expr x) rest fits)

-- ---- by depth

pub expr_laws : (depth : ℕ) → Laws expr (expr_at depth) (ExprFits depth)
unfolding expr_at ExprFits
expr_laws zero = record { takes = λ bytes x rest fits e. absurd cc; again = λ x rest fits. absurd fits }
expr_laws (suc below) =
    let laws = expr_laws below in
    record {
      takes = λ bytes x rest fits e.
          let t = node_takes (expr_at below) (ExprFits below) laws bytes x rest fits e in
          record { fits = t.fits; parts = t.parts };
      again = node_again (expr_at below) (ExprFits below) laws;
    }
