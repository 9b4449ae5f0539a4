-- The lines of statements and of the trees round them, one equation for each variant.
use Rattle.std.proofs.Common.{◌≡◌, ℕ, suc, List, ◌++◌, map, codes, sym, ap, ◌∙◌, append_assoc}
use Rattle.std.specs.Fmt.{decimal}
use Rattle.pj_outline.specs.Outline.{Text, Lines, below, plain, named, eval_line, while_line, for_line, body_line, def_line, part_step, payload_step, stmt_step, tree_step, body_step, def_step, expr, stmt, stmts, part, payload, body, definition, tree}
use Rattle.pj_tree.specs.declared.tree.Sym.{Sym}
use Rattle.pj_tree.specs.declared.tree.Expr.{Expr}
use Rattle.pj_tree.specs.declared.tree.Stmt.{Stmt}
use Rattle.pj_tree.specs.declared.tree.Part.{Part}
use Rattle.pj_tree.specs.declared.tree.TreeNode.{TreeNode}
use Rattle.pj_tree.specs.declared.tree.Body.{Body}
use Rattle.pj_tree.specs.declared.tree.DefTree.{DefTree}
use Rattle.pj_tree.specs.declared.tree.Payload.{Payload}
use Rattle.pj_tree.specs.declared.tree.Stmt.TheVariants as s
use Rattle.pj_tree.specs.declared.tree.Part.TheVariants as p
use Rattle.pj_tree.specs.declared.tree.TreeNode.TheVariants as t
use Rattle.pj_tree.specs.declared.tree.Payload.TheVariants as y
use Rattle.pj_tree.specs.declared.tree.Part.TheOpen.{Part-F, Payload-F, Stmt-F, TreeNode-F}
use Rattle.pj_tree.specs.declared.tree.Part.TheFolds.{fold-roll-Part, fold-roll-Payload, fold-roll-Stmt, fold-roll-TreeNode, fold_out-Body, fold_out-DefTree}
use Rattle.pj_outline.proofs.ExprLines.{below-map}

pub stmt-Value : (strings : List Text) (v : Expr) (level : ℕ) →
    stmt strings (s.Value v) level ≡ plain level (codes "Value") ++ expr strings v (suc level)
unfolding stmt stmts part payload body definition tree
stmt-Value strings v level =
    ap (λ one. stmt strings one level) (sym (s.rolls-Value v))
    ∙ ap (λ lines. lines level) (fold-roll-Stmt Lines Lines Lines Lines Lines Lines part_step (payload_step strings) (stmt_step strings) tree_step (body_step strings) (def_step strings) (Stmt-F.Stmt::Value v))

pub stmt-SetLocal : (strings : List Text) (x : Sym) (v : Expr) (level : ℕ) →
    stmt strings (s.SetLocal x v) level ≡ named strings level (codes "SetLocal") x ++ expr strings v (suc level)
unfolding stmt stmts part payload body definition tree
stmt-SetLocal strings x v level =
    ap (λ one. stmt strings one level) (sym (s.rolls-SetLocal x v))
    ∙ ap (λ lines. lines level) (fold-roll-Stmt Lines Lines Lines Lines Lines Lines part_step (payload_step strings) (stmt_step strings) tree_step (body_step strings) (def_step strings) (Stmt-F.SetLocal x v))

pub stmt-SetGlobal : (strings : List Text) (x : Sym) (v : Expr) (level : ℕ) →
    stmt strings (s.SetGlobal x v) level ≡ named strings level (codes "SetGlobal") x ++ expr strings v (suc level)
unfolding stmt stmts part payload body definition tree
stmt-SetGlobal strings x v level =
    ap (λ one. stmt strings one level) (sym (s.rolls-SetGlobal x v))
    ∙ ap (λ lines. lines level) (fold-roll-Stmt Lines Lines Lines Lines Lines Lines part_step (payload_step strings) (stmt_step strings) tree_step (body_step strings) (def_step strings) (Stmt-F.SetGlobal x v))

pub stmt-SetField : (strings : List Text) (a : Expr) (x : Sym) (v : Expr) (level : ℕ) →
    stmt strings (s.SetField a x v) level ≡ named strings level (codes "SetField") x ++ expr strings a (suc level) ++ expr strings v (suc level)
unfolding stmt stmts part payload body definition tree
stmt-SetField strings a x v level =
    ap (λ one. stmt strings one level) (sym (s.rolls-SetField a x v))
    ∙ ap (λ lines. lines level) (fold-roll-Stmt Lines Lines Lines Lines Lines Lines part_step (payload_step strings) (stmt_step strings) tree_step (body_step strings) (def_step strings) (Stmt-F.SetField a x v))

pub stmt-If : (strings : List Text) (c : Expr) (a : List Stmt) (b : List Stmt) (level : ℕ) →
    stmt strings (s.If c a b) level ≡ plain level (codes "If") ++ expr strings c (suc level) ++ plain (suc level) (codes "then") ++ stmts strings a (suc (suc level)) ++ plain (suc level) (codes "else") ++ stmts strings b (suc (suc level))
unfolding stmt stmts part payload body definition tree
stmt-If strings c a b level =
    ap (λ one. stmt strings one level) (sym (s.rolls-If c a b))
    ∙ ap (λ lines. lines level) (fold-roll-Stmt Lines Lines Lines Lines Lines Lines part_step (payload_step strings) (stmt_step strings) tree_step (body_step strings) (def_step strings) (Stmt-F.If c a b))
    ∙ ap (λ lines. plain level (codes "If") ++ expr strings c (suc level) ++ plain (suc level) (codes "then") ++ lines ++ plain (suc level) (codes "else") ++ below (map (stmt strings) b) (suc (suc level))) (below-map (stmt strings) a (suc (suc level)))
    ∙ ap (λ lines. plain level (codes "If") ++ expr strings c (suc level) ++ plain (suc level) (codes "then") ++ stmts strings a (suc (suc level)) ++ plain (suc level) (codes "else") ++ lines) (below-map (stmt strings) b (suc (suc level)))

pub stmt-While : (strings : List Text) (ns : List Sym) (c : Expr) (b : List Stmt) (level : ℕ) →
    stmt strings (s.While ns c b) level ≡ while_line strings level ns ++ expr strings c (suc level) ++ stmts strings b (suc level)
unfolding stmt stmts part payload body definition tree
stmt-While strings ns c b level =
    ap (λ one. stmt strings one level) (sym (s.rolls-While ns c b))
    ∙ ap (λ lines. lines level) (fold-roll-Stmt Lines Lines Lines Lines Lines Lines part_step (payload_step strings) (stmt_step strings) tree_step (body_step strings) (def_step strings) (Stmt-F.While ns c b))
    ∙ ap (λ lines. while_line strings level ns ++ expr strings c (suc level) ++ lines) (below-map (stmt strings) b (suc level))

pub stmt-For : (strings : List Text) (x : Sym) (v : Expr) (w : Expr) (ns : List Sym) (b : List Stmt) (level : ℕ) →
    stmt strings (s.For x v w ns b) level ≡ for_line strings level x ns ++ expr strings v (suc level) ++ expr strings w (suc level) ++ stmts strings b (suc level)
unfolding stmt stmts part payload body definition tree
stmt-For strings x v w ns b level =
    ap (λ one. stmt strings one level) (sym (s.rolls-For x v w ns b))
    ∙ ap (λ lines. lines level) (fold-roll-Stmt Lines Lines Lines Lines Lines Lines part_step (payload_step strings) (stmt_step strings) tree_step (body_step strings) (def_step strings) (Stmt-F.For x v w ns b))
    ∙ ap (λ lines. for_line strings level x ns ++ expr strings v (suc level) ++ expr strings w (suc level) ++ lines) (below-map (stmt strings) b (suc level))

pub stmt-Break : (strings : List Text) (level : ℕ) →
    stmt strings s.Break level ≡ plain level (codes "Break")
unfolding stmt stmts part payload body definition tree
stmt-Break strings level =
    ap (λ one. stmt strings one level) (sym s.rolls-Break)
    ∙ ap (λ lines. lines level) (fold-roll-Stmt Lines Lines Lines Lines Lines Lines part_step (payload_step strings) (stmt_step strings) tree_step (body_step strings) (def_step strings) Stmt-F.Break)

pub stmt-Continue : (strings : List Text) (level : ℕ) →
    stmt strings s.Continue level ≡ plain level (codes "Continue")
unfolding stmt stmts part payload body definition tree
stmt-Continue strings level =
    ap (λ one. stmt strings one level) (sym s.rolls-Continue)
    ∙ ap (λ lines. lines level) (fold-roll-Stmt Lines Lines Lines Lines Lines Lines part_step (payload_step strings) (stmt_step strings) tree_step (body_step strings) (def_step strings) Stmt-F.Continue)

pub stmt-Return : (strings : List Text) (v : Expr) (level : ℕ) →
    stmt strings (s.Return v) level ≡ plain level (codes "Return") ++ expr strings v (suc level)
unfolding stmt stmts part payload body definition tree
stmt-Return strings v level =
    ap (λ one. stmt strings one level) (sym (s.rolls-Return v))
    ∙ ap (λ lines. lines level) (fold-roll-Stmt Lines Lines Lines Lines Lines Lines part_step (payload_step strings) (stmt_step strings) tree_step (body_step strings) (def_step strings) (Stmt-F.Return v))

pub stmt-Eval : (strings : List Text) (m : Sym) (q : Part) (level : ℕ) →
    stmt strings (s.Eval m q) level ≡ eval_line strings level m ++ part strings q (suc level)
unfolding stmt stmts part payload body definition tree
stmt-Eval strings m q level =
    ap (λ one. stmt strings one level) (sym (s.rolls-Eval m q))
    ∙ ap (λ lines. lines level) (fold-roll-Stmt Lines Lines Lines Lines Lines Lines part_step (payload_step strings) (stmt_step strings) tree_step (body_step strings) (def_step strings) (Stmt-F.Eval m q))

pub part-Number : (strings : List Text) (n : ℕ) (level : ℕ) →
    part strings (p.Number n) level ≡ plain level (codes "tree " ++ decimal n)
unfolding stmt stmts part payload body definition tree
part-Number strings n level =
    ap (λ one. part strings one level) (sym (p.rolls-Number n))
    ∙ ap (λ lines. lines level) (fold-roll-Part Lines Lines Lines Lines Lines Lines part_step (payload_step strings) (stmt_step strings) tree_step (body_step strings) (def_step strings) (Part-F.Number n))

pub part-Held : (strings : List Text) (h : TreeNode) (level : ℕ) →
    part strings (p.Held h) level ≡ tree strings h level
unfolding stmt stmts part payload body definition tree
part-Held strings h level =
    ap (λ one. part strings one level) (sym (p.rolls-Held h))
    ∙ ap (λ lines. lines level) (fold-roll-Part Lines Lines Lines Lines Lines Lines part_step (payload_step strings) (stmt_step strings) tree_step (body_step strings) (def_step strings) (Part-F.Held h))

pub payload-Def : (strings : List Text) (d : DefTree) (level : ℕ) →
    payload strings (y.Def d) level ≡ definition strings d level
unfolding stmt stmts part payload body definition tree
payload-Def strings d level =
    ap (λ one. payload strings one level) (sym (y.rolls-Def d))
    ∙ ap (λ lines. lines level) (fold-roll-Payload Lines Lines Lines Lines Lines Lines part_step (payload_step strings) (stmt_step strings) tree_step (body_step strings) (def_step strings) (Payload-F.Def d))

pub payload-SetBinding : (strings : List Text) (x : Sym) (v : Expr) (level : ℕ) →
    payload strings (y.SetBinding x v) level ≡ named strings level (codes "SetBinding") x ++ expr strings v (suc level)
unfolding stmt stmts part payload body definition tree
payload-SetBinding strings x v level =
    ap (λ one. payload strings one level) (sym (y.rolls-SetBinding x v))
    ∙ ap (λ lines. lines level) (fold-roll-Payload Lines Lines Lines Lines Lines Lines part_step (payload_step strings) (stmt_step strings) tree_step (body_step strings) (def_step strings) (Payload-F.SetBinding x v))

pub payload-Value : (strings : List Text) (v : Expr) (level : ℕ) →
    payload strings (y.Value v) level ≡ plain level (codes "Value") ++ expr strings v (suc level)
unfolding stmt stmts part payload body definition tree
payload-Value strings v level =
    ap (λ one. payload strings one level) (sym (y.rolls-Value v))
    ∙ ap (λ lines. lines level) (fold-roll-Payload Lines Lines Lines Lines Lines Lines part_step (payload_step strings) (stmt_step strings) tree_step (body_step strings) (def_step strings) (Payload-F.Payload::Value v))

pub tree-Body : (strings : List Text) (b : Body) (level : ℕ) →
    tree strings (t.Body b) level ≡ body strings b level
unfolding stmt stmts part payload body definition tree
tree-Body strings b level =
    ap (λ one. tree strings one level) (sym (t.rolls-Body b))
    ∙ ap (λ lines. lines level) (fold-roll-TreeNode Lines Lines Lines Lines Lines Lines part_step (payload_step strings) (stmt_step strings) tree_step (body_step strings) (def_step strings) (TreeNode-F.Body b))

pub tree-Payload : (strings : List Text) (q : Payload) (level : ℕ) →
    tree strings (t.Payload q) level ≡ payload strings q level
unfolding stmt stmts part payload body definition tree
tree-Payload strings q level =
    ap (λ one. tree strings one level) (sym (t.rolls-Payload q))
    ∙ ap (λ lines. lines level) (fold-roll-TreeNode Lines Lines Lines Lines Lines Lines part_step (payload_step strings) (stmt_step strings) tree_step (body_step strings) (def_step strings) (TreeNode-F.Payload q))

pub body-parts : (strings : List Text) (b : Body) (level : ℕ) →
    body strings b level ≡ body_line strings level b.params b.introduced ++ stmts strings b.block (suc level)
unfolding stmt stmts part payload body definition tree
body-parts strings b level =
    ap (λ lines. lines level) (fold_out-Body Lines Lines Lines Lines Lines Lines part_step (payload_step strings) (stmt_step strings) tree_step (body_step strings) (def_step strings) b)
    ∙ ap (λ lines. body_line strings level b.params b.introduced ++ lines) (below-map (stmt strings) b.block (suc level))

pub definition-parts : (strings : List Text) (d : DefTree) (level : ℕ) →
    definition strings d level ≡ def_line strings level d.«module» d.fun d.params ++ part strings d.body (suc level)
unfolding stmt stmts part payload body definition tree
definition-parts strings d level = ap (λ lines. lines level) (fold_out-DefTree Lines Lines Lines Lines Lines Lines part_step (payload_step strings) (stmt_step strings) tree_step (body_step strings) (def_step strings) d)

pub ruleset stmt_lines = (stmt-Value, stmt-SetLocal, stmt-SetGlobal, stmt-SetField, stmt-If, stmt-While, stmt-For, stmt-Break, stmt-Continue, stmt-Return, stmt-Eval, part-Number, part-Held, payload-Def, payload-SetBinding, payload-Value, tree-Body, tree-Payload, body-parts, definition-parts, append_assoc)
