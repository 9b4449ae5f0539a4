-- The bytes of statements and of the trees round them, one equation for each tag.
use Rattle.std.proofs.Common.{◌≡◌, ℕ, List, [], ◌++◌, map, sym, ap, ◌∙◌, append_assoc}
use Rattle.pj_fields.specs.Fields.{number, list}
use Rattle.pj_tree.specs.Bytes.{Bytes, part_bytes, parts, syms, params, part_step, payload_step, stmt_step, tree_step, body_step, def_step, expr, stmt, tree}
use Rattle.pj_tree.specs.Bytes.{sym as name}
use Rattle.pj_tree.specs.Spelled.{payload, body, definition}
use Rattle.pj_tree.specs.declared.tree.Sym.{Sym}
use Rattle.pj_tree.specs.declared.tree.Expr.{Expr}
use Rattle.pj_tree.specs.declared.tree.Stmt.{Stmt}
use Rattle.pj_tree.specs.declared.tree.Part.{Part}
use Rattle.pj_tree.specs.declared.tree.TreeNode.{TreeNode}
use Rattle.pj_tree.specs.declared.tree.Body.{Body}
use Rattle.pj_tree.specs.declared.tree.DefTree.{DefTree}
use Rattle.pj_tree.specs.declared.tree.Payload.{Payload}
use Rattle.pj_tree.specs.declared.tree.Stmt.TheVariants as s
use Rattle.pj_tree.specs.declared.tree.Part.TheVariants as p
use Rattle.pj_tree.specs.declared.tree.TreeNode.TheVariants as t
use Rattle.pj_tree.specs.declared.tree.Payload.TheVariants as y
use Rattle.pj_tree.specs.declared.tree.Part.TheOpen.{Part-F, Payload-F, Stmt-F, TreeNode-F}
use Rattle.pj_tree.specs.declared.tree.Part.TheFolds.{fold-roll-Part, fold-roll-Payload, fold-roll-Stmt, fold-roll-TreeNode, fold_out-Body, fold_out-DefTree}
use Rattle.pj_tree.proofs.NameLaws.{parts-is}

pub stmt-Value : (v : Expr) → stmt (s.Value v) ≡ number 32 ++ expr v
stmt-Value v =
    ap stmt (sym (s.rolls-Value v))
    ∙ fold-roll-Stmt Bytes Bytes Bytes Bytes Bytes Bytes part_step payload_step stmt_step tree_step body_step def_step (Stmt-F.Stmt::Value v)

pub stmt-SetLocal : (x : Sym) (v : Expr) → stmt (s.SetLocal x v) ≡ number 33 ++ name x ++ expr v
stmt-SetLocal x v =
    ap stmt (sym (s.rolls-SetLocal x v))
    ∙ fold-roll-Stmt Bytes Bytes Bytes Bytes Bytes Bytes part_step payload_step stmt_step tree_step body_step def_step (Stmt-F.SetLocal x v)

pub stmt-SetGlobal : (x : Sym) (v : Expr) → stmt (s.SetGlobal x v) ≡ number 34 ++ name x ++ expr v
stmt-SetGlobal x v =
    ap stmt (sym (s.rolls-SetGlobal x v))
    ∙ fold-roll-Stmt Bytes Bytes Bytes Bytes Bytes Bytes part_step payload_step stmt_step tree_step body_step def_step (Stmt-F.SetGlobal x v)

pub stmt-SetField : (a : Expr) (x : Sym) (v : Expr) → stmt (s.SetField a x v) ≡ number 35 ++ expr a ++ name x ++ expr v
stmt-SetField a x v =
    ap stmt (sym (s.rolls-SetField a x v))
    ∙ fold-roll-Stmt Bytes Bytes Bytes Bytes Bytes Bytes part_step payload_step stmt_step tree_step body_step def_step (Stmt-F.SetField a x v)

pub stmt-If : (c : Expr) (b : List Stmt) (d : List Stmt) → stmt (s.If c b d) ≡ number 36 ++ expr c ++ list stmt b ++ list stmt d
stmt-If c b d =
    ap stmt (sym (s.rolls-If c b d))
    ∙ fold-roll-Stmt Bytes Bytes Bytes Bytes Bytes Bytes part_step payload_step stmt_step tree_step body_step def_step (Stmt-F.If c b d)
    ∙ ap (λ l. number 36 ++ expr c ++ l ++ parts (map stmt d)) (parts-is stmt b)
    ∙ ap (λ l. number 36 ++ expr c ++ list stmt b ++ l) (parts-is stmt d)

pub stmt-While : (ns : List Sym) (c : Expr) (b : List Stmt) → stmt (s.While ns c b) ≡ number 37 ++ syms ns ++ expr c ++ list stmt b
stmt-While ns c b =
    ap stmt (sym (s.rolls-While ns c b))
    ∙ fold-roll-Stmt Bytes Bytes Bytes Bytes Bytes Bytes part_step payload_step stmt_step tree_step body_step def_step (Stmt-F.While ns c b)
    ∙ ap (λ l. number 37 ++ syms ns ++ expr c ++ l) (parts-is stmt b)

pub stmt-For : (x : Sym) (v : Expr) (w : Expr) (ns : List Sym) (b : List Stmt) → stmt (s.For x v w ns b) ≡ number 38 ++ name x ++ expr v ++ expr w ++ syms ns ++ list stmt b
stmt-For x v w ns b =
    ap stmt (sym (s.rolls-For x v w ns b))
    ∙ fold-roll-Stmt Bytes Bytes Bytes Bytes Bytes Bytes part_step payload_step stmt_step tree_step body_step def_step (Stmt-F.For x v w ns b)
    ∙ ap (λ l. number 38 ++ name x ++ expr v ++ expr w ++ syms ns ++ l) (parts-is stmt b)

pub stmt-Break : stmt s.Break ≡ number 39
stmt-Break =
    ap stmt (sym s.rolls-Break)
    ∙ fold-roll-Stmt Bytes Bytes Bytes Bytes Bytes Bytes part_step payload_step stmt_step tree_step body_step def_step Stmt-F.Break

pub stmt-Continue : stmt s.Continue ≡ number 40
stmt-Continue =
    ap stmt (sym s.rolls-Continue)
    ∙ fold-roll-Stmt Bytes Bytes Bytes Bytes Bytes Bytes part_step payload_step stmt_step tree_step body_step def_step Stmt-F.Continue

pub stmt-Return : (v : Expr) → stmt (s.Return v) ≡ number 41 ++ expr v
stmt-Return v =
    ap stmt (sym (s.rolls-Return v))
    ∙ fold-roll-Stmt Bytes Bytes Bytes Bytes Bytes Bytes part_step payload_step stmt_step tree_step body_step def_step (Stmt-F.Return v)

pub stmt-Eval : (m : Sym) (p : Part) → stmt (s.Eval m p) ≡ number 42 ++ name m ++ part_bytes p
stmt-Eval m p =
    ap stmt (sym (s.rolls-Eval m p))
    ∙ fold-roll-Stmt Bytes Bytes Bytes Bytes Bytes Bytes part_step payload_step stmt_step tree_step body_step def_step (Stmt-F.Eval m p)

pub part-Number : (n : ℕ) → part_bytes (p.Number n) ≡ number n
part-Number n =
    ap part_bytes (sym (p.rolls-Number n))
    ∙ fold-roll-Part Bytes Bytes Bytes Bytes Bytes Bytes part_step payload_step stmt_step tree_step body_step def_step (Part-F.Number n)

pub part-Held : (h : TreeNode) → part_bytes (p.Held h) ≡ []
part-Held h =
    ap part_bytes (sym (p.rolls-Held h))
    ∙ fold-roll-Part Bytes Bytes Bytes Bytes Bytes Bytes part_step payload_step stmt_step tree_step body_step def_step (Part-F.Held h)

pub payload-Def : (d : DefTree) → payload (y.Def d) ≡ definition d
payload-Def d =
    ap payload (sym (y.rolls-Def d))
    ∙ fold-roll-Payload Bytes Bytes Bytes Bytes Bytes Bytes part_step payload_step stmt_step tree_step body_step def_step (Payload-F.Def d)

pub payload-SetBinding : (x : Sym) (v : Expr) → payload (y.SetBinding x v) ≡ number 65 ++ name x ++ expr v
payload-SetBinding x v =
    ap payload (sym (y.rolls-SetBinding x v))
    ∙ fold-roll-Payload Bytes Bytes Bytes Bytes Bytes Bytes part_step payload_step stmt_step tree_step body_step def_step (Payload-F.SetBinding x v)

pub payload-Value : (v : Expr) → payload (y.Value v) ≡ number 66 ++ expr v
payload-Value v =
    ap payload (sym (y.rolls-Value v))
    ∙ fold-roll-Payload Bytes Bytes Bytes Bytes Bytes Bytes part_step payload_step stmt_step tree_step body_step def_step (Payload-F.Payload::Value v)

pub tree-Body : (b : Body) → tree (t.Body b) ≡ body b
tree-Body b =
    ap tree (sym (t.rolls-Body b))
    ∙ fold-roll-TreeNode Bytes Bytes Bytes Bytes Bytes Bytes part_step payload_step stmt_step tree_step body_step def_step (TreeNode-F.Body b)

pub tree-Payload : (q : Payload) → tree (t.Payload q) ≡ payload q
tree-Payload q =
    ap tree (sym (t.rolls-Payload q))
    ∙ fold-roll-TreeNode Bytes Bytes Bytes Bytes Bytes Bytes part_step payload_step stmt_step tree_step body_step def_step (TreeNode-F.Payload q)

pub body-parts : (b : Body) → body b ≡ number 67 ++ syms b.params ++ syms b.introduced ++ list stmt b.block
body-parts b =
    fold_out-Body Bytes Bytes Bytes Bytes Bytes Bytes part_step payload_step stmt_step tree_step body_step def_step b
    ∙ ap (λ l. number 67 ++ syms b.params ++ syms b.introduced ++ l) (parts-is stmt b.block)

pub definition-parts : (d : DefTree) → definition d ≡ number 64 ++ name d.«module» ++ name d.fun ++ params d.params ++ part_bytes d.body
definition-parts d = fold_out-DefTree Bytes Bytes Bytes Bytes Bytes Bytes part_step payload_step stmt_step tree_step body_step def_step d

pub ruleset tree_spelling = (stmt-Value, stmt-SetLocal, stmt-SetGlobal, stmt-SetField, stmt-If, stmt-While, stmt-For, stmt-Break, stmt-Continue, stmt-Return, stmt-Eval, part-Number, part-Held, payload-Def, payload-SetBinding, payload-Value, tree-Body, tree-Payload, body-parts, definition-parts, append_assoc)
