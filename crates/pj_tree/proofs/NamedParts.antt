-- The numbers that each variant names.
use Rattle.std.proofs.Common.{◌≡◌, ℕ, List, [], ◌∷◌, ◌++◌, map, sym, ap, ◌∙◌}
use Rattle.pj_tree.specs.Named.{Numbers, together, part_names, payload_names, stmt_names, node_names, body_names, def_names, named_by_part, named_by_payload, named_by_stmt, named_by_node, named_by_body, named_by_def}
use Rattle.pj_tree.specs.declared.tree.Sym.{Sym}
use Rattle.pj_tree.specs.declared.tree.Expr.{Expr}
use Rattle.pj_tree.specs.declared.tree.Stmt.{Stmt}
use Rattle.pj_tree.specs.declared.tree.Stmt.TheVariants as stmt
use Rattle.pj_tree.specs.declared.tree.Part.{Part}
use Rattle.pj_tree.specs.declared.tree.Part.TheVariants as part
use Rattle.pj_tree.specs.declared.tree.TreeNode.TheVariants as node
use Rattle.pj_tree.specs.declared.tree.Body.{Body}
use Rattle.pj_tree.specs.declared.tree.DefTree.{DefTree}
use Rattle.pj_tree.specs.declared.tree.Payload.{Payload}
use Rattle.pj_tree.specs.declared.tree.Payload.TheVariants as payload
use Rattle.pj_tree.specs.declared.tree.Part.TheOpen.{Part-F, Payload-F, Stmt-F, TreeNode-F}
use Rattle.pj_tree.specs.declared.tree.Part.TheFolds.{fold-roll-Part, fold-roll-Payload, fold-roll-Stmt, fold-roll-TreeNode}

pub part-Number : (n : ℕ) → named_by_part (part.Number n) ≡ n ∷ []
part-Number n =
    ap named_by_part (sym (part.rolls-Number n))
    ∙ fold-roll-Part Numbers Numbers Numbers Numbers Numbers Numbers part_names payload_names stmt_names node_names body_names def_names (Part-F.Number n)

pub stmt-Value : (e : Expr) → named_by_stmt (stmt.Value e) ≡ []
stmt-Value e =
    ap named_by_stmt (sym (stmt.rolls-Value e))
    ∙ fold-roll-Stmt Numbers Numbers Numbers Numbers Numbers Numbers part_names payload_names stmt_names node_names body_names def_names (Stmt-F.Stmt::Value e)

pub stmt-SetLocal : (x : Sym) (e : Expr) → named_by_stmt (stmt.SetLocal x e) ≡ []
stmt-SetLocal x e =
    ap named_by_stmt (sym (stmt.rolls-SetLocal x e))
    ∙ fold-roll-Stmt Numbers Numbers Numbers Numbers Numbers Numbers part_names payload_names stmt_names node_names body_names def_names (Stmt-F.SetLocal x e)

pub stmt-SetGlobal : (x : Sym) (e : Expr) → named_by_stmt (stmt.SetGlobal x e) ≡ []
stmt-SetGlobal x e =
    ap named_by_stmt (sym (stmt.rolls-SetGlobal x e))
    ∙ fold-roll-Stmt Numbers Numbers Numbers Numbers Numbers Numbers part_names payload_names stmt_names node_names body_names def_names (Stmt-F.SetGlobal x e)

pub stmt-SetField : (a : Expr) (x : Sym) (e : Expr) → named_by_stmt (stmt.SetField a x e) ≡ []
stmt-SetField a x e =
    ap named_by_stmt (sym (stmt.rolls-SetField a x e))
    ∙ fold-roll-Stmt Numbers Numbers Numbers Numbers Numbers Numbers part_names payload_names stmt_names node_names body_names def_names (Stmt-F.SetField a x e)

pub stmt-If : (c : Expr) (a : List Stmt) (b : List Stmt) → named_by_stmt (stmt.If c a b) ≡ together (map named_by_stmt a) ++ together (map named_by_stmt b)
stmt-If c a b =
    ap named_by_stmt (sym (stmt.rolls-If c a b))
    ∙ fold-roll-Stmt Numbers Numbers Numbers Numbers Numbers Numbers part_names payload_names stmt_names node_names body_names def_names (Stmt-F.If c a b)

pub stmt-While : (names : List Sym) (c : Expr) (b : List Stmt) → named_by_stmt (stmt.While names c b) ≡ together (map named_by_stmt b)
stmt-While names c b =
    ap named_by_stmt (sym (stmt.rolls-While names c b))
    ∙ fold-roll-Stmt Numbers Numbers Numbers Numbers Numbers Numbers part_names payload_names stmt_names node_names body_names def_names (Stmt-F.While names c b)

pub stmt-For : (x : Sym) (from : Expr) (to : Expr) (names : List Sym) (b : List Stmt) → named_by_stmt (stmt.For x from to names b) ≡ together (map named_by_stmt b)
stmt-For x from to names b =
    ap named_by_stmt (sym (stmt.rolls-For x from to names b))
    ∙ fold-roll-Stmt Numbers Numbers Numbers Numbers Numbers Numbers part_names payload_names stmt_names node_names body_names def_names (Stmt-F.For x from to names b)

pub stmt-Break : named_by_stmt stmt.Break ≡ []
stmt-Break =
    ap named_by_stmt (sym stmt.rolls-Break)
    ∙ fold-roll-Stmt Numbers Numbers Numbers Numbers Numbers Numbers part_names payload_names stmt_names node_names body_names def_names Stmt-F.Break

pub stmt-Continue : named_by_stmt stmt.Continue ≡ []
stmt-Continue =
    ap named_by_stmt (sym stmt.rolls-Continue)
    ∙ fold-roll-Stmt Numbers Numbers Numbers Numbers Numbers Numbers part_names payload_names stmt_names node_names body_names def_names Stmt-F.Continue

pub stmt-Return : (e : Expr) → named_by_stmt (stmt.Return e) ≡ []
stmt-Return e =
    ap named_by_stmt (sym (stmt.rolls-Return e))
    ∙ fold-roll-Stmt Numbers Numbers Numbers Numbers Numbers Numbers part_names payload_names stmt_names node_names body_names def_names (Stmt-F.Return e)

pub stmt-Eval : (m : Sym) (p : Part) → named_by_stmt (stmt.Eval m p) ≡ named_by_part p
stmt-Eval m p =
    ap named_by_stmt (sym (stmt.rolls-Eval m p))
    ∙ fold-roll-Stmt Numbers Numbers Numbers Numbers Numbers Numbers part_names payload_names stmt_names node_names body_names def_names (Stmt-F.Eval m p)

pub payload-Def : (d : DefTree) → named_by_payload (payload.Def d) ≡ named_by_def d
payload-Def d =
    ap named_by_payload (sym (payload.rolls-Def d))
    ∙ fold-roll-Payload Numbers Numbers Numbers Numbers Numbers Numbers part_names payload_names stmt_names node_names body_names def_names (Payload-F.Def d)

pub payload-SetBinding : (x : Sym) (e : Expr) → named_by_payload (payload.SetBinding x e) ≡ []
payload-SetBinding x e =
    ap named_by_payload (sym (payload.rolls-SetBinding x e))
    ∙ fold-roll-Payload Numbers Numbers Numbers Numbers Numbers Numbers part_names payload_names stmt_names node_names body_names def_names (Payload-F.SetBinding x e)

pub payload-Value : (e : Expr) → named_by_payload (payload.Value e) ≡ []
payload-Value e =
    ap named_by_payload (sym (payload.rolls-Value e))
    ∙ fold-roll-Payload Numbers Numbers Numbers Numbers Numbers Numbers part_names payload_names stmt_names node_names body_names def_names (Payload-F.Payload::Value e)

pub node-Body : (b : Body) → named_by_node (node.Body b) ≡ named_by_body b
node-Body b =
    ap named_by_node (sym (node.rolls-Body b))
    ∙ fold-roll-TreeNode Numbers Numbers Numbers Numbers Numbers Numbers part_names payload_names stmt_names node_names body_names def_names (TreeNode-F.Body b)

pub node-Payload : (p : Payload) → named_by_node (node.Payload p) ≡ named_by_payload p
node-Payload p =
    ap named_by_node (sym (node.rolls-Payload p))
    ∙ fold-roll-TreeNode Numbers Numbers Numbers Numbers Numbers Numbers part_names payload_names stmt_names node_names body_names def_names (TreeNode-F.Payload p)
