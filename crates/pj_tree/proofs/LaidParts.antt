-- What numbering gives for each variant.
use Rattle.std.proofs.Common.{◌≡◌, ℕ, List, map, sym, ap, ◌∙◌}
use Rattle.pj_tree.specs.Numbering.{From, nothing_named, made, both, all, held, part_from, payload_from, stmt_from, node_from, body_from, def_from, numbered_part, numbered_payload, numbered_stmt, numbered_node, numbered_body, numbered_def}
use Rattle.pj_tree.specs.declared.tree.Sym.{Sym}
use Rattle.pj_tree.specs.declared.tree.Expr.{Expr}
use Rattle.pj_tree.specs.declared.tree.Stmt.{Stmt}
use Rattle.pj_tree.specs.declared.tree.Stmt.TheVariants as stmt
use Rattle.pj_tree.specs.declared.tree.Part.{Part}
use Rattle.pj_tree.specs.declared.tree.Part.TheVariants as part
use Rattle.pj_tree.specs.declared.tree.TreeNode.{TreeNode}
use Rattle.pj_tree.specs.declared.tree.TreeNode.TheVariants as node
use Rattle.pj_tree.specs.declared.tree.Body.{Body, roll-Body}
use Rattle.pj_tree.specs.declared.tree.DefTree.{DefTree, roll-DefTree}
use Rattle.pj_tree.specs.declared.tree.Payload.{Payload}
use Rattle.pj_tree.specs.declared.tree.Payload.TheVariants as payload
use Rattle.pj_tree.specs.declared.tree.Part.TheOpen.{Part-F, Payload-F, Stmt-F, TreeNode-F}
use Rattle.pj_tree.specs.declared.tree.Part.TheFolds.{fold-roll-Part, fold-roll-Payload, fold-roll-Stmt, fold-roll-TreeNode, fold_out-Body, fold_out-DefTree}

pub numbered_part-Held : (t : TreeNode) → numbered_part (part.Held t) ≡ held (numbered_node t)
numbered_part-Held t =
    ap numbered_part (sym (part.rolls-Held t))
    ∙ fold-roll-Part (From Part) (From Payload) (From Stmt) (From TreeNode) (From Body) (From DefTree) part_from payload_from stmt_from node_from body_from def_from (Part-F.Held t)

pub numbered_part-Number : (n : ℕ) → numbered_part (part.Number n) ≡ nothing_named (part.Number n)
numbered_part-Number n =
    ap numbered_part (sym (part.rolls-Number n))
    ∙ fold-roll-Part (From Part) (From Payload) (From Stmt) (From TreeNode) (From Body) (From DefTree) part_from payload_from stmt_from node_from body_from def_from (Part-F.Number n)

pub numbered_stmt-Value : (e : Expr) → numbered_stmt (stmt.Value e) ≡ nothing_named (stmt.Value e)
numbered_stmt-Value e =
    ap numbered_stmt (sym (stmt.rolls-Value e))
    ∙ fold-roll-Stmt (From Part) (From Payload) (From Stmt) (From TreeNode) (From Body) (From DefTree) part_from payload_from stmt_from node_from body_from def_from (Stmt-F.Stmt::Value e)

pub numbered_stmt-SetLocal : (x : Sym) (e : Expr) → numbered_stmt (stmt.SetLocal x e) ≡ nothing_named (stmt.SetLocal x e)
numbered_stmt-SetLocal x e =
    ap numbered_stmt (sym (stmt.rolls-SetLocal x e))
    ∙ fold-roll-Stmt (From Part) (From Payload) (From Stmt) (From TreeNode) (From Body) (From DefTree) part_from payload_from stmt_from node_from body_from def_from (Stmt-F.SetLocal x e)

pub numbered_stmt-SetGlobal : (x : Sym) (e : Expr) → numbered_stmt (stmt.SetGlobal x e) ≡ nothing_named (stmt.SetGlobal x e)
numbered_stmt-SetGlobal x e =
    ap numbered_stmt (sym (stmt.rolls-SetGlobal x e))
    ∙ fold-roll-Stmt (From Part) (From Payload) (From Stmt) (From TreeNode) (From Body) (From DefTree) part_from payload_from stmt_from node_from body_from def_from (Stmt-F.SetGlobal x e)

pub numbered_stmt-SetField : (a : Expr) (x : Sym) (e : Expr) → numbered_stmt (stmt.SetField a x e) ≡ nothing_named (stmt.SetField a x e)
numbered_stmt-SetField a x e =
    ap numbered_stmt (sym (stmt.rolls-SetField a x e))
    ∙ fold-roll-Stmt (From Part) (From Payload) (From Stmt) (From TreeNode) (From Body) (From DefTree) part_from payload_from stmt_from node_from body_from def_from (Stmt-F.SetField a x e)

pub numbered_stmt-If : (c : Expr) (a : List Stmt) (b : List Stmt) → numbered_stmt (stmt.If c a b) ≡ both (stmt.If c) (all (map numbered_stmt a)) (all (map numbered_stmt b))
numbered_stmt-If c a b =
    ap numbered_stmt (sym (stmt.rolls-If c a b))
    ∙ fold-roll-Stmt (From Part) (From Payload) (From Stmt) (From TreeNode) (From Body) (From DefTree) part_from payload_from stmt_from node_from body_from def_from (Stmt-F.If c a b)

pub numbered_stmt-While : (names : List Sym) (c : Expr) (b : List Stmt) → numbered_stmt (stmt.While names c b) ≡ made (stmt.While names c) (all (map numbered_stmt b))
numbered_stmt-While names c b =
    ap numbered_stmt (sym (stmt.rolls-While names c b))
    ∙ fold-roll-Stmt (From Part) (From Payload) (From Stmt) (From TreeNode) (From Body) (From DefTree) part_from payload_from stmt_from node_from body_from def_from (Stmt-F.While names c b)

pub numbered_stmt-For : (x : Sym) (from : Expr) (to : Expr) (names : List Sym) (b : List Stmt) → numbered_stmt (stmt.For x from to names b) ≡ made (stmt.For x from to names) (all (map numbered_stmt b))
numbered_stmt-For x from to names b =
    ap numbered_stmt (sym (stmt.rolls-For x from to names b))
    ∙ fold-roll-Stmt (From Part) (From Payload) (From Stmt) (From TreeNode) (From Body) (From DefTree) part_from payload_from stmt_from node_from body_from def_from (Stmt-F.For x from to names b)

pub numbered_stmt-Break : numbered_stmt stmt.Break ≡ nothing_named stmt.Break
numbered_stmt-Break =
    ap numbered_stmt (sym stmt.rolls-Break)
    ∙ fold-roll-Stmt (From Part) (From Payload) (From Stmt) (From TreeNode) (From Body) (From DefTree) part_from payload_from stmt_from node_from body_from def_from Stmt-F.Break

pub numbered_stmt-Continue : numbered_stmt stmt.Continue ≡ nothing_named stmt.Continue
numbered_stmt-Continue =
    ap numbered_stmt (sym stmt.rolls-Continue)
    ∙ fold-roll-Stmt (From Part) (From Payload) (From Stmt) (From TreeNode) (From Body) (From DefTree) part_from payload_from stmt_from node_from body_from def_from Stmt-F.Continue

pub numbered_stmt-Return : (e : Expr) → numbered_stmt (stmt.Return e) ≡ nothing_named (stmt.Return e)
numbered_stmt-Return e =
    ap numbered_stmt (sym (stmt.rolls-Return e))
    ∙ fold-roll-Stmt (From Part) (From Payload) (From Stmt) (From TreeNode) (From Body) (From DefTree) part_from payload_from stmt_from node_from body_from def_from (Stmt-F.Return e)

pub numbered_stmt-Eval : (m : Sym) (p : Part) → numbered_stmt (stmt.Eval m p) ≡ made (stmt.Eval m) (numbered_part p)
numbered_stmt-Eval m p =
    ap numbered_stmt (sym (stmt.rolls-Eval m p))
    ∙ fold-roll-Stmt (From Part) (From Payload) (From Stmt) (From TreeNode) (From Body) (From DefTree) part_from payload_from stmt_from node_from body_from def_from (Stmt-F.Eval m p)

pub numbered_payload-Def : (d : DefTree) → numbered_payload (payload.Def d) ≡ made payload.Def (numbered_def d)
numbered_payload-Def d =
    ap numbered_payload (sym (payload.rolls-Def d))
    ∙ fold-roll-Payload (From Part) (From Payload) (From Stmt) (From TreeNode) (From Body) (From DefTree) part_from payload_from stmt_from node_from body_from def_from (Payload-F.Def d)

pub numbered_payload-SetBinding : (x : Sym) (e : Expr) → numbered_payload (payload.SetBinding x e) ≡ nothing_named (payload.SetBinding x e)
numbered_payload-SetBinding x e =
    ap numbered_payload (sym (payload.rolls-SetBinding x e))
    ∙ fold-roll-Payload (From Part) (From Payload) (From Stmt) (From TreeNode) (From Body) (From DefTree) part_from payload_from stmt_from node_from body_from def_from (Payload-F.SetBinding x e)

pub numbered_payload-Value : (e : Expr) → numbered_payload (payload.Value e) ≡ nothing_named (payload.Value e)
numbered_payload-Value e =
    ap numbered_payload (sym (payload.rolls-Value e))
    ∙ fold-roll-Payload (From Part) (From Payload) (From Stmt) (From TreeNode) (From Body) (From DefTree) part_from payload_from stmt_from node_from body_from def_from (Payload-F.Payload::Value e)

pub numbered_node-Body : (b : Body) → numbered_node (node.Body b) ≡ made node.Body (numbered_body b)
numbered_node-Body b =
    ap numbered_node (sym (node.rolls-Body b))
    ∙ fold-roll-TreeNode (From Part) (From Payload) (From Stmt) (From TreeNode) (From Body) (From DefTree) part_from payload_from stmt_from node_from body_from def_from (TreeNode-F.Body b)

pub numbered_node-Payload : (p : Payload) → numbered_node (node.Payload p) ≡ made node.Payload (numbered_payload p)
numbered_node-Payload p =
    ap numbered_node (sym (node.rolls-Payload p))
    ∙ fold-roll-TreeNode (From Part) (From Payload) (From Stmt) (From TreeNode) (From Body) (From DefTree) part_from payload_from stmt_from node_from body_from def_from (TreeNode-F.Payload p)

pub numbered_body-Body : (b : Body) → numbered_body b ≡ made (λ ss. roll-Body (record { params = b.params; introduced = b.introduced; block = ss })) (all (map numbered_stmt b.block))
numbered_body-Body b = fold_out-Body (From Part) (From Payload) (From Stmt) (From TreeNode) (From Body) (From DefTree) part_from payload_from stmt_from node_from body_from def_from b

pub numbered_def-DefTree : (d : DefTree) → numbered_def d ≡ made (λ p. roll-DefTree (record { «module» = d.«module»; fun = d.fun; params = d.params; body = p })) (numbered_part d.body)
numbered_def-DefTree d = fold_out-DefTree (From Part) (From Payload) (From Stmt) (From TreeNode) (From Body) (From DefTree) part_from payload_from stmt_from node_from body_from def_from d

pub ruleset numbering = (numbered_part-Held, numbered_part-Number, numbered_stmt-Value, numbered_stmt-SetLocal, numbered_stmt-SetGlobal, numbered_stmt-SetField, numbered_stmt-If, numbered_stmt-While, numbered_stmt-For, numbered_stmt-Break, numbered_stmt-Continue, numbered_stmt-Return, numbered_stmt-Eval, numbered_payload-Def, numbered_payload-SetBinding, numbered_payload-Value, numbered_node-Body, numbered_node-Payload, numbered_body-Body, numbered_def-DefTree)
