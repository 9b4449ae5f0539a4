-- The equations of the reading of statements, parts, payloads and bodies, one for each variant.
use Rattle.std.proofs.Common.{◌≡◌, ℕ, List, map, sym, ap, ◌∙◌}
use Rattle.pj_meaning.specs.Tree as tree
use Rattle.pj_tree.specs.Reads.{Strings, Parts, Meant, OfBody, OfPayload, Defined, define, as_body, as_payload, text_of_sym, texts_of, params_of, block_of, part_layer, payload_layer, stmt_layer, node_layer, body_layer, def_layer, expr_of, part_of, payload_of, stmt_of, node_of, body_of, def_of}
use Rattle.pj_tree.specs.declared.tree.Sym.{Sym}
use Rattle.pj_tree.specs.declared.tree.Expr.{Expr}
use Rattle.pj_tree.specs.declared.tree.Stmt.{Stmt}
use Rattle.pj_tree.specs.declared.tree.Part.{Part}
use Rattle.pj_tree.specs.declared.tree.TreeNode.{TreeNode}
use Rattle.pj_tree.specs.declared.tree.Body.{Body}
use Rattle.pj_tree.specs.declared.tree.DefTree.{DefTree}
use Rattle.pj_tree.specs.declared.tree.Payload.{Payload}
use Rattle.pj_tree.specs.declared.tree.Stmt.TheVariants as stmt
use Rattle.pj_tree.specs.declared.tree.Part.TheVariants as part
use Rattle.pj_tree.specs.declared.tree.TreeNode.TheVariants as node
use Rattle.pj_tree.specs.declared.tree.Payload.TheVariants as payload
use Rattle.pj_tree.specs.declared.tree.Part.TheOpen.{Part-F, Payload-F, Stmt-F, TreeNode-F}
use Rattle.pj_tree.specs.declared.tree.Part.TheFolds.{fold-roll-Part, fold-roll-Payload, fold-roll-Stmt, fold-roll-TreeNode, fold_out-Body, fold_out-DefTree}

pub part_of-Held : (strings : Strings) (parts : Parts) (t : TreeNode) →
    part_of strings parts (part.Held t) ≡ node_of strings parts t
part_of-Held strings parts t =
    ap (part_of strings parts) (sym (part.rolls-Held t))
    ∙ fold-roll-Part Meant tree.Payload tree.Stmt Meant tree.Body Defined
    (part_layer parts) (payload_layer strings) (stmt_layer strings) node_layer (body_layer strings) (def_layer strings)
    (Part-F.Held t)

pub part_of-Number : (strings : Strings) (parts : Parts) (n : ℕ) →
    part_of strings parts (part.Number n) ≡ parts n
part_of-Number strings parts n =
    ap (part_of strings parts) (sym (part.rolls-Number n))
    ∙ fold-roll-Part Meant tree.Payload tree.Stmt Meant tree.Body Defined
    (part_layer parts) (payload_layer strings) (stmt_layer strings) node_layer (body_layer strings) (def_layer strings)
    (Part-F.Number n)

pub stmt_of-Value : (strings : Strings) (parts : Parts) (e : Expr) →
    stmt_of strings parts (stmt.Value e) ≡ tree.Value (expr_of strings e)
stmt_of-Value strings parts e =
    ap (stmt_of strings parts) (sym (stmt.rolls-Value e))
    ∙ fold-roll-Stmt Meant tree.Payload tree.Stmt Meant tree.Body Defined
    (part_layer parts) (payload_layer strings) (stmt_layer strings) node_layer (body_layer strings) (def_layer strings)
    (Stmt-F.Stmt::Value e)

pub stmt_of-SetLocal : (strings : Strings) (parts : Parts) (x : Sym) (e : Expr) →
    stmt_of strings parts (stmt.SetLocal x e) ≡ tree.SetLocal (text_of_sym strings x) (expr_of strings e)
stmt_of-SetLocal strings parts x e =
    ap (stmt_of strings parts) (sym (stmt.rolls-SetLocal x e))
    ∙ fold-roll-Stmt Meant tree.Payload tree.Stmt Meant tree.Body Defined
    (part_layer parts) (payload_layer strings) (stmt_layer strings) node_layer (body_layer strings) (def_layer strings)
    (Stmt-F.SetLocal x e)

pub stmt_of-SetGlobal : (strings : Strings) (parts : Parts) (x : Sym) (e : Expr) →
    stmt_of strings parts (stmt.SetGlobal x e) ≡ tree.SetGlobal (text_of_sym strings x) (expr_of strings e)
stmt_of-SetGlobal strings parts x e =
    ap (stmt_of strings parts) (sym (stmt.rolls-SetGlobal x e))
    ∙ fold-roll-Stmt Meant tree.Payload tree.Stmt Meant tree.Body Defined
    (part_layer parts) (payload_layer strings) (stmt_layer strings) node_layer (body_layer strings) (def_layer strings)
    (Stmt-F.SetGlobal x e)

pub stmt_of-SetField : (strings : Strings) (parts : Parts) (a : Expr) (x : Sym) (e : Expr) →
    stmt_of strings parts (stmt.SetField a x e) ≡ tree.SetField (expr_of strings a) (text_of_sym strings x) (expr_of strings e)
stmt_of-SetField strings parts a x e =
    ap (stmt_of strings parts) (sym (stmt.rolls-SetField a x e))
    ∙ fold-roll-Stmt Meant tree.Payload tree.Stmt Meant tree.Body Defined
    (part_layer parts) (payload_layer strings) (stmt_layer strings) node_layer (body_layer strings) (def_layer strings)
    (Stmt-F.SetField a x e)

pub stmt_of-If : (strings : Strings) (parts : Parts) (c : Expr) (a : List Stmt) (b : List Stmt) →
    stmt_of strings parts (stmt.If c a b) ≡ tree.If (expr_of strings c) (block_of (map (stmt_of strings parts) a)) (block_of (map (stmt_of strings parts) b))
stmt_of-If strings parts c a b =
    ap (stmt_of strings parts) (sym (stmt.rolls-If c a b))
    ∙ fold-roll-Stmt Meant tree.Payload tree.Stmt Meant tree.Body Defined
    (part_layer parts) (payload_layer strings) (stmt_layer strings) node_layer (body_layer strings) (def_layer strings)
    (Stmt-F.If c a b)

pub stmt_of-While : (strings : Strings) (parts : Parts) (names : List Sym) (c : Expr) (b : List Stmt) →
    stmt_of strings parts (stmt.While names c b) ≡ tree.While (texts_of strings names) (expr_of strings c) (block_of (map (stmt_of strings parts) b))
stmt_of-While strings parts names c b =
    ap (stmt_of strings parts) (sym (stmt.rolls-While names c b))
    ∙ fold-roll-Stmt Meant tree.Payload tree.Stmt Meant tree.Body Defined
    (part_layer parts) (payload_layer strings) (stmt_layer strings) node_layer (body_layer strings) (def_layer strings)
    (Stmt-F.While names c b)

pub stmt_of-For : (strings : Strings) (parts : Parts) (x : Sym) (from : Expr) (to : Expr) (names : List Sym) (b : List Stmt) →
    stmt_of strings parts (stmt.For x from to names b) ≡ tree.For (text_of_sym strings x) (expr_of strings from) (expr_of strings to) (texts_of strings names) (block_of (map (stmt_of strings parts) b))
stmt_of-For strings parts x from to names b =
    ap (stmt_of strings parts) (sym (stmt.rolls-For x from to names b))
    ∙ fold-roll-Stmt Meant tree.Payload tree.Stmt Meant tree.Body Defined
    (part_layer parts) (payload_layer strings) (stmt_layer strings) node_layer (body_layer strings) (def_layer strings)
    (Stmt-F.For x from to names b)

pub stmt_of-Break : (strings : Strings) (parts : Parts) →
    stmt_of strings parts stmt.Break ≡ tree.Break
stmt_of-Break strings parts =
    ap (stmt_of strings parts) (sym stmt.rolls-Break)
    ∙ fold-roll-Stmt Meant tree.Payload tree.Stmt Meant tree.Body Defined
    (part_layer parts) (payload_layer strings) (stmt_layer strings) node_layer (body_layer strings) (def_layer strings)
    Stmt-F.Break

pub stmt_of-Continue : (strings : Strings) (parts : Parts) →
    stmt_of strings parts stmt.Continue ≡ tree.Continue
stmt_of-Continue strings parts =
    ap (stmt_of strings parts) (sym stmt.rolls-Continue)
    ∙ fold-roll-Stmt Meant tree.Payload tree.Stmt Meant tree.Body Defined
    (part_layer parts) (payload_layer strings) (stmt_layer strings) node_layer (body_layer strings) (def_layer strings)
    Stmt-F.Continue

pub stmt_of-Return : (strings : Strings) (parts : Parts) (e : Expr) →
    stmt_of strings parts (stmt.Return e) ≡ tree.Return (expr_of strings e)
stmt_of-Return strings parts e =
    ap (stmt_of strings parts) (sym (stmt.rolls-Return e))
    ∙ fold-roll-Stmt Meant tree.Payload tree.Stmt Meant tree.Body Defined
    (part_layer parts) (payload_layer strings) (stmt_layer strings) node_layer (body_layer strings) (def_layer strings)
    (Stmt-F.Return e)

pub stmt_of-Eval : (strings : Strings) (parts : Parts) (m : Sym) (p : Part) →
    stmt_of strings parts (stmt.Eval m p) ≡ tree.Eval (text_of_sym strings m) (as_payload (part_of strings parts p))
stmt_of-Eval strings parts m p =
    ap (stmt_of strings parts) (sym (stmt.rolls-Eval m p))
    ∙ fold-roll-Stmt Meant tree.Payload tree.Stmt Meant tree.Body Defined
    (part_layer parts) (payload_layer strings) (stmt_layer strings) node_layer (body_layer strings) (def_layer strings)
    (Stmt-F.Eval m p)

pub payload_of-Def : (strings : Strings) (parts : Parts) (d : DefTree) →
    payload_of strings parts (payload.Def d) ≡ define (def_of strings parts d)
payload_of-Def strings parts d =
    ap (payload_of strings parts) (sym (payload.rolls-Def d))
    ∙ fold-roll-Payload Meant tree.Payload tree.Stmt Meant tree.Body Defined
    (part_layer parts) (payload_layer strings) (stmt_layer strings) node_layer (body_layer strings) (def_layer strings)
    (Payload-F.Def d)

pub payload_of-SetBinding : (strings : Strings) (parts : Parts) (x : Sym) (e : Expr) →
    payload_of strings parts (payload.SetBinding x e) ≡ tree.SetBinding (text_of_sym strings x) (expr_of strings e)
payload_of-SetBinding strings parts x e =
    ap (payload_of strings parts) (sym (payload.rolls-SetBinding x e))
    ∙ fold-roll-Payload Meant tree.Payload tree.Stmt Meant tree.Body Defined
    (part_layer parts) (payload_layer strings) (stmt_layer strings) node_layer (body_layer strings) (def_layer strings)
    (Payload-F.SetBinding x e)

pub payload_of-Value : (strings : Strings) (parts : Parts) (e : Expr) →
    payload_of strings parts (payload.Value e) ≡ tree.Evaluate (expr_of strings e)
payload_of-Value strings parts e =
    ap (payload_of strings parts) (sym (payload.rolls-Value e))
    ∙ fold-roll-Payload Meant tree.Payload tree.Stmt Meant tree.Body Defined
    (part_layer parts) (payload_layer strings) (stmt_layer strings) node_layer (body_layer strings) (def_layer strings)
    (Payload-F.Payload::Value e)

pub node_of-Body : (strings : Strings) (parts : Parts) (b : Body) →
    node_of strings parts (node.Body b) ≡ OfBody (body_of strings parts b)
node_of-Body strings parts b =
    ap (node_of strings parts) (sym (node.rolls-Body b))
    ∙ fold-roll-TreeNode Meant tree.Payload tree.Stmt Meant tree.Body Defined
    (part_layer parts) (payload_layer strings) (stmt_layer strings) node_layer (body_layer strings) (def_layer strings)
    (TreeNode-F.Body b)

pub node_of-Payload : (strings : Strings) (parts : Parts) (p : Payload) →
    node_of strings parts (node.Payload p) ≡ OfPayload (payload_of strings parts p)
node_of-Payload strings parts p =
    ap (node_of strings parts) (sym (node.rolls-Payload p))
    ∙ fold-roll-TreeNode Meant tree.Payload tree.Stmt Meant tree.Body Defined
    (part_layer parts) (payload_layer strings) (stmt_layer strings) node_layer (body_layer strings) (def_layer strings)
    (TreeNode-F.Payload p)

pub body_of-Body : (strings : Strings) (parts : Parts) (b : Body) →
    body_of strings parts b ≡ tree.body (texts_of strings b.params) (texts_of strings b.introduced) (block_of (map (stmt_of strings parts) b.block))
body_of-Body strings parts b =
    fold_out-Body Meant tree.Payload tree.Stmt Meant tree.Body Defined
    (part_layer parts) (payload_layer strings) (stmt_layer strings) node_layer (body_layer strings) (def_layer strings)
    b

pub def_of-DefTree : (strings : Strings) (parts : Parts) (d : DefTree) →
    def_of strings parts d ≡ record {
      home = text_of_sym strings d.«module»;
      fun = text_of_sym strings d.fun;
      params = params_of strings d.params;
      code = as_body (part_of strings parts d.body);
    }
def_of-DefTree strings parts d =
    fold_out-DefTree Meant tree.Payload tree.Stmt Meant tree.Body Defined
    (part_layer parts) (payload_layer strings) (stmt_layer strings) node_layer (body_layer strings) (def_layer strings)
    d

pub ruleset tree_reads = (part_of-Held, part_of-Number, stmt_of-Value, stmt_of-SetLocal, stmt_of-SetGlobal, stmt_of-SetField, stmt_of-If, stmt_of-While, stmt_of-For, stmt_of-Break, stmt_of-Continue, stmt_of-Return, stmt_of-Eval, payload_of-Def, payload_of-SetBinding, payload_of-Value, node_of-Body, node_of-Payload, body_of-Body, def_of-DefTree)
