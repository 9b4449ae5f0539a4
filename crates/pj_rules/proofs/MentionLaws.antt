-- The trees that a tree names, one equation for each variant.
use Rattle.std.proofs.Common.{◌≡◌, ℕ, List, [], ◌∷◌, ◌++◌, map, flat_map, length, Option, Some, None, refl, sym, ap, ◌∙◌, append_assoc}
use Rattle.pj_rules.specs.Numbering.{Mentions, Part-Mentions, mention_of, together, part_step, payload_step, stmt_step, node_step, body_step, def_step, by_stmt, by_block, by_part, by_payload, by_body, by_def, by_tree}
use Rattle.pj_tree.specs.declared.tree.Sym.{Sym}
use Rattle.pj_tree.specs.declared.tree.Expr.{Expr}
use Rattle.pj_tree.specs.declared.tree.Stmt.{Stmt}
use Rattle.pj_tree.specs.declared.tree.Part.{Part}
use Rattle.pj_tree.specs.declared.tree.TreeNode.{TreeNode}
use Rattle.pj_tree.specs.declared.tree.Body.{Body}
use Rattle.pj_tree.specs.declared.tree.DefTree.{DefTree}
use Rattle.pj_tree.specs.declared.tree.Payload.{Payload}
use Rattle.pj_tree.specs.declared.tree.Stmt.TheVariants as s
use Rattle.pj_tree.specs.declared.tree.Part.TheVariants as p
use Rattle.pj_tree.specs.declared.tree.TreeNode.TheVariants as t
use Rattle.pj_tree.specs.declared.tree.Payload.TheVariants as y
use Rattle.pj_tree.specs.declared.tree.Part.TheOpen.{Part-F, Payload-F, Stmt-F, TreeNode-F}
use Rattle.pj_tree.specs.declared.tree.Part.TheFolds.{fold-roll-Part, fold-roll-Payload, fold-roll-Stmt, fold-roll-TreeNode, fold_out-Body, fold_out-DefTree}

together-map : {A : Type 0} (f : A → Mentions) (xs : List A) → together (map f xs) ≡ flat_map f xs
together-map f [] = refl
together-map f (x ∷ xs) = ap (λ ms. f x ++ ms) (together-map f xs)

pub stmt-Value : (v : Expr) → by_stmt (s.Value v) ≡ []
unfolding by_stmt by_block by_part by_payload by_body by_def by_tree
stmt-Value v = ap by_stmt (sym (s.rolls-Value v)) ∙ fold-roll-Stmt Part-Mentions Mentions Mentions Mentions Mentions Mentions part_step payload_step stmt_step node_step body_step def_step (Stmt-F.Stmt::Value v)

pub stmt-SetLocal : (x : Sym) (v : Expr) → by_stmt (s.SetLocal x v) ≡ []
unfolding by_stmt by_block by_part by_payload by_body by_def by_tree
stmt-SetLocal x v = ap by_stmt (sym (s.rolls-SetLocal x v)) ∙ fold-roll-Stmt Part-Mentions Mentions Mentions Mentions Mentions Mentions part_step payload_step stmt_step node_step body_step def_step (Stmt-F.SetLocal x v)

pub stmt-SetGlobal : (x : Sym) (v : Expr) → by_stmt (s.SetGlobal x v) ≡ []
unfolding by_stmt by_block by_part by_payload by_body by_def by_tree
stmt-SetGlobal x v = ap by_stmt (sym (s.rolls-SetGlobal x v)) ∙ fold-roll-Stmt Part-Mentions Mentions Mentions Mentions Mentions Mentions part_step payload_step stmt_step node_step body_step def_step (Stmt-F.SetGlobal x v)

pub stmt-SetField : (a : Expr) (x : Sym) (v : Expr) → by_stmt (s.SetField a x v) ≡ []
unfolding by_stmt by_block by_part by_payload by_body by_def by_tree
stmt-SetField a x v = ap by_stmt (sym (s.rolls-SetField a x v)) ∙ fold-roll-Stmt Part-Mentions Mentions Mentions Mentions Mentions Mentions part_step payload_step stmt_step node_step body_step def_step (Stmt-F.SetField a x v)

pub stmt-If : (c : Expr) (a : List Stmt) (b : List Stmt) → by_stmt (s.If c a b) ≡ by_block a ++ by_block b
unfolding by_stmt by_block by_part by_payload by_body by_def by_tree
stmt-If c a b = ap by_stmt (sym (s.rolls-If c a b)) ∙ fold-roll-Stmt Part-Mentions Mentions Mentions Mentions Mentions Mentions part_step payload_step stmt_step node_step body_step def_step (Stmt-F.If c a b) ∙ ap (λ ms. ms ++ together (map by_stmt b)) (together-map by_stmt a) ∙ ap (λ ms. by_block a ++ ms) (together-map by_stmt b)

pub stmt-While : (ns : List Sym) (c : Expr) (b : List Stmt) → by_stmt (s.While ns c b) ≡ by_block b
unfolding by_stmt by_block by_part by_payload by_body by_def by_tree
stmt-While ns c b = ap by_stmt (sym (s.rolls-While ns c b)) ∙ fold-roll-Stmt Part-Mentions Mentions Mentions Mentions Mentions Mentions part_step payload_step stmt_step node_step body_step def_step (Stmt-F.While ns c b) ∙ together-map by_stmt b

pub stmt-For : (x : Sym) (v : Expr) (w : Expr) (ns : List Sym) (b : List Stmt) → by_stmt (s.For x v w ns b) ≡ by_block b
unfolding by_stmt by_block by_part by_payload by_body by_def by_tree
stmt-For x v w ns b = ap by_stmt (sym (s.rolls-For x v w ns b)) ∙ fold-roll-Stmt Part-Mentions Mentions Mentions Mentions Mentions Mentions part_step payload_step stmt_step node_step body_step def_step (Stmt-F.For x v w ns b) ∙ together-map by_stmt b

pub stmt-Break : by_stmt s.Break ≡ []
unfolding by_stmt by_block by_part by_payload by_body by_def by_tree
stmt-Break = ap by_stmt (sym s.rolls-Break) ∙ fold-roll-Stmt Part-Mentions Mentions Mentions Mentions Mentions Mentions part_step payload_step stmt_step node_step body_step def_step Stmt-F.Break

pub stmt-Continue : by_stmt s.Continue ≡ []
unfolding by_stmt by_block by_part by_payload by_body by_def by_tree
stmt-Continue = ap by_stmt (sym s.rolls-Continue) ∙ fold-roll-Stmt Part-Mentions Mentions Mentions Mentions Mentions Mentions part_step payload_step stmt_step node_step body_step def_step Stmt-F.Continue

pub stmt-Return : (v : Expr) → by_stmt (s.Return v) ≡ []
unfolding by_stmt by_block by_part by_payload by_body by_def by_tree
stmt-Return v = ap by_stmt (sym (s.rolls-Return v)) ∙ fold-roll-Stmt Part-Mentions Mentions Mentions Mentions Mentions Mentions part_step payload_step stmt_step node_step body_step def_step (Stmt-F.Return v)

pub stmt-Eval : (h : Sym) (q : Part) → by_stmt (s.Eval h q) ≡ by_part q None
unfolding by_stmt by_block by_part by_payload by_body by_def by_tree
stmt-Eval h q = ap by_stmt (sym (s.rolls-Eval h q)) ∙ fold-roll-Stmt Part-Mentions Mentions Mentions Mentions Mentions Mentions part_step payload_step stmt_step node_step body_step def_step (Stmt-F.Eval h q)

pub payload-Def : (d : DefTree) → by_payload (y.Def d) ≡ by_def d
unfolding by_stmt by_block by_part by_payload by_body by_def by_tree
payload-Def d = ap by_payload (sym (y.rolls-Def d)) ∙ fold-roll-Payload Part-Mentions Mentions Mentions Mentions Mentions Mentions part_step payload_step stmt_step node_step body_step def_step (Payload-F.Def d)

pub payload-SetBinding : (x : Sym) (v : Expr) → by_payload (y.SetBinding x v) ≡ []
unfolding by_stmt by_block by_part by_payload by_body by_def by_tree
payload-SetBinding x v = ap by_payload (sym (y.rolls-SetBinding x v)) ∙ fold-roll-Payload Part-Mentions Mentions Mentions Mentions Mentions Mentions part_step payload_step stmt_step node_step body_step def_step (Payload-F.SetBinding x v)

pub payload-Value : (v : Expr) → by_payload (y.Value v) ≡ []
unfolding by_stmt by_block by_part by_payload by_body by_def by_tree
payload-Value v = ap by_payload (sym (y.rolls-Value v)) ∙ fold-roll-Payload Part-Mentions Mentions Mentions Mentions Mentions Mentions part_step payload_step stmt_step node_step body_step def_step (Payload-F.Payload::Value v)

pub tree-Body : (b : Body) → by_tree (t.Body b) ≡ by_body b
unfolding by_stmt by_block by_part by_payload by_body by_def by_tree
tree-Body b = ap by_tree (sym (t.rolls-Body b)) ∙ fold-roll-TreeNode Part-Mentions Mentions Mentions Mentions Mentions Mentions part_step payload_step stmt_step node_step body_step def_step (TreeNode-F.Body b)

pub tree-Payload : (q : Payload) → by_tree (t.Payload q) ≡ by_payload q
unfolding by_stmt by_block by_part by_payload by_body by_def by_tree
tree-Payload q = ap by_tree (sym (t.rolls-Payload q)) ∙ fold-roll-TreeNode Part-Mentions Mentions Mentions Mentions Mentions Mentions part_step payload_step stmt_step node_step body_step def_step (TreeNode-F.Payload q)

pub part-Number : (n : ℕ) (params : Option ℕ) → by_part (p.Number n) params ≡ mention_of params n ∷ []
unfolding by_stmt by_block by_part by_payload by_body by_def by_tree
part-Number n params = ap (λ q. by_part q params) (sym (p.rolls-Number n)) ∙ ap (λ ms. ms params) (fold-roll-Part Part-Mentions Mentions Mentions Mentions Mentions Mentions part_step payload_step stmt_step node_step body_step def_step (Part-F.Number n))

pub part-Held : (h : TreeNode) (params : Option ℕ) → by_part (p.Held h) params ≡ by_tree h
unfolding by_stmt by_block by_part by_payload by_body by_def by_tree
part-Held h params = ap (λ q. by_part q params) (sym (p.rolls-Held h)) ∙ ap (λ ms. ms params) (fold-roll-Part Part-Mentions Mentions Mentions Mentions Mentions Mentions part_step payload_step stmt_step node_step body_step def_step (Part-F.Held h))

pub body-parts : (b : Body) → by_body b ≡ by_block b.block
unfolding by_stmt by_block by_part by_payload by_body by_def by_tree
body-parts b = fold_out-Body Part-Mentions Mentions Mentions Mentions Mentions Mentions part_step payload_step stmt_step node_step body_step def_step b ∙ together-map by_stmt b.block

pub def-parts : (d : DefTree) → by_def d ≡ by_part d.body (Some (length d.params))
unfolding by_stmt by_block by_part by_payload by_body by_def by_tree
def-parts d = fold_out-DefTree Part-Mentions Mentions Mentions Mentions Mentions Mentions part_step payload_step stmt_step node_step body_step def_step d

pub append_none : (ms : Mentions) → ms ++ [] ≡ ms
append_none [] = refl
append_none (m ∷ ms) = ap (λ t. m ∷ t) (append_none ms)

pub ruleset mention_rules = (stmt-Value, stmt-SetLocal, stmt-SetGlobal, stmt-SetField, stmt-If, stmt-While, stmt-For, stmt-Break, stmt-Continue, stmt-Return, stmt-Eval, payload-Def, payload-SetBinding, payload-Value, tree-Body, tree-Payload, part-Number, part-Held, body-parts, def-parts, append_none, append_assoc)
