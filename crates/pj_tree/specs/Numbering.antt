-- How the trees that a tree holds are numbered: a tree comes before those that it names, and what it names comes in the
-- order of its statements, each tree with all that it names before the next.
use Rattle.std.specs.Prelude.{ℕ, suc, List, [], ◌∷◌, ◌++◌}
use Rattle.pj_tree.specs.declared.tree.Stmt.{Stmt}
use Rattle.pj_tree.specs.declared.tree.Stmt.TheVariants as stmt
use Rattle.pj_tree.specs.declared.tree.Part.{Part}
use Rattle.pj_tree.specs.declared.tree.Part.TheVariants as part
use Rattle.pj_tree.specs.declared.tree.TreeNode.{TreeNode}
use Rattle.pj_tree.specs.declared.tree.TreeNode.TheVariants as node
use Rattle.pj_tree.specs.declared.tree.Body.{Body, roll-Body}
use Rattle.pj_tree.specs.declared.tree.DefTree.{DefTree, roll-DefTree}
use Rattle.pj_tree.specs.declared.tree.Payload.{Payload}
use Rattle.pj_tree.specs.declared.tree.Payload.TheVariants as payload
use Rattle.pj_tree.specs.declared.tree.Part.TheOpen.{Part-F, Payload-F, Stmt-F, TreeNode-F, Body-F, DefTree-F}
use Rattle.pj_tree.specs.declared.tree.Part.TheFolds.{fold-Part, fold-Payload, fold-Stmt, fold-TreeNode, fold-Body, fold-DefTree}

-- a tree, or a part of one, in which all that is named has a number; the trees that it names, in the order of their
-- numbers; and the next number
pub record Laid (A : Type 0) : Type 0 where
  pub laid : A
  pub later : List TreeNode
  pub next : ℕ

-- what comes of numbering from a number on
abbrev pub From : Type 0 → Type 0
From A = ℕ → Laid A

abbrev pub nothing_named : {A : Type 0} → A → From A
nothing_named x n = record { laid = x; later = []; next = n }

abbrev pub made : {A B : Type 0} → (A → B) → From A → From B
made make one n = record { laid = make (one n).laid; later = (one n).later; next = (one n).next }

-- one after another
abbrev pub both : {A B C : Type 0} → (A → B → C) → From A → From B → From C
both make one two n = record {
  laid = make (one n).laid (two (one n).next).laid;
  later = (one n).later ++ (two (one n).next).later;
  next = (two (one n).next).next;
}

abbrev pub all : {A : Type 0} → List (From A) → From (List A)
all [] = nothing_named []
all (one ∷ more) = both (λ x xs. x ∷ xs) one (all more)

-- a tree has the number, and what it names the numbers after it
abbrev pub held : From TreeNode → From Part
held one n = record { laid = part.Number n; later = (one (suc n)).laid ∷ (one (suc n)).later; next = (one (suc n)).next }

-- ---- one layer of each type of trees

abbrev pub part_from : Part-F (From Part) (From Payload) (From Stmt) (From TreeNode) (From Body) (From DefTree) → From Part
part_from (Part-F.Held t) = held t
part_from (Part-F.Number n) = nothing_named (part.Number n)

abbrev pub payload_from : Payload-F (From Part) (From Payload) (From Stmt) (From TreeNode) (From Body) (From DefTree) → From Payload
payload_from (Payload-F.Def d) = made payload.Def d
payload_from (Payload-F.SetBinding x e) = nothing_named (payload.SetBinding x e)
payload_from (Payload-F.Payload::Value e) = nothing_named (payload.Value e)

abbrev pub stmt_from : Stmt-F (From Part) (From Payload) (From Stmt) (From TreeNode) (From Body) (From DefTree) → From Stmt
stmt_from (Stmt-F.Stmt::Value e) = nothing_named (stmt.Value e)
stmt_from (Stmt-F.SetLocal x e) = nothing_named (stmt.SetLocal x e)
stmt_from (Stmt-F.SetGlobal x e) = nothing_named (stmt.SetGlobal x e)
stmt_from (Stmt-F.SetField a x e) = nothing_named (stmt.SetField a x e)
stmt_from (Stmt-F.If c a b) = both (stmt.If c) (all a) (all b)
stmt_from (Stmt-F.While names c b) = made (stmt.While names c) (all b)
stmt_from (Stmt-F.For x from to names b) = made (stmt.For x from to names) (all b)
stmt_from Stmt-F.Break = nothing_named stmt.Break
stmt_from Stmt-F.Continue = nothing_named stmt.Continue
stmt_from (Stmt-F.Return e) = nothing_named (stmt.Return e)
stmt_from (Stmt-F.Eval m p) = made (stmt.Eval m) p

abbrev pub node_from : TreeNode-F (From Part) (From Payload) (From Stmt) (From TreeNode) (From Body) (From DefTree) → From TreeNode
node_from (TreeNode-F.Body b) = made node.Body b
node_from (TreeNode-F.Payload p) = made node.Payload p

abbrev pub body_from : Body-F (From Part) (From Payload) (From Stmt) (From TreeNode) (From Body) (From DefTree) → From Body
body_from b = made (λ ss. roll-Body (record { params = b.params; introduced = b.introduced; block = ss })) (all b.block)

abbrev pub def_from : DefTree-F (From Part) (From Payload) (From Stmt) (From TreeNode) (From Body) (From DefTree) → From DefTree
def_from d = made (λ p. roll-DefTree (record { «module» = d.«module»; fun = d.fun; params = d.params; body = p })) d.body

-- ---- whole trees

abbrev pub numbered_part : Part → From Part
numbered_part = fold-Part (From Part) (From Payload) (From Stmt) (From TreeNode) (From Body) (From DefTree) part_from payload_from stmt_from node_from body_from def_from

abbrev pub numbered_payload : Payload → From Payload
numbered_payload = fold-Payload (From Part) (From Payload) (From Stmt) (From TreeNode) (From Body) (From DefTree) part_from payload_from stmt_from node_from body_from def_from

abbrev pub numbered_stmt : Stmt → From Stmt
numbered_stmt = fold-Stmt (From Part) (From Payload) (From Stmt) (From TreeNode) (From Body) (From DefTree) part_from payload_from stmt_from node_from body_from def_from

abbrev pub numbered_node : TreeNode → From TreeNode
numbered_node = fold-TreeNode (From Part) (From Payload) (From Stmt) (From TreeNode) (From Body) (From DefTree) part_from payload_from stmt_from node_from body_from def_from

abbrev pub numbered_body : Body → From Body
numbered_body = fold-Body (From Part) (From Payload) (From Stmt) (From TreeNode) (From Body) (From DefTree) part_from payload_from stmt_from node_from body_from def_from

abbrev pub numbered_def : DefTree → From DefTree
numbered_def = fold-DefTree (From Part) (From Payload) (From Stmt) (From TreeNode) (From Body) (From DefTree) part_from payload_from stmt_from node_from body_from def_from

-- the trees that a tree becomes of which the first has this number
abbrev pub laid_out : TreeNode → ℕ → List TreeNode
laid_out t n = (numbered_node t (suc n)).laid ∷ (numbered_node t (suc n)).later
