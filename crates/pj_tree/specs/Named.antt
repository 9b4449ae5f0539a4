-- The numbers of the trees that a tree names, in order.
use Rattle.std.specs.Prelude.{◌≡◌, ◌≤◌, ◌<◌, ⊤, ℕ, suc, List, [], ◌∷◌, ◌++◌, ◌+◌, ◌==◌, ◌&&◌, if◌then◌else◌, map, nat_le, nat_lt}
use Rattle.pj_tree.specs.Reads.{Parts}
use Rattle.pj_tree.specs.declared.tree.Stmt.{Stmt}
use Rattle.pj_tree.specs.declared.tree.Part.{Part}
use Rattle.pj_tree.specs.declared.tree.TreeNode.{TreeNode}
use Rattle.pj_tree.specs.declared.tree.Body.{Body}
use Rattle.pj_tree.specs.declared.tree.DefTree.{DefTree}
use Rattle.pj_tree.specs.declared.tree.Payload.{Payload}
use Rattle.pj_tree.specs.declared.tree.Part.TheOpen.{Part-F, Payload-F, Stmt-F, TreeNode-F, Body-F, DefTree-F}
use Rattle.pj_tree.specs.declared.tree.Part.TheFolds.{fold-Part, fold-Payload, fold-Stmt, fold-TreeNode, fold-Body, fold-DefTree}

abbrev pub Numbers : Type 0
Numbers = List ℕ

abbrev pub together : List Numbers → Numbers
together [] = []
together (ns ∷ more) = ns ++ together more

abbrev pub part_names : Part-F Numbers Numbers Numbers Numbers Numbers Numbers → Numbers
part_names (Part-F.Held ns) = ns
part_names (Part-F.Number n) = n ∷ []

abbrev pub payload_names : Payload-F Numbers Numbers Numbers Numbers Numbers Numbers → Numbers
payload_names (Payload-F.Def ns) = ns
payload_names (Payload-F.SetBinding x e) = []
payload_names (Payload-F.Payload::Value e) = []

abbrev pub stmt_names : Stmt-F Numbers Numbers Numbers Numbers Numbers Numbers → Numbers
stmt_names (Stmt-F.Stmt::Value e) = []
stmt_names (Stmt-F.SetLocal x e) = []
stmt_names (Stmt-F.SetGlobal x e) = []
stmt_names (Stmt-F.SetField a x e) = []
stmt_names (Stmt-F.If c a b) = together a ++ together b
stmt_names (Stmt-F.While names c b) = together b
stmt_names (Stmt-F.For x from to names b) = together b
stmt_names Stmt-F.Break = []
stmt_names Stmt-F.Continue = []
stmt_names (Stmt-F.Return e) = []
stmt_names (Stmt-F.Eval m ns) = ns

abbrev pub node_names : TreeNode-F Numbers Numbers Numbers Numbers Numbers Numbers → Numbers
node_names (TreeNode-F.Body ns) = ns
node_names (TreeNode-F.Payload ns) = ns

abbrev pub body_names : Body-F Numbers Numbers Numbers Numbers Numbers Numbers → Numbers
body_names b = together b.block

abbrev pub def_names : DefTree-F Numbers Numbers Numbers Numbers Numbers Numbers → Numbers
def_names d = d.body

abbrev pub named_by_part : Part → Numbers
named_by_part = fold-Part Numbers Numbers Numbers Numbers Numbers Numbers part_names payload_names stmt_names node_names body_names def_names

abbrev pub named_by_payload : Payload → Numbers
named_by_payload = fold-Payload Numbers Numbers Numbers Numbers Numbers Numbers part_names payload_names stmt_names node_names body_names def_names

abbrev pub named_by_stmt : Stmt → Numbers
named_by_stmt = fold-Stmt Numbers Numbers Numbers Numbers Numbers Numbers part_names payload_names stmt_names node_names body_names def_names

abbrev pub named_by_node : TreeNode → Numbers
named_by_node = fold-TreeNode Numbers Numbers Numbers Numbers Numbers Numbers part_names payload_names stmt_names node_names body_names def_names

abbrev pub named_by_body : Body → Numbers
named_by_body = fold-Body Numbers Numbers Numbers Numbers Numbers Numbers part_names payload_names stmt_names node_names body_names def_names

abbrev pub named_by_def : DefTree → Numbers
named_by_def = fold-DefTree Numbers Numbers Numbers Numbers Numbers Numbers part_names payload_names stmt_names node_names body_names def_names

-- the trees of these numbers mean the same in both
abbrev pub Agree : Parts → Parts → Numbers → Type 0
Agree p q [] = ⊤
Agree p q (n ∷ ns) = (p n ≡ q n) × Agree p q ns

abbrev pub AllBetween : ℕ → ℕ → Numbers → Type 0
AllBetween low high [] = ⊤
AllBetween low high (n ∷ ns) = (low ≤ n) × ((n < high) × AllBetween low high ns)

-- trees of which the first has the number n: each names later ones alone, below the number that follows the last
abbrev pub NameLater : ℕ → ℕ → List TreeNode → Type 0
NameLater n after [] = ⊤
NameLater n after (t ∷ later) = AllBetween (suc n) after (named_by_node t) × NameLater (suc n) after later

-- how often a number stands among these
abbrev pub count : ℕ → Numbers → ℕ
count k [] = 0
count k (n ∷ ns) = (if n == k then 1 else 0) + count k ns

-- all the numbers that trees name
abbrev pub named_by_all : List TreeNode → Numbers
named_by_all trees = together (map named_by_node trees)

-- each number from one up to another stands once, and no other
abbrev pub EachOnce : ℕ → ℕ → Numbers → Type 0
EachOnce low high ns = (k : ℕ) → count k ns ≡ (if nat_le low k && nat_lt k high then 1 else 0)
