-- How the trees of an image name one another: by a higher number that is there, a definition a body with as many
-- parameters, an evaluation a payload, and no tree twice.
use Rattle.std.specs.Prelude.{ℕ, zero, suc, Bool, true, false, not, ◌&&◌, ◌||◌, ◌==◌, nat_lt, List, [], ◌∷◌, ◌++◌, length, map, flat_map, slice_get, Option, Some, None}
use Rattle.std.specs.List.{list_any}
use Rattle.pj_rules.specs.declared.mentions.Mention.{Mention}
use Rattle.pj_rules.specs.declared.mentions.Mention.TheVariants as m
use Rattle.pj_tree.specs.declared.tree.Stmt.{Stmt}
use Rattle.pj_tree.specs.declared.tree.Part.{Part}
use Rattle.pj_tree.specs.declared.tree.TreeNode.{TreeNode, out-TreeNode}
use Rattle.pj_tree.specs.declared.tree.Body.{Body}
use Rattle.pj_tree.specs.declared.tree.DefTree.{DefTree}
use Rattle.pj_tree.specs.declared.tree.Payload.{Payload}
use Rattle.pj_tree.specs.declared.tree.Part.TheOpen.{Part-F, Payload-F, Stmt-F, TreeNode-F, Body-F, DefTree-F}
use Rattle.pj_tree.specs.declared.tree.Part.TheFolds.{fold-Part, fold-Payload, fold-Stmt, fold-TreeNode, fold-Body, fold-DefTree}

abbrev pub Mentions : Type 0
Mentions = List Mention

-- what a number names: a body with so many parameters, or a payload
abbrev pub mention_of : Option ℕ → ℕ → Mention
mention_of None n = m.Payload n
mention_of (Some params) n = m.Body n params

abbrev pub Part-Mentions : Type 0
Part-Mentions = Option ℕ → Mentions

abbrev pub together : List Mentions → Mentions
together all = flat_map (λ ms. ms) all

abbrev pub part_step : Part-F Part-Mentions Mentions Mentions Mentions Mentions Mentions → Part-Mentions
part_step (Part-F.Held ms) params = ms
part_step (Part-F.Number n) params = mention_of params n ∷ []

abbrev pub payload_step : Payload-F Part-Mentions Mentions Mentions Mentions Mentions Mentions → Mentions
payload_step (Payload-F.Def ms) = ms
payload_step (Payload-F.SetBinding x e) = []
payload_step (Payload-F.Payload::Value e) = []

abbrev pub stmt_step : Stmt-F Part-Mentions Mentions Mentions Mentions Mentions Mentions → Mentions
stmt_step (Stmt-F.Stmt::Value e) = []
stmt_step (Stmt-F.SetLocal x e) = []
stmt_step (Stmt-F.SetGlobal x e) = []
stmt_step (Stmt-F.SetField a x e) = []
stmt_step (Stmt-F.If c a b) = together a ++ together b
stmt_step (Stmt-F.While names c b) = together b
stmt_step (Stmt-F.For x from to names b) = together b
stmt_step Stmt-F.Break = []
stmt_step Stmt-F.Continue = []
stmt_step (Stmt-F.Return e) = []
stmt_step (Stmt-F.Eval home part) = part None

abbrev pub node_step : TreeNode-F Part-Mentions Mentions Mentions Mentions Mentions Mentions → Mentions
node_step (TreeNode-F.Body ms) = ms
node_step (TreeNode-F.Payload ms) = ms

abbrev pub body_step : Body-F Part-Mentions Mentions Mentions Mentions Mentions Mentions → Mentions
body_step b = together b.block

abbrev pub def_step : DefTree-F Part-Mentions Mentions Mentions Mentions Mentions Mentions → Mentions
def_step d = d.body (Some (length d.params))

-- the trees that a tree names, in order
unfoldable pub by_stmt : Stmt → Mentions
by_stmt = fold-Stmt Part-Mentions Mentions Mentions Mentions Mentions Mentions part_step payload_step stmt_step node_step body_step def_step

unfoldable pub by_block : List Stmt → Mentions
by_block b = flat_map by_stmt b

unfoldable pub by_part : Part → Part-Mentions
by_part = fold-Part Part-Mentions Mentions Mentions Mentions Mentions Mentions part_step payload_step stmt_step node_step body_step def_step

unfoldable pub by_payload : Payload → Mentions
by_payload = fold-Payload Part-Mentions Mentions Mentions Mentions Mentions Mentions part_step payload_step stmt_step node_step body_step def_step

unfoldable pub by_body : Body → Mentions
by_body = fold-Body Part-Mentions Mentions Mentions Mentions Mentions Mentions part_step payload_step stmt_step node_step body_step def_step

unfoldable pub by_def : DefTree → Mentions
by_def = fold-DefTree Part-Mentions Mentions Mentions Mentions Mentions Mentions part_step payload_step stmt_step node_step body_step def_step

unfoldable pub by_tree : TreeNode → Mentions
by_tree = fold-TreeNode Part-Mentions Mentions Mentions Mentions Mentions Mentions part_step payload_step stmt_step node_step body_step def_step

abbrev pub named : Mention → ℕ
named (m.Payload n) = n
named (m.Body n params) = n

-- whether a tree is of the kind that is named
abbrev pub is_so : Mention → TreeNode-F Part Payload Stmt TreeNode Body DefTree → Bool
is_so (m.Payload n) (TreeNode-F.Body b) = false
is_so (m.Payload n) (TreeNode-F.Payload p) = true
is_so (m.Body n params) (TreeNode-F.Body b) = length b.params == params
is_so (m.Body n params) (TreeNode-F.Payload p) = false

abbrev pub is_there : Mention → Option TreeNode → Bool
is_there mention None = false
is_there mention (Some t) = is_so mention (out-TreeNode t)

-- whether a tree with the number `at` may name this one
unfoldable pub names_well : List TreeNode → ℕ → Mention → Bool
names_well trees at mention = nat_lt at (named mention) && is_there mention (slice_get trees (named mention))

unfoldable pub each_names_well : List TreeNode → ℕ → Mentions → Bool
each_names_well trees at [] = true
each_names_well trees at (mention ∷ more) = names_well trees at mention && each_names_well trees at more

-- the same of trees of which the first has the number `at`
unfoldable pub all_name_well : List TreeNode → ℕ → List TreeNode → Bool
all_name_well trees at [] = true
all_name_well trees at (t ∷ later) = each_names_well trees at (by_tree t) && all_name_well trees (suc at) later

unfoldable pub is_among : ℕ → List ℕ → Bool
is_among n numbers = list_any (λ k. n == k) numbers

-- whether a number stands twice
unfoldable pub has_twice : List ℕ → Bool
has_twice [] = false
has_twice (n ∷ more) = is_among n more || has_twice more

unfoldable pub numbers_of : Mentions → List ℕ
numbers_of mentions = map named mentions

unfoldable pub all_numbers : List TreeNode → List ℕ
all_numbers trees = flat_map (λ t. numbers_of (by_tree t)) trees

abbrev pub numbered_well : List TreeNode → Bool
numbered_well trees = all_name_well trees zero trees && not (has_twice (all_numbers trees))
