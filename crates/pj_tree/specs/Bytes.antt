-- The one spelling of a tree in bytes: the tag of each node as a number, and its fields in order.
-- A text, and a tree that is held and not numbered, has no bytes: a tree that fits has none of them.
use Rattle.std.specs.Prelude.{ℕ, List, [], ◌++◌}
use Rattle.pj_fields.specs.Fields.{number, int, list}
use Rattle.pj_tree.specs.declared.tree.Sym.{Sym}
use Rattle.pj_tree.specs.declared.tree.Sym.TheVariants as s
use Rattle.pj_tree.specs.declared.tree.Param.{Param}
use Rattle.pj_tree.specs.declared.tree.Expr.{Expr}
use Rattle.pj_tree.specs.declared.tree.Expr.TheOpen.{Expr-F}
use Rattle.pj_tree.specs.declared.tree.Expr.TheFolds.{fold-Expr}
use Rattle.pj_tree.specs.declared.tree.Stmt.{Stmt}
use Rattle.pj_tree.specs.declared.tree.Part.{Part}
use Rattle.pj_tree.specs.declared.tree.TreeNode.{TreeNode}
use Rattle.pj_tree.specs.declared.tree.Part.TheOpen.{Part-F, Payload-F, Stmt-F, TreeNode-F, Body-F, DefTree-F}
use Rattle.pj_tree.specs.declared.tree.Part.TheFolds.{fold-Part, fold-Stmt, fold-TreeNode}

abbrev pub Bytes : Type 0
Bytes = List ℕ

abbrev pub sym : Sym → Bytes
sym (s.Number n) = number n
sym (s.Text _) = []

unfoldable pub syms : List Sym → Bytes
syms names = list sym names

abbrev pub param : Param → Bytes
param p = sym p.name ++ sym p.declared.«module» ++ sym p.declared.name

unfoldable pub params : List Param → Bytes
params ps = list param ps

-- members that are bytes already
unfoldable pub parts : List Bytes → Bytes
parts ps = list (λ p. p) ps

-- ---- a node, with the bytes of each node below it in its place

abbrev pub expr_step : Expr-F Bytes → Bytes
expr_step Expr-F.Nothing = number 0
expr_step Expr-F.False = number 1
expr_step Expr-F.True = number 2
expr_step (Expr-F.Int z) = number 3 ++ int z
expr_step (Expr-F.Str text) = number 4 ++ sym text
expr_step (Expr-F.Local name) = number 5 ++ sym name
expr_step (Expr-F.Global owner name) = number 6 ++ sym owner ++ sym name
expr_step (Expr-F.Field of name) = number 7 ++ of ++ sym name
expr_step (Expr-F.Call owner name args) = number 8 ++ sym owner ++ sym name ++ parts args
expr_step (Expr-F.CallLocal name args) = number 9 ++ sym name ++ parts args
expr_step (Expr-F.Latest callee args) = number 10 ++ callee ++ parts args
expr_step (Expr-F.And left right) = number 11 ++ left ++ right
expr_step (Expr-F.Or left right) = number 12 ++ left ++ right
expr_step (Expr-F.Cond test chosen other) = number 13 ++ test ++ chosen ++ other
expr_step (Expr-F.Same left right) = number 14 ++ left ++ right

abbrev pub expr : Expr → Bytes
expr = fold-Expr Bytes expr_step

abbrev pub stmt_step : Stmt-F Bytes Bytes Bytes Bytes Bytes Bytes → Bytes
stmt_step (Stmt-F.Stmt::Value value) = number 32 ++ expr value
stmt_step (Stmt-F.SetLocal name value) = number 33 ++ sym name ++ expr value
stmt_step (Stmt-F.SetGlobal name value) = number 34 ++ sym name ++ expr value
stmt_step (Stmt-F.SetField of name value) = number 35 ++ expr of ++ sym name ++ expr value
stmt_step (Stmt-F.If test chosen other) = number 36 ++ expr test ++ parts chosen ++ parts other
stmt_step (Stmt-F.While introduced test block) = number 37 ++ syms introduced ++ expr test ++ parts block
stmt_step (Stmt-F.For name first last introduced block) = number 38 ++ sym name ++ expr first ++ expr last ++ syms introduced ++ parts block
stmt_step Stmt-F.Break = number 39
stmt_step Stmt-F.Continue = number 40
stmt_step (Stmt-F.Return value) = number 41 ++ expr value
stmt_step (Stmt-F.Eval owner part) = number 42 ++ sym owner ++ part

abbrev pub part_step : Part-F Bytes Bytes Bytes Bytes Bytes Bytes → Bytes
part_step (Part-F.Number n) = number n
part_step (Part-F.Held _) = []

abbrev pub def_step : DefTree-F Bytes Bytes Bytes Bytes Bytes Bytes → Bytes
def_step d = number 64 ++ sym d.«module» ++ sym d.fun ++ params d.params ++ d.body

abbrev pub payload_step : Payload-F Bytes Bytes Bytes Bytes Bytes Bytes → Bytes
payload_step (Payload-F.Def definition) = definition
payload_step (Payload-F.SetBinding name value) = number 65 ++ sym name ++ expr value
payload_step (Payload-F.Payload::Value value) = number 66 ++ expr value

abbrev pub body_step : Body-F Bytes Bytes Bytes Bytes Bytes Bytes → Bytes
body_step b = number 67 ++ syms b.params ++ syms b.introduced ++ parts b.block

abbrev pub tree_step : TreeNode-F Bytes Bytes Bytes Bytes Bytes Bytes → Bytes
tree_step (TreeNode-F.Body body) = body
tree_step (TreeNode-F.Payload payload) = payload

-- ---- whole trees

abbrev pub stmt : Stmt → Bytes
stmt = fold-Stmt Bytes Bytes Bytes Bytes Bytes Bytes part_step payload_step stmt_step tree_step body_step def_step

abbrev pub part_bytes : Part → Bytes
part_bytes = fold-Part Bytes Bytes Bytes Bytes Bytes Bytes part_step payload_step stmt_step tree_step body_step def_step

abbrev pub tree : TreeNode → Bytes
tree = fold-TreeNode Bytes Bytes Bytes Bytes Bytes Bytes part_step payload_step stmt_step tree_step body_step def_step
