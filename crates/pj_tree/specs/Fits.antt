-- Which trees have bytes: names and parts are numbers, lists aren't too long, and nodes nest at most 128 deep.
use Rattle.std.specs.Prelude.{ℕ, zero, suc, ◌<◌, ◌^◌, List, length, ⊤}
use Rattle.std.specs.List.{AllByRecursion}
use Rattle.std.specs.Int.{w64}
use Rattle.std.specs.Int.RustNames.{FitsSigned}
use Rattle.pj_tree.specs.declared.tree.Sym.{Sym}
use Rattle.pj_tree.specs.declared.tree.Sym.TheVariants as s
use Rattle.pj_tree.specs.declared.tree.Param.{Param}
use Rattle.pj_tree.specs.declared.tree.Expr.{Expr, out-Expr}
use Rattle.pj_tree.specs.declared.tree.Expr.TheOpen.{Expr-F}
use Rattle.pj_tree.specs.declared.tree.Stmt.{Stmt, out-Stmt}
use Rattle.pj_tree.specs.declared.tree.Part.{Part, out-Part}
use Rattle.pj_tree.specs.declared.tree.Payload.{Payload, out-Payload}
use Rattle.pj_tree.specs.declared.tree.Body.{Body, out-Body}
use Rattle.pj_tree.specs.declared.tree.DefTree.{DefTree, out-DefTree}
use Rattle.pj_tree.specs.declared.tree.TreeNode.{TreeNode, out-TreeNode}
use Rattle.pj_tree.specs.declared.tree.Part.TheOpen.{Part-F, Payload-F, Stmt-F, TreeNode-F, Body-F, DefTree-F}

-- at most 4,294,967,295 members, each as P says
abbrev pub ListFits : {A : Type 0} → (A → Type 0) → List A → Type 0
ListFits P xs = (length xs < 2 ^ 32) × AllByRecursion P xs

abbrev pub SymFits : Sym → Type 0
SymFits (s.Number n) = n < 2 ^ 32
SymFits (s.Text _) = ⊥

abbrev pub ParamFits : Param → Type 0
ParamFits p = SymFits p.name × (SymFits p.declared.«module» × SymFits p.declared.name)

-- ---- one node, each node below it as P says

abbrev pub ExprNodeFits : (Expr → Type 0) → Expr-F Expr → Type 0
ExprNodeFits P Expr-F.Nothing = ⊤
ExprNodeFits P Expr-F.False = ⊤
ExprNodeFits P Expr-F.True = ⊤
ExprNodeFits P (Expr-F.Int z) = FitsSigned w64 z
ExprNodeFits P (Expr-F.Str text) = SymFits text
ExprNodeFits P (Expr-F.Local name) = SymFits name
ExprNodeFits P (Expr-F.Global owner name) = SymFits owner × SymFits name
ExprNodeFits P (Expr-F.Field of name) = P of × SymFits name
ExprNodeFits P (Expr-F.Call owner name args) = SymFits owner × (SymFits name × ListFits P args)
ExprNodeFits P (Expr-F.CallLocal name args) = SymFits name × ListFits P args
ExprNodeFits P (Expr-F.Latest callee args) = P callee × ListFits P args
ExprNodeFits P (Expr-F.And left right) = P left × P right
ExprNodeFits P (Expr-F.Or left right) = P left × P right
ExprNodeFits P (Expr-F.Cond test chosen other) = P test × (P chosen × P other)
ExprNodeFits P (Expr-F.Same left right) = P left × P right

abbrev pub PartNodeFits : Part-F Part Payload Stmt TreeNode Body DefTree → Type 0
PartNodeFits (Part-F.Number n) = n < 2 ^ 32
PartNodeFits (Part-F.Held _) = ⊥

abbrev pub PartFits : Part → Type 0
PartFits p = PartNodeFits (out-Part p)

abbrev pub StmtNodeFits : (Expr → Type 0) → (Stmt → Type 0) → Stmt-F Part Payload Stmt TreeNode Body DefTree → Type 0
StmtNodeFits E S (Stmt-F.Stmt::Value value) = E value
StmtNodeFits E S (Stmt-F.SetLocal name value) = SymFits name × E value
StmtNodeFits E S (Stmt-F.SetGlobal name value) = SymFits name × E value
StmtNodeFits E S (Stmt-F.SetField of name value) = E of × (SymFits name × E value)
StmtNodeFits E S (Stmt-F.If test chosen other) = E test × (ListFits S chosen × ListFits S other)
StmtNodeFits E S (Stmt-F.While introduced test block) = ListFits SymFits introduced × (E test × ListFits S block)
StmtNodeFits E S (Stmt-F.For name first last introduced block) = SymFits name × (E first × (E last × (ListFits SymFits introduced × ListFits S block)))
StmtNodeFits E S Stmt-F.Break = ⊤
StmtNodeFits E S Stmt-F.Continue = ⊤
StmtNodeFits E S (Stmt-F.Return value) = E value
StmtNodeFits E S (Stmt-F.Eval owner part) = SymFits owner × PartFits part

-- ---- nodes nest at most so deep

unfoldable pub ExprFits : ℕ → Expr → Type 0
ExprFits zero e = ⊥
ExprFits (suc below) e = ExprNodeFits (ExprFits below) (out-Expr e)

unfoldable pub StmtFits : ℕ → Stmt → Type 0
StmtFits zero s = ⊥
StmtFits (suc below) s = StmtNodeFits (ExprFits below) (StmtFits below) (out-Stmt s)

abbrev pub DefNodeFits : DefTree-F Part Payload Stmt TreeNode Body DefTree → Type 0
DefNodeFits d = SymFits d.«module» × (SymFits d.fun × (ListFits ParamFits d.params × PartFits d.body))

abbrev pub BodyNodeFits : (Stmt → Type 0) → Body-F Part Payload Stmt TreeNode Body DefTree → Type 0
BodyNodeFits S b = ListFits SymFits b.params × (ListFits SymFits b.introduced × ListFits S b.block)

abbrev pub PayloadNodeFits : (Expr → Type 0) → Payload-F Part Payload Stmt TreeNode Body DefTree → Type 0
PayloadNodeFits E (Payload-F.Def definition) = DefNodeFits (out-DefTree definition)
PayloadNodeFits E (Payload-F.SetBinding name value) = SymFits name × E value
PayloadNodeFits E (Payload-F.Payload::Value value) = E value

abbrev pub TreeNodeFits : (Expr → Type 0) → (Stmt → Type 0) → TreeNode-F Part Payload Stmt TreeNode Body DefTree → Type 0
TreeNodeFits E S (TreeNode-F.Body body) = BodyNodeFits S (out-Body body)
TreeNodeFits E S (TreeNode-F.Payload payload) = PayloadNodeFits E (out-Payload payload)

unfoldable pub TreeFitsBelow : ℕ → TreeNode → Type 0
TreeFitsBelow below t = TreeNodeFits (ExprFits below) (StmtFits below) (out-TreeNode t)

-- the Body or payload is one node of the 128
abbrev pub TreeFits : TreeNode → Type 0
TreeFits = TreeFitsBelow 127
