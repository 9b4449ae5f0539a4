-- What a tree means: each tree, whether its names and its parts are held or numbered, read into the trees of
-- the meaning. The numbers of names are those of an image's strings, and the numbers of parts those of its trees.
use Rattle.std.specs.Prelude.{ℕ, zero, suc, List, [], ◌∷◌, map, ◌==◌, if◌then◌else◌}
use Rattle.pj_meaning.specs.Tree as tree
use Rattle.pj_meaning.specs.Packages.{Source}
use Rattle.pj_tree.specs.declared.tree.Sym.{Sym}
use Rattle.pj_tree.specs.declared.tree.Sym.TheVariants as sym
use Rattle.pj_tree.specs.declared.tree.TypeRef.{TypeRef}
use Rattle.pj_tree.specs.declared.tree.Param.{Param}
use Rattle.pj_tree.specs.declared.tree.Expr.{Expr}
use Rattle.pj_tree.specs.declared.tree.Expr.TheOpen.{Expr-F}
use Rattle.pj_tree.specs.declared.tree.Expr.TheFolds.{fold-Expr}
use Rattle.pj_tree.specs.declared.tree.Stmt.{Stmt}
use Rattle.pj_tree.specs.declared.tree.Part.{Part}
use Rattle.pj_tree.specs.declared.tree.TreeNode.{TreeNode}
use Rattle.pj_tree.specs.declared.tree.Body.{Body}
use Rattle.pj_tree.specs.declared.tree.DefTree.{DefTree}
use Rattle.pj_tree.specs.declared.tree.Payload.{Payload}
use Rattle.pj_tree.specs.declared.tree.Part.TheOpen.{Part-F, Payload-F, Stmt-F, TreeNode-F, Body-F, DefTree-F}
use Rattle.pj_tree.specs.declared.tree.Part.TheFolds.{fold-Part, fold-Payload, fold-Stmt, fold-TreeNode, fold-Body, fold-DefTree}
use Rattle.pj_tree.specs.declared.item.TopItem.{TopItem}
use Rattle.pj_tree.specs.declared.item.TopItem.TheVariants as item
use Rattle.pj_tree.specs.declared.item.ScriptTree.{ScriptTree}
use Rattle.pj_tree.specs.declared.item.PackageTree.{PackageTree}

-- the strings of an image by their numbers
abbrev pub Strings : Type 0
Strings = ℕ → tree.Text

abbrev pub text_of_sym : Strings → Sym → tree.Text
text_of_sym strings (sym.Text t) = t
text_of_sym strings (sym.Number n) = strings n

abbrev pub texts_of : Strings → List Sym → List tree.Text
texts_of strings names = map (text_of_sym strings) names

abbrev pub type_of : Strings → TypeRef → tree.TypeRef
type_of strings t = record { home = text_of_sym strings t.«module»; name = text_of_sym strings t.name }

abbrev pub param_of : Strings → Param → tree.Param
param_of strings p = record { name = text_of_sym strings p.name; declared = type_of strings p.declared }

abbrev pub params_of : Strings → List Param → List tree.Param
params_of strings params = map (param_of strings) params

abbrev pub exprs_of : List tree.Expr → tree.Exprs
exprs_of [] = tree.none
exprs_of (e ∷ es) = tree.also e (exprs_of es)

-- one node, with what each child means in its place
abbrev pub expr_layer : Strings → Expr-F tree.Expr → tree.Expr
expr_layer strings Expr-F.Nothing = tree.Nothing
expr_layer strings Expr-F.False = tree.False
expr_layer strings Expr-F.True = tree.True
expr_layer strings (Expr-F.Int n) = tree.Int n
expr_layer strings (Expr-F.Str s) = tree.Str (text_of_sym strings s)
expr_layer strings (Expr-F.Local x) = tree.Local (text_of_sym strings x)
expr_layer strings (Expr-F.Global m x) = tree.Global (text_of_sym strings m) (text_of_sym strings x)
expr_layer strings (Expr-F.Field a x) = tree.Field a (text_of_sym strings x)
expr_layer strings (Expr-F.Call m f es) = tree.Call (text_of_sym strings m) (text_of_sym strings f) (exprs_of es)
expr_layer strings (Expr-F.CallLocal x es) = tree.CallLocal (text_of_sym strings x) (exprs_of es)
expr_layer strings (Expr-F.Latest f es) = tree.Latest f (exprs_of es)
expr_layer strings (Expr-F.And a b) = tree.And a b
expr_layer strings (Expr-F.Or a b) = tree.Or a b
expr_layer strings (Expr-F.Cond a b c) = tree.Cond a b c
expr_layer strings (Expr-F.Same a b) = tree.Same a b

abbrev pub expr_of : Strings → Expr → tree.Expr
expr_of strings = fold-Expr tree.Expr (expr_layer strings)

-- what a tree that is numbered by itself means
pub data Meant : Type 0 where
  OfBody : tree.Body → Meant
  OfPayload : tree.Payload → Meant

-- what an image's trees mean, by their numbers
abbrev pub Parts : Type 0
Parts = ℕ → Meant

-- A body where one is named. A payload there, which no text and no image has, counts as a body without statements.
abbrev pub as_body : Meant → tree.Body
as_body (OfBody b) = b
as_body (OfPayload p) = tree.body [] [] tree.end

-- A payload where one is named. A body there, which no text and no image has, counts as `nothing`.
abbrev pub as_payload : Meant → tree.Payload
as_payload (OfBody b) = tree.Evaluate tree.Nothing
as_payload (OfPayload p) = p

-- what the definition of a method means
pub record Defined : Type 0 where
  pub home : tree.Text
  pub fun : tree.Text
  pub params : List tree.Param
  pub code : tree.Body

abbrev pub define : Defined → tree.Payload
define d = tree.Define d.home d.fun d.params d.code

abbrev pub block_of : List tree.Stmt → tree.Block
block_of [] = tree.end
block_of (s ∷ rest) = tree.step s (block_of rest)

-- one layer of each type of trees, with what each child means in its place
abbrev pub PartLayer : Type 0
PartLayer = Part-F Meant tree.Payload tree.Stmt Meant tree.Body Defined

abbrev pub PayloadLayer : Type 0
PayloadLayer = Payload-F Meant tree.Payload tree.Stmt Meant tree.Body Defined

abbrev pub StmtLayer : Type 0
StmtLayer = Stmt-F Meant tree.Payload tree.Stmt Meant tree.Body Defined

abbrev pub NodeLayer : Type 0
NodeLayer = TreeNode-F Meant tree.Payload tree.Stmt Meant tree.Body Defined

abbrev pub BodyLayer : Type 0
BodyLayer = Body-F Meant tree.Payload tree.Stmt Meant tree.Body Defined

abbrev pub DefLayer : Type 0
DefLayer = DefTree-F Meant tree.Payload tree.Stmt Meant tree.Body Defined

abbrev pub part_layer : Parts → PartLayer → Meant
part_layer parts (Part-F.Held t) = t
part_layer parts (Part-F.Number n) = parts n

abbrev pub payload_layer : Strings → PayloadLayer → tree.Payload
payload_layer strings (Payload-F.Def d) = define d
payload_layer strings (Payload-F.SetBinding x e) = tree.SetBinding (text_of_sym strings x) (expr_of strings e)
payload_layer strings (Payload-F.Payload::Value e) = tree.Evaluate (expr_of strings e)

abbrev pub stmt_layer : Strings → StmtLayer → tree.Stmt
stmt_layer strings (Stmt-F.Stmt::Value e) = tree.Value (expr_of strings e)
stmt_layer strings (Stmt-F.SetLocal x e) = tree.SetLocal (text_of_sym strings x) (expr_of strings e)
stmt_layer strings (Stmt-F.SetGlobal x e) = tree.SetGlobal (text_of_sym strings x) (expr_of strings e)
stmt_layer strings (Stmt-F.SetField a x e) = tree.SetField (expr_of strings a) (text_of_sym strings x) (expr_of strings e)
stmt_layer strings (Stmt-F.If c a b) = tree.If (expr_of strings c) (block_of a) (block_of b)
stmt_layer strings (Stmt-F.While names c b) = tree.While (texts_of strings names) (expr_of strings c) (block_of b)
stmt_layer strings (Stmt-F.For x from to names b) =
    tree.For (text_of_sym strings x) (expr_of strings from) (expr_of strings to) (texts_of strings names) (block_of b)
stmt_layer strings Stmt-F.Break = tree.Break
stmt_layer strings Stmt-F.Continue = tree.Continue
stmt_layer strings (Stmt-F.Return e) = tree.Return (expr_of strings e)
stmt_layer strings (Stmt-F.Eval m p) = tree.Eval (text_of_sym strings m) (as_payload p)

abbrev pub node_layer : NodeLayer → Meant
node_layer (TreeNode-F.Body b) = OfBody b
node_layer (TreeNode-F.Payload p) = OfPayload p

abbrev pub body_layer : Strings → BodyLayer → tree.Body
body_layer strings b = tree.body (texts_of strings b.params) (texts_of strings b.introduced) (block_of b.block)

abbrev pub def_layer : Strings → DefLayer → Defined
def_layer strings d = record {
  home = text_of_sym strings d.«module»;
  fun = text_of_sym strings d.fun;
  params = params_of strings d.params;
  code = as_body d.body;
}

-- the trees, over an image's strings and what its trees mean; where all is held, neither is asked
abbrev pub part_of : Strings → Parts → Part → Meant
part_of strings parts =
    fold-Part Meant tree.Payload tree.Stmt Meant tree.Body Defined
    (part_layer parts) (payload_layer strings) (stmt_layer strings) node_layer (body_layer strings) (def_layer strings)

abbrev pub payload_of : Strings → Parts → Payload → tree.Payload
payload_of strings parts =
    fold-Payload Meant tree.Payload tree.Stmt Meant tree.Body Defined
    (part_layer parts) (payload_layer strings) (stmt_layer strings) node_layer (body_layer strings) (def_layer strings)

abbrev pub stmt_of : Strings → Parts → Stmt → tree.Stmt
stmt_of strings parts =
    fold-Stmt Meant tree.Payload tree.Stmt Meant tree.Body Defined
    (part_layer parts) (payload_layer strings) (stmt_layer strings) node_layer (body_layer strings) (def_layer strings)

abbrev pub node_of : Strings → Parts → TreeNode → Meant
node_of strings parts =
    fold-TreeNode Meant tree.Payload tree.Stmt Meant tree.Body Defined
    (part_layer parts) (payload_layer strings) (stmt_layer strings) node_layer (body_layer strings) (def_layer strings)

abbrev pub body_of : Strings → Parts → Body → tree.Body
body_of strings parts =
    fold-Body Meant tree.Payload tree.Stmt Meant tree.Body Defined
    (part_layer parts) (payload_layer strings) (stmt_layer strings) node_layer (body_layer strings) (def_layer strings)

abbrev pub def_of : Strings → Parts → DefTree → Defined
def_of strings parts =
    fold-DefTree Meant tree.Payload tree.Stmt Meant tree.Body Defined
    (part_layer parts) (payload_layer strings) (stmt_layer strings) node_layer (body_layer strings) (def_layer strings)

-- A tree's meaning by its number, where the first in the list has the number n. A number without a tree, which no
-- image has, counts as `nothing`.
abbrev pub numbered : ℕ → List Meant → Parts
numbered n [] k = OfPayload (tree.Evaluate tree.Nothing)
numbered n (t ∷ later) k = if n == k then t else numbered (suc n) later k

-- What trees mean of which the first has the number n: each names later ones alone.
abbrev pub nodes_of : Strings → ℕ → List TreeNode → List Meant
nodes_of strings n [] = []
nodes_of strings n (t ∷ later) =
    node_of strings (numbered (suc n) (nodes_of strings (suc n) later)) t ∷ nodes_of strings (suc n) later

-- what an image's trees mean, by their numbers
abbrev pub parts_of : Strings → List TreeNode → Parts
parts_of strings trees = numbered zero (nodes_of strings zero trees)

-- a definition that is an item
abbrev pub define_item : Defined → tree.TopItem
define_item d = tree.Def d.home d.fun d.params d.code

abbrev pub item_of : Strings → Parts → TopItem → tree.TopItem
item_of strings parts (item.Using names) = tree.Using (texts_of strings names)
item_of strings parts (item.AbstractDef name parent) = tree.AbstractDef (text_of_sym strings name) (type_of strings parent)
item_of strings parts (item.StructDef mutable name parent fields) =
    tree.StructDef mutable (text_of_sym strings name) (type_of strings parent) (params_of strings fields)
item_of strings parts (item.Def d) = define_item (def_of strings parts d)
item_of strings parts (item.Declare f) = tree.Declare (text_of_sym strings f)
item_of strings parts (item.Const x e) = tree.Const (text_of_sym strings x) (expr_of strings e)
item_of strings parts (item.Directive m f types) =
    tree.Directive (text_of_sym strings m) (text_of_sym strings f) (map (type_of strings) types)
item_of strings parts (item.Run s) = tree.Run (stmt_of strings parts s)

-- a script, as a run takes it
abbrev pub script_of : Strings → Parts → ScriptTree → List tree.TopItem
script_of strings parts s = map (item_of strings parts) s.items

-- a package, as its building takes it
abbrev pub package_of : Strings → Parts → PackageTree → Source
package_of strings parts p = record { name = p.name; uses = p.uses; items = map (item_of strings parts) p.items }
