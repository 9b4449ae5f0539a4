-- The tree of a text: each name is a local of a scope that introduces it, or a name of a module. Names are those that enclosing
-- scopes introduce. A module that isn't written is the empty text.
use Rattle.std.specs.Prelude.{ℕ, Bool, true, false, List, [], ◌∷◌, map, codes, Option, Some, None, if◌then◌else◌}
use Rattle.pj_syntax.specs.declared.expression.Spot.{Spot}
use Rattle.pj_syntax.specs.declared.expression.Path.{Path}
use Rattle.pj_syntax.specs.declared.expression.Path.TheVariants as paths
use Rattle.pj_syntax.specs.declared.statement.Param.{Param as Parameter}
use Rattle.pj_syntax.specs.declared.item.Item.{Item}
use Rattle.pj_syntax.specs.declared.item.Item.TheVariants as items
use Rattle.pj_syntax.specs.declared.item.Script.{Script}
use Rattle.pj_syntax.specs.declared.item.Package.{Package}
use Rattle.pj_tree.specs.declared.tree.Sym.{Sym}
use Rattle.pj_tree.specs.declared.tree.Sym.TheVariants as sym
use Rattle.pj_tree.specs.declared.tree.TypeRef.{TypeRef}
use Rattle.pj_tree.specs.declared.tree.Param.{Param}
use Rattle.pj_tree.specs.declared.tree.Expr.{Expr}
use Rattle.pj_tree.specs.declared.tree.Expr.TheVariants as e
use Rattle.pj_tree.specs.declared.tree.Stmt.{Stmt}
use Rattle.pj_tree.specs.declared.tree.Stmt.TheVariants as s
use Rattle.pj_tree.specs.declared.tree.Part.TheVariants as part
use Rattle.pj_tree.specs.declared.tree.TreeNode.TheVariants as node
use Rattle.pj_tree.specs.declared.tree.Payload.{Payload}
use Rattle.pj_tree.specs.declared.tree.Payload.TheVariants as payload
use Rattle.pj_tree.specs.declared.tree.Body.{Body}
use Rattle.pj_tree.specs.declared.tree.DefTree.{DefTree}
use Rattle.pj_tree.specs.declared.item.TopItem.{TopItem}
use Rattle.pj_tree.specs.declared.item.TopItem.TheVariants as i
use Rattle.pj_tree.specs.declared.item.ScriptTree.{ScriptTree}
use Rattle.pj_tree.specs.declared.item.PackageTree.{PackageTree}
use Rattle.pj_faults.specs.Located as l
use Rattle.pj_faults.specs.Located.{Text, Value, Arguments, Statement, Block, Method, Evaluated, none, also, end, step, method, value_of, statement_of, method_of}
use Rattle.pj_faults.specs.Introduced.{is_among, with_name, with_names, new_names, assigned, named}

abbrev pub word : Spot → Sym
word x = sym.Text x.text

abbrev pub words : List Spot → List Sym
words xs = map word xs

abbrev pub unwritten : Sym
unwritten = sym.Text []

-- the name of a parameter, or the empty text
abbrev pub given_name : Option Spot → Sym
given_name None = unwritten
given_name (Some x) = word x

-- the module before a name, and the name
abbrev pub home_of : Path → Sym
home_of (paths.Bare x) = unwritten
home_of (paths.Of m x) = word m

abbrev pub own_of : Path → Sym
own_of (paths.Bare x) = word x
own_of (paths.Of m x) = word x

abbrev pub type_of : Path → TypeRef
type_of p = record { «module» = home_of p; name = own_of p }

-- a type that isn't written is Any
abbrev pub declared_of : Option Path → TypeRef
declared_of None = record { «module» = unwritten; name = sym.Text (codes "Any") }
declared_of (Some p) = type_of p

abbrev pub param_of : Parameter → Param
param_of p = record { name = given_name p.name; declared = declared_of p.declared }

abbrev pub params_of : List Parameter → List Param
params_of ps = map param_of ps

abbrev pub given_of : Parameter → Sym
given_of p = given_name p.name

abbrev pub names_of : List Parameter → List Sym
names_of ps = map given_of ps

-- a name that is read
abbrev pub read : List Text → Path → Expr
read names (paths.Bare x) = if is_among x.text names then e.Local (word x) else e.Global unwritten (word x)
read names (paths.Of m x) = e.Global (word m) (word x)

-- a name that is called
abbrev pub called : List Text → Path → List Expr → Expr
called names (paths.Bare x) es = if is_among x.text names then e.CallLocal (word x) es else e.Call unwritten (word x) es
called names (paths.Of m x) es = e.Call (word m) (word x) es

-- A call of `invokelatest` has its function first. Without one, which no text has, it calls `nothing`.
abbrev pub latest : List Expr → Expr
latest [] = e.Latest e.Nothing []
latest (f ∷ es) = e.Latest f es

abbrev mutual
  pub value : List Text → Value → Expr
  value names l.Nothing = e.Nothing
  value names l.False = e.False
  value names l.True = e.True
  value names (l.Int z) = e.Int z
  value names (l.Str t) = e.Str (sym.Text t)
  value names (l.Name p) = read names p
  value names (l.Field a x) = e.Field (value names a) (word x)
  value names (l.Call p es) = called names p (values names es)
  value names (l.Latest es) = latest (values names es)
  value names (l.And a b) = e.And (value names a) (value names b)
  value names (l.Or a b) = e.Or (value names a) (value names b)
  value names (l.Cond a b c) = e.Cond (value names a) (value names b) (value names c)
  value names (l.Same a b) = e.Same (value names a) (value names b)

  pub values : List Text → Arguments → List Expr
  values names none = []
  values names (also at a es) = value names a ∷ values names es

-- `return` alone returns `nothing`
abbrev pub returned : List Text → Option Value → Expr
returned names None = e.Nothing
returned names (Some a) = value names a

-- At top level, and in an `if` there, an assignment sets a global; elsewhere a local of the scope or of one round it.
abbrev pub set : Bool → Spot → Expr → Stmt
set true x a = s.SetGlobal (word x) a
set false x a = s.SetLocal (word x) a

abbrev mutual
  pub statement : Bool → List Text → Statement → Stmt
  statement top names (l.Give a) = s.Value (value names a)
  statement top names (l.Set x a) = set top x (value names a)
  statement top names (l.SetField a x b) = s.SetField (value names a) (word x) (value names b)
  statement top names (l.Global at x a) = s.SetGlobal (word x) (value names a)
  statement top names (l.Return at a) = s.Return (returned names a)
  statement top names (l.Break at) = s.Break
  statement top names (l.Continue at) = s.Continue
  statement top names (l.If c a b) = s.If (value names c) (block top names a) (block top names b)
  statement top names (l.While c b) =
      s.While (words (new_names names (assigned b))) (value names c) (block false (with_names names (assigned b)) b)
  statement top names (l.For x from to b) =
      s.For (word x) (value names from) (value names to) (words (new_names (with_name names x.text) (assigned b)))
      (block false (with_names (with_name names x.text) (assigned b)) b)
  statement top names (l.Eval m p) = s.Eval (given_name m) (part.Held (node.Payload (evaluated p)))

  pub block : Bool → List Text → Block → List Stmt
  block top names end = []
  block top names (step t rest) = statement top names t ∷ block top names rest

  -- what `@eval` evaluates sees no locals
  pub evaluated : Evaluated → Payload
  evaluated (l.Define f) = payload.Def (defined f)
  evaluated (l.Bind x a) = payload.SetBinding (word x) (value [] a)
  evaluated (l.Find a) = payload.Value (value [] a)

  pub defined : Method → DefTree
  defined (method path params b) = record {
    «module» = home_of path;
    fun = own_of path;
    params = params_of params;
    body = part.Held (node.Body (record {
      params = names_of params;
      introduced = words (new_names (with_names [] (named params)) (assigned b));
      block = block false (with_names (with_names [] (named params)) (assigned b)) b;
    }));
  }

abbrev pub item : Item → TopItem
item (items.Using names) = i.Using (words names)
item (items.Abstract name parent) = i.AbstractDef (word name) (declared_of parent)
item (items.Struct mutable name parent fields) = i.StructDef mutable (word name) (declared_of parent) (params_of fields)
item (items.Def f) = i.Def (defined (method_of f))
item (items.Declare f) = i.Declare (word f)
item (items.Const name a) = i.Const (word name) (value [] (value_of a))
item (items.Directive fun types) = i.Directive (home_of fun) (own_of fun) (map type_of types)
item (items.Run t) = i.Run (statement true [] (statement_of t))

abbrev pub script : Script → ScriptTree
script t = record { items = map item t.items }

abbrev pub spelling : Spot → Text
spelling x = x.text

abbrev pub package_tree : Package → PackageTree
package_tree t = record { name = t.name.text; uses = map spelling t.uses; items = map item t.items }
