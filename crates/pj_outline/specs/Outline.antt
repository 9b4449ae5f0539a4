-- A tree as a text for people: one node a line, two blanks further in for each level, with the nodes below it behind it.
-- A name is spelled; a number without a string is told as a number.
use Rattle.std.specs.Prelude.{ℕ, zero, suc, ℤ, Bool, true, false, List, [], ◌∷◌, ◌++◌, flat_map, codes, slice_get, unwrap_or}
use Rattle.std.specs.Fmt.{decimal, signed_decimal}
use Rattle.pj_meaning.specs.Printing.{escaped}
use Rattle.pj_tree.specs.declared.tree.Sym.{Sym}
use Rattle.pj_tree.specs.declared.tree.Sym.TheVariants as s
use Rattle.pj_tree.specs.declared.tree.TypeRef.{TypeRef}
use Rattle.pj_tree.specs.declared.tree.Param.{Param}
use Rattle.pj_tree.specs.declared.tree.Expr.{Expr}
use Rattle.pj_tree.specs.declared.tree.Expr.TheOpen.{Expr-F}
use Rattle.pj_tree.specs.declared.tree.Expr.TheFolds.{fold-Expr}
use Rattle.pj_tree.specs.declared.tree.Stmt.{Stmt}
use Rattle.pj_tree.specs.declared.tree.Part.{Part}
use Rattle.pj_tree.specs.declared.tree.TreeNode.{TreeNode}
use Rattle.pj_tree.specs.declared.tree.Body.{Body}
use Rattle.pj_tree.specs.declared.tree.DefTree.{DefTree}
use Rattle.pj_tree.specs.declared.tree.Payload.{Payload}
use Rattle.pj_tree.specs.declared.tree.Part.TheOpen.{Part-F, Payload-F, Stmt-F, TreeNode-F, Body-F, DefTree-F}
use Rattle.pj_tree.specs.declared.tree.Part.TheFolds.{fold-Part, fold-Payload, fold-Stmt, fold-TreeNode, fold-Body, fold-DefTree}
use Rattle.pj_tree.specs.declared.item.TopItem.{TopItem}
use Rattle.pj_tree.specs.declared.item.TopItem.TheVariants as i
use Rattle.pj_tree.specs.declared.item.ScriptTree.{ScriptTree}
use Rattle.pj_tree.specs.declared.item.PackageTree.{PackageTree}

abbrev pub Text : Type 0
Text = List ℕ

-- what a node prints at a level
abbrev pub Lines : Type 0
Lines = ℕ → Text

unfoldable pub margin : ℕ → Text
margin zero = []
margin (suc level) = margin level ++ codes "  "

unfoldable pub name : List Text → Sym → Text
name strings (s.Text t) = t
name strings (s.Number n) = unwrap_or (slice_get strings n) (codes "#" ++ decimal n)

-- a module with its point, or nothing where none is written
abbrev pub pointed : Text → Text
pointed [] = []
pointed (b ∷ bs) = (b ∷ bs) ++ codes "."

unfoldable pub owned_name : List Text → Sym → Sym → Text
owned_name strings m x = pointed (name strings m) ++ name strings x

-- with a comma and a blank between them
unfoldable pub commas : {A : Type 0} → (A → Text) → List A → Text
commas text [] = []
commas text (x ∷ xs) = text x ++ flat_map (λ y. codes ", " ++ text y) xs

abbrev pub names : List Text → List Sym → Text
names strings = commas (name strings)

unfoldable pub type_name : List Text → TypeRef → Text
type_name strings t = owned_name strings t.«module» t.name

unfoldable pub param : List Text → Param → Text
param strings p = name strings p.name ++ codes "::" ++ type_name strings p.declared

abbrev pub params : List Text → List Param → Text
params strings = commas (param strings)

unfoldable pub introduces : Text
introduces = codes " introduces "

-- what a scope introduces, or nothing where it introduces nothing
unfoldable pub introducing : List Text → List Sym → Text
introducing strings [] = []
introducing strings (x ∷ xs) = introduces ++ names strings (x ∷ xs)

-- ---- whole lines

unfoldable pub plain : ℕ → Text → Text
plain level word = margin level ++ word ++ codes "\n"

unfoldable pub named : List Text → ℕ → Text → Sym → Text
named strings level word x = margin level ++ word ++ codes " " ++ name strings x ++ codes "\n"

unfoldable pub owned : List Text → ℕ → Text → Sym → Sym → Text
owned strings level word m x = margin level ++ word ++ codes " " ++ owned_name strings m x ++ codes "\n"

unfoldable pub integer : ℕ → ℤ → Text
integer level z = margin level ++ codes "Int " ++ signed_decimal z ++ codes "\n"

-- a byte with a backslash before it where it needs one
unfoldable pub escape : ℕ → Text
escape byte = escaped (byte ∷ [])

unfoldable pub quoted : List Text → ℕ → Sym → Text
quoted strings level text = margin level ++ codes "Str \"" ++ flat_map escape (name strings text) ++ codes "\"\n"

-- ---- a node, with what each node below it prints in its place

abbrev pub below : List Lines → Lines
below all level = flat_map (λ lines. lines level) all

abbrev pub expr_step : List Text → Expr-F Lines → Lines
expr_step strings Expr-F.Nothing level = plain level (codes "Nothing")
expr_step strings Expr-F.False level = plain level (codes "False")
expr_step strings Expr-F.True level = plain level (codes "True")
expr_step strings (Expr-F.Int z) level = integer level z
expr_step strings (Expr-F.Str text) level = quoted strings level text
expr_step strings (Expr-F.Local x) level = named strings level (codes "Local") x
expr_step strings (Expr-F.Global m x) level = owned strings level (codes "Global") m x
expr_step strings (Expr-F.Field a x) level = named strings level (codes "Field") x ++ a (suc level)
expr_step strings (Expr-F.Call m f es) level = owned strings level (codes "Call") m f ++ below es (suc level)
expr_step strings (Expr-F.CallLocal x es) level = named strings level (codes "CallLocal") x ++ below es (suc level)
expr_step strings (Expr-F.Latest f es) level = plain level (codes "Latest") ++ f (suc level) ++ below es (suc level)
expr_step strings (Expr-F.And a b) level = plain level (codes "And") ++ a (suc level) ++ b (suc level)
expr_step strings (Expr-F.Or a b) level = plain level (codes "Or") ++ a (suc level) ++ b (suc level)
expr_step strings (Expr-F.Cond a b c) level = plain level (codes "Cond") ++ a (suc level) ++ b (suc level) ++ c (suc level)
expr_step strings (Expr-F.Same a b) level = plain level (codes "Same") ++ a (suc level) ++ b (suc level)

unfoldable pub expr : List Text → Expr → Lines
expr strings = fold-Expr Lines (expr_step strings)

-- one after the other at one level
unfoldable pub exprs : List Text → List Expr → Lines
exprs strings es level = flat_map (λ e. expr strings e level) es

unfoldable pub for_line : List Text → ℕ → Sym → List Sym → Text
for_line strings level x names = margin level ++ codes "For " ++ name strings x ++ introducing strings names ++ codes "\n"

unfoldable pub while_line : List Text → ℕ → List Sym → Text
while_line strings level names = margin level ++ codes "While" ++ introducing strings names ++ codes "\n"

-- the module in which a payload is evaluated, where one is written
abbrev pub behind_blank : Text → Text
behind_blank [] = []
behind_blank (b ∷ bs) = codes " " ++ (b ∷ bs)

unfoldable pub eval_line : List Text → ℕ → Sym → Text
eval_line strings level m = margin level ++ codes "Eval" ++ behind_blank (name strings m) ++ codes "\n"

unfoldable pub body_line : List Text → ℕ → List Sym → List Sym → Text
body_line strings level params introduced =
    margin level ++ codes "Body (" ++ names strings params ++ codes ")" ++ introducing strings introduced ++ codes "\n"

unfoldable pub def_line : List Text → ℕ → Sym → Sym → List Param → Text
def_line strings level m f ps =
    margin level ++ codes "Def " ++ owned_name strings m f ++ codes " (" ++ params strings ps ++ codes ")\n"

abbrev pub stmt_step : List Text → Stmt-F Lines Lines Lines Lines Lines Lines → Lines
stmt_step strings (Stmt-F.Stmt::Value e) level = plain level (codes "Value") ++ expr strings e (suc level)
stmt_step strings (Stmt-F.SetLocal x e) level = named strings level (codes "SetLocal") x ++ expr strings e (suc level)
stmt_step strings (Stmt-F.SetGlobal x e) level = named strings level (codes "SetGlobal") x ++ expr strings e (suc level)
stmt_step strings (Stmt-F.SetField a x e) level =
    named strings level (codes "SetField") x ++ expr strings a (suc level) ++ expr strings e (suc level)
stmt_step strings (Stmt-F.If c a b) level =
    plain level (codes "If") ++ expr strings c (suc level)
    ++ plain (suc level) (codes "then") ++ below a (suc (suc level))
    ++ plain (suc level) (codes "else") ++ below b (suc (suc level))
stmt_step strings (Stmt-F.While names c b) level =
    while_line strings level names ++ expr strings c (suc level) ++ below b (suc level)
stmt_step strings (Stmt-F.For x from to names b) level =
    for_line strings level x names ++ expr strings from (suc level) ++ expr strings to (suc level) ++ below b (suc level)
stmt_step strings Stmt-F.Break level = plain level (codes "Break")
stmt_step strings Stmt-F.Continue level = plain level (codes "Continue")
stmt_step strings (Stmt-F.Return e) level = plain level (codes "Return") ++ expr strings e (suc level)
stmt_step strings (Stmt-F.Eval m part) level = eval_line strings level m ++ part (suc level)

abbrev pub part_step : Part-F Lines Lines Lines Lines Lines Lines → Lines
part_step (Part-F.Held tree) level = tree level
part_step (Part-F.Number n) level = plain level (codes "tree " ++ decimal n)

abbrev pub tree_step : TreeNode-F Lines Lines Lines Lines Lines Lines → Lines
tree_step (TreeNode-F.Body b) level = b level
tree_step (TreeNode-F.Payload p) level = p level

abbrev pub body_step : List Text → Body-F Lines Lines Lines Lines Lines Lines → Lines
body_step strings b level = body_line strings level b.params b.introduced ++ below b.block (suc level)

abbrev pub def_step : List Text → DefTree-F Lines Lines Lines Lines Lines Lines → Lines
def_step strings d level = def_line strings level d.«module» d.fun d.params ++ d.body (suc level)

abbrev pub payload_step : List Text → Payload-F Lines Lines Lines Lines Lines Lines → Lines
payload_step strings (Payload-F.Def d) level = d level
payload_step strings (Payload-F.SetBinding x e) level = named strings level (codes "SetBinding") x ++ expr strings e (suc level)
payload_step strings (Payload-F.Payload::Value e) level = plain level (codes "Value") ++ expr strings e (suc level)

-- ---- whole trees

unfoldable pub stmt : List Text → Stmt → Lines
stmt strings =
    fold-Stmt Lines Lines Lines Lines Lines Lines
    part_step (payload_step strings) (stmt_step strings) tree_step (body_step strings) (def_step strings)

unfoldable pub stmts : List Text → List Stmt → Lines
stmts strings b level = flat_map (λ one. stmt strings one level) b

unfoldable pub part : List Text → Part → Lines
part strings =
    fold-Part Lines Lines Lines Lines Lines Lines
    part_step (payload_step strings) (stmt_step strings) tree_step (body_step strings) (def_step strings)

unfoldable pub payload : List Text → Payload → Lines
payload strings =
    fold-Payload Lines Lines Lines Lines Lines Lines
    part_step (payload_step strings) (stmt_step strings) tree_step (body_step strings) (def_step strings)

unfoldable pub body : List Text → Body → Lines
body strings =
    fold-Body Lines Lines Lines Lines Lines Lines
    part_step (payload_step strings) (stmt_step strings) tree_step (body_step strings) (def_step strings)

unfoldable pub definition : List Text → DefTree → Lines
definition strings =
    fold-DefTree Lines Lines Lines Lines Lines Lines
    part_step (payload_step strings) (stmt_step strings) tree_step (body_step strings) (def_step strings)

unfoldable pub tree : List Text → TreeNode → Lines
tree strings =
    fold-TreeNode Lines Lines Lines Lines Lines Lines
    part_step (payload_step strings) (stmt_step strings) tree_step (body_step strings) (def_step strings)

-- ---- items

abbrev pub if_mutable : Bool → Text
if_mutable true = codes "mutable "
if_mutable false = []

unfoldable pub using_line : List Text → ℕ → List Sym → Text
using_line strings level used = margin level ++ codes "Using " ++ names strings used ++ codes "\n"

unfoldable pub struct_line : List Text → ℕ → Bool → Sym → TypeRef → List Param → Text
struct_line strings level mutable x parent fields =
    margin level ++ codes "StructDef " ++ if_mutable mutable ++ name strings x ++ codes " <: " ++ type_name strings parent
    ++ codes " (" ++ params strings fields ++ codes ")\n"

unfoldable pub abstract_start : ℕ → Text
abstract_start level = margin level ++ codes "AbstractDef "

unfoldable pub abstract_line : List Text → ℕ → Sym → TypeRef → Text
abstract_line strings level x parent =
    abstract_start level ++ name strings x ++ codes " <: " ++ type_name strings parent ++ codes "\n"

unfoldable pub directive_line : List Text → ℕ → Sym → Sym → List TypeRef → Text
directive_line strings level m f types =
    margin level ++ codes "Directive " ++ owned_name strings m f ++ codes " (" ++ commas (type_name strings) types ++ codes ")\n"

unfoldable pub item : List Text → TopItem → Lines
item strings (i.Using used) level = using_line strings level used
item strings (i.AbstractDef x parent) level = abstract_line strings level x parent
item strings (i.StructDef mutable x parent fields) level = struct_line strings level mutable x parent fields
item strings (i.Def d) level = definition strings d level
item strings (i.Declare f) level = named strings level (codes "Declare") f
item strings (i.Const x e) level = named strings level (codes "Const") x ++ expr strings e (suc level)
item strings (i.Directive m f types) level = directive_line strings level m f types
item strings (i.Run st) level = plain level (codes "Run") ++ stmt strings st (suc level)

unfoldable pub items : List Text → List TopItem → Lines
items strings all level = flat_map (λ one. item strings one level) all

abbrev pub script : List Text → ScriptTree → Text
script strings t = codes "Script\n" ++ items strings t.items 1

-- the packages that a package uses, where it uses some
unfoldable pub uses : List Text → Text
uses [] = []
uses (t ∷ ts) = codes " using " ++ commas (λ u. u) (t ∷ ts)

abbrev pub package_of : List Text → PackageTree → Text
package_of strings t = codes "Package " ++ t.name ++ uses t.uses ++ codes "\n" ++ items strings t.items 1
