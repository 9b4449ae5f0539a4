-- Words in which the rows write scripts and packages, and what a script prints over packages that are built first.
use Rattle.std.specs.Prelude.{◌≡◌, ℕ, pos, neg_ℤ, true, false, List, [], ◌∷◌, ◌++◌, Option, Some, None, option_to_list, find, flat_map, length, map}
use Rattle.std.specs.Str.{bytes_eq}
use Rattle.std.specs.Fmt.{digits}
use Prim.Native.String.{String}
use lib.Chars.{codes}
use Rattle.pj_meaning.specs.Tree.{Text, TopItem, Using, AbstractDef, StructDef, Def, Declare, Const, Directive, Expr, Exprs, Nothing, Int, Str, Local, Global, Field, Call, CallLocal, Latest, And, Or, Cond, Same, also, none, Stmt, Value, SetLocal, SetGlobal, SetField, If, While, For, Break, Continue, Return, Eval, Block, end, step, Payload, Define, SetBinding, Evaluate, Body, body, Param, TypeRef}
use Rattle.pj_meaning.specs.Tree as tree
use Rattle.pj_meaning.specs.State.{State, Loaded}
use Rattle.pj_meaning.specs.Outcome.{Outcome, Gives, Raises, Stops, after, charged, choose, given}
use Rattle.pj_meaning.specs.Calls.{call_named, call_function, construct}
use Rattle.pj_meaning.specs.Names.{main_name}
use Rattle.pj_meaning.specs.Values.{Value as Given}
use Rattle.pj_meaning.specs.Evaluation.{expr, enter_at, while_turns, for_turns}
use Rattle.pj_meaning.specs.Printing.{text_of, error_line}
use Rattle.pj_meaning.specs.Script.{run_script, then_run, ended}
use Rattle.pj_meaning.specs.Content.{Content}
use Rattle.pj_meaning.specs.Packages.{Source, Held, recorded, pack}
use Rattle.pj_meaning.specs.Using.{Image, Reading, NoFile, Holds, Files, use_from}
use Rattle.pj_meaning.specs.Endings.{whole_output}

-- all that a row computes with
unfoldable pub computing : Type 0
unfolding then_run ended after call_named call_function construct enter_at charged choose given while_turns for_turns digits
computing = Unit

-- expressions

abbrev pub int : ℕ → Expr
int n = Int (pos n)

abbrev pub negative : ℕ → Expr
negative n = Int (neg_ℤ (pos n))

abbrev pub str : String → Expr
str s = Str (codes s)

-- a local, a name of the text's module or of Base, and a name of another module
abbrev pub local : String → Expr
local x = Local (codes x)

abbrev pub name : String → Expr
name x = Global [] (codes x)

abbrev pub name_of : String → String → Expr
name_of m x = Global (codes m) (codes x)

abbrev pub field : Expr → String → Expr
field e x = Field e (codes x)

abbrev pub args : List Expr → Exprs
args [] = none
args (e ∷ es) = also e (args es)

abbrev pub call : String → List Expr → Expr
call f es = Call [] (codes f) (args es)

abbrev pub call_of : String → String → List Expr → Expr
call_of m f es = Call (codes m) (codes f) (args es)

abbrev pub call_local : String → List Expr → Expr
call_local f es = CallLocal (codes f) (args es)

abbrev pub latest : Expr → List Expr → Expr
latest f es = Latest f (args es)

-- an operator is a function of Base
abbrev pub op : String → Expr → Expr → Expr
op f a b = call_of "Base" f (a ∷ b ∷ [])

-- statements and their blocks

abbrev pub block : List Stmt → Block
block [] = end
block (s ∷ ss) = step s (block ss)

abbrev pub set : String → Expr → Stmt
set x e = SetLocal (codes x) e

abbrev pub set_global : String → Expr → Stmt
set_global x e = SetGlobal (codes x) e

abbrev pub set_field : Expr → String → Expr → Stmt
set_field e x v = SetField e (codes x) v

abbrev pub when : Expr → List Stmt → List Stmt → Stmt
when c a b = If c (block a) (block b)

abbrev pub while : List String → Expr → List Stmt → Stmt
while names c ss = While (map codes names) c (block ss)

abbrev pub for : String → Expr → Expr → List String → List Stmt → Stmt
for i a b names ss = For (codes i) a b (map codes names) (block ss)

abbrev pub println : Expr → Stmt
println e = Value (call "println" (e ∷ []))

-- definitions

abbrev pub type : String → TypeRef
type t = record { home = []; name = codes t }

abbrev pub type_in : String → String → TypeRef
type_in m t = record { home = codes m; name = codes t }

-- a parameter or a field, of a type or of any
abbrev pub typed : String → String → Param
typed x t = record { name = codes x; declared = type t }

abbrev pub typed_in : String → String → String → Param
typed_in x m t = record { name = codes x; declared = type_in m t }

abbrev pub free : String → Param
free x = typed x "Any"

abbrev pub names_of : List Param → List Text
names_of ps = map (λ p. p.name) ps

-- `f(..) = e`, of the text's own module and of another
abbrev pub def : String → List Param → Expr → TopItem
def f ps e = Def [] (codes f) ps (body (names_of ps) [] (block (Value e ∷ [])))

abbrev pub def_in : String → String → List Param → Expr → TopItem
def_in m f ps e = Def (codes m) (codes f) ps (body (names_of ps) [] (block (Value e ∷ [])))

-- `function f(..) .. end` with the names that its body introduces
abbrev pub function : String → List Param → List String → List Stmt → TopItem
function f ps names ss = Def [] (codes f) ps (body (names_of ps) (map codes names) (block ss))

abbrev pub payload_def : String → List Param → Expr → Payload
payload_def f ps e = Define [] (codes f) ps (body (names_of ps) [] (block (Value e ∷ [])))

abbrev pub abstract : String → TypeRef → TopItem
abstract t parent = AbstractDef (codes t) parent

abbrev pub struct : String → TypeRef → List Param → TopItem
struct t parent fields = StructDef false (codes t) parent fields

abbrev pub mutable : String → List Param → TopItem
mutable t fields = StructDef true (codes t) (type "Any") fields

abbrev pub const : String → Expr → TopItem
const x e = Const (codes x) e

abbrev pub using : List String → TopItem
using names = Using (map codes names)

abbrev pub run : Stmt → TopItem
run s = tree.Run s

abbrev pub show : Expr → TopItem
show e = run (println e)

abbrev pub directive : String → List TypeRef → TopItem
directive f ts = Directive [] (codes f) ts

abbrev pub directive_of : String → String → List TypeRef → TopItem
directive_of m f ts = Directive (codes m) (codes f) ts

abbrev pub source : String → List String → List TopItem → Source
source p uses items = record { name = codes p; uses = map codes uses; items = items }

-- Packages that are built one after another. An identity of these images is its place and the number of its methods.

abbrev pub image_of : List Image → Text → Option Image
image_of images p = find (λ image. bytes_eq image.name p) images

abbrev pub needs_of : List Image → Text → List Text
needs_of images p = flat_map (λ image. map (λ need. need.name) image.needs) (option_to_list (image_of images p))

abbrev pub needed : List Image → List Text → List Image
needed images names = flat_map (λ p. option_to_list (image_of images p)) names

abbrev pub loaded_of : Image → Loaded
loaded_of image = record { name = image.name; identity = image.identity }

abbrev pub no_state : Text → State
no_state here = record { here = here; types = []; methods = []; bindings = []; objects = []; allocated = 0; images = []; wanted = []; newest = 0; printed = [] }

abbrev pub held_of : Image → Held
held_of image = record { content = image.content (no_state image.name); identity = image.identity }

abbrev pub packed_over : List Image → Source → ℕ → Outcome Content
packed_over images p steps = pack p (map held_of (needed images (recorded (needs_of images) p.uses))) steps

abbrev pub with_packed : List Image → Source → Outcome Content → List Image
with_packed images p (Gives c r) =
    images
    ++ record {
      name = p.name;
      needs = map loaded_of (needed images (recorded (needs_of images) p.uses));
      identity = length images ∷ length c.methods ∷ [];
      misfit = λ s. None;
      content = λ s. c;
    }
    ∷ []
with_packed images p (Raises e r) = images
with_packed images p (Stops r) = images

abbrev pub built_onto : List Image → List Source → List Image
built_onto images [] = images
built_onto images (p ∷ ps) = built_onto (with_packed images p (packed_over images p 1000000)) ps

abbrev pub reading_of : Option Image → Reading
reading_of None = NoFile
reading_of (Some image) = Holds image

abbrev pub files_of : List Image → Files
files_of images p = reading_of (image_of images p)

-- what building a package puts in all, over packages built before it
abbrev pub build_output : Outcome Content → Text
build_output (Gives c r) = r.state.printed
build_output (Raises e r) = r.state.printed ++ error_line e
build_output (Stops r) = r.state.printed ++ codes "steps\n"

-- A row: all that a script puts out, with this budget, over these packages.
abbrev pub Puts : List Source → ℕ → List TopItem → String → Type 0
Puts packages steps items text =
    whole_output (run_script (use_from (files_of (built_onto [] packages))) items steps) ≡ codes text

-- a script alone, with a million steps
abbrev pub Prints : List TopItem → String → Type 0
Prints items text = Puts [] 1000000 items text

-- what building the last of these packages puts out
abbrev pub Builds : List Source → Source → String → Type 0
Builds packages p text = build_output (packed_over (built_onto [] packages) p 1000000) ≡ codes text

-- what an expression gives where so many calls are open and so many steps are left, after these definitions
abbrev pub given_text : Outcome Given → Text
given_text (Gives v r) = text_of r.state.objects v
given_text (Raises e r) = error_line e
given_text (Stops r) = codes "steps\n"

abbrev pub Gives_at : ℕ → ℕ → List TopItem → Expr → String → Type 0
Gives_at depth steps items e text =
    let s = (run_script (use_from (files_of [])) items 0).last.state in
    given_text (expr (enter_at steps) (record { home = main_name; world = s.newest; depth = depth }) [] e (record { state = s; left = steps })) ≡ codes text
