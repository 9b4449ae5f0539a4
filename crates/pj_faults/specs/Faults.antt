-- The faults of names and scopes in a text, each with its place. A list of modules has the name of each module of the text.
use Rattle.std.specs.Prelude.{ℕ, Bool, true, false, not, ◌&&◌, ◌||◌, List, [], ◌∷◌, ◌++◌, map, slice_get, Option, Some, None, codes}
use Rattle.std.specs.Str.{bytes_eq}
use Rattle.pj_words.specs.Words.{is_special}
use Rattle.pj_syntax.specs.declared.expression.Spot.{Spot}
use Rattle.pj_syntax.specs.declared.expression.Path.{Path}
use Rattle.pj_syntax.specs.declared.expression.Path.TheVariants as paths
use Rattle.pj_syntax.specs.declared.statement.Param.{Param}
use Rattle.pj_syntax.specs.declared.item.Item.{Item}
use Rattle.pj_syntax.specs.declared.item.Item.TheVariants as items
use Rattle.pj_syntax.specs.declared.item.Script.{Script}
use Rattle.pj_syntax.specs.declared.item.Package.{Package}
use Rattle.pj_faults.specs.declared.fault.Fault.{Fault}
use Rattle.pj_faults.specs.declared.fault.ScopeKind.{ScopeKind}
use Rattle.pj_faults.specs.declared.fault.ScopeKind.TheVariants.{Many, ModuleName, Twice, LoopName, GlobalLocal, Outside, Reserved}
use Rattle.pj_faults.specs.Located as l
use Rattle.pj_faults.specs.Located.{Text, Value, Arguments, Statement, Block, Method, Evaluated, none, also, end, step, method, value_of, statement_of, method_of}
use Rattle.pj_faults.specs.Introduced.{is_among, with_name, with_names, new_names, assigned, named, body_names, looped, looped_by}
use Rattle.pj_faults.specs.Sorted.{sorted}

-- one fault, where it is one
abbrev pub faulty : Bool → ScopeKind → ℕ → List Fault
faulty true kind place = record { place = place; kind = kind } ∷ []
faulty false kind place = []

-- Many: a list may have so many members; the places are those of its members.
abbrev pub too_many : Option ℕ → List Fault
too_many None = []
too_many (Some place) = faulty true Many place

abbrev pub beyond : ℕ → List ℕ → List Fault
beyond most places = too_many (slice_get places most)

-- ModuleName and Reserved, of a name that is bound
abbrev pub bound : List Text → Spot → List Fault
bound modules x = faulty (is_among x.text modules) ModuleName x.at ++ faulty (is_special x.text) Reserved x.at

-- a method whose name has no module before it binds that name
abbrev pub bound_path : List Text → Path → List Fault
bound_path modules (paths.Bare x) = bound modules x
bound_path modules (paths.Of m x) = []

abbrev pub all_bound : List Text → List Spot → List Fault
all_bound modules [] = []
all_bound modules (x ∷ xs) = bound modules x ++ all_bound modules xs

-- Twice, of the names in one list
abbrev pub repeated : List Text → List Spot → List Fault
repeated seen [] = []
repeated seen (x ∷ xs) = faulty (is_among x.text seen) Twice x.at ++ repeated (with_name seen x.text) xs

-- a list of parameters or fields
abbrev pub param_at : Param → ℕ
param_at p = p.at

abbrev pub list_faults : List Param → List Fault
list_faults params = beyond 16 (map param_at params) ++ repeated [] (named params)

-- LoopName: a name that is read where no enclosing scope introduces it, and a loop does. The names are those that enclosing scopes
-- introduce, and those that loops of the same body, or of the same statement at top level, introduce.
abbrev pub unseen : List Text → List Text → Spot → List Fault
unseen names loops x = faulty (not (is_among x.text names) && is_among x.text loops) LoopName x.at

abbrev pub read : List Text → List Text → Path → List Fault
read names loops (paths.Bare x) = unseen names loops x
read names loops (paths.Of m x) = []

abbrev pub places_of : Arguments → List ℕ
places_of none = []
places_of (also at e es) = at ∷ places_of es

abbrev mutual
  pub value_faults : List Text → List Text → Value → List Fault
  value_faults names loops (l.Name p) = read names loops p
  value_faults names loops (l.Field a x) = value_faults names loops a
  value_faults names loops (l.Call p es) = read names loops p ++ (beyond 16 (places_of es) ++ argument_faults names loops es)
  value_faults names loops (l.Latest es) = beyond 16 (places_of es) ++ argument_faults names loops es
  value_faults names loops (l.And a b) = value_faults names loops a ++ value_faults names loops b
  value_faults names loops (l.Or a b) = value_faults names loops a ++ value_faults names loops b
  value_faults names loops (l.Cond a b c) = value_faults names loops a ++ (value_faults names loops b ++ value_faults names loops c)
  value_faults names loops (l.Same a b) = value_faults names loops a ++ value_faults names loops b
  value_faults names loops e = []

  pub argument_faults : List Text → List Text → Arguments → List Fault
  argument_faults names loops none = []
  argument_faults names loops (also at e es) = value_faults names loops e ++ argument_faults names loops es

-- an expression that stands in no scope and beside no loop
abbrev pub alone : Value → List Fault
alone e = value_faults [] [] e

-- Many, of the names that the scopes of a body or of a statement introduce, in the order of their places
abbrev pub at_of : Spot → ℕ
at_of x = x.at

abbrev pub crowded : List Spot → List Fault
crowded introduced = beyond 1024 (sorted (map at_of introduced))

-- the names of tokens, each once
abbrev pub names_of : List Spot → List Text
names_of xs = with_names [] xs

-- GlobalLocal: a scope of the same body or statement introduces the name. The place is that of the word `global`.
abbrev pub shadowed : List Text → List Text → ℕ → Spot → List Fault
shadowed names loops at x = faulty (is_among x.text names || is_among x.text loops) GlobalLocal at

-- the faults of the value behind `return`, where one is written
abbrev pub returned : Option Value → (Value → List Fault) → List Fault
returned None faults = []
returned (Some e) faults = faults e

abbrev mutual
  pub statement_faults : List Text → List Text → Bool → Bool → List Text → Statement → List Fault
  statement_faults modules loops in_body in_loop names (l.Give e) = value_faults names loops e
  statement_faults modules loops in_body in_loop names (l.Set x e) = bound modules x ++ value_faults names loops e
  statement_faults modules loops in_body in_loop names (l.SetField a x e) = value_faults names loops a ++ value_faults names loops e
  statement_faults modules loops in_body in_loop names (l.Global at x e) =
      bound modules x ++ (shadowed names loops at x ++ value_faults names loops e)
  statement_faults modules loops in_body in_loop names (l.Return at e) =
      faulty (not in_body) Outside at ++ returned e (value_faults names loops)
  statement_faults modules loops in_body in_loop names (l.Break at) = faulty (not in_loop) Outside at
  statement_faults modules loops in_body in_loop names (l.Continue at) = faulty (not in_loop) Outside at
  statement_faults modules loops in_body in_loop names (l.If c a b) =
      value_faults names loops c
      ++ (block_faults modules loops in_body in_loop names a ++ block_faults modules loops in_body in_loop names b)
  statement_faults modules loops in_body in_loop names (l.While c b) =
      value_faults names loops c ++ block_faults modules loops in_body true (with_names names (assigned b)) b
  statement_faults modules loops in_body in_loop names (l.For x from to b) =
      bound modules x
      ++ (value_faults names loops from
      ++ (value_faults names loops to
      ++ block_faults modules loops in_body true (with_names (with_name names x.text) (assigned b)) b))
  statement_faults modules loops in_body in_loop names (l.Eval m p) = evaluated_faults modules p

  pub block_faults : List Text → List Text → Bool → Bool → List Text → Block → List Fault
  block_faults modules loops in_body in_loop names end = []
  block_faults modules loops in_body in_loop names (step s rest) =
      statement_faults modules loops in_body in_loop names s ++ block_faults modules loops in_body in_loop names rest

  -- what `@eval` evaluates is a text of its own
  pub evaluated_faults : List Text → Evaluated → List Fault
  evaluated_faults modules (l.Define f) = method_faults modules f
  evaluated_faults modules (l.Bind x e) = bound modules x ++ alone e
  evaluated_faults modules (l.Find e) = alone e

  pub method_faults : List Text → Method → List Fault
  method_faults modules (method path params b) =
      bound_path modules path
      ++ (list_faults params
      ++ (all_bound modules (named params)
      ++ (crowded (new_names [] (body_names params b) ++ looped (names_of (body_names params b)) b)
      ++ block_faults modules (names_of (looped (names_of (body_names params b)) b)) true false (names_of (body_names params b)) b)))

-- a statement at top level
abbrev pub run_faults : List Text → Statement → List Fault
run_faults modules s =
    crowded (looped_by [] s) ++ statement_faults modules (names_of (looped_by [] s)) false false [] s

-- `using` names packages alone
abbrev pub used : Spot → List Fault
used x = faulty (bytes_eq x.text (codes "Base") || bytes_eq x.text (codes "Main")) ModuleName x.at

abbrev pub all_used : List Spot → List Fault
all_used [] = []
all_used (x ∷ xs) = used x ++ all_used xs

abbrev pub path_at : Path → ℕ
path_at (paths.Bare x) = x.at
path_at (paths.Of m x) = m.at

abbrev pub item_faults : List Text → Item → List Fault
item_faults modules (items.Using names) = all_used names
item_faults modules (items.Abstract name parent) = bound modules name
item_faults modules (items.Struct mutable name parent fields) = bound modules name ++ list_faults fields
item_faults modules (items.Def f) = method_faults modules (method_of f)
item_faults modules (items.Declare f) = bound modules f
item_faults modules (items.Const name e) = bound modules name ++ alone (value_of e)
item_faults modules (items.Directive fun types) = beyond 16 (map path_at types)
item_faults modules (items.Run s) = run_faults modules (statement_of s)

abbrev pub all_items : List Text → List Item → List Fault
all_items modules [] = []
all_items modules (i ∷ is) = item_faults modules i ++ all_items modules is

abbrev pub script_faults : List Text → Script → List Fault
script_faults modules s = all_items modules s.items

-- a package has the name that is asked for
abbrev pub package_faults : List Text → Text → Package → List Fault
package_faults modules asked p =
    faulty (not (bytes_eq p.name.text asked)) ModuleName p.name.at ++ (all_used p.uses ++ all_items modules p.items)
