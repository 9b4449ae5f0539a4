-- The fault that counts in each part of a text's trees.
use Rattle.std.specs.Prelude.{ℕ, List, [], ◌∷◌, ◌++◌, map, Option, option_map}
use Rattle.pj_syntax.specs.declared.expression.Spot.{Spot}
use Rattle.pj_syntax.specs.declared.expression.Path.{Path}
use Rattle.pj_syntax.specs.declared.expression.Argument.{Argument}
use Rattle.pj_syntax.specs.declared.expression.Expr.{Expr}
use Rattle.pj_syntax.specs.declared.statement.Param.{Param}
use Rattle.pj_syntax.specs.declared.statement.Stmt.{Stmt}
use Rattle.pj_syntax.specs.declared.statement.Function.{Function}
use Rattle.pj_syntax.specs.declared.statement.Payload.{Payload}
use Rattle.pj_syntax.specs.declared.item.Item.{Item}
use Rattle.pj_syntax.specs.declared.item.Script.{Script}
use Rattle.pj_syntax.specs.declared.item.Package.{Package}
use Rattle.pj_faults.specs.declared.fault.Fault.{Fault}
use Rattle.pj_faults.specs.declared.gather.Gathered.{Gathered}
use Rattle.pj_faults.specs.declared.unit.Unit.{Unit}
use Rattle.pj_faults.specs.declared.statement.Within.{Within}
use Rattle.pj_faults.specs.First.{first}
use Rattle.pj_faults.specs.Sorted.{sorted}
use Rattle.pj_faults.specs.Located.{Text, value_of, arguments_of, statement_of, block_of, evaluated_of, method_of}
use Rattle.pj_faults.specs.Introduced.{with_name, with_names, new_names, assigned, assigned_by, looped, looped_by, named, body_names}
use Rattle.pj_faults.specs.Faults as f
use Rattle.pj_faults.specs.Faults.{beyond, places_of, at_of, names_of, param_at, path_at}

-- ---- expressions

unfoldable pub read_first : List Text → List Text → Path → Option Fault
read_first names loops p = first (f.read names loops p)

unfoldable pub many_arguments : List Argument → Option Fault
many_arguments es = first (beyond 16 (places_of (arguments_of es)))

unfoldable pub value_first : List Text → List Text → Expr → Option Fault
value_first names loops e = first (f.value_faults names loops (value_of e))

unfoldable pub arguments_first : List Text → List Text → List Argument → Option Fault
arguments_first names loops es = first (f.argument_faults names loops (arguments_of es))

-- ---- names that are bound, and lists of parameters and fields

unfoldable pub bound_first : List Text → Spot → Option Fault
bound_first modules x = first (f.bound modules x)

unfoldable pub bound_path_first : List Text → Path → Option Fault
bound_path_first modules p = first (f.bound_path modules p)

unfoldable pub params_bound : List Text → List Param → Option Fault
params_bound modules params = first (f.all_bound modules (named params))

unfoldable pub seen_after : List Text → List Param → List Text
seen_after seen params = with_names seen (named params)

unfoldable pub params_repeated : List Text → List Param → Option Fault
params_repeated seen params = first (f.repeated seen (named params))

unfoldable pub many_params : List Param → Option Fault
many_params params = first (beyond 16 (map param_at params))

unfoldable pub list_first : List Param → Option Fault
list_first params = first (f.list_faults params)

-- ---- names that scopes introduce

unfoldable pub grown : List Text → List Stmt → List Text
grown names b = with_names names (assigned (block_of b))

unfoldable pub grown_by : List Text → Stmt → List Text
grown_by names s = with_names names (assigned_by (statement_of s))

unfoldable pub new_in : List Text → List Stmt → List Spot
new_in names b = new_names names (assigned (block_of b))

unfoldable pub new_by : List Text → Stmt → List Spot
new_by names s = new_names names (assigned_by (statement_of s))

unfoldable pub looped_in : List Text → List Stmt → List Spot
looped_in names b = looped names (block_of b)

unfoldable pub looped_stmt : List Text → Stmt → List Spot
looped_stmt names s = looped_by names (statement_of s)

-- places and names with those of some more tokens
unfoldable pub gathered : Gathered → List Spot → Gathered
gathered g xs = record { places = g.places ++ map at_of xs; names = with_names g.names xs }

unfoldable pub crowded_first : List ℕ → Option Fault
crowded_first places = first (beyond 1024 (sorted places))

-- ---- bodies, and statements at top level

unfoldable pub new_params : List Text → List Param → List Spot
new_params names params = new_names names (named params)

-- what the scopes of a body introduce
unfoldable pub body_unit : List Param → List Stmt → Unit
body_unit params b =
    let names = names_of (body_names params (block_of b)) in
    record {
      names = names;
      inner = record {
        places = map at_of (new_names [] (body_names params (block_of b)) ++ looped names (block_of b));
        names = names_of (looped names (block_of b));
      };
    }

-- what the loops of a statement at top level introduce
unfoldable pub run_unit : Stmt → Unit
run_unit s = record {
  names = [];
  inner = record { places = map at_of (looped_by [] (statement_of s)); names = names_of (looped_by [] (statement_of s)) };
}

unfoldable pub shadowed_first : List Text → List Text → ℕ → Spot → Option Fault
shadowed_first names loops at x = first (f.shadowed names loops at x)

unfoldable pub returned_first : List Text → List Text → Option Expr → Option Fault
returned_first names loops e = first (f.returned (option_map value_of e) (f.value_faults names loops))

unfoldable pub statement_first : List Text → List Text → Within → List Text → Stmt → Option Fault
statement_first modules loops w names s = first (f.statement_faults modules loops w.in_body w.in_loop names (statement_of s))

unfoldable pub block_first : List Text → List Text → Within → List Text → List Stmt → Option Fault
block_first modules loops w names b = first (f.block_faults modules loops w.in_body w.in_loop names (block_of b))

unfoldable pub evaluated_first : List Text → Payload → Option Fault
evaluated_first modules p = first (f.evaluated_faults modules (evaluated_of p))

unfoldable pub method_first : List Text → Function → Option Fault
method_first modules m = first (f.method_faults modules (method_of m))

unfoldable pub head_first : List Text → Function → Option Fault
head_first modules m = first (f.bound_path modules m.path ++ (f.list_faults m.params ++ f.all_bound modules (named m.params)))

unfoldable pub run_first : List Text → Stmt → Option Fault
run_first modules s = first (f.run_faults modules (statement_of s))

-- ---- items and texts

unfoldable pub used_first : List Spot → Option Fault
used_first names = first (f.all_used names)

unfoldable pub many_types : List Path → Option Fault
many_types types = first (beyond 16 (map path_at types))

unfoldable pub item_first : List Text → Item → Option Fault
item_first modules i = first (f.item_faults modules i)

unfoldable pub items_first : List Text → List Item → Option Fault
items_first modules is = first (f.all_items modules is)

-- each name once
unfoldable pub distinct : List Text → List Text → List Text
distinct seen [] = seen
distinct seen (x ∷ xs) = distinct (with_name seen x) xs

-- the fault of a script that counts, or none
unfoldable pub script_first : List Text → Script → Option Fault
script_first modules s = first (f.script_faults (distinct [] modules) s)

-- the fault of a package that counts, or none
unfoldable pub package_first : List Text → Text → Package → Option Fault
package_first modules asked p = first (f.package_faults (distinct [] modules) asked p)
