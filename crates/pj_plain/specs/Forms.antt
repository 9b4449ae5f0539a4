-- Which scripts and which packages run: functions of whole numbers and constants, and what is printed of them.
use Rattle.std.specs.Prelude.{ℕ, Bool, true, false, ◌&&◌, ◌||◌, not, ◌==◌, List, [], ◌∷◌, ◌++◌, length, codes, Option, Some, None, is_none, if◌then◌else◌}
use Rattle.std.specs.Option.{option_flatten, option_map_or}
use Rattle.std.specs.Str.{bytes_eq}
use Rattle.pj_meaning.specs.Tree.{Text, Expr, Exprs, Global, Call, none, also, Stmt, Value, TopItem, Using, Def, Const, Run}
use Rattle.pj_meaning.specs.Packages.{Source}
use Rattle.pj_plain.specs.Names.{free_name, is_among}
use Rattle.pj_plain.specs.Plain.{has_count, how_many, is_empty, literals_only, plain_definition, plain_expr}

-- A text's own names so far, the first item's first: a function with the number of its parameters, or a constant, which
-- has none.
abbrev pub Known : Type 0
Known = List (Text × Option ℕ)

-- what a name is, where it is known
abbrev pub role_of : Text → Known → Option (Option ℕ)
role_of name [] = None
role_of name (k ∷ known) = if bytes_eq name k.0 then Some k.1 else role_of name known

abbrev pub is_new : Text → Known → Bool
is_new name known = is_none (role_of name known)

-- how many parameters a function has that is known
abbrev pub parameter_count : Text → Known → Option ℕ
parameter_count name known = option_flatten (role_of name known)

-- the module is written, and is a package that is used
abbrev pub is_used : Text → List Text → Bool
is_used home used = not (is_empty home) && is_among home used

-- ---- expressions

-- a call, without a module, of a function that is known, with as many integers as it has parameters
abbrev pub own_call : Known → Expr → Bool
own_call known (Call m f es) = is_empty m && (literals_only es && has_count (how_many es) (parameter_count f known))
own_call known e = false

-- a name of a package that is used, or a call of one with integers
abbrev pub of_used : List Text → Expr → Bool
of_used used (Global m x) = is_used m used
of_used used (Call m f es) = is_used m used && literals_only es
of_used used e = false

-- what a script may print
abbrev pub may_print : Known → List Text → Expr → Bool
may_print known used e = own_call known e || of_used used e

-- what a constant may be: a plain expression without names, or a call of a function that is known
abbrev pub may_be_constant : Known → Expr → Bool
may_be_constant known e = plain_expr [] e || own_call known e

-- the only one of these
abbrev pub only : Exprs → Option Expr
only (also e none) = Some e
only es = None

-- what a call of `println` prints that has no module and one argument
abbrev pub printed : Stmt → Option Expr
printed (Value (Call m f es)) = if is_empty m && bytes_eq f (codes "println") then only es else None
printed s = None

-- ---- items

-- the names that are known behind an item
abbrev pub known_behind : Known → TopItem → Known
known_behind known (Def m f params b) = known ++ (f, Some (length params)) ∷ []
known_behind known (Const x e) = known ++ (x, None) ∷ []
known_behind known item = known

-- the packages that are used behind an item
abbrev pub used_behind : List Text → TopItem → List Text
used_behind used (Using names) = used ++ names
used_behind used item = used

-- A line of `using`; a plain definition of a new name; or a call of `println`.
abbrev pub script_item : Known → List Text → TopItem → Bool
script_item known used (Using names) = true
script_item known used (Def m f params b) = is_new f known && plain_definition m f params b
script_item known used (Run s) = option_map_or (may_print known used) (printed s) false
script_item known used item = false

abbrev pub script_items : Known → List Text → List TopItem → Bool
script_items known used [] = true
script_items known used (item ∷ items) =
    script_item known used item && script_items (known_behind known item) (used_behind used item) items

-- `__init__` is what a package starts with
abbrev pub is_start : Text → Bool
is_start name = bytes_eq name (codes "__init__")

-- a plain definition or a constant, of a new name
abbrev pub package_item : Known → TopItem → Bool
package_item known (Def m f params b) = is_new f known && (not (is_start f) && plain_definition m f params b)
package_item known (Const x e) = is_new x known && (not (is_start x) && (free_name x && may_be_constant known e))
package_item known item = false

abbrev pub package_items : Known → List TopItem → Bool
package_items known [] = true
package_items known (item ∷ items) = package_item known item && package_items (known_behind known item) items

-- ---- texts

-- the scripts that run
abbrev pub script_form : List TopItem → Bool
script_form items = script_items [] [] items

-- the packages that run: they use none
abbrev pub package_form : Source → Bool
package_form p = (length p.uses == 0) && package_items [] p.items
