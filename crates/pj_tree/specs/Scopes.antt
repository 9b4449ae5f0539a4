-- The rules of scopes, over the trees of the meaning. The scopes of a body are the body and its loops; a loop's
-- condition and bounds stand outside it. A statement at top level has the scopes of its loops. A tree that another one
-- names has scopes of its own.
use Rattle.std.specs.Prelude.{ℕ, zero, suc, ◌+◌, Bool, true, false, not, ◌&&◌, ◌||◌, List, [], ◌∷◌, ◌++◌, length, map, nat_le}
use Rattle.std.specs.List.{list_any}
use Rattle.std.specs.Str.{bytes_eq}
use Rattle.pj_meaning.specs.Packages.{once}
use Rattle.pj_meaning.specs.Tree.{Text, Param, Expr, Exprs, Local, Global, Field, Call, CallLocal, Latest, And, Or, Cond, Same, Intrin, none, also, Stmt, Value, SetLocal, SetGlobal, SetField, If, While, For, Break, Continue, Return, Eval, Block, end, step, Payload, Define, SetBinding, Evaluate, Body, body, TopItem, Using, AbstractDef, StructDef, Def, Declare, Const, Directive, Run}

abbrev pub is_among : Text → List Text → Bool
is_among x names = list_any (bytes_eq x) names

-- whether two lists have a text in common
abbrev pub meets : List Text → List Text → Bool
meets [] names = false
meets (x ∷ xs) names = is_among x names || meets xs names

abbrev pub same_texts : List Text → List Text → Bool
same_texts [] [] = true
same_texts [] (y ∷ ys) = false
same_texts (x ∷ xs) [] = false
same_texts (x ∷ xs) (y ∷ ys) = bytes_eq x y && same_texts xs ys

-- a parameter without a name has the empty text, and introduces nothing
abbrev pub with_names : List Text → List Text
with_names [] = []
with_names ([] ∷ names) = with_names names
with_names ((b ∷ bs) ∷ names) = (b ∷ bs) ∷ with_names names

-- the names that are assigned directly in a scope, in order, each as often as it is assigned
abbrev mutual
  pub assigned : Block → List Text
  assigned end = []
  assigned (step s rest) = assigned_by s ++ assigned rest

  pub assigned_by : Stmt → List Text
  assigned_by (SetLocal x e) = x ∷ []
  assigned_by (If c a b) = assigned a ++ assigned b
  assigned_by s = []

-- The names that a scope introduces in the order of their first assignment directly in it, beside its parameters or
-- its loop's name, which are among the outer ones with all that enclosing scopes introduce.
abbrev pub introduced : List Text → Block → List Text
introduced outer b = once outer (assigned b)

-- Reads. A local is introduced by a scope that encloses it, and a name that no module is written before is read from
-- a module only where no enclosing scope introduces it.
abbrev pub is_hidden : List Text → Text → Text → Bool
is_hidden outer [] x = is_among x outer
is_hidden outer (b ∷ bs) x = false

abbrev mutual
  pub expr_reads : List Text → Expr → Bool
  expr_reads outer (Local x) = is_among x outer
  expr_reads outer (Global m x) = not (is_hidden outer m x)
  expr_reads outer (Field a x) = expr_reads outer a
  expr_reads outer (Call m f es) = not (is_hidden outer m f) && exprs_read outer es
  expr_reads outer (CallLocal x es) = is_among x outer && exprs_read outer es
  expr_reads outer (Latest f es) = expr_reads outer f && exprs_read outer es
  expr_reads outer (And a b) = expr_reads outer a && expr_reads outer b
  expr_reads outer (Or a b) = expr_reads outer a && expr_reads outer b
  expr_reads outer (Cond a b c) = expr_reads outer a && (expr_reads outer b && expr_reads outer c)
  expr_reads outer (Same a b) = expr_reads outer a && expr_reads outer b
  expr_reads outer (Intrin i es) = exprs_read outer es
  expr_reads outer e = true

  pub exprs_read : List Text → Exprs → Bool
  exprs_read outer none = true
  exprs_read outer (also e es) = expr_reads outer e && exprs_read outer es

-- whether each read and assignment is of a scope that encloses it, and each loop carries what it introduces
abbrev mutual
  pub block_scoped : List Text → Block → Bool
  block_scoped outer end = true
  block_scoped outer (step s rest) = stmt_scoped outer s && block_scoped outer rest

  pub stmt_scoped : List Text → Stmt → Bool
  stmt_scoped outer (Value e) = expr_reads outer e
  stmt_scoped outer (SetLocal x e) = is_among x outer && expr_reads outer e
  stmt_scoped outer (SetGlobal x e) = expr_reads outer e
  stmt_scoped outer (SetField a x e) = expr_reads outer a && expr_reads outer e
  stmt_scoped outer (If c a b) = expr_reads outer c && (block_scoped outer a && block_scoped outer b)
  stmt_scoped outer (While names c b) =
      expr_reads outer c && (same_texts names (introduced outer b) && block_scoped (names ++ outer) b)
  stmt_scoped outer (For x from to names b) =
      expr_reads outer from && (expr_reads outer to && (same_texts names (introduced (x ∷ outer) b) && block_scoped (names ++ (x ∷ outer)) b))
  stmt_scoped outer Break = true
  stmt_scoped outer Continue = true
  stmt_scoped outer (Return e) = expr_reads outer e
  stmt_scoped outer (Eval m p) = true

-- the names that the loops of a block introduce
abbrev mutual
  pub loop_names : Block → List Text
  loop_names end = []
  loop_names (step s rest) = loop_names_of s ++ loop_names rest

  pub loop_names_of : Stmt → List Text
  loop_names_of (If c a b) = loop_names a ++ loop_names b
  loop_names_of (While names c b) = names ++ loop_names b
  loop_names_of (For x from to names b) = x ∷ (names ++ loop_names b)
  loop_names_of s = []

-- the names that are read from a module without one being written
abbrev pub if_bare : Text → Text → List Text
if_bare [] x = x ∷ []
if_bare (b ∷ bs) x = []

abbrev mutual
  pub bare_reads : Expr → List Text
  bare_reads (Global m x) = if_bare m x
  bare_reads (Field a x) = bare_reads a
  bare_reads (Call m f es) = if_bare m f ++ bare_reads_all es
  bare_reads (CallLocal x es) = bare_reads_all es
  bare_reads (Latest f es) = bare_reads f ++ bare_reads_all es
  bare_reads (And a b) = bare_reads a ++ bare_reads b
  bare_reads (Or a b) = bare_reads a ++ bare_reads b
  bare_reads (Cond a b c) = bare_reads a ++ (bare_reads b ++ bare_reads c)
  bare_reads (Same a b) = bare_reads a ++ bare_reads b
  bare_reads (Intrin i es) = bare_reads_all es
  bare_reads e = []

  pub bare_reads_all : Exprs → List Text
  bare_reads_all none = []
  bare_reads_all (also e es) = bare_reads e ++ bare_reads_all es

abbrev mutual
  pub bare_in : Block → List Text
  bare_in end = []
  bare_in (step s rest) = bare_in_stmt s ++ bare_in rest

  pub bare_in_stmt : Stmt → List Text
  bare_in_stmt (Value e) = bare_reads e
  bare_in_stmt (SetLocal x e) = bare_reads e
  bare_in_stmt (SetGlobal x e) = bare_reads e
  bare_in_stmt (SetField a x e) = bare_reads a ++ bare_reads e
  bare_in_stmt (If c a b) = bare_reads c ++ (bare_in a ++ bare_in b)
  bare_in_stmt (While names c b) = bare_reads c ++ bare_in b
  bare_in_stmt (For x from to names b) = bare_reads from ++ (bare_reads to ++ bare_in b)
  bare_in_stmt Break = []
  bare_in_stmt Continue = []
  bare_in_stmt (Return e) = bare_reads e
  bare_in_stmt (Eval m p) = []

-- LoopName, where reads and lists are as above: a name is read where no scope introduces it, and a loop of the same body
-- or statement introduces it.
abbrev pub reads_loop_name : Block → Bool
reads_loop_name b = meets (bare_in b) (loop_names b)

-- Twice: a name stands twice in one list of parameters or fields; parameters without a name don't count.
abbrev pub has_twice : List Text → Bool
has_twice [] = false
has_twice (x ∷ xs) = is_among x xs || has_twice xs

abbrev pub names_twice : List Text → Bool
names_twice names = has_twice (with_names names)

-- the names that `global x = e` sets
abbrev mutual
  pub globals_set : Block → List Text
  globals_set end = []
  globals_set (step s rest) = globals_set_by s ++ globals_set rest

  pub globals_set_by : Stmt → List Text
  globals_set_by (SetGlobal x e) = x ∷ []
  globals_set_by (If c a b) = globals_set a ++ globals_set b
  globals_set_by (While names c b) = globals_set b
  globals_set_by (For x from to names b) = globals_set b
  globals_set_by s = []

-- GlobalLocal in a body: it sets a global of a name that one of its scopes introduces.
abbrev pub sets_introduced : List Text → List Text → Block → Bool
sets_introduced params names b = meets (globals_set b) (with_names params ++ (names ++ loop_names b))

-- At top level a plain assignment outside loops sets a global too, so there only those within a loop tell.
abbrev mutual
  pub globals_in_loops : Block → List Text
  globals_in_loops end = []
  globals_in_loops (step s rest) = globals_in_loops_of s ++ globals_in_loops rest

  pub globals_in_loops_of : Stmt → List Text
  globals_in_loops_of (If c a b) = globals_in_loops a ++ globals_in_loops b
  globals_in_loops_of (While names c b) = globals_set b
  globals_in_loops_of (For x from to names b) = globals_set b
  globals_in_loops_of s = []

-- Outside: `break` or `continue` outside a loop, or `return` outside a method's body.
abbrev mutual
  pub strays : Bool → Bool → Block → Bool
  strays in_body in_loop end = false
  strays in_body in_loop (step s rest) = stmt_strays in_body in_loop s || strays in_body in_loop rest

  pub stmt_strays : Bool → Bool → Stmt → Bool
  stmt_strays in_body in_loop (If c a b) = strays in_body in_loop a || strays in_body in_loop b
  stmt_strays in_body in_loop (While names c b) = strays in_body true b
  stmt_strays in_body in_loop (For x from to names b) = strays in_body true b
  stmt_strays in_body in_loop Break = not in_loop
  stmt_strays in_body in_loop Continue = not in_loop
  stmt_strays in_body in_loop (Return e) = not in_body
  stmt_strays in_body in_loop s = false

-- the most parameters, arguments, fields and types of a directive
abbrev pub most : ℕ
most = 16

-- the most names that the scopes of one body, payload or top-level statement introduce
abbrev pub most_names : ℕ
most_names = 1024

abbrev pub how_many : Exprs → ℕ
how_many none = zero
how_many (also e es) = suc (how_many es)

-- Whether each call has at most so many arguments; `invokelatest` counts its function among them.
abbrev mutual
  pub few_arguments : Expr → Bool
  few_arguments (Field a x) = few_arguments a
  few_arguments (Call m f es) = nat_le (how_many es) most && few_in_all es
  few_arguments (CallLocal x es) = nat_le (how_many es) most && few_in_all es
  few_arguments (Latest f es) = nat_le (suc (how_many es)) most && (few_arguments f && few_in_all es)
  few_arguments (And a b) = few_arguments a && few_arguments b
  few_arguments (Or a b) = few_arguments a && few_arguments b
  few_arguments (Cond a b c) = few_arguments a && (few_arguments b && few_arguments c)
  few_arguments (Same a b) = few_arguments a && few_arguments b
  few_arguments (Intrin i es) = few_in_all es
  few_arguments e = true

  pub few_in_all : Exprs → Bool
  few_in_all none = true
  few_in_all (also e es) = few_arguments e && few_in_all es

abbrev mutual
  pub few_in : Block → Bool
  few_in end = true
  few_in (step s rest) = few_in_stmt s && few_in rest

  pub few_in_stmt : Stmt → Bool
  few_in_stmt (Value e) = few_arguments e
  few_in_stmt (SetLocal x e) = few_arguments e
  few_in_stmt (SetGlobal x e) = few_arguments e
  few_in_stmt (SetField a x e) = few_arguments a && few_arguments e
  few_in_stmt (If c a b) = few_arguments c && (few_in a && few_in b)
  few_in_stmt (While names c b) = few_arguments c && few_in b
  few_in_stmt (For x from to names b) = few_arguments from && (few_arguments to && few_in b)
  few_in_stmt Break = true
  few_in_stmt Continue = true
  few_in_stmt (Return e) = few_arguments e
  few_in_stmt (Eval m p) = true

-- whether a body or a statement introduces at most so many names, each counted once for each of its scopes
abbrev pub few_names : List Text → List Text → Block → Bool
few_names params names b = nat_le (length (with_names params) + (length names + length (loop_names b))) most_names

-- a body by itself: its parameters' names, the names that it carries, and its statements
abbrev pub own_body_ok : List Text → List Text → Block → Bool
own_body_ok params names b =
    let outer = with_names params in
    nat_le (length params) most
    && (few_names params names b
    && (not (has_twice outer)
    && (same_texts names (introduced outer b)
    && (block_scoped (names ++ outer) b
    && (not (reads_loop_name b)
    && (not (sets_introduced params names b)
    && (not (strays true false b)
    && few_in b)))))))

abbrev pub own_stmt_ok : Stmt → Bool
own_stmt_ok s =
    nat_le (length (loop_names_of s)) most_names
    && (stmt_scoped [] s
    && (not (meets (bare_in_stmt s) (loop_names_of s))
    && (not (meets (globals_in_loops_of s) (loop_names_of s))
    && (not (stmt_strays false false s)
    && few_in_stmt s))))

-- an expression that stands in no scope
abbrev pub own_expr_ok : Expr → Bool
own_expr_ok e = expr_reads [] e && few_arguments e

abbrev pub names_of : List Param → List Text
names_of params = map (λ p. p.name) params

abbrev pub params_ok : List Param → Bool
params_ok params = nat_le (length params) most && not (names_twice (names_of params))

-- trees with all that they name
abbrev mutual
  pub block_ok : Block → Bool
  block_ok end = true
  block_ok (step s rest) = stmt_ok s && block_ok rest

  pub stmt_ok : Stmt → Bool
  stmt_ok (If c a b) = block_ok a && block_ok b
  stmt_ok (While names c b) = block_ok b
  stmt_ok (For x from to names b) = block_ok b
  stmt_ok (Eval m p) = payload_ok p
  stmt_ok s = true

  pub payload_ok : Payload → Bool
  payload_ok (Define m f params b) = params_ok params && body_ok b
  payload_ok (SetBinding x e) = own_expr_ok e
  payload_ok (Evaluate e) = own_expr_ok e

  pub body_ok : Body → Bool
  body_ok (body params names b) = own_body_ok params names b && block_ok b

abbrev pub item_ok : TopItem → Bool
item_ok (Using names) = true
item_ok (AbstractDef name parent) = true
item_ok (StructDef mutable name parent fields) = params_ok fields
item_ok (Def m f params b) = params_ok params && body_ok b
item_ok (Declare f) = true
item_ok (Const x e) = own_expr_ok e
item_ok (Directive m f types) = nat_le (length types) most
item_ok (Run s) = own_stmt_ok s && stmt_ok s
