-- What a tree means that holds all its names and all that it names.
use Rattle.std.specs.Prelude.{List, [], map}
use Rattle.pj_meaning.specs.Tree as tree
use Rattle.pj_meaning.specs.Packages.{Source}
use Rattle.pj_tree.specs.Reads.{Strings, Parts, OfPayload, Defined, define_item, def_of, text_of_sym, expr_of, exprs_of, stmt_of, item_of, script_of, package_of}
use Rattle.pj_tree.specs.declared.tree.Sym.{Sym}
use Rattle.pj_tree.specs.declared.tree.Param.{Param}
use Rattle.pj_tree.specs.declared.tree.Expr.{Expr}
use Rattle.pj_tree.specs.declared.tree.Stmt.{Stmt}
use Rattle.pj_tree.specs.declared.tree.DefTree.{DefTree}
use Rattle.pj_tree.specs.declared.item.TopItem.{TopItem}
use Rattle.pj_tree.specs.declared.item.ScriptTree.{ScriptTree}
use Rattle.pj_tree.specs.declared.item.PackageTree.{PackageTree}

-- no name and no tree is numbered
abbrev pub no_strings : Strings
no_strings n = []

abbrev pub no_parts : Parts
no_parts n = OfPayload (tree.Evaluate tree.Nothing)

abbrev pub held_text : Sym → tree.Text
held_text = text_of_sym no_strings

abbrev pub held_expr : Expr → tree.Expr
held_expr = expr_of no_strings

abbrev pub held_def : DefTree → tree.TopItem
held_def d = define_item (def_of no_strings no_parts d)

abbrev pub held_item : TopItem → tree.TopItem
held_item = item_of no_strings no_parts

abbrev pub held_script : ScriptTree → List tree.TopItem
held_script = script_of no_strings no_parts

abbrev pub held_package : PackageTree → Source
held_package = package_of no_strings no_parts

abbrev pub held_exprs : List Expr → tree.Exprs
held_exprs es = exprs_of (map held_expr es)

abbrev pub held_stmt : Stmt → tree.Stmt
held_stmt = stmt_of no_strings no_parts

-- the names of parameters
abbrev pub held_names : List Param → List tree.Text
held_names params = map (λ p. held_text p.name) params

-- a definition by its parts
abbrev pub held_parts : DefTree → Defined
held_parts = def_of no_strings no_parts
