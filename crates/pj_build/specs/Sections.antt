-- Sections of an image that keep what a package has of its own, over any strings that begin with these.
use Rattle.std.specs.Prelude.{◌≡◌, List, [], ◌∷◌, map, ⊤}
use Rattle.std.specs.List.{AllByRecursion}
use Rattle.pj_meaning.specs.Tree.{Text}
use Rattle.pj_meaning.specs.State as state
use Rattle.pj_tree.specs.Reads.{Strings}
use Rattle.pj_tree.specs.declared.tree.Sym.{Sym}
use Rattle.pj_tree.specs.declared.tree.Expr.{Expr}
use Rattle.pj_tree.specs.declared.tree.Stmt.TheVariants as stmt
use Rattle.pj_tree.specs.declared.tree.Body.{roll-Body}
use Rattle.pj_tree.specs.declared.tree.TreeNode.TheVariants as node
use Rattle.pj_tree.specs.declared.tree.TreeNode.{TreeNode}
use Rattle.pj_parts.specs.declared.types.FunDef.{FunDef}
use Rattle.pj_parts.specs.declared.types.Binding.{Binding}
use Rattle.pj_parts.specs.declared.types.Value.{out-Value}
use Rattle.pj_content.specs.Content.{role_of, value_in}
use Rattle.pj_parts.specs.Fits.{FunDefFits, BindingFits}
use Rattle.pj_session.specs.declared.own.Definition.{Definition}
use Rattle.pj_session.specs.declared.own.Own.{Own}
use Rattle.pj_session.specs.declared.own.Own.TheVariants as own
use Rattle.pj_build.specs.Own.{Named, functions_in, constants_in}
use Rattle.pj_build.specs.Numbered.{NumberedSyms, NumberedExpr}
use Rattle.pj_build.specs.Strings.{Begins}

-- the names of functions
pub record KeptFunctions (strings : List Text) (named : Named) (fs : List FunDef) : Type 0 where
  pub means : (all : Strings) → Begins strings all → map (λ f. all f.name) fs ≡ functions_in named
  pub fit : AllByRecursion FunDefFits fs

abbrev pub binding_in : Text → Strings → Binding → state.Binding
binding_in home all b = record { home = home; name = all b.name; role = role_of b.form (value_in (out-Value b.value)) }

-- the constants, in a module of any name
pub record KeptBindings (strings : List Text) (named : Named) (bs : List Binding) : Type 0 where
  pub means : (home : Text) (all : Strings) → Begins strings all → map (binding_in home all) bs ≡ constants_in home named
  pub fit : AllByRecursion BindingFits bs

-- a body of one expression
abbrev pub body_tree : List Sym → Expr → TreeNode
body_tree params value = node.Body (roll-Body (record { params = params; introduced = []; block = stmt.Value value ∷ [] }))

-- a function's parameters and its expression, by numbers
pub record KeptBody (strings : List Text) (d : Definition) (t : TreeNode) : Type 0 where
  pub params : List Sym
  pub value : Expr
  pub is : t ≡ body_tree params value
  pub named : NumberedSyms strings d.params params
  pub numbered : NumberedExpr strings d.body value

abbrev pub TreesOf : List Text → List Own → List TreeNode → Type 0
TreesOf strings [] [] = ⊤
TreesOf strings [] (t ∷ ts) = ⊥
TreesOf strings (own.Function d ∷ things) [] = ⊥
TreesOf strings (own.Function d ∷ things) (t ∷ ts) = KeptBody strings d t × TreesOf strings things ts
TreesOf strings (own.Constant z ∷ things) ts = TreesOf strings things ts

-- the functions' trees, in order
pub record KeptTrees (strings : List Text) (things : List Own) (ts : List TreeNode) : Type 0 where
  pub each : TreesOf strings things ts
