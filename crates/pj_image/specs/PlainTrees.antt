-- The trees that are built today: bodies of methods on whole numbers.
use Rattle.std.specs.Prelude.{ℕ, zero, suc, Bool, true, false, List, [], ◌∷◌, length, ◌==◌, ◌&&◌, ◌||◌, nat_le, codes, map, Option, Some, None}
use Rattle.std.specs.Str.{bytes_eq}
use Rattle.pj_base.specs.Interned.{has_text}
use Rattle.pj_words.specs.Words.{is_identifier}
use Rattle.pj_tree.specs.declared.tree.Expr.{Expr, out-Expr}
use Rattle.pj_tree.specs.declared.tree.Expr.TheOpen.{Expr-F}
use Rattle.pj_tree.specs.declared.tree.Stmt.{Stmt, out-Stmt}
use Rattle.pj_tree.specs.declared.tree.Part.{Part}
use Rattle.pj_tree.specs.declared.tree.Payload.{Payload}
use Rattle.pj_tree.specs.declared.tree.Body.{Body, out-Body}
use Rattle.pj_tree.specs.declared.tree.DefTree.{DefTree}
use Rattle.pj_tree.specs.declared.tree.TreeNode.{TreeNode, out-TreeNode}
use Rattle.pj_tree.specs.declared.tree.Part.TheOpen.{Stmt-F, TreeNode-F, Body-F}
use Rattle.pj_image.specs.Names.{sym_number, text_of, all_seen}

-- the text, if there is one, passes
abbrev pub passes : (List ℕ → Bool) → Option (List ℕ) → Bool
passes good None = false
passes good (Some text) = good text

abbrev pub is_among : List (List ℕ) → List ℕ → Bool
is_among names text = has_text text names

abbrev pub is_operator : List ℕ → Bool
is_operator text = bytes_eq text (codes "+") || (bytes_eq text (codes "-") || bytes_eq text (codes "*"))

abbrev pub is_base : List ℕ → Bool
is_base text = bytes_eq text (codes "Base")

-- two arguments
abbrev pub plain_pair : (Expr → Bool) → List Expr → Bool
plain_pair below [] = false
plain_pair below (a ∷ []) = false
plain_pair below (a ∷ (b ∷ [])) = below a && below b
plain_pair below (a ∷ (b ∷ (c ∷ more))) = false

module _ (strings names : List (List ℕ)) where
  -- one node, each node below it as `below` says: an integer, a parameter, or +, - or * of Base with two arguments
  abbrev pub plain_node : (Expr → Bool) → Expr-F Expr → Bool
  plain_node below Expr-F.Nothing = false
  plain_node below Expr-F.False = false
  plain_node below Expr-F.True = false
  plain_node below (Expr-F.Int z) = true
  plain_node below (Expr-F.Str text) = false
  plain_node below (Expr-F.Local name) = passes (is_among names) (text_of strings name)
  plain_node below (Expr-F.Global owner name) = false
  plain_node below (Expr-F.Field of name) = false
  plain_node below (Expr-F.Call owner name args) = passes is_base (text_of strings owner) && (passes is_operator (text_of strings name) && plain_pair below args)
  plain_node below (Expr-F.CallLocal name args) = false
  plain_node below (Expr-F.Latest callee args) = false
  plain_node below (Expr-F.And left right) = false
  plain_node below (Expr-F.Or left right) = false
  plain_node below (Expr-F.Cond test chosen other) = false
  plain_node below (Expr-F.Same left right) = false

  -- nodes nest at most so deep
  unfoldable pub plain_expr : ℕ → Expr → Bool
  plain_expr zero e = false
  plain_expr (suc below) e = plain_node (plain_expr below) (out-Expr e)

  -- the body and its statement are two nodes of the 128
  abbrev pub plain_stmt : Stmt-F Part Payload Stmt TreeNode Body DefTree → Bool
  plain_stmt (Stmt-F.Stmt::Value value) = plain_expr 126 value
  plain_stmt (Stmt-F.SetLocal name value) = false
  plain_stmt (Stmt-F.SetGlobal name value) = false
  plain_stmt (Stmt-F.SetField of name value) = false
  plain_stmt (Stmt-F.If test chosen other) = false
  plain_stmt (Stmt-F.While introduced test block) = false
  plain_stmt (Stmt-F.For name first last introduced block) = false
  plain_stmt Stmt-F.Break = false
  plain_stmt Stmt-F.Continue = false
  plain_stmt (Stmt-F.Return value) = false
  plain_stmt (Stmt-F.Eval owner part) = false

  -- one statement, which is an expression
  abbrev pub plain_block : List Stmt → Bool
  plain_block [] = false
  plain_block (s ∷ []) = plain_stmt (out-Stmt s)
  plain_block (s ∷ (t ∷ more)) = false

-- under the names of the parameters, where they are fine
abbrev pub plain_under : List (List ℕ) → List Stmt → Option (List (List ℕ)) → Bool
plain_under strings block None = false
plain_under strings block (Some names) = plain_block strings names block

-- at most 16 parameters, which are different identifiers, no other names, and one expression
abbrev pub plain_body : List (List ℕ) → Body-F Part Payload Stmt TreeNode Body DefTree → Bool
plain_body strings b = nat_le (length b.params) 16 && (length b.introduced == 0 && plain_under strings b.block (all_seen is_identifier strings [] (map sym_number b.params)))

abbrev pub plain_tree : List (List ℕ) → TreeNode-F Part Payload Stmt TreeNode Body DefTree → Bool
plain_tree strings (TreeNode-F.Body body) = plain_body strings (out-Body body)
plain_tree strings (TreeNode-F.Payload payload) = false

abbrev pub is_plain : List (List ℕ) → TreeNode → Bool
is_plain strings t = plain_tree strings (out-TreeNode t)
