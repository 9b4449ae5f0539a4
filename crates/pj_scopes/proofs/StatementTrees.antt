-- The trees of statements, one equation for each variant.
use Rattle.std.proofs.Common.{◌≡◌, ℕ, Bool, true, false, List, [], ◌∷◌, ◌++◌, map, Option, Some, None, refl, sym, ap, ◌∙◌}
use Rattle.std.proofs.lemmas.List.{append-nil}
use Rattle.pj_syntax.specs.declared.expression.Spot.{Spot}
use Rattle.pj_syntax.specs.declared.expression.Expr.{Expr}
use Rattle.pj_syntax.specs.declared.statement.Param.{Param}
use Rattle.pj_syntax.specs.declared.statement.Stmt.{Stmt}
use Rattle.pj_syntax.specs.declared.statement.Stmt.TheVariants as s
use Rattle.pj_syntax.specs.declared.statement.Function.{Function}
use Rattle.pj_syntax.specs.declared.statement.Payload.{Payload}
use Rattle.pj_syntax.specs.declared.statement.Payload.TheVariants as p
use Rattle.pj_tree.specs.declared.tree.Sym.{Sym}
use Rattle.pj_tree.specs.declared.tree.Stmt.TheVariants as t
use Rattle.pj_tree.specs.declared.tree.Part.TheVariants as part
use Rattle.pj_tree.specs.declared.tree.TreeNode.TheVariants as node
use Rattle.pj_tree.specs.declared.tree.Payload.TheVariants as payload
use Rattle.pj_faults.specs.Located as located
use Rattle.pj_faults.specs.Located.{Text, Statement, statement_of, block_of}
use Rattle.pj_faults.specs.Introduced.{with_name, named}
use Rattle.pj_faults.specs.Found.{grown, new_in, seen_after}
use Rattle.pj_faults.proofs.LocatedLaws as l
use Rattle.pj_faults.proofs.ScopeLaws.{cut_while, cut_for, statements-snoc}
use Rattle.pj_scopes.specs.Resolved as r
use Rattle.pj_scopes.specs.Resolved.{word, words, set, given_name, home_of, own_of, params_of, names_of}
use Rattle.pj_scopes.specs.Made.{value_tree, returned_tree, statement_tree, block_tree, evaluated_tree, method_tree}

blocks-snoc : (top : Bool) (names : List Text) (ss : List Statement) (x : Statement) → r.block top names (located.block (ss ++ x ∷ [])) ≡ r.block top names (located.block ss) ++ r.statement top names x ∷ []
blocks-snoc top names [] x = refl
blocks-snoc top names (y ∷ ss) x = ap (λ ts. r.statement top names y ∷ ts) (blocks-snoc top names ss x)

pub block-none : (top : Bool) (names : List Text) → block_tree top names [] ≡ []
unfolding block_tree
block-none top names = refl

pub block-snoc : (top : Bool) (names : List Text) (b : List Stmt) (x : Stmt) → block_tree top names (b ++ x ∷ []) ≡ block_tree top names b ++ statement_tree top names x ∷ []
unfolding block_tree statement_tree
block-snoc top names b x = ap (λ ss. r.block top names (located.block ss)) (statements-snoc b x) ∙ blocks-snoc top names (map statement_of b) (statement_of x)

pub evaluated-Def : (f : Function) → evaluated_tree (p.Def f) ≡ payload.Def (method_tree f)
unfolding evaluated_tree method_tree
evaluated-Def f = ap r.evaluated (l.evaluated_of-Def f)

pub evaluated-Set : (x : Spot) (e : Expr) → evaluated_tree (p.Set x e) ≡ payload.SetBinding (word x) (value_tree [] e)
unfolding evaluated_tree value_tree
evaluated-Set x e = ap r.evaluated (l.evaluated_of-Set x e)

pub evaluated-Value : (e : Expr) → evaluated_tree (p.Value e) ≡ payload.Value (value_tree [] e)
unfolding evaluated_tree value_tree
evaluated-Value e = ap r.evaluated (l.evaluated_of-Value e)

pub method-parts : (f : Function) → method_tree f ≡ record {
  «module» = home_of f.path;
  fun = own_of f.path;
  params = params_of f.params;
  body = part.Held (node.Body (record {
    params = names_of f.params;
    introduced = words (new_in (seen_after [] f.params) f.block);
    block = block_tree false (grown (seen_after [] f.params) f.block) f.block;
  }));
}
unfolding method_tree new_in seen_after block_tree grown
method-parts f = ap r.defined (l.method_of-parts f)

pub from-none : (ws more : List Sym) → ws ≡ [] → ws ++ more ≡ more
from-none ws more h = ap (λ t. t ++ more) h

pub statement-Value : (top : Bool) (names : List Text) (v : Expr) → statement_tree top names (s.Value v) ≡ t.Value (value_tree names v)
unfolding statement_tree value_tree returned_tree block_tree evaluated_tree new_in grown
statement-Value top names v = ap (r.statement top names) (l.statement_of-Value v)

pub statement-Set : (top : Bool) (names : List Text) (x : Spot) (v : Expr) → statement_tree top names (s.Set x v) ≡ set top x (value_tree names v)
unfolding statement_tree value_tree returned_tree block_tree evaluated_tree new_in grown
statement-Set top names x v = ap (r.statement top names) (l.statement_of-Set x v)

pub statement-SetField : (top : Bool) (names : List Text) (a : Expr) (x : Spot) (v : Expr) → statement_tree top names (s.SetField a x v) ≡ t.SetField (value_tree names a) (word x) (value_tree names v)
unfolding statement_tree value_tree returned_tree block_tree evaluated_tree new_in grown
statement-SetField top names a x v = ap (r.statement top names) (l.statement_of-SetField a x v)

pub statement-Global : (top : Bool) (names : List Text) (at : ℕ) (x : Spot) (v : Expr) → statement_tree top names (s.Global at x v) ≡ t.SetGlobal (word x) (value_tree names v)
unfolding statement_tree value_tree returned_tree block_tree evaluated_tree new_in grown
statement-Global top names at x v = ap (r.statement top names) (l.statement_of-Global at x v)

pub statement-Return : (top : Bool) (names : List Text) (at : ℕ) (v : Option Expr) → statement_tree top names (s.Return at v) ≡ t.Return (returned_tree names v)
unfolding statement_tree value_tree returned_tree block_tree evaluated_tree new_in grown
statement-Return top names at v = ap (r.statement top names) (l.statement_of-Return at v)

pub statement-Break : (top : Bool) (names : List Text) (at : ℕ) → statement_tree top names (s.Break at) ≡ t.Break
unfolding statement_tree value_tree returned_tree block_tree evaluated_tree new_in grown
statement-Break top names at = ap (r.statement top names) (l.statement_of-Break at)

pub statement-Continue : (top : Bool) (names : List Text) (at : ℕ) → statement_tree top names (s.Continue at) ≡ t.Continue
unfolding statement_tree value_tree returned_tree block_tree evaluated_tree new_in grown
statement-Continue top names at = ap (r.statement top names) (l.statement_of-Continue at)

pub statement-If : (top : Bool) (names : List Text) (c : Expr) (a : List Stmt) (b : List Stmt) → statement_tree top names (s.If c a b) ≡ t.If (value_tree names c) (block_tree top names a) (block_tree top names b)
unfolding statement_tree value_tree returned_tree block_tree evaluated_tree new_in grown
statement-If top names c a b = ap (r.statement top names) (l.statement_of-If c a b)

pub statement-While : (top : Bool) (names : List Text) (c : Expr) (b : List Stmt) → statement_tree top names (s.While c b) ≡ t.While (words (new_in names b)) (value_tree names c) (block_tree false (grown names b) b)
unfolding statement_tree value_tree returned_tree block_tree evaluated_tree new_in grown
statement-While top names c b = ap (r.statement top names) (l.statement_of-While c b)

pub statement-For : (top : Bool) (names : List Text) (x : Spot) (v : Expr) (w : Expr) (b : List Stmt) → statement_tree top names (s.For x v w b) ≡ t.For (word x) (value_tree names v) (value_tree names w) (words (new_in (with_name names x.text) b)) (block_tree false (grown (with_name names x.text) b) b)
unfolding statement_tree value_tree returned_tree block_tree evaluated_tree new_in grown
statement-For top names x v w b = ap (r.statement top names) (l.statement_of-For x v w b)

pub statement-Eval : (top : Bool) (names : List Text) (m : Option Spot) (q : Payload) → statement_tree top names (s.Eval m q) ≡ t.Eval (given_name m) (part.Held (node.Payload (evaluated_tree q)))
unfolding statement_tree value_tree returned_tree block_tree evaluated_tree new_in grown
statement-Eval top names m q = ap (r.statement top names) (l.statement_of-Eval m q)

pub ruleset statement_trees = (block-none, block-snoc, from-none, evaluated-Def, evaluated-Set, evaluated-Value, method-parts, cut_while, cut_for, statement-Value, statement-Set, statement-SetField, statement-Global, statement-Return, statement-Break, statement-Continue, statement-If, statement-While, statement-For, statement-Eval)
