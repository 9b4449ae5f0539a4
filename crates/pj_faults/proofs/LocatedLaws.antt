-- The equations of the reading of trees, one for each variant.
use Rattle.std.proofs.Common.{◌≡◌, ℕ, ℤ, List, Option, option_map, sym, ap, ◌∙◌}
use Rattle.pj_faults.specs.Located as l
use Rattle.pj_faults.specs.Located.{Text, Value, Statement, Method, Evaluated, Given, value_layer, argument_layer, value_of, given_of, arguments_of, block_of, statement_layer, method_layer, evaluated_layer, statement_of, evaluated_of, method_of}
use Rattle.pj_syntax.specs.declared.expression.Spot.{Spot}
use Rattle.pj_syntax.specs.declared.expression.Path.{Path}
use Rattle.pj_syntax.specs.declared.expression.Argument.{Argument}
use Rattle.pj_syntax.specs.declared.expression.Expr.{Expr}
use Rattle.pj_syntax.specs.declared.expression.Expr.TheVariants as e
use Rattle.pj_syntax.specs.declared.expression.Expr.TheOpen.{Expr-F}
use Rattle.pj_syntax.specs.declared.expression.Expr.TheFolds.{fold-roll-Expr, fold_out-Argument}
use Rattle.pj_syntax.specs.declared.statement.Stmt.{Stmt}
use Rattle.pj_syntax.specs.declared.statement.Stmt.TheVariants as s
use Rattle.pj_syntax.specs.declared.statement.Function.{Function}
use Rattle.pj_syntax.specs.declared.statement.Payload.{Payload}
use Rattle.pj_syntax.specs.declared.statement.Payload.TheVariants as p
use Rattle.pj_syntax.specs.declared.statement.Payload.TheOpen.{Payload-F, Stmt-F}
use Rattle.pj_syntax.specs.declared.statement.Payload.TheFolds.{fold-roll-Payload, fold-roll-Stmt, fold_out-Function}

pub value_of-Nothing : value_of e.Nothing ≡ l.Nothing
value_of-Nothing = ap value_of (sym e.rolls-Nothing) ∙ fold-roll-Expr Value Given value_layer argument_layer Expr-F.Nothing

pub value_of-False : value_of e.False ≡ l.False
value_of-False = ap value_of (sym e.rolls-False) ∙ fold-roll-Expr Value Given value_layer argument_layer Expr-F.False

pub value_of-True : value_of e.True ≡ l.True
value_of-True = ap value_of (sym e.rolls-True) ∙ fold-roll-Expr Value Given value_layer argument_layer Expr-F.True

pub value_of-Int : (z : ℤ) → value_of (e.Int z) ≡ l.Int z
value_of-Int z = ap value_of (sym (e.rolls-Int z)) ∙ fold-roll-Expr Value Given value_layer argument_layer (Expr-F.Int z)

pub value_of-Str : (t : Text) → value_of (e.Str t) ≡ l.Str t
value_of-Str t = ap value_of (sym (e.rolls-Str t)) ∙ fold-roll-Expr Value Given value_layer argument_layer (Expr-F.Str t)

pub value_of-Name : (f : Path) → value_of (e.Name f) ≡ l.Name f
value_of-Name f = ap value_of (sym (e.rolls-Name f)) ∙ fold-roll-Expr Value Given value_layer argument_layer (Expr-F.Name f)

pub value_of-Field : (a : Expr) (x : Spot) → value_of (e.Field a x) ≡ l.Field (value_of a) x
value_of-Field a x = ap value_of (sym (e.rolls-Field a x)) ∙ fold-roll-Expr Value Given value_layer argument_layer (Expr-F.Field a x)

pub value_of-Call : (f : Path) (es : List Argument) → value_of (e.Call f es) ≡ l.Call f (arguments_of es)
value_of-Call f es = ap value_of (sym (e.rolls-Call f es)) ∙ fold-roll-Expr Value Given value_layer argument_layer (Expr-F.Call f es)

pub value_of-Latest : (es : List Argument) → value_of (e.Latest es) ≡ l.Latest (arguments_of es)
value_of-Latest es = ap value_of (sym (e.rolls-Latest es)) ∙ fold-roll-Expr Value Given value_layer argument_layer (Expr-F.Latest es)

pub value_of-And : (a : Expr) (b : Expr) → value_of (e.And a b) ≡ l.And (value_of a) (value_of b)
value_of-And a b = ap value_of (sym (e.rolls-And a b)) ∙ fold-roll-Expr Value Given value_layer argument_layer (Expr-F.And a b)

pub value_of-Or : (a : Expr) (b : Expr) → value_of (e.Or a b) ≡ l.Or (value_of a) (value_of b)
value_of-Or a b = ap value_of (sym (e.rolls-Or a b)) ∙ fold-roll-Expr Value Given value_layer argument_layer (Expr-F.Or a b)

pub value_of-Cond : (a : Expr) (b : Expr) (c : Expr) → value_of (e.Cond a b c) ≡ l.Cond (value_of a) (value_of b) (value_of c)
value_of-Cond a b c = ap value_of (sym (e.rolls-Cond a b c)) ∙ fold-roll-Expr Value Given value_layer argument_layer (Expr-F.Cond a b c)

pub value_of-Same : (a : Expr) (b : Expr) → value_of (e.Same a b) ≡ l.Same (value_of a) (value_of b)
value_of-Same a b = ap value_of (sym (e.rolls-Same a b)) ∙ fold-roll-Expr Value Given value_layer argument_layer (Expr-F.Same a b)

pub given_of-parts : (g : Argument) → given_of g ≡ record { at = g.at; value = value_of g.value }
given_of-parts g = fold_out-Argument Value Given value_layer argument_layer g

pub statement_of-Value : (v : Expr) → statement_of (s.Value v) ≡ l.Give (value_of v)
statement_of-Value v = ap statement_of (sym (s.rolls-Value v)) ∙ fold-roll-Stmt Evaluated Statement Method evaluated_layer statement_layer method_layer (Stmt-F.Stmt::Value v)

pub statement_of-Set : (x : Spot) (v : Expr) → statement_of (s.Set x v) ≡ l.Set x (value_of v)
statement_of-Set x v = ap statement_of (sym (s.rolls-Set x v)) ∙ fold-roll-Stmt Evaluated Statement Method evaluated_layer statement_layer method_layer (Stmt-F.Stmt::Set x v)

pub statement_of-SetField : (a : Expr) (x : Spot) (v : Expr) → statement_of (s.SetField a x v) ≡ l.SetField (value_of a) x (value_of v)
statement_of-SetField a x v = ap statement_of (sym (s.rolls-SetField a x v)) ∙ fold-roll-Stmt Evaluated Statement Method evaluated_layer statement_layer method_layer (Stmt-F.SetField a x v)

pub statement_of-Global : (at : ℕ) (x : Spot) (v : Expr) → statement_of (s.Global at x v) ≡ l.Global at x (value_of v)
statement_of-Global at x v = ap statement_of (sym (s.rolls-Global at x v)) ∙ fold-roll-Stmt Evaluated Statement Method evaluated_layer statement_layer method_layer (Stmt-F.Global at x v)

pub statement_of-Return : (at : ℕ) (v : Option Expr) → statement_of (s.Return at v) ≡ l.Return at (option_map value_of v)
statement_of-Return at v = ap statement_of (sym (s.rolls-Return at v)) ∙ fold-roll-Stmt Evaluated Statement Method evaluated_layer statement_layer method_layer (Stmt-F.Return at v)

pub statement_of-Break : (at : ℕ) → statement_of (s.Break at) ≡ l.Break at
statement_of-Break at = ap statement_of (sym (s.rolls-Break at)) ∙ fold-roll-Stmt Evaluated Statement Method evaluated_layer statement_layer method_layer (Stmt-F.Break at)

pub statement_of-Continue : (at : ℕ) → statement_of (s.Continue at) ≡ l.Continue at
statement_of-Continue at = ap statement_of (sym (s.rolls-Continue at)) ∙ fold-roll-Stmt Evaluated Statement Method evaluated_layer statement_layer method_layer (Stmt-F.Continue at)

pub statement_of-If : (c : Expr) (a : List Stmt) (b : List Stmt) → statement_of (s.If c a b) ≡ l.If (value_of c) (block_of a) (block_of b)
statement_of-If c a b = ap statement_of (sym (s.rolls-If c a b)) ∙ fold-roll-Stmt Evaluated Statement Method evaluated_layer statement_layer method_layer (Stmt-F.If c a b)

pub statement_of-While : (c : Expr) (b : List Stmt) → statement_of (s.While c b) ≡ l.While (value_of c) (block_of b)
statement_of-While c b = ap statement_of (sym (s.rolls-While c b)) ∙ fold-roll-Stmt Evaluated Statement Method evaluated_layer statement_layer method_layer (Stmt-F.While c b)

pub statement_of-For : (x : Spot) (v : Expr) (w : Expr) (b : List Stmt) → statement_of (s.For x v w b) ≡ l.For x (value_of v) (value_of w) (block_of b)
statement_of-For x v w b = ap statement_of (sym (s.rolls-For x v w b)) ∙ fold-roll-Stmt Evaluated Statement Method evaluated_layer statement_layer method_layer (Stmt-F.For x v w b)

pub statement_of-Eval : (m : Option Spot) (q : Payload) → statement_of (s.Eval m q) ≡ l.Eval m (evaluated_of q)
statement_of-Eval m q = ap statement_of (sym (s.rolls-Eval m q)) ∙ fold-roll-Stmt Evaluated Statement Method evaluated_layer statement_layer method_layer (Stmt-F.Eval m q)

pub evaluated_of-Def : (f : Function) → evaluated_of (p.Def f) ≡ l.Define (method_of f)
evaluated_of-Def f = ap evaluated_of (sym (p.rolls-Def f)) ∙ fold-roll-Payload Evaluated Statement Method evaluated_layer statement_layer method_layer (Payload-F.Def f)

pub evaluated_of-Set : (x : Spot) (v : Expr) → evaluated_of (p.Set x v) ≡ l.Bind x (value_of v)
evaluated_of-Set x v = ap evaluated_of (sym (p.rolls-Set x v)) ∙ fold-roll-Payload Evaluated Statement Method evaluated_layer statement_layer method_layer (Payload-F.Payload::Set x v)

pub evaluated_of-Value : (v : Expr) → evaluated_of (p.Value v) ≡ l.Find (value_of v)
evaluated_of-Value v = ap evaluated_of (sym (p.rolls-Value v)) ∙ fold-roll-Payload Evaluated Statement Method evaluated_layer statement_layer method_layer (Payload-F.Payload::Value v)

pub method_of-parts : (f : Function) → method_of f ≡ l.method f.path f.params (block_of f.block)
method_of-parts f = fold_out-Function Evaluated Statement Method evaluated_layer statement_layer method_layer f
