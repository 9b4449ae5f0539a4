-- What a text says, with the places of its names, as definitions go over it. It is a copy of the trees of `pj_syntax` over which
-- definitions compute.
use Rattle.std.specs.Prelude.{ℕ, ℤ, List, [], ◌∷◌, map, Option, option_map}
use Rattle.pj_syntax.specs.declared.expression.Spot.{Spot}
use Rattle.pj_syntax.specs.declared.expression.Path.{Path}
use Rattle.pj_syntax.specs.declared.expression.Argument.{Argument}
use Rattle.pj_syntax.specs.declared.expression.Expr.{Expr}
use Rattle.pj_syntax.specs.declared.expression.Expr.TheOpen.{Expr-F, Argument-F}
use Rattle.pj_syntax.specs.declared.expression.Expr.TheFolds.{fold-Expr, fold-Argument}
use Rattle.pj_syntax.specs.declared.statement.Param.{Param}
use Rattle.pj_syntax.specs.declared.statement.Stmt.{Stmt}
use Rattle.pj_syntax.specs.declared.statement.Function.{Function}
use Rattle.pj_syntax.specs.declared.statement.Payload.{Payload}
use Rattle.pj_syntax.specs.declared.statement.Payload.TheOpen.{Payload-F, Stmt-F, Function-F}
use Rattle.pj_syntax.specs.declared.statement.Payload.TheFolds.{fold-Payload, fold-Stmt, fold-Function}

-- a text is the list of its bytes
abbrev pub Text : Type 0
Text = List ℕ

-- An expression. An argument has the place of its first byte.
mutual
  pub data Value : Type 0 where
    Nothing : Value
    False : Value
    True : Value
    Int : ℤ → Value
    Str : Text → Value
    Name : Path → Value
    Field : Value → Spot → Value
    Call : Path → Arguments → Value
    Latest : Arguments → Value
    And : Value → Value → Value
    Or : Value → Value → Value
    Cond : Value → Value → Value → Value
    Same : Value → Value → Value

  pub data Arguments : Type 0 where
    none : Arguments
    also : ℕ → Value → Arguments → Arguments

-- A statement. The numbers are the places of words.
mutual
  pub data Statement : Type 0 where
    Give : Value → Statement
    Set : Spot → Value → Statement
    SetField : Value → Spot → Value → Statement
    Global : ℕ → Spot → Value → Statement
    Return : ℕ → Option Value → Statement
    Break : ℕ → Statement
    Continue : ℕ → Statement
    If : Value → Block → Block → Statement
    While : Value → Block → Statement
    For : Spot → Value → Value → Block → Statement
    Eval : Option Spot → Evaluated → Statement

  pub data Block : Type 0 where
    end : Block
    step : Statement → Block → Block

  pub data Method : Type 0 where
    method : Path → List Param → Block → Method

  pub data Evaluated : Type 0 where
    Define : Method → Evaluated
    Bind : Spot → Value → Evaluated
    Find : Value → Evaluated

-- ---- the trees of texts, read so

pub record Given : Type 0 where
  pub at : ℕ
  pub value : Value

abbrev pub arguments : List Given → Arguments
arguments [] = none
arguments (g ∷ gs) = also g.at g.value (arguments gs)

abbrev pub value_layer : Expr-F Value Given → Value
value_layer Expr-F.Nothing = Nothing
value_layer Expr-F.False = False
value_layer Expr-F.True = True
value_layer (Expr-F.Int z) = Int z
value_layer (Expr-F.Str t) = Str t
value_layer (Expr-F.Name p) = Name p
value_layer (Expr-F.Field a x) = Field a x
value_layer (Expr-F.Call p es) = Call p (arguments es)
value_layer (Expr-F.Latest es) = Latest (arguments es)
value_layer (Expr-F.And a b) = And a b
value_layer (Expr-F.Or a b) = Or a b
value_layer (Expr-F.Cond a b c) = Cond a b c
value_layer (Expr-F.Same a b) = Same a b

abbrev pub argument_layer : Argument-F Value Given → Given
argument_layer g = record { at = g.at; value = g.value }

abbrev pub value_of : Expr → Value
value_of = fold-Expr Value Given value_layer argument_layer

abbrev pub given_of : Argument → Given
given_of = fold-Argument Value Given value_layer argument_layer

abbrev pub arguments_of : List Argument → Arguments
arguments_of es = arguments (map given_of es)

abbrev pub block : List Statement → Block
block [] = end
block (s ∷ ss) = step s (block ss)

abbrev pub statement_layer : Stmt-F Evaluated Statement Method → Statement
statement_layer (Stmt-F.Stmt::Value e) = Give (value_of e)
statement_layer (Stmt-F.Stmt::Set x e) = Set x (value_of e)
statement_layer (Stmt-F.SetField a x e) = SetField (value_of a) x (value_of e)
statement_layer (Stmt-F.Global at x e) = Global at x (value_of e)
statement_layer (Stmt-F.Return at e) = Return at (option_map value_of e)
statement_layer (Stmt-F.Break at) = Break at
statement_layer (Stmt-F.Continue at) = Continue at
statement_layer (Stmt-F.If c a b) = If (value_of c) (block a) (block b)
statement_layer (Stmt-F.While c b) = While (value_of c) (block b)
statement_layer (Stmt-F.For x from to b) = For x (value_of from) (value_of to) (block b)
statement_layer (Stmt-F.Eval m p) = Eval m p

abbrev pub method_layer : Function-F Evaluated Statement Method → Method
method_layer f = method f.path f.params (block f.block)

abbrev pub evaluated_layer : Payload-F Evaluated Statement Method → Evaluated
evaluated_layer (Payload-F.Def f) = Define f
evaluated_layer (Payload-F.Payload::Set x e) = Bind x (value_of e)
evaluated_layer (Payload-F.Payload::Value e) = Find (value_of e)

abbrev pub statement_of : Stmt → Statement
statement_of = fold-Stmt Evaluated Statement Method evaluated_layer statement_layer method_layer

abbrev pub evaluated_of : Payload → Evaluated
evaluated_of = fold-Payload Evaluated Statement Method evaluated_layer statement_layer method_layer

abbrev pub method_of : Function → Method
method_of = fold-Function Evaluated Statement Method evaluated_layer statement_layer method_layer

abbrev pub block_of : List Stmt → Block
block_of b = block (map statement_of b)
