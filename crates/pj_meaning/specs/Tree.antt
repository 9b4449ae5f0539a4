-- Source trees: what a text means before it is evaluated. Names are texts, and a text is the list of its bytes.
use Rattle.std.specs.Prelude.{ℕ, ℤ, Bool, List}

abbrev pub Text : Type 0
Text = List ℕ

-- what the bodies of Base's methods are built of
pub data Intrinsic : Type 0 where
  Add : Intrinsic
  Sub : Intrinsic
  Mul : Intrinsic
  Div : Intrinsic
  Rem : Intrinsic
  Neg : Intrinsic
  Less : Intrinsic
  LessEq : Intrinsic
  Not : Intrinsic
  Identical : Intrinsic
  Print : Intrinsic
  NewLine : Intrinsic
  Fail : Intrinsic

-- An expression. The first text of a Global or a Call is the module that is written before the name, or
-- empty. Only the bodies of Base's methods have an Intrin.
mutual
  pub data Expr : Type 0 where
    Nothing : Expr
    False : Expr
    True : Expr
    Int : ℤ → Expr
    Str : Text → Expr
    Local : Text → Expr
    Global : Text → Text → Expr
    Field : Expr → Text → Expr
    Call : Text → Text → Exprs → Expr
    CallLocal : Text → Exprs → Expr
    Latest : Expr → Exprs → Expr
    And : Expr → Expr → Expr
    Or : Expr → Expr → Expr
    Cond : Expr → Expr → Expr → Expr
    Same : Expr → Expr → Expr
    Intrin : Intrinsic → Exprs → Expr

  pub data Exprs : Type 0 where
    none : Exprs
    also : Expr → Exprs → Exprs

-- a type as a text names it, with its module or an empty text
pub record TypeRef : Type 0 where
  pub home : Text
  pub name : Text

-- a parameter or a field
pub record Param : Type 0 where
  pub name : Text
  pub declared : TypeRef

-- A statement. While and For carry the names that their scope introduces, in the order of their first
-- assignments; so does a body, without its parameters. Eval's text is the module that is written, or empty.
mutual
  pub data Stmt : Type 0 where
    Value : Expr → Stmt
    SetLocal : Text → Expr → Stmt
    SetGlobal : Text → Expr → Stmt
    SetField : Expr → Text → Expr → Stmt
    If : Expr → Block → Block → Stmt
    While : List Text → Expr → Block → Stmt
    For : Text → Expr → Expr → List Text → Block → Stmt
    Break : Stmt
    Continue : Stmt
    Return : Expr → Stmt
    Eval : Text → Payload → Stmt

  pub data Block : Type 0 where
    end : Block
    step : Stmt → Block → Block

  pub data Payload : Type 0 where
    Define : Text → Text → List Param → Body → Payload
    SetBinding : Text → Expr → Payload
    Evaluate : Expr → Payload

  -- the parameters' names, the names that the body introduces, and its statements
  pub data Body : Type 0 where
    body : List Text → List Text → Block → Body

-- one item at the top level of a script or a package
pub data TopItem : Type 0 where
  Using : List Text → TopItem
  AbstractDef : Text → TypeRef → TopItem
  StructDef : Bool → Text → TypeRef → List Param → TopItem
  Def : Text → Text → List Param → Body → TopItem
  Declare : Text → TopItem
  Const : Text → Expr → TopItem
  Directive : Text → Text → List TypeRef → TopItem
  Run : Stmt → TopItem
