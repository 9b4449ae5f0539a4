-- With which tokens an expression begins. They do the same wherever an expression may begin.
use Rattle.std.proofs.Common.{◌≡◌, ℕ, ℤ, true, List, ◌∷◌, ◌++◌, Some, refl, ap}
use Rattle.pj_words.specs.declared.word.Word.TheVariants as words
use Rattle.pj_lex.specs.declared.sign.Sign.{Sign}
use Rattle.pj_lex.specs.declared.sign.Sign.TheVariants as signs
use Rattle.pj_lex.specs.declared.token.TokenKind.{TokenKind}
use Rattle.pj_lex.specs.declared.token.TokenKind.TheVariants as kinds
use Rattle.pj_lex.specs.declared.token.Token.{Token}
use Rattle.pj_syntax.specs.declared.expression.Expr.{Expr}
use Rattle.pj_syntax.specs.declared.expression.Path.{Path}
use Rattle.pj_grammar.specs.declared.level.Level.{Level}
use Rattle.pj_grammar.specs.declared.frame.Frame.{Frame}
use Rattle.pj_grammar.specs.declared.frame.Frame.TheVariants as frames
use Rattle.pj_grammar.specs.declared.frame.Purpose.TheVariants as purposes
use Rattle.pj_grammar.specs.declared.mode.Mode.TheVariants as modes
use Rattle.pj_grammar.specs.declared.node.Node.{Node}
use Rattle.pj_grammar.specs.Expressions.{Callee, Named, Reads, bare, call, conditional, field, group, infix_, literal, named, of_module, operator, prefix, read, tighter}
use Rattle.pj_grammar.specs.Frames.{at}
use Rattle.pj_grammar.specs.Levels.{is_prefix}
use Rattle.pj_grammar.specs.Machine.{argument, line, operand, run, step}
use Rattle.pj_grammar.specs.Makers.{literal_of}
use Rattle.pj_grammar.specs.Modules.{Modules}
use Rattle.pj_grammar.specs.Tokens.{Place, place}
use Rattle.pj_grammar.proofs.Levels.{absurd-of}

pub data Start : TokenKind → Type 0 where
  a_name : (x : List ℕ) → Start (kinds.Name x)
  integer : (n : ℤ) → Start (kinds.Integer n)
  text : (s : List ℕ) → Start (kinds.Str s)
  yes_ : Start (kinds.Reserved words.True)
  no_ : Start (kinds.Reserved words.False)
  nothing : Start (kinds.Reserved words.Nothing)
  minus : Start (kinds.Sign signs.Minus)
  not_ : Start (kinds.Sign signs.Not)
  parenthesis : Start (kinds.Sign signs.LeftParen)

start-prefix : (s : Sign) → is_prefix s ≡ true → Start (kinds.Sign s)
start-prefix signs.Same h = absurd-of h
start-prefix signs.NotSame h = absurd-of h
start-prefix signs.AddAssign h = absurd-of h
start-prefix signs.SubtractAssign h = absurd-of h
start-prefix signs.MultiplyAssign h = absurd-of h
start-prefix signs.Equal h = absurd-of h
start-prefix signs.NotEqual h = absurd-of h
start-prefix signs.LessOrEqual h = absurd-of h
start-prefix signs.GreaterOrEqual h = absurd-of h
start-prefix signs.And h = absurd-of h
start-prefix signs.Or h = absurd-of h
start-prefix signs.DoubleColon h = absurd-of h
start-prefix signs.Below h = absurd-of h
start-prefix signs.Comma h = absurd-of h
start-prefix signs.Assign h = absurd-of h
start-prefix signs.Plus h = absurd-of h
start-prefix signs.Minus h = minus
start-prefix signs.Times h = absurd-of h
start-prefix signs.Quotient h = absurd-of h
start-prefix signs.Remainder h = absurd-of h
start-prefix signs.Less h = absurd-of h
start-prefix signs.Greater h = absurd-of h
start-prefix signs.Question h = absurd-of h
start-prefix signs.Colon h = absurd-of h
start-prefix signs.LeftParen h = absurd-of h
start-prefix signs.RightParen h = absurd-of h
start-prefix signs.Dot h = absurd-of h
start-prefix signs.Not h = not_

start-literal : (kind : TokenKind) (tree : Expr) → literal_of kind ≡ Some tree → Start kind
start-literal (kinds.Name x) e h = cc
start-literal (kinds.Integer n) e h = integer n
start-literal (kinds.Str s) e h = text s
start-literal (kinds.Reserved words.Module) e h = cc
start-literal (kinds.Reserved words.End) e h = cc
start-literal (kinds.Reserved words.Using) e h = cc
start-literal (kinds.Reserved words.Struct) e h = cc
start-literal (kinds.Reserved words.Function) e h = cc
start-literal (kinds.Reserved words.If) e h = cc
start-literal (kinds.Reserved words.ElseIf) e h = cc
start-literal (kinds.Reserved words.Else) e h = cc
start-literal (kinds.Reserved words.While) e h = cc
start-literal (kinds.Reserved words.For) e h = cc
start-literal (kinds.Reserved words.Break) e h = cc
start-literal (kinds.Reserved words.Continue) e h = cc
start-literal (kinds.Reserved words.Return) e h = cc
start-literal (kinds.Reserved words.Global) e h = cc
start-literal (kinds.Reserved words.Const) e h = cc
start-literal (kinds.Reserved words.True) e h = yes_
start-literal (kinds.Reserved words.False) e h = no_
start-literal (kinds.Reserved words.Nothing) e h = nothing
start-literal (kinds.Reserved words.Begin) e h = cc
start-literal (kinds.Reserved words.Let) e h = cc
start-literal (kinds.Reserved words.Do) e h = cc
start-literal (kinds.Reserved words.Try) e h = cc
start-literal (kinds.Reserved words.Catch) e h = cc
start-literal (kinds.Reserved words.Finally) e h = cc
start-literal (kinds.Reserved words.Quote) e h = cc
start-literal (kinds.Reserved words.Macro) e h = cc
start-literal (kinds.Reserved words.Import) e h = cc
start-literal (kinds.Reserved words.Export) e h = cc
start-literal (kinds.Reserved words.BareModule) e h = cc
start-literal (kinds.Reserved words.Local) e h = cc
start-literal (kinds.Reserved words.Where) e h = cc
start-literal (kinds.Sign signs.Same) e h = cc
start-literal (kinds.Sign signs.NotSame) e h = cc
start-literal (kinds.Sign signs.AddAssign) e h = cc
start-literal (kinds.Sign signs.SubtractAssign) e h = cc
start-literal (kinds.Sign signs.MultiplyAssign) e h = cc
start-literal (kinds.Sign signs.Equal) e h = cc
start-literal (kinds.Sign signs.NotEqual) e h = cc
start-literal (kinds.Sign signs.LessOrEqual) e h = cc
start-literal (kinds.Sign signs.GreaterOrEqual) e h = cc
start-literal (kinds.Sign signs.And) e h = cc
start-literal (kinds.Sign signs.Or) e h = cc
start-literal (kinds.Sign signs.DoubleColon) e h = cc
start-literal (kinds.Sign signs.Below) e h = cc
start-literal (kinds.Sign signs.Comma) e h = cc
start-literal (kinds.Sign signs.Assign) e h = cc
start-literal (kinds.Sign signs.Plus) e h = cc
start-literal (kinds.Sign signs.Minus) e h = cc
start-literal (kinds.Sign signs.Times) e h = cc
start-literal (kinds.Sign signs.Quotient) e h = cc
start-literal (kinds.Sign signs.Remainder) e h = cc
start-literal (kinds.Sign signs.Less) e h = cc
start-literal (kinds.Sign signs.Greater) e h = cc
start-literal (kinds.Sign signs.Question) e h = cc
start-literal (kinds.Sign signs.Colon) e h = cc
start-literal (kinds.Sign signs.LeftParen) e h = cc
start-literal (kinds.Sign signs.RightParen) e h = cc
start-literal (kinds.Sign signs.Dot) e h = cc
start-literal (kinds.Sign signs.Not) e h = cc
start-literal kinds.AtEval e h = cc
start-literal kinds.Separator e h = cc
start-literal kinds.Eof e h = cc

pub record Starts (ts : List Token) : Type 0 where
  pub first : Token
  pub rest : List Token
  pub are : ts ≡ first ∷ rest
  pub start : Start first.what

pub starts-more : {ts : List Token} (us : List Token) → Starts ts → Starts (ts ++ us)
starts-more us s = record { first = s.first; rest = s.rest ++ us; are = ap (λ w. w ++ us) s.are; start = s.start }

starts-named : {modules : Modules} {ts : List Token} {f : Path} → Named modules ts f → Starts ts
starts-named (bare p x) = record { first = _; rest = _; are = refl; start = a_name x }
starts-named (of_module p q r m x is) = record { first = _; rest = _; are = refl; start = a_name m }

pub starts-callee : {modules : Modules} {ts : List Token} {f : Path} → Callee modules ts f → Starts ts
starts-callee (named d) = starts-named d
starts-callee (operator p q r o s is) = record { first = _; rest = _; are = refl; start = a_name _ }

pub starts : {modules : Modules} {l : Level} {ts : List Token} {e : Node} → Reads modules l ts e → Starts ts
starts (tighter fit d) = starts d
starts (conditional p q c a b) = starts-more _ (starts c)
starts (infix_ p s is a b) = starts-more _ (starts a)
starts (prefix p s is d) = record { first = _; rest = _; are = refl; start = start-prefix s is }
starts (field p q x fields d) = starts-more _ (starts d)
starts (literal {tree = e} p kind is) = record { first = _; rest = _; are = refl; start = start-literal kind e is }
starts (read d) = starts-callee d
starts (call p blank d es some) = starts-more _ (starts-callee d)
starts (group p q d) = record { first = _; rest = _; are = refl; start = parenthesis }

-- an argument and a statement begin as an operand does
argument-operand : (k : List Frame) (p : Place) (kind : TokenKind) → Start kind → argument k p kind ≡ operand k p kind
argument-operand k p _ (a_name x) = refl
argument-operand k p _ (integer n) = refl
argument-operand k p _ (text s) = refl
argument-operand k p _ yes_ = refl
argument-operand k p _ no_ = refl
argument-operand k p _ nothing = refl
argument-operand k p _ minus = refl
argument-operand k p _ not_ = refl
argument-operand k p _ parenthesis = refl

line-operand : (k : List Frame) (p : Place) (kind : TokenKind) → Start kind → line k p kind ≡ operand (frames.Hole purposes.Value ∷ k) p kind
line-operand k p _ (a_name x) = refl
line-operand k p _ (integer n) = refl
line-operand k p _ (text s) = refl
line-operand k p _ yes_ = refl
line-operand k p _ no_ = refl
line-operand k p _ nothing = refl
line-operand k p _ minus = refl
line-operand k p _ not_ = refl
line-operand k p _ parenthesis = refl

pub from-argument : (modules : Modules) (ts more : List Token) → Starts ts → (k : List Frame)
    → run modules (ts ++ more) (at modes.Arguments k) ≡ run modules (ts ++ more) (at modes.Want k)
unfolding run step
from-argument modules ts more s k = rw s.are (ap (run modules (s.rest ++ more)) (argument-operand k (place s.first) s.first.what s.start))

pub from-line : (modules : Modules) (ts more : List Token) → Starts ts → (k : List Frame)
    → run modules (ts ++ more) (at modes.Line k) ≡ run modules (ts ++ more) (at modes.Want (frames.Hole purposes.Value ∷ k))
unfolding run step
from-line modules ts more s k = rw s.are (ap (run modules (s.rest ++ more)) (line-operand k (place s.first) s.first.what s.start))
