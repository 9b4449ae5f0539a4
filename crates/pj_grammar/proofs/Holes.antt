-- How the machine ends the expressions of statements.
use Rattle.std.proofs.Common.{◌≡◌, ℕ, true, false, List, [], ◌∷◌, ◌++◌, codes, refl, ap, ◌∙◌}
use Rattle.pj_words.specs.declared.word.Word.TheVariants as words
use Rattle.pj_lex.specs.declared.sign.Sign.TheVariants as signs
use Rattle.pj_lex.specs.declared.token.TokenKind.{TokenKind}
use Rattle.pj_lex.specs.declared.token.TokenKind.TheVariants as kinds
use Rattle.pj_lex.specs.declared.token.Token.{Token}
use Rattle.pj_grammar.specs.declared.level.Level.{Level}
use Rattle.pj_grammar.specs.declared.node.Node.{Node}
use Rattle.pj_grammar.specs.declared.node.Line.{Line}
use Rattle.pj_grammar.specs.declared.frame.Frame.{Frame}
use Rattle.pj_grammar.specs.declared.frame.Frame.TheVariants as frames
use Rattle.pj_grammar.specs.declared.frame.Purpose.{Purpose}
use Rattle.pj_grammar.specs.declared.frame.Purpose.TheVariants as purposes
use Rattle.pj_grammar.specs.declared.mode.Head.{Head}
use Rattle.pj_grammar.specs.declared.mode.Head.TheVariants as heads
use Rattle.pj_grammar.specs.declared.mode.Mode.TheVariants as modes
use Rattle.pj_grammar.specs.Closing.{after_end, closed_line, closed_value}
use Rattle.pj_grammar.specs.Expressions.{Reads}
use Rattle.pj_grammar.specs.Follows.{follows}
use Rattle.pj_grammar.specs.Frames.{admits, at, is_value, node, settle, takes_lines}
use Rattle.pj_grammar.specs.Machine.{ends_line, run, step}
use Rattle.pj_grammar.specs.Makers.{value_of}
use Rattle.pj_grammar.specs.Modules.{Modules, is_module}
use Rattle.pj_grammar.specs.Operands.{after_purpose, have_other, is_type_word}
use Rattle.pj_grammar.specs.Tokens.{Place, place, token}
use Rattle.pj_grammar.proofs.Expressions.{reads}
use Rattle.pj_grammar.proofs.Levels.{absurd-of}
use Rattle.pj_grammar.proofs.Reading.{runs-step, state}

-- what ends an expression of a statement
pub data Stops : TokenKind → Type 0 where
  a_separator : Stops kinds.Separator
  an_eof : Stops kinds.Eof
  an_end : Stops (kinds.Reserved words.End)
  an_else : Stops (kinds.Reserved words.Else)
  an_else_if : Stops (kinds.Reserved words.ElseIf)
  a_close : Stops (kinds.Sign signs.RightParen)
  a_colon : Stops (kinds.Sign signs.Colon)

-- what ends a statement
pub data LineEnds : TokenKind → Type 0 where
  a_separator_here : LineEnds kinds.Separator
  an_eof_here : LineEnds kinds.Eof
  an_end_here : LineEnds (kinds.Reserved words.End)
  an_else_here : LineEnds (kinds.Reserved words.Else)
  an_else_if_here : LineEnds (kinds.Reserved words.ElseIf)

pub line-stops : (kind : TokenKind) → LineEnds kind → Stops kind
line-stops _ a_separator_here = a_separator
line-stops _ an_eof_here = an_eof
line-stops _ an_end_here = an_end
line-stops _ an_else_here = an_else
line-stops _ an_else_if_here = an_else_if

pub stops-follow : (l : Level) (kind : TokenKind) → Stops kind → follows l kind ≡ true
stops-follow l _ a_separator = refl
stops-follow l _ an_eof = refl
stops-follow l _ an_end = refl
stops-follow l _ an_else = refl
stops-follow l _ an_else_if = refl
stops-follow l _ a_close = refl
stops-follow l _ a_colon = refl

no-type-word : (h : Head) (kind : TokenKind) → Stops kind → is_type_word h kind ≡ false
no-type-word (heads.Name x) _ a_separator = refl
no-type-word (heads.Name x) _ an_eof = refl
no-type-word (heads.Name x) _ an_end = refl
no-type-word (heads.Name x) _ an_else = refl
no-type-word (heads.Name x) _ an_else_if = refl
no-type-word (heads.Name x) _ a_close = refl
no-type-word (heads.Name x) _ a_colon = refl
no-type-word (heads.Member m x) _ a_separator = refl
no-type-word (heads.Member m x) _ an_eof = refl
no-type-word (heads.Member m x) _ an_end = refl
no-type-word (heads.Member m x) _ an_else = refl
no-type-word (heads.Member m x) _ an_else_if = refl
no-type-word (heads.Member m x) _ a_close = refl
no-type-word (heads.Member m x) _ a_colon = refl
no-type-word (heads.Operator m x) _ a_separator = refl
no-type-word (heads.Operator m x) _ an_eof = refl
no-type-word (heads.Operator m x) _ an_end = refl
no-type-word (heads.Operator m x) _ an_else = refl
no-type-word (heads.Operator m x) _ an_else_if = refl
no-type-word (heads.Operator m x) _ a_close = refl
no-type-word (heads.Operator m x) _ a_colon = refl
no-type-word (heads.Place e x) _ a_separator = refl
no-type-word (heads.Place e x) _ an_eof = refl
no-type-word (heads.Place e x) _ an_end = refl
no-type-word (heads.Place e x) _ an_else = refl
no-type-word (heads.Place e x) _ an_else_if = refl
no-type-word (heads.Place e x) _ a_close = refl
no-type-word (heads.Place e x) _ a_colon = refl
no-type-word (heads.Call f ps) _ a_separator = refl
no-type-word (heads.Call f ps) _ an_eof = refl
no-type-word (heads.Call f ps) _ an_end = refl
no-type-word (heads.Call f ps) _ an_else = refl
no-type-word (heads.Call f ps) _ an_else_if = refl
no-type-word (heads.Call f ps) _ a_close = refl
no-type-word (heads.Call f ps) _ a_colon = refl
no-type-word (heads.Plain e) _ a_separator = refl
no-type-word (heads.Plain e) _ an_eof = refl
no-type-word (heads.Plain e) _ an_end = refl
no-type-word (heads.Plain e) _ an_else = refl
no-type-word (heads.Plain e) _ an_else_if = refl
no-type-word (heads.Plain e) _ a_close = refl
no-type-word (heads.Plain e) _ a_colon = refl

hole-other : (purpose : Purpose) (h : Head) (k : List Frame) (n : ℕ) (kind : TokenKind) → Stops kind → is_value h ≡ true
    → have_other h (frames.Hole purpose ∷ k) n kind ≡ after_purpose purpose (node h) k kind
unfolding settle
hole-other purposes.Value h k n kind st value = rw (no-type-word h kind st) (rw value refl)
hole-other (purposes.Assign target o) h k n kind st value = rw value refl
hole-other (purposes.Return q) h k n kind st value = rw value refl
hole-other purposes.If h k n kind st value = rw value refl
hole-other purposes.While h k n kind st value = rw value refl
hole-other (purposes.From x) h k n kind st value = rw value refl
hole-other (purposes.To x a) h k n kind st value = rw value refl
hole-other (purposes.Const x) h k n kind st value = rw value refl
hole-other (purposes.Short f ps) h k n kind st value = rw value refl

step-hole-at : (modules : Modules) (purpose : Purpose) (h : Head) (k : List Frame) (q : Place) (kind : TokenKind) → Stops kind → is_value h ≡ true
    → step modules (state (modes.Have h) (frames.Hole purpose ∷ k)) (token q kind) ≡ after_purpose purpose (node h) k kind
unfolding step
step-hole-at modules purpose h k q _ a_separator value = hole-other purpose h k q.start _ a_separator value
step-hole-at modules purpose h k q _ an_eof value = hole-other purpose h k q.start _ an_eof value
step-hole-at modules purpose h k q _ an_end value = hole-other purpose h k q.start _ an_end value
step-hole-at modules purpose h k q _ an_else value = hole-other purpose h k q.start _ an_else value
step-hole-at modules purpose h k q _ an_else_if value = hole-other purpose h k q.start _ an_else_if value
step-hole-at modules purpose h k q _ a_close value = hole-other purpose h k q.start _ a_close value
step-hole-at modules purpose h k q _ a_colon value = hole-other purpose h k q.start _ a_colon value

-- the expression of a purpose, and what ends it
pub hole-runs : {modules : Modules} {l : Level} {ts : List Token} {e : Node} → is_module modules (codes "Base") ≡ true → Reads modules l ts e
    → (purpose : Purpose) (k : List Frame) → admits (frames.Hole purpose ∷ k) l ≡ true → (t : Token) (r : List Token) → Stops t.what
    → run modules (ts ++ t ∷ r) (at modes.Want (frames.Hole purpose ∷ k)) ≡ run modules r (after_purpose purpose e k t.what)
hole-runs {modules} {l} base d purpose k adm t r st =
    let i = reads base d (frames.Hole purpose ∷ k) adm in
    i.runs t r (stops-follow l t.what st)
    ∙ runs-step modules t r _ _ (step-hole-at modules purpose i.head k (place t) t.what st i.value)
    ∙ ap (λ e. run modules r (after_purpose purpose e k t.what)) i.is

-- where a statement has ended, the token behind it is looked at
pub line-ends : (modules : Modules) (s : Line) (k : List Frame) (t : Token) (r : List Token) → takes_lines k ≡ true
    → run modules r (after_end (closed_line s k) t.what) ≡ run modules (t ∷ r) (closed_line s k)
unfolding run step closed_line
line-ends modules s (frames.Block o ss ∷ k) t r takes = refl
line-ends modules s (frames.Items root is ∷ k) t r takes = refl
line-ends modules s [] t r takes = absurd-of takes
line-ends modules s (frames.Prefix o ∷ k) t r takes = absurd-of takes
line-ends modules s (frames.Infix m a o ∷ k) t r takes = absurd-of takes
line-ends modules s (frames.Then c ∷ k) t r takes = absurd-of takes
line-ends modules s (frames.Else c b ∷ k) t r takes = absurd-of takes
line-ends modules s (frames.Group q types ∷ k) t r takes = absurd-of takes
line-ends modules s (frames.Call g es ∷ k) t r takes = absurd-of takes
line-ends modules s (frames.Signature form g ps ∷ k) t r takes = absurd-of takes
line-ends modules s (frames.TypeOf x q ∷ k) t r takes = absurd-of takes
line-ends modules s (frames.FunctionName ∷ k) t r takes = absurd-of takes
line-ends modules s (frames.Parent header ∷ k) t r takes = absurd-of takes
line-ends modules s (frames.Fields mutable x parent fs ∷ k) t r takes = absurd-of takes
line-ends modules s (frames.DirectiveFun ∷ k) t r takes = absurd-of takes
line-ends modules s (frames.Types g ts ∷ k) t r takes = absurd-of takes
line-ends modules s (frames.Hole purpose ∷ k) t r takes = absurd-of takes
line-ends modules s (frames.Branch c ss ∷ k) t r takes = absurd-of takes
line-ends modules s (frames.Payload m quoted ∷ k) t r takes = absurd-of takes

pub value-line : (e : Node) (k : List Frame) → takes_lines k ≡ true → closed_value e k ≡ closed_line (value_of e) k
value-line e (frames.Block o ss ∷ k) takes = refl
value-line e (frames.Items root is ∷ k) takes = refl
value-line e [] takes = absurd-of takes
value-line e (frames.Prefix o ∷ k) takes = absurd-of takes
value-line e (frames.Infix m a o ∷ k) takes = absurd-of takes
value-line e (frames.Then c ∷ k) takes = absurd-of takes
value-line e (frames.Else c b ∷ k) takes = absurd-of takes
value-line e (frames.Group q types ∷ k) takes = absurd-of takes
value-line e (frames.Call g es ∷ k) takes = absurd-of takes
value-line e (frames.Signature form g ps ∷ k) takes = absurd-of takes
value-line e (frames.TypeOf x q ∷ k) takes = absurd-of takes
value-line e (frames.FunctionName ∷ k) takes = absurd-of takes
value-line e (frames.Parent header ∷ k) takes = absurd-of takes
value-line e (frames.Fields mutable x parent fs ∷ k) takes = absurd-of takes
value-line e (frames.DirectiveFun ∷ k) takes = absurd-of takes
value-line e (frames.Types g ts ∷ k) takes = absurd-of takes
value-line e (frames.Hole purpose ∷ k) takes = absurd-of takes
value-line e (frames.Branch c ss ∷ k) takes = absurd-of takes
value-line e (frames.Payload m quoted ∷ k) takes = absurd-of takes

pub line-ends-here : (kind : TokenKind) → ends_line kind ≡ true → LineEnds kind
line-ends-here kinds.Separator h = a_separator_here
line-ends-here kinds.Eof h = an_eof_here
line-ends-here kinds.AtEval h = absurd-of h
line-ends-here (kinds.Name x) h = absurd-of h
line-ends-here (kinds.Integer n) h = absurd-of h
line-ends-here (kinds.Str s) h = absurd-of h
line-ends-here (kinds.Sign s) h = absurd-of h
line-ends-here (kinds.Reserved words.Module) h = absurd-of h
line-ends-here (kinds.Reserved words.End) h = an_end_here
line-ends-here (kinds.Reserved words.Using) h = absurd-of h
line-ends-here (kinds.Reserved words.Struct) h = absurd-of h
line-ends-here (kinds.Reserved words.Function) h = absurd-of h
line-ends-here (kinds.Reserved words.If) h = absurd-of h
line-ends-here (kinds.Reserved words.ElseIf) h = an_else_if_here
line-ends-here (kinds.Reserved words.Else) h = an_else_here
line-ends-here (kinds.Reserved words.While) h = absurd-of h
line-ends-here (kinds.Reserved words.For) h = absurd-of h
line-ends-here (kinds.Reserved words.Break) h = absurd-of h
line-ends-here (kinds.Reserved words.Continue) h = absurd-of h
line-ends-here (kinds.Reserved words.Return) h = absurd-of h
line-ends-here (kinds.Reserved words.Global) h = absurd-of h
line-ends-here (kinds.Reserved words.Const) h = absurd-of h
line-ends-here (kinds.Reserved words.True) h = absurd-of h
line-ends-here (kinds.Reserved words.False) h = absurd-of h
line-ends-here (kinds.Reserved words.Nothing) h = absurd-of h
line-ends-here (kinds.Reserved words.Begin) h = absurd-of h
line-ends-here (kinds.Reserved words.Let) h = absurd-of h
line-ends-here (kinds.Reserved words.Do) h = absurd-of h
line-ends-here (kinds.Reserved words.Try) h = absurd-of h
line-ends-here (kinds.Reserved words.Catch) h = absurd-of h
line-ends-here (kinds.Reserved words.Finally) h = absurd-of h
line-ends-here (kinds.Reserved words.Quote) h = absurd-of h
line-ends-here (kinds.Reserved words.Macro) h = absurd-of h
line-ends-here (kinds.Reserved words.Import) h = absurd-of h
line-ends-here (kinds.Reserved words.Export) h = absurd-of h
line-ends-here (kinds.Reserved words.BareModule) h = absurd-of h
line-ends-here (kinds.Reserved words.Local) h = absurd-of h
line-ends-here (kinds.Reserved words.Where) h = absurd-of h
