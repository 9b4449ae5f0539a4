-- The machine reads statements that hold no others.
use Rattle.std.proofs.Common.{◌≡◌, ℕ, true, List, [], ◌∷◌, ◌++◌, Option, Some, codes, refl, ap, ◌∙◌}
use Rattle.std.proofs.lemmas.List.{append_assoc}
use Rattle.pj_words.specs.declared.word.Word.TheVariants as words
use Rattle.pj_lex.specs.declared.sign.Sign.{Sign}
use Rattle.pj_lex.specs.declared.sign.Sign.TheVariants as signs
use Rattle.pj_lex.specs.declared.token.TokenKind.{TokenKind}
use Rattle.pj_lex.specs.declared.token.TokenKind.TheVariants as kinds
use Rattle.pj_lex.specs.declared.token.Token.{Token}
use Rattle.pj_syntax.specs.declared.expression.Spot.{Spot}
use Rattle.pj_grammar.specs.declared.level.Level.TheVariants as levels
use Rattle.pj_grammar.specs.declared.level.Operator.{Operator}
use Rattle.pj_grammar.specs.declared.node.Node.{Node}
use Rattle.pj_grammar.specs.declared.frame.Frame.{Frame}
use Rattle.pj_grammar.specs.declared.frame.Frame.TheVariants as frames
use Rattle.pj_grammar.specs.declared.frame.Purpose.TheVariants as purposes
use Rattle.pj_grammar.specs.declared.frame.Target.{Target}
use Rattle.pj_grammar.specs.declared.frame.Target.TheVariants as targets
use Rattle.pj_grammar.specs.declared.mode.Head.TheVariants as heads
use Rattle.pj_grammar.specs.declared.mode.Mode.TheVariants as modes
use Rattle.pj_grammar.specs.Closing.{after_end, closed_line, closed_set}
use Rattle.pj_grammar.specs.Expressions.{Reads}
use Rattle.pj_grammar.specs.Frames.{at, takes_lines}
use Rattle.pj_grammar.specs.Machine.{after_return, operand, run, set_global, step}
use Rattle.pj_grammar.specs.Makers.{assign_of, bare_return, break_of, continue_of, return_of, value_of}
use Rattle.pj_grammar.specs.Modules.{Modules, is_module}
use Rattle.pj_grammar.specs.Operands.{assignment, have_assign, have_next, next_assignment, next_sign}
use Rattle.pj_grammar.specs.Statements.{Assigned, Holder, a_field, a_member, a_name, assigning, operator_at, to_field, to_name}
use Rattle.pj_grammar.specs.Tokens.{Place, name, place, sign, spot, token, word}
use Rattle.pj_grammar.proofs.Begin as begin
use Rattle.pj_grammar.proofs.Begin.{Start, Starts, from-line, starts}
use Rattle.pj_grammar.proofs.Holes.{LineEnds, an_else_here, an_else_if_here, an_end_here, an_eof_here, a_separator_here, hole-runs, line-ends, line-stops, value-line}
use Rattle.pj_grammar.proofs.Levels.{absurd-of}
use Rattle.pj_grammar.proofs.Reading.{runs-step, state, step-module}
use Rattle.pj_grammar.proofs.Stepping.{step-dot, step-field}

-- an expression
pub value-runs : {modules : Modules} {ts : List Token} {e : Node} → is_module modules (codes "Base") ≡ true → Reads modules levels.Conditional ts e
    → (k : List Frame) → takes_lines k ≡ true → (t : Token) (r : List Token) → LineEnds t.what
    → run modules (ts ++ t ∷ r) (at modes.Line k) ≡ run modules (t ∷ r) (closed_line (value_of e) k)
value-runs {modules} {ts} {e} base d k takes t r ends =
    from-line modules ts (t ∷ r) (starts d) k
    ∙ hole-runs base d purposes.Value k refl t r (line-stops t.what ends)
    ∙ ap (λ st. run modules r (after_end st t.what)) (value-line e k takes)
    ∙ line-ends modules (value_of e) k t r takes

-- what has the field that is assigned, and the field
step-line-name : (modules : Modules) (p : Place) (x : List ℕ) (k : List Frame)
    → step modules (state modes.Line k) (name p x) ≡ at (modes.Have (heads.Name (spot p x))) (frames.Hole purposes.Value ∷ k)
unfolding step
step-line-name modules p x k = refl

step-member-name : (modules : Modules) (m : Spot) (k : List Frame) (q : Place) (x : List ℕ)
    → step modules (state (modes.Member m) k) (name q x) ≡ at (modes.Have (heads.Member m (spot q x))) k
unfolding step
step-member-name modules m k q x = refl

pub holder-runs : {modules : Modules} {ts : List Token} {e : Node} → Holder modules ts e → (k : List Frame) (r : List Token) (p q : Place) (x : List ℕ)
    → run modules (ts ++ sign p signs.Dot ∷ name q x ∷ r) (at modes.Line k) ≡ run modules r (at (modes.Have (heads.Place e (spot q x))) (frames.Hole purposes.Value ∷ k))
holder-runs {modules} (a_name o y fine) k r p q x =
    runs-step modules (name o y) (sign p signs.Dot ∷ name q x ∷ r) _ _ (step-line-name modules o y k)
    ∙ runs-step modules (sign p signs.Dot) (name q x ∷ r) _ _ (step-dot modules (frames.Hole purposes.Value ∷ k) (heads.Name (spot o y)) p fine refl refl)
    ∙ runs-step modules (name q x) r _ _ (step-field modules (frames.Hole purposes.Value ∷ k) true _ q x)
holder-runs {modules} (a_member o d c m y is) k r p q x =
    runs-step modules (name o m) (sign d signs.Dot ∷ name c y ∷ sign p signs.Dot ∷ name q x ∷ r) _ _ (step-line-name modules o m k)
    ∙ runs-step modules (sign d signs.Dot) (name c y ∷ sign p signs.Dot ∷ name q x ∷ r) _ _ (step-module modules (spot o m) (frames.Hole purposes.Value ∷ k) d is refl)
    ∙ runs-step modules (name c y) (sign p signs.Dot ∷ name q x ∷ r) _ _ (step-member-name modules (spot o m) (frames.Hole purposes.Value ∷ k) c y)
    ∙ runs-step modules (sign p signs.Dot) (name q x ∷ r) _ _ (step-dot modules (frames.Hole purposes.Value ∷ k) (heads.Member (spot o m) (spot c y)) p refl refl refl)
    ∙ runs-step modules (name q x) r _ _ (step-field modules (frames.Hole purposes.Value ∷ k) true _ q x)
holder-runs {modules} (a_field {ts = ts} {e = e} o c y d) k r p q x =
    ap (λ w. run modules w (at modes.Line k)) (append_assoc ts (sign o signs.Dot ∷ name c y ∷ []) (sign p signs.Dot ∷ name q x ∷ r))
    ∙ holder-runs d k (sign p signs.Dot ∷ name q x ∷ r) o c y
    ∙ runs-step modules (sign p signs.Dot) (name q x ∷ r) _ _ (step-dot modules (frames.Hole purposes.Value ∷ k) (heads.Place e (spot c y)) p refl refl refl)
    ∙ runs-step modules (name q x) r _ _ (step-field modules (frames.Hole purposes.Value ∷ k) true _ q x)

next-assigns : (s : Sign) (o : Option Sign) → assigning s ≡ Some o → next_sign s ≡ assignment o
next-assigns signs.Same o h = cc
next-assigns signs.NotSame o h = cc
next-assigns signs.AddAssign o h = ap next_assignment h
next-assigns signs.SubtractAssign o h = ap next_assignment h
next-assigns signs.MultiplyAssign o h = ap next_assignment h
next-assigns signs.Equal o h = cc
next-assigns signs.NotEqual o h = cc
next-assigns signs.LessOrEqual o h = cc
next-assigns signs.GreaterOrEqual o h = cc
next-assigns signs.And o h = cc
next-assigns signs.Or o h = cc
next-assigns signs.DoubleColon o h = cc
next-assigns signs.Below o h = cc
next-assigns signs.Comma o h = cc
next-assigns signs.Assign o h = ap next_assignment h
next-assigns signs.Plus o h = cc
next-assigns signs.Minus o h = cc
next-assigns signs.Times o h = cc
next-assigns signs.Quotient o h = cc
next-assigns signs.Remainder o h = cc
next-assigns signs.Less o h = cc
next-assigns signs.Greater o h = cc
next-assigns signs.Question o h = cc
next-assigns signs.Colon o h = cc
next-assigns signs.LeftParen o h = cc
next-assigns signs.RightParen o h = cc
next-assigns signs.Dot o h = cc
next-assigns signs.Not o h = cc

-- `=` behind what is assigned
name-assigns : (x : Spot) (k : List Frame) (p : ℕ) (o : Option Sign) → takes_lines k ≡ true
    → have_assign (heads.Name x) (frames.Hole purposes.Value ∷ k) p o ≡ at modes.Want (frames.Hole (purposes.Assign (targets.Local x) (operator_at p o)) ∷ k)
name-assigns x (frames.Block b ss ∷ k) p o takes = refl
name-assigns x (frames.Items root is ∷ k) p o takes = refl
name-assigns x [] p o takes = absurd-of takes
name-assigns x (frames.Prefix o' ∷ k) p o takes = absurd-of takes
name-assigns x (frames.Infix m a o' ∷ k) p o takes = absurd-of takes
name-assigns x (frames.Then c ∷ k) p o takes = absurd-of takes
name-assigns x (frames.Else c b ∷ k) p o takes = absurd-of takes
name-assigns x (frames.Group q types ∷ k) p o takes = absurd-of takes
name-assigns x (frames.Call g es ∷ k) p o takes = absurd-of takes
name-assigns x (frames.Signature form g ps ∷ k) p o takes = absurd-of takes
name-assigns x (frames.TypeOf y q ∷ k) p o takes = absurd-of takes
name-assigns x (frames.FunctionName ∷ k) p o takes = absurd-of takes
name-assigns x (frames.Parent header ∷ k) p o takes = absurd-of takes
name-assigns x (frames.Fields mutable y parent fs ∷ k) p o takes = absurd-of takes
name-assigns x (frames.DirectiveFun ∷ k) p o takes = absurd-of takes
name-assigns x (frames.Types g ts ∷ k) p o takes = absurd-of takes
name-assigns x (frames.Hole purpose ∷ k) p o takes = absurd-of takes
name-assigns x (frames.Branch c ss ∷ k) p o takes = absurd-of takes
name-assigns x (frames.Payload m quoted ∷ k) p o takes = absurd-of takes

local-set : (x : Spot) (o : Option Operator) (e : Node) (k : List Frame) → takes_lines k ≡ true → closed_set (targets.Local x) o e k ≡ closed_line (assign_of (targets.Local x) o e) k
local-set x o e (frames.Block b ss ∷ k) takes = refl
local-set x o e (frames.Items root is ∷ k) takes = refl
local-set x o e [] takes = absurd-of takes
local-set x o e (frames.Prefix o' ∷ k) takes = absurd-of takes
local-set x o e (frames.Infix m a o' ∷ k) takes = absurd-of takes
local-set x o e (frames.Then c ∷ k) takes = absurd-of takes
local-set x o e (frames.Else c b ∷ k) takes = absurd-of takes
local-set x o e (frames.Group q types ∷ k) takes = absurd-of takes
local-set x o e (frames.Call g es ∷ k) takes = absurd-of takes
local-set x o e (frames.Signature form g ps ∷ k) takes = absurd-of takes
local-set x o e (frames.TypeOf y q ∷ k) takes = absurd-of takes
local-set x o e (frames.FunctionName ∷ k) takes = absurd-of takes
local-set x o e (frames.Parent header ∷ k) takes = absurd-of takes
local-set x o e (frames.Fields mutable y parent fs ∷ k) takes = absurd-of takes
local-set x o e (frames.DirectiveFun ∷ k) takes = absurd-of takes
local-set x o e (frames.Types g ts ∷ k) takes = absurd-of takes
local-set x o e (frames.Hole purpose ∷ k) takes = absurd-of takes
local-set x o e (frames.Branch c ss ∷ k) takes = absurd-of takes
local-set x o e (frames.Payload m quoted ∷ k) takes = absurd-of takes

step-name-assigns : (modules : Modules) (x : Spot) (k : List Frame) (p : Place) (s : Sign) (o : Option Sign) → assigning s ≡ Some o → takes_lines k ≡ true
    → step modules (state (modes.Have (heads.Name x)) (frames.Hole purposes.Value ∷ k)) (sign p s) ≡ at modes.Want (frames.Hole (purposes.Assign (targets.Local x) (operator_at p.start o)) ∷ k)
unfolding step
step-name-assigns modules x k p s o is takes =
    ap (have_next modules (heads.Name x) (frames.Hole purposes.Value ∷ k) p (kinds.Sign s)) (next-assigns s o is) ∙ name-assigns x k p.start o takes

step-place-assigns : (modules : Modules) (e : Node) (x : Spot) (k : List Frame) (p : Place) (s : Sign) (o : Option Sign) → assigning s ≡ Some o → takes_lines k ≡ true
    → step modules (state (modes.Have (heads.Place e x)) (frames.Hole purposes.Value ∷ k)) (sign p s) ≡ at modes.Want (frames.Hole (purposes.Assign (targets.Field e x) (operator_at p.start o)) ∷ k)
unfolding step
step-place-assigns modules e x k p s o is takes =
    ap (have_next modules (heads.Place e x) (frames.Hole purposes.Value ∷ k) p (kinds.Sign s)) (next-assigns s o is) ∙ rw takes refl

pub assign-runs : {modules : Modules} {ts us : List Token} {target : Target} {e : Node} {o : Option Sign} → is_module modules (codes "Base") ≡ true → (p : Place) (s : Sign)
    → Assigned modules ts target → assigning s ≡ Some o → Reads modules levels.Conditional us e
    → (k : List Frame) → takes_lines k ≡ true → (t : Token) (r : List Token) → LineEnds t.what
    → run modules ((ts ++ sign p s ∷ us) ++ t ∷ r) (at modes.Line k) ≡ run modules (t ∷ r) (closed_line (assign_of target (operator_at p.start o) e) k)
assign-runs {modules} {us = us} {e = e} {o = o} base p s (to_name q x) is d k takes t r ends =
    runs-step modules (name q x) (sign p s ∷ (us ++ t ∷ r)) _ _ (step-line-name modules q x k)
    ∙ runs-step modules (sign p s) (us ++ t ∷ r) _ _ (step-name-assigns modules (spot q x) k p s o is takes)
    ∙ hole-runs base d (purposes.Assign (targets.Local (spot q x)) (operator_at p.start o)) k refl t r (line-stops t.what ends)
    ∙ ap (λ st. run modules r (after_end st t.what)) (local-set (spot q x) (operator_at p.start o) e k takes)
    ∙ line-ends modules _ k t r takes
assign-runs {modules} {us = us} {e = e} {o = o} base p s (to_field {ts = ts} {e = a} c q x h) is d k takes t r ends =
    ap (λ w. run modules w (at modes.Line k)) (append_assoc (ts ++ sign c signs.Dot ∷ name q x ∷ []) (sign p s ∷ us) (t ∷ r) ∙ append_assoc ts (sign c signs.Dot ∷ name q x ∷ []) (sign p s ∷ (us ++ t ∷ r)))
    ∙ holder-runs h k (sign p s ∷ (us ++ t ∷ r)) c q x
    ∙ runs-step modules (sign p s) (us ++ t ∷ r) _ _ (step-place-assigns modules a (spot q x) k p s o is takes)
    ∙ hole-runs base d (purposes.Assign (targets.Field a (spot q x)) (operator_at p.start o)) k refl t r (line-stops t.what ends)
    ∙ line-ends modules _ k t r takes

step-global-sign : (modules : Modules) (g : ℕ) (x : Spot) (k : List Frame) (p : Place) (s : Sign) (o : Option Sign) → assigning s ≡ Some o
    → step modules (state (modes.GlobalAssign g x) k) (sign p s) ≡ at modes.Want (frames.Hole (purposes.Assign (targets.Global g x) (operator_at p.start o)) ∷ k)
unfolding step
step-global-sign modules g x k p s o is = ap (set_global g x k p.start) is

step-global : (modules : Modules) (p : Place) (k : List Frame) → step modules (state modes.Line k) (word p words.Global) ≡ at (modes.GlobalName p.start) k
unfolding step
step-global modules p k = refl

step-global-name : (modules : Modules) (g : ℕ) (q : Place) (x : List ℕ) (k : List Frame)
    → step modules (state (modes.GlobalName g) k) (name q x) ≡ at (modes.GlobalAssign g (spot q x)) k
unfolding step
step-global-name modules g q x k = refl

pub global-runs : {modules : Modules} {us : List Token} {e : Node} {o : Option Sign} → is_module modules (codes "Base") ≡ true → (p q c : Place) (x : List ℕ) (s : Sign)
    → assigning s ≡ Some o → Reads modules levels.Conditional us e → (k : List Frame) → takes_lines k ≡ true → (t : Token) (r : List Token) → LineEnds t.what
    → run modules (word p words.Global ∷ name q x ∷ sign c s ∷ (us ++ t ∷ r)) (at modes.Line k)
    ≡ run modules (t ∷ r) (closed_line (assign_of (targets.Global p.start (spot q x)) (operator_at c.start o) e) k)
global-runs {modules} {us} {e} {o} base p q c x s is d k takes t r ends =
    runs-step modules (word p words.Global) (name q x ∷ sign c s ∷ (us ++ t ∷ r)) _ _ (step-global modules p k)
    ∙ runs-step modules (name q x) (sign c s ∷ (us ++ t ∷ r)) _ _ (step-global-name modules p.start q x k)
    ∙ runs-step modules (sign c s) (us ++ t ∷ r) _ _ (step-global-sign modules p.start (spot q x) k c s o is)
    ∙ hole-runs base d (purposes.Assign (targets.Global p.start (spot q x)) (operator_at c.start o)) k refl t r (line-stops t.what ends)
    ∙ line-ends modules _ k t r takes

-- `return`, `break` and `continue`
step-return : (modules : Modules) (p : Place) (k : List Frame) → step modules (state modes.Line k) (word p words.Return) ≡ at (modes.Return p.start) k
unfolding step
step-return modules p k = refl

step-bare-return : (modules : Modules) (n : ℕ) (k : List Frame) (q : Place) (kind : TokenKind) → LineEnds kind
    → step modules (state (modes.Return n) k) (token q kind) ≡ after_end (closed_line (bare_return n) k) kind
unfolding step
step-bare-return modules n k q _ a_separator_here = refl
step-bare-return modules n k q _ an_eof_here = refl
step-bare-return modules n k q _ an_end_here = refl
step-bare-return modules n k q _ an_else_here = refl
step-bare-return modules n k q _ an_else_if_here = refl

pub bare-return-runs : (modules : Modules) (p : Place) (k : List Frame) → takes_lines k ≡ true → (t : Token) (r : List Token) → LineEnds t.what
    → run modules (word p words.Return ∷ t ∷ r) (at modes.Line k) ≡ run modules (t ∷ r) (closed_line (bare_return p.start) k)
bare-return-runs modules p k takes t r ends =
    runs-step modules (word p words.Return) (t ∷ r) _ _ (step-return modules p k)
    ∙ runs-step modules t r _ _ (step-bare-return modules p.start k (place t) t.what ends)
    ∙ line-ends modules _ k t r takes

return-operand : (n : ℕ) (k : List Frame) (q : Place) (kind : TokenKind) → Start kind → after_return n k q kind ≡ operand (frames.Hole (purposes.Return n) ∷ k) q kind
return-operand n k q _ (begin.a_name x) = refl
return-operand n k q _ (begin.integer m) = refl
return-operand n k q _ (begin.text s) = refl
return-operand n k q _ begin.yes_ = refl
return-operand n k q _ begin.no_ = refl
return-operand n k q _ begin.nothing = refl
return-operand n k q _ begin.minus = refl
return-operand n k q _ begin.not_ = refl
return-operand n k q _ begin.parenthesis = refl

from-return : (modules : Modules) (n : ℕ) (ts more : List Token) → Starts ts → (k : List Frame)
    → run modules (ts ++ more) (at (modes.Return n) k) ≡ run modules (ts ++ more) (at modes.Want (frames.Hole (purposes.Return n) ∷ k))
unfolding run step
from-return modules n ts more s k = rw s.are (ap (run modules (s.rest ++ more)) (return-operand n k (place s.first) s.first.what s.start))

pub return-runs : {modules : Modules} {ts : List Token} {e : Node} → is_module modules (codes "Base") ≡ true → (p : Place) → Reads modules levels.Conditional ts e
    → (k : List Frame) → takes_lines k ≡ true → (t : Token) (r : List Token) → LineEnds t.what
    → run modules (word p words.Return ∷ (ts ++ t ∷ r)) (at modes.Line k) ≡ run modules (t ∷ r) (closed_line (return_of p.start e) k)
return-runs {modules} {ts} {e} base p d k takes t r ends =
    runs-step modules (word p words.Return) (ts ++ t ∷ r) _ _ (step-return modules p k)
    ∙ from-return modules p.start ts (t ∷ r) (starts d) k
    ∙ hole-runs base d (purposes.Return p.start) k refl t r (line-stops t.what ends)
    ∙ line-ends modules _ k t r takes

pub step-break : (modules : Modules) (p : Place) (k : List Frame) → step modules (state modes.Line k) (word p words.Break) ≡ closed_line (break_of p.start) k
unfolding step
step-break modules p k = refl

pub step-continue : (modules : Modules) (p : Place) (k : List Frame) → step modules (state modes.Line k) (word p words.Continue) ≡ closed_line (continue_of p.start) k
unfolding step
step-continue modules p k = refl
