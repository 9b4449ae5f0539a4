-- The machine reads each statement and each block of the grammar.
use Rattle.std.proofs.Common.{◌≡◌, ℕ, Bool, true, false, not, ◌&&◌, List, [], ◌∷◌, ◌++◌, Some, None, codes, refl, sym, ap, ◌∙◌}
use Rattle.std.proofs.lemmas.List.{append_assoc}
use Rattle.pj_words.specs.declared.word.Word.TheVariants as words
use Rattle.pj_lex.specs.declared.sign.Sign.TheVariants as signs
use Rattle.pj_lex.specs.declared.token.TokenKind.{TokenKind}
use Rattle.pj_lex.specs.declared.token.TokenKind.TheVariants as kinds
use Rattle.pj_lex.specs.declared.token.Token.{Token}
use Rattle.pj_syntax.specs.declared.expression.Spot.{Spot}
use Rattle.pj_grammar.specs.declared.node.Line.{Line}
use Rattle.pj_grammar.specs.declared.node.Lines.{Lines}
use Rattle.pj_grammar.specs.declared.frame.Frame.{Frame}
use Rattle.pj_grammar.specs.declared.frame.Frame.TheVariants as frames
use Rattle.pj_grammar.specs.declared.frame.Opener.{Opener}
use Rattle.pj_grammar.specs.declared.frame.Purpose.TheVariants as purposes
use Rattle.pj_grammar.specs.declared.mode.Head.TheVariants as heads
use Rattle.pj_grammar.specs.declared.mode.Mode.TheVariants as modes
use Rattle.pj_grammar.specs.Closing.{closed_line, ending}
use Rattle.pj_grammar.specs.Frames.{at, guarded, settle, takes_lines}
use Rattle.pj_grammar.specs.Machine.{eval_name_then, payload, reads_name, run, step}
use Rattle.pj_grammar.specs.Makers.{Evaluated, Method, eval_of, line_after, line_before}
use Rattle.pj_grammar.specs.Modules.{Modules, is_module}
use Rattle.pj_grammar.specs.Statements as grammar
use Rattle.pj_grammar.specs.Statements.{Block, Defines, Otherwise, Payload, Statement, begins_with_module, eval_name, is_paren, opens_directly}
use Rattle.pj_grammar.specs.Tokens.{Place, name, place, separator, sign, spot, token, word}
use Rattle.pj_grammar.proofs.Begin as begin
use Rattle.pj_grammar.proofs.Begin.{Start, Starts, starts, starts-callee, starts-more}
use Rattle.pj_grammar.proofs.Blocks.{BlockRuns, BranchesRun, LineRuns, else-if-runs, else-runs, end-runs, for-runs, if-runs, joined-after, last-line-runs, no-lines-run, skip-runs, then-lines-run, while-runs}
use Rattle.pj_grammar.proofs.Evaluations.{plain, quoted, step-eval-name}
use Rattle.pj_grammar.proofs.Levels.{absurd-of}
use Rattle.pj_grammar.proofs.Payloads.{PayloadRuns, long-payload-runs, only-runs, set-runs, short-payload-runs}
use Rattle.pj_grammar.proofs.Reading.{runs-step, state}
use Rattle.pj_grammar.proofs.Statements.{assign-runs, bare-return-runs, global-runs, return-runs, step-break, step-continue, value-runs}

-- with what a payload begins
data First : TokenKind → Type 0 where
  operand : {kind : TokenKind} → Start kind → First kind
  «function» : First (kinds.Reserved words.Function)

record Firsts (ts : List Token) : Type 0 where
  first : Token
  rest : List Token
  are : ts ≡ first ∷ rest
  begins : First first.what

firsts-of : {ts : List Token} → Starts ts → Firsts ts
firsts-of s = record { first = s.first; rest = s.rest; are = s.are; begins = operand s.start }

firsts-method : {modules : Modules} {ts : List Token} {f : Method} → Defines modules ts f → Firsts ts
firsts-method (grammar.short p q d blank ds body) = firsts-of (starts-more _ (starts-callee d))
firsts-method (grammar.long p q o d blank ds body) = record { first = word p words.Function; rest = _; are = refl; begins = «function» }

firsts : {modules : Modules} {ts : List Token} {y : Evaluated} → Payload modules ts y → Firsts ts
firsts (grammar.definition d) = firsts-method d
firsts (grammar.set {ts = ts} p q x d) = record { first = name p x; rest = sign q signs.Assign ∷ ts; are = refl; begins = operand (begin.a_name x) }
firsts (grammar.only d) = firsts-of (starts d)

reads-not : (p : Place) (kind : TokenKind) → First kind → is_paren kind && not p.blank ≡ false → reads_name p kind ≡ false
reads-not p _ (operand (begin.a_name x)) h = h
reads-not p _ (operand (begin.integer n)) h = h
reads-not p _ (operand (begin.text s)) h = h
reads-not p _ (operand begin.yes_) h = h
reads-not p _ (operand begin.no_) h = h
reads-not p _ (operand begin.nothing) h = h
reads-not p _ (operand begin.minus) h = h
reads-not p _ (operand begin.not_) h = h
reads-not p _ (operand begin.parenthesis) h = h
reads-not p _ «function» h = h

with-module : (modules : Modules) (m : Spot) (k : List Frame) (p : Place) (kind : TokenKind) → reads_name p kind ≡ false
    → eval_name_then modules m (frames.Payload None false ∷ k) p kind ≡ payload modules (frames.Payload (Some m) false ∷ k) p kind
with-module modules m k p kind no' = rw no' refl

from-eval-name : (modules : Modules) (m : Spot) (k : List Frame) (ts more : List Token) → Firsts ts → opens_directly ts ≡ false
    → run modules (ts ++ more) (at (modes.EvalName m) (frames.Payload None false ∷ k)) ≡ run modules (ts ++ more) (at modes.Payload (frames.Payload (Some m) false ∷ k))
unfolding run step
from-eval-name modules m k ts more s apart =
    rw s.are (ap (run modules (s.rest ++ more)) (with-module modules m k (place s.first) s.first.what (reads-not (place s.first) s.first.what s.begins (ap opens_directly (sym s.are) ∙ apart))))

pub step-at-eval : (modules : Modules) (p : Place) (k : List Frame) → step modules (state modes.Line k) (token p kinds.AtEval) ≡ at modes.Payload (frames.Payload None false ∷ k)
unfolding step
step-at-eval modules p k = refl

some-none : (m : Spot) → Some m ≡ None → false ≡ true
some-none m h = cc

eval-runs : (modules : Modules) (ts : List Token) (y : Evaluated) (p : Place) → begins_with_module modules ts ≡ false → PayloadRuns modules ts y
    → LineRuns modules (token p kinds.AtEval ∷ ts) (eval_of None y)
eval-runs modules ts y p fine runs k takes t r ends =
    runs-step modules (token p kinds.AtEval) (ts ++ t ∷ r) _ _ (step-at-eval modules p k) ∙ runs None false k takes (λ a b. fine) t r (plain ends)

eval-in-runs : (modules : Modules) (ts : List Token) (y : Evaluated) (p q : Place) (m : List ℕ) → is_module modules m ≡ true → opens_directly ts ≡ false → Firsts ts
    → PayloadRuns modules ts y → LineRuns modules (token p kinds.AtEval ∷ name q m ∷ ts) (eval_of (Some (spot q m)) y)
eval-in-runs modules ts y p q m is apart s runs k takes t r ends =
    runs-step modules (token p kinds.AtEval) (name q m ∷ (ts ++ t ∷ r)) _ _ (step-at-eval modules p k)
    ∙ runs-step modules (name q m) (ts ++ t ∷ r) _ _ (step-eval-name modules k q m is)
    ∙ from-eval-name modules (spot q m) k ts (t ∷ r) s apart
    ∙ runs (Some (spot q m)) false k takes (λ a b. absurd-of (some-none (spot q m) a)) t r (plain ends)

-- `eval(:(..))`
step-quote-name : (modules : Modules) (p : Place) (k : List Frame)
    → step modules (state modes.Line k) (name p (codes "eval")) ≡ at (modes.Have (heads.Name (spot p (codes "eval")))) (frames.Hole purposes.Value ∷ k)
unfolding step
step-quote-name modules p k = refl

quote-opens : (modules : Modules) (p : Place) (k : List Frame) (start end : ℕ) (blank : Bool) (o : Place) (rest : List Token) → takes_lines k ≡ true
    → run modules (sign (record { start = start; end = end; blank = blank }) signs.LeftParen ∷ sign o signs.Colon ∷ rest) (at (modes.Have (heads.Name (spot p (codes "eval")))) (frames.Hole purposes.Value ∷ k))
    ≡ run modules rest (at modes.EvalOpen k)
unfolding run step
quote-opens modules p k start end true o rest takes = ap (λ b. run modules (sign o signs.Colon ∷ rest) (guarded b (at modes.EvalColon k))) takes
quote-opens modules p k start end false o rest takes = ap (λ b. run modules rest (guarded b (at modes.EvalOpen k))) takes

step-quote-open : (modules : Modules) (o : Place) (k : List Frame) → step modules (state modes.EvalOpen k) (sign o signs.LeftParen) ≡ at modes.Payload (frames.Payload None true ∷ k)
unfolding step
step-quote-open modules o k = refl

step-quote-ends : (modules : Modules) (s : Line) (o : Place) (k : List Frame) → step modules (state (modes.PayloadEnd s) k) (sign o signs.RightParen) ≡ at (modes.EvalEnd s) k
unfolding step
step-quote-ends modules s o k = refl

step-eval-ends : (modules : Modules) (s : Line) (o : Place) (k : List Frame) → step modules (state (modes.EvalEnd s) k) (sign o signs.RightParen) ≡ closed_line s k
unfolding step
step-eval-ends modules s o k = refl

eval-quoted-runs : (modules : Modules) (ts : List Token) (y : Evaluated) (p q c o d e : Place) → PayloadRuns modules ts y
    → LineRuns modules (name p (codes "eval") ∷ sign q signs.LeftParen ∷ sign c signs.Colon ∷ sign o signs.LeftParen ∷ (ts ++ sign d signs.RightParen ∷ sign e signs.RightParen ∷ [])) (eval_of None y)
eval-quoted-runs modules ts y p q c o d e runs k takes t r ends =
    runs-step modules (name p (codes "eval")) (sign q signs.LeftParen ∷ sign c signs.Colon ∷ sign o signs.LeftParen ∷ (tail ++ t ∷ r)) _ _ (step-quote-name modules p k)
    ∙ quote-opens modules p k q.start q.end q.blank c (sign o signs.LeftParen ∷ (tail ++ t ∷ r)) takes
    ∙ runs-step modules (sign o signs.LeftParen) (tail ++ t ∷ r) _ _ (step-quote-open modules o k)
    ∙ ap (λ w. run modules w (at modes.Payload (frames.Payload None true ∷ k))) (append_assoc ts (sign d signs.RightParen ∷ sign e signs.RightParen ∷ []) (t ∷ r))
    ∙ runs None true k takes (λ a b. absurd-of (sym b)) (sign d signs.RightParen) (sign e signs.RightParen ∷ t ∷ r) quoted
    ∙ runs-step modules (sign d signs.RightParen) (sign e signs.RightParen ∷ t ∷ r) _ _ (step-quote-ends modules (eval_of None y) d k)
    ∙ runs-step modules (sign e signs.RightParen) (t ∷ r) _ _ (step-eval-ends modules (eval_of None y) e k)
  where
    tail : List Token
    tail = ts ++ sign d signs.RightParen ∷ sign e signs.RightParen ∷ []

step-name-ends : (modules : Modules) (m : Spot) (o : Opener) (done : Lines) (k : List Frame) (u : Place)
    → step modules (state (modes.EvalName m) (frames.Payload None false ∷ frames.Block o done ∷ k)) (separator u) ≡ at modes.Line (frames.Block o (line_after done (eval_name m)) ∷ k)
unfolding step settle closed_line
step-name-ends modules m o done k u = refl

-- `@eval` of a module's name alone, before a separator
name-runs : (modules : Modules) (p q : Place) (m : List ℕ) → is_module modules m ≡ true → (o : Opener) (done : Lines) (k : List Frame) (u : Place) (r : List Token)
    → run modules (token p kinds.AtEval ∷ name q m ∷ separator u ∷ r) (at modes.Line (frames.Block o done ∷ k)) ≡ run modules r (at modes.Line (frames.Block o (line_after done (eval_name (spot q m))) ∷ k))
name-runs modules p q m is o done k u r =
    runs-step modules (token p kinds.AtEval) (name q m ∷ separator u ∷ r) _ _ (step-at-eval modules p (frames.Block o done ∷ k))
    ∙ runs-step modules (name q m) (separator u ∷ r) _ _ (step-eval-name modules (frames.Block o done ∷ k) q m is)
    ∙ runs-step modules (separator u) r _ _ (step-name-ends modules (spot q m) o done k u)

after-name-runs : (modules : Modules) (us : List Token) (b : Lines) (p q u : Place) (m : List ℕ) → is_module modules m ≡ true → BlockRuns modules us b
    → BlockRuns modules (token p kinds.AtEval ∷ name q m ∷ separator u ∷ us) (line_before (eval_name (spot q m)) b)
after-name-runs modules us b p q u m is rest o done k t r ends =
    name-runs modules p q m is o done k u (us ++ t ∷ r)
    ∙ rest o (line_after done (eval_name (spot q m))) k t r ends
    ∙ ap (λ c. run modules r (ending (frames.Block o c ∷ k) t.what)) (joined-after done b (eval_name (spot q m)))

mutual
  pub statement : {modules : Modules} {ts : List Token} {s : Line} → is_module modules (codes "Base") ≡ true → Statement modules ts s → LineRuns modules ts s
  statement base (grammar.value d) = λ k takes t r ends. value-runs base d k takes t r ends
  statement base (grammar.assign p s place is d) = λ k takes t r ends. assign-runs base p s place is d k takes t r ends
  statement base (grammar.global p q c x s is d) = λ k takes t r ends. global-runs base p q c x s is d k takes t r ends
  statement base (grammar.return_nothing p) = λ k takes t r ends. bare-return-runs _ p k takes t r ends
  statement base (grammar.return_value p d) = λ k takes t r ends. return-runs base p d k takes t r ends
  statement base (grammar.break p) = λ k takes t r ends. runs-step _ (word p words.Break) (t ∷ r) _ _ (step-break _ p k)
  statement base (grammar.«continue» p) = λ k takes t r ends. runs-step _ (word p words.Continue) (t ∷ r) _ _ (step-continue _ p k)
  statement base (grammar.eval {ts = ts} {y = y} p fine d) = eval-runs _ ts y p fine (evaluated base d)
  statement base (grammar.eval_in {ts = ts} {y = y} p q m is apart d) = eval-in-runs _ ts y p q m is apart (firsts d) (evaluated base d)
  statement base (grammar.eval_quoted {ts = ts} {y = y} p q c o d e body) = eval-quoted-runs _ ts y p q c o d e (evaluated base body)
  statement base (grammar.if_ {us = us} {vs = vs} {a = a} {b = b} p q c d rest) = if-runs us vs a b p q base c (block base d) (otherwise base rest)
  statement base (grammar.while {us = us} {b = b} p q o c d) = while-runs us b p q o base c (block base d)
  statement base (grammar.for {vs = vs} {body = body} p q c e o i x is from to d) = for-runs vs body p q c e o i x base is from to (block base d)

  pub otherwise : {modules : Modules} {vs : List Token} {b : Lines} → is_module modules (codes "Base") ≡ true → Otherwise modules vs b → BranchesRun modules vs b
  otherwise base (grammar.end p) = end-runs _ p
  otherwise base (grammar.else {us = us} {b = b} p q d) = else-runs _ us b p q (block base d)
  otherwise base (grammar.else_if {us = us} {vs = vs} {a = a} {b = b} p q c d rest) = else-if-runs us vs a b p q base c (block base d) (otherwise base rest)

  pub block : {modules : Modules} {ts : List Token} {b : Lines} → is_module modules (codes "Base") ≡ true → Block modules ts b → BlockRuns modules ts b
  block base grammar.none = no-lines-run _
  block base (grammar.skip {ts = ts} {b = b} p d) = skip-runs _ ts b p (block base d)
  block base (grammar.last_line {ts = ts} {s = s} d) = last-line-runs _ ts s (statement base d)
  block base (grammar.then_lines {ts = ts} {us = us} {s = s} {b = b} p d rest) = then-lines-run _ ts us s b p (statement base d) (block base rest)
  block base (grammar.then_after_name {us = us} {b = b} p q u m is rest) = after-name-runs _ us b p q u m is (block base rest)

  pub evaluated : {modules : Modules} {ts : List Token} {y : Evaluated} → is_module modules (codes "Base") ≡ true → Payload modules ts y → PayloadRuns modules ts y
  evaluated base (grammar.definition (grammar.short p q d blank ds body)) = short-payload-runs base p q d blank ds body
  evaluated base (grammar.definition (grammar.long {vs = vs} {b = b} p q o d blank ds body)) = long-payload-runs vs b base p q o d blank ds (block base body)
  evaluated base (grammar.set p q x d) = set-runs base p q x d
  evaluated base (grammar.only d) = only-runs base d
