-- How what `@eval` evaluates begins and ends, and how definitions are read.
use Rattle.std.proofs.Common.{◌≡◌, ℕ, Bool, true, false, not, ◌&&◌, ◌||◌, List, [], ◌∷◌, ◌++◌, Option, Some, None, codes, refl, sym, ap, ◌∙◌}
use Rattle.std.proofs.lemmas.List.{append_assoc}
use Rattle.pj_words.specs.declared.word.Word.TheVariants as words
use Rattle.pj_lex.specs.declared.sign.Sign.TheVariants as signs
use Rattle.pj_lex.specs.declared.token.TokenKind.{TokenKind}
use Rattle.pj_lex.specs.declared.token.TokenKind.TheVariants as kinds
use Rattle.pj_lex.specs.declared.token.Token.{Token}
use Rattle.pj_syntax.specs.declared.expression.Spot.{Spot}
use Rattle.pj_syntax.specs.declared.expression.Path.{Path}
use Rattle.pj_syntax.specs.declared.statement.Param.{Param}
use Rattle.pj_grammar.specs.declared.level.Level.TheVariants as levels
use Rattle.pj_grammar.specs.declared.node.Node.{Node}
use Rattle.pj_grammar.specs.declared.frame.Form.TheVariants as forms
use Rattle.pj_grammar.specs.declared.frame.Frame.{Frame}
use Rattle.pj_grammar.specs.declared.frame.Frame.TheVariants as frames
use Rattle.pj_grammar.specs.declared.frame.Given.TheVariants as given
use Rattle.pj_grammar.specs.declared.frame.Opener.TheVariants as openers
use Rattle.pj_grammar.specs.declared.frame.Purpose.TheVariants as purposes
use Rattle.pj_grammar.specs.declared.mode.Head.{Head}
use Rattle.pj_grammar.specs.declared.mode.Head.TheVariants as heads
use Rattle.pj_grammar.specs.declared.mode.Mode.TheVariants as modes
use Rattle.pj_grammar.specs.Closing.{after_end, closed_evaluated, closed_method}
use Rattle.pj_grammar.specs.Expressions.{Callee, Reads}
use Rattle.pj_grammar.specs.Frames.{at, head_path, takes_definition, takes_lines}
use Rattle.pj_grammar.specs.Machine.{operand, payload, reads_name, run, step}
use Rattle.pj_grammar.specs.Makers.{Evaluated, eval_of, no_lines, short_method}
use Rattle.pj_grammar.specs.Modules.{Modules, is_module}
use Rattle.pj_grammar.specs.Statements.{Parameters, begins_with_module, is_dot, names_module, opens_directly}
use Rattle.pj_grammar.specs.Tokens.{Place, name, place, sign, spot, token, word}
use Rattle.pj_grammar.proofs.Begin.{Start, Starts, a_name, integer, minus, no_, not_, nothing, parenthesis, text, yes_}
use Rattle.pj_grammar.proofs.Holes.{LineEnds, Stops, a_close, hole-runs, line-ends, line-stops}
use Rattle.pj_grammar.proofs.Levels.{absurd-of}
use Rattle.pj_grammar.proofs.Parameters.{head-params, params-run}
use Rattle.pj_grammar.proofs.Reading.{TakesName, reads-callee, runs-step, state}
use Rattle.pj_grammar.proofs.Stepping.{step-call}

-- what ends what is evaluated
pub data EvalEnds : Bool → TokenKind → Type 0 where
  plain : {kind : TokenKind} → LineEnds kind → EvalEnds false kind
  quoted : EvalEnds true (kinds.Sign signs.RightParen)

pub eval-stops : (b : Bool) (kind : TokenKind) → EvalEnds b kind → Stops kind
eval-stops _ kind (plain ends) = line-stops kind ends
eval-stops _ _ quoted = a_close

quoted-ends : (modules : Modules) (y : Evaluated) (m : Option Spot) (k : List Frame) (q : Place) (kind : TokenKind) (r : List Token) (b : Bool) → takes_lines k ≡ true → EvalEnds b kind
    → run modules r (after_end (closed_evaluated y (frames.Payload m b ∷ k)) kind) ≡ run modules (token q kind ∷ r) (closed_evaluated y (frames.Payload m b ∷ k))
unfolding run step
quoted-ends modules y m k q kind r _ takes (plain ends) = line-ends modules (eval_of m y) k (token q kind) r takes
quoted-ends modules y m k q _ r _ takes quoted = refl

pub evaluated-ends : (modules : Modules) (y : Evaluated) (m : Option Spot) (k : List Frame) (t : Token) (r : List Token) (b : Bool) → takes_lines k ≡ true → EvalEnds b t.what
    → run modules r (after_end (closed_evaluated y (frames.Payload m b ∷ k)) t.what) ≡ run modules (t ∷ r) (closed_evaluated y (frames.Payload m b ∷ k))
evaluated-ends modules y m k t r b takes ends = quoted-ends modules y m k (place t) t.what r b takes ends

-- a payload that begins with an operand, where no module is read before it
payload-operand : (modules : Modules) (m : Option Spot) (b : Bool) (k : List Frame) (p : Place) (kind : TokenKind) → Start kind
    → (m ≡ None → b ≡ false → names_module modules kind ≡ false)
    → payload modules (frames.Payload m b ∷ k) p kind ≡ operand (frames.Hole purposes.Value ∷ frames.Payload m b ∷ k) p kind
payload-operand modules None false k p _ (a_name x) fine = rw (fine refl refl) refl
payload-operand modules None true k p _ (a_name x) fine = refl
payload-operand modules (Some m) b k p _ (a_name x) fine = refl
payload-operand modules m b k p _ (integer n) fine = refl
payload-operand modules m b k p _ (text s) fine = refl
payload-operand modules m b k p _ yes_ fine = refl
payload-operand modules m b k p _ no_ fine = refl
payload-operand modules m b k p _ nothing fine = refl
payload-operand modules m b k p _ minus fine = refl
payload-operand modules m b k p _ not_ fine = refl
payload-operand modules m b k p _ parenthesis fine = refl

pub from-payload-safe : (modules : Modules) (m : Option Spot) (b : Bool) (k : List Frame) (ts more : List Token) → (s : Starts ts)
    → (m ≡ None → b ≡ false → names_module modules s.first.what ≡ false)
    → run modules (ts ++ more) (at modes.Payload (frames.Payload m b ∷ k)) ≡ run modules (ts ++ more) (at modes.Want (frames.Hole purposes.Value ∷ frames.Payload m b ∷ k))
unfolding run step
from-payload-safe modules m b k ts more s fine =
    rw s.are (ap (run modules (s.rest ++ more)) (payload-operand modules m b k (place s.first) s.first.what s.start fine))

want-names : (modules : Modules) (k : List Frame) → TakesName modules (state modes.Want k) k
unfolding step
want-names modules k p x = refl

path-names : (modules : Modules) (k : List Frame) → TakesName modules (state modes.PathStart k) k
unfolding step
path-names modules k p x = refl

-- Where a module's name begins it, a token follows that reads the name.
both : (a b : Bool) → a && not b ≡ false → a ≡ true → b ≡ true
both true true h is = refl
both true false h is = cc
both false b h is = cc

reads-it : (p : Place) (kind : TokenKind) → is_dot kind || opens_directly (token p kind ∷ []) ≡ true → reads_name p kind ≡ true
reads-it p (kinds.Name x) h = h
reads-it p (kinds.Integer n) h = h
reads-it p (kinds.Str s) h = h
reads-it p (kinds.Reserved w) h = h
reads-it p (kinds.Sign s) h = h
reads-it p kinds.AtEval h = h
reads-it p kinds.Separator h = refl
reads-it p kinds.Eof h = refl

pub step-eval-name : (modules : Modules) (k : List Frame) (p : Place) (x : List ℕ) → is_module modules x ≡ true
    → step modules (state modes.Payload (frames.Payload None false ∷ k)) (name p x) ≡ at (modes.EvalName (spot p x)) (frames.Payload None false ∷ k)
unfolding step
step-eval-name modules k p x is = rw is refl

step-reads-name : (modules : Modules) (m : Spot) (k : List Frame) (p : Place) (kind : TokenKind) → reads_name p kind ≡ true
    → step modules (state (modes.EvalName m) k) (token p kind) ≡ step modules (state (modes.Have (heads.Name m)) (frames.Hole purposes.Value ∷ k)) (token p kind)
unfolding step
step-reads-name modules m k p kind is = rw is refl

step-want-name : (modules : Modules) (k : List Frame) (p : Place) (x : List ℕ) → step modules (state modes.Want k) (name p x) ≡ at (modes.Have (heads.Name (spot p x))) k
unfolding step
step-want-name modules k p x = refl

-- a short definition, from its name on
pub short-runs : {modules : Modules} {ts us vs : List Token} {f : Path} {params : List Param} {e : Node} → is_module modules (codes "Base") ≡ true → (p q : Place)
    → Callee modules ts f → p.blank ≡ false → Parameters modules us params → Reads modules levels.Conditional vs e
    → (k : List Frame) → takes_definition k ≡ true → (t : Token) (r : List Token) → Stops t.what
    → run modules ((ts ++ sign p signs.LeftParen ∷ (us ++ sign q signs.Assign ∷ vs)) ++ t ∷ r) (at modes.Want (frames.Hole purposes.Value ∷ k))
    ≡ run modules r (after_end (closed_method (short_method f params e) k) t.what)
short-runs {modules} {ts} {us} {vs} {f} {params} {e} base p q d blank ds body k takes t r st =
    let c = reads-callee base d (state modes.Want (frames.Hole purposes.Value ∷ k)) (frames.Hole purposes.Value ∷ k) (want-names modules (frames.Hole purposes.Value ∷ k)) refl in
    ap (λ w. run modules w (at modes.Want (frames.Hole purposes.Value ∷ k))) (append_assoc ts (sign p signs.LeftParen ∷ (us ++ sign q signs.Assign ∷ vs)) (t ∷ r))
    ∙ c.runs (sign p signs.LeftParen ∷ ((us ++ sign q signs.Assign ∷ vs) ++ t ∷ r))
    ∙ runs-step modules (sign p signs.LeftParen) ((us ++ sign q signs.Assign ∷ vs) ++ t ∷ r) _ _ (step-call modules (frames.Hole purposes.Value ∷ k) c.head f p c.path blank refl)
    ∙ ap (λ w. run modules w (at modes.Arguments (frames.Call f (given.Paths []) ∷ frames.Hole purposes.Value ∷ k))) (append_assoc us (sign q signs.Assign ∷ vs) (t ∷ r))
    ∙ head-params ds f [] [] k refl takes q (vs ++ t ∷ r)
    ∙ hole-runs base body (purposes.Short f params) k refl t r st

step-long : (modules : Modules) (k : List Frame) (h : Head) (f : Path) (p : Place) → head_path h ≡ Some f → p.blank ≡ false
    → step modules (state (modes.Have h) (frames.FunctionName ∷ k)) (sign p signs.LeftParen) ≡ at modes.Params (frames.Signature forms.Long f [] ∷ k)
unfolding step
step-long modules k h f p path blank = rw blank (rw path refl)

-- a long definition, behind `function`, before its statements
pub long-runs : {modules : Modules} {ts us : List Token} {f : Path} {params : List Param} → is_module modules (codes "Base") ≡ true → (q : Place)
    → Callee modules ts f → q.blank ≡ false → Parameters modules us params → (k : List Frame) (r : List Token)
    → run modules (ts ++ sign q signs.LeftParen ∷ (us ++ r)) (at modes.PathStart (frames.FunctionName ∷ k))
    ≡ run modules r (at modes.Line (frames.Block (openers.Function f params) no_lines ∷ k))
long-runs {modules} {ts} {us} {f} base q d blank ds k r =
    let c = reads-callee base d (state modes.PathStart (frames.FunctionName ∷ k)) (frames.FunctionName ∷ k) (path-names modules (frames.FunctionName ∷ k)) refl in
    c.runs (sign q signs.LeftParen ∷ (us ++ r))
    ∙ runs-step modules (sign q signs.LeftParen) (us ++ r) _ _ (step-long modules k c.head f q c.path blank)
    ∙ params-run ds forms.Long f [] k r

payload-named : (modules : Modules) (k : List Frame) (p : Place) (x : List ℕ) (rest : List Token) (u : Token) (r : List Token) (b : Bool) → is_module modules x ≡ b
    → begins_with_module modules (name p x ∷ rest) ≡ false
    → run modules ((name p x ∷ rest) ++ u ∷ r) (at modes.Payload (frames.Payload None false ∷ k))
    ≡ run modules ((name p x ∷ rest) ++ u ∷ r) (at modes.Want (frames.Hole purposes.Value ∷ frames.Payload None false ∷ k))
payload-named modules k p x rest u r false is fine =
    from-payload-safe modules None false k (name p x ∷ rest) (u ∷ r) (record { first = name p x; rest = rest; are = refl; start = a_name x }) (λ a b. is)
payload-named modules k p x [] u r true is fine = absurd-of (sym fine ∙ is)
payload-named modules k p x (n ∷ rest) u r true is fine =
    runs-step modules (name p x) (n ∷ (rest ++ u ∷ r)) _ _ (step-eval-name modules k p x is)
    ∙ runs-step modules n (rest ++ u ∷ r) _ _ (step-reads-name modules (spot p x) (frames.Payload None false ∷ k) (place n) n.what (reads-it (place n) n.what (both (is_module modules x) _ fine is)))
    ∙ sym (runs-step modules n (rest ++ u ∷ r) (state (modes.Have (heads.Name (spot p x))) (frames.Hole purposes.Value ∷ frames.Payload None false ∷ k)) _ refl)
    ∙ sym (runs-step modules (name p x) (n ∷ (rest ++ u ∷ r)) _ _ (step-want-name modules (frames.Hole purposes.Value ∷ frames.Payload None false ∷ k) p x))

payload-first : (modules : Modules) (k : List Frame) (p : Place) (kind : TokenKind) → Start kind → (rest : List Token) (u : Token) (r : List Token)
    → begins_with_module modules (token p kind ∷ rest) ≡ false
    → run modules ((token p kind ∷ rest) ++ u ∷ r) (at modes.Payload (frames.Payload None false ∷ k))
    ≡ run modules ((token p kind ∷ rest) ++ u ∷ r) (at modes.Want (frames.Hole purposes.Value ∷ frames.Payload None false ∷ k))
payload-first modules k p _ (a_name x) rest u r fine = payload-named modules k p x rest u r (is_module modules x) refl fine
payload-first modules k p _ (integer n) rest u r fine = from-payload-safe modules None false k (_ ∷ rest) (u ∷ r) (record { first = token p (kinds.Integer n); rest = rest; are = refl; start = integer n }) (λ a b. refl)
payload-first modules k p _ (text s) rest u r fine = from-payload-safe modules None false k (_ ∷ rest) (u ∷ r) (record { first = token p (kinds.Str s); rest = rest; are = refl; start = text s }) (λ a b. refl)
payload-first modules k p _ yes_ rest u r fine = from-payload-safe modules None false k (_ ∷ rest) (u ∷ r) (record { first = word p words.True; rest = rest; are = refl; start = yes_ }) (λ a b. refl)
payload-first modules k p _ no_ rest u r fine = from-payload-safe modules None false k (_ ∷ rest) (u ∷ r) (record { first = word p words.False; rest = rest; are = refl; start = no_ }) (λ a b. refl)
payload-first modules k p _ nothing rest u r fine = from-payload-safe modules None false k (_ ∷ rest) (u ∷ r) (record { first = word p words.Nothing; rest = rest; are = refl; start = nothing }) (λ a b. refl)
payload-first modules k p _ minus rest u r fine = from-payload-safe modules None false k (_ ∷ rest) (u ∷ r) (record { first = sign p signs.Minus; rest = rest; are = refl; start = minus }) (λ a b. refl)
payload-first modules k p _ not_ rest u r fine = from-payload-safe modules None false k (_ ∷ rest) (u ∷ r) (record { first = sign p signs.Not; rest = rest; are = refl; start = not_ }) (λ a b. refl)
payload-first modules k p _ parenthesis rest u r fine = from-payload-safe modules None false k (_ ∷ rest) (u ∷ r) (record { first = sign p signs.LeftParen; rest = rest; are = refl; start = parenthesis }) (λ a b. refl)

-- a payload without a module that begins with an operand
pub from-payload : (modules : Modules) (k : List Frame) (ts : List Token) (u : Token) (r : List Token) → Starts ts → begins_with_module modules ts ≡ false
    → run modules (ts ++ u ∷ r) (at modes.Payload (frames.Payload None false ∷ k))
    ≡ run modules (ts ++ u ∷ r) (at modes.Want (frames.Hole purposes.Value ∷ frames.Payload None false ∷ k))
from-payload modules k ts u r s fine =
    rw s.are (payload-first modules k (place s.first) s.first.what s.start s.rest u r (ap (begins_with_module modules) (sym s.are) ∙ fine))
