-- The machine reads what `@eval` evaluates.
use Rattle.std.proofs.Common.{◌≡◌, ℕ, Bool, true, false, List, [], ◌∷◌, ◌++◌, Option, Some, None, codes, refl, sym, ap, ◌∙◌}
use Rattle.std.proofs.lemmas.List.{append_assoc}
use Rattle.pj_words.specs.declared.word.Word.TheVariants as words
use Rattle.pj_lex.specs.declared.sign.Sign.TheVariants as signs
use Rattle.pj_lex.specs.declared.token.Token.{Token}
use Rattle.pj_syntax.specs.declared.expression.Spot.{Spot}
use Rattle.pj_syntax.specs.declared.expression.Path.{Path}
use Rattle.pj_syntax.specs.declared.statement.Param.{Param}
use Rattle.pj_grammar.specs.declared.level.Level.TheVariants as levels
use Rattle.pj_grammar.specs.declared.node.Node.{Node}
use Rattle.pj_grammar.specs.declared.node.Lines.{Lines}
use Rattle.pj_grammar.specs.declared.frame.Frame.{Frame}
use Rattle.pj_grammar.specs.declared.frame.Frame.TheVariants as frames
use Rattle.pj_grammar.specs.declared.frame.Opener.TheVariants as openers
use Rattle.pj_grammar.specs.declared.frame.Purpose.TheVariants as purposes
use Rattle.pj_grammar.specs.declared.frame.Target.TheVariants as targets
use Rattle.pj_grammar.specs.declared.mode.Head.TheVariants as heads
use Rattle.pj_grammar.specs.declared.mode.Mode.TheVariants as modes
use Rattle.pj_grammar.specs.Closing.{closed_evaluated, closed_method}
use Rattle.pj_grammar.specs.Expressions.{Callee, Reads}
use Rattle.pj_grammar.specs.Frames.{at, takes_lines}
use Rattle.pj_grammar.specs.Machine.{run, step}
use Rattle.pj_grammar.specs.Makers.{Evaluated, method_evaluated, method_of, no_lines, set_evaluated, short_method, value_evaluated}
use Rattle.pj_grammar.specs.Modules.{Modules, is_module}
use Rattle.pj_grammar.specs.Statements.{Parameters, begins_with_module}
use Rattle.pj_grammar.specs.Tokens.{Place, name, sign, spot, word}
use Rattle.pj_grammar.proofs.Begin.{Starts, a_name, starts, starts-callee, starts-more}
use Rattle.pj_grammar.proofs.Blocks.{BlockRuns, by_end, none-joined}
use Rattle.pj_grammar.proofs.Evaluations.{EvalEnds, eval-stops, evaluated-ends, from-payload, from-payload-safe, long-runs, short-runs}
use Rattle.pj_grammar.proofs.Holes.{hole-runs}
use Rattle.pj_grammar.proofs.Levels.{absurd-of}
use Rattle.pj_grammar.proofs.Reading.{runs-step, state}

-- the machine reads what is evaluated
abbrev pub PayloadRuns : Modules → List Token → Evaluated → Type 0
PayloadRuns modules ts y = (m : Option Spot) (b : Bool) (k : List Frame) → takes_lines k ≡ true → (m ≡ None → b ≡ false → begins_with_module modules ts ≡ false)
    → (t : Token) (r : List Token) → EvalEnds b t.what
    → run modules (ts ++ t ∷ r) (at modes.Payload (frames.Payload m b ∷ k)) ≡ run modules (t ∷ r) (closed_evaluated y (frames.Payload m b ∷ k))

from-any : (modules : Modules) (m : Option Spot) (b : Bool) (k : List Frame) (ts : List Token) (u : Token) (r : List Token) → Starts ts
    → (m ≡ None → b ≡ false → begins_with_module modules ts ≡ false)
    → run modules (ts ++ u ∷ r) (at modes.Payload (frames.Payload m b ∷ k)) ≡ run modules (ts ++ u ∷ r) (at modes.Want (frames.Hole purposes.Value ∷ frames.Payload m b ∷ k))
from-any modules None false k ts u r s fine = from-payload modules k ts u r s (fine refl refl)
from-any modules None true k ts u r s fine = from-payload-safe modules None true k ts (u ∷ r) s (λ a b. absurd-of (sym b))
from-any modules (Some m) b k ts u r s fine = from-payload-safe modules (Some m) b k ts (u ∷ r) s (λ a c. is-some m a)
  where
    is-some : {A : Type 0} (m : Spot) → Some m ≡ None → A
    is-some m h = cc

pub only-runs : {modules : Modules} {ts : List Token} {e : Node} → is_module modules (codes "Base") ≡ true → Reads modules levels.Conditional ts e
    → PayloadRuns modules ts (value_evaluated e)
only-runs {modules} {ts} base d m b k takes fine t r ends =
    from-any modules m b k ts t r (starts d) fine
    ∙ hole-runs base d purposes.Value (frames.Payload m b ∷ k) refl t r (eval-stops b t.what ends)
    ∙ evaluated-ends modules _ m k t r b takes ends

step-payload-name : (modules : Modules) (k : List Frame) (p : Place) (x : List ℕ) → step modules (state modes.Want k) (name p x) ≡ at (modes.Have (heads.Name (spot p x))) k
unfolding step
step-payload-name modules k p x = refl

step-payload-assign : (modules : Modules) (x : Spot) (m : Option Spot) (b : Bool) (k : List Frame) (q : Place)
    → step modules (state (modes.Have (heads.Name x)) (frames.Hole purposes.Value ∷ frames.Payload m b ∷ k)) (sign q signs.Assign)
    ≡ at modes.Want (frames.Hole (purposes.Assign (targets.Local x) None) ∷ frames.Payload m b ∷ k)
unfolding step
step-payload-assign modules x m b k q = refl

pub set-runs : {modules : Modules} {ts : List Token} {e : Node} → is_module modules (codes "Base") ≡ true → (p q : Place) (x : List ℕ) → Reads modules levels.Conditional ts e
    → PayloadRuns modules (name p x ∷ sign q signs.Assign ∷ ts) (set_evaluated (spot p x) e)
set-runs {modules} {ts} base p q x d m b k takes fine t r ends =
    from-any modules m b k (name p x ∷ sign q signs.Assign ∷ ts) t r (record { first = name p x; rest = sign q signs.Assign ∷ ts; are = refl; start = a_name x }) fine
    ∙ runs-step modules (name p x) (sign q signs.Assign ∷ (ts ++ t ∷ r)) _ _ (step-payload-name modules (frames.Hole purposes.Value ∷ frames.Payload m b ∷ k) p x)
    ∙ runs-step modules (sign q signs.Assign) (ts ++ t ∷ r) _ _ (step-payload-assign modules (spot p x) m b k q)
    ∙ hole-runs base d (purposes.Assign (targets.Local (spot p x)) None) (frames.Payload m b ∷ k) refl t r (eval-stops b t.what ends)
    ∙ evaluated-ends modules _ m k t r b takes ends

pub short-payload-runs : {modules : Modules} {ts us vs : List Token} {f : Path} {params : List Param} {e : Node} → is_module modules (codes "Base") ≡ true → (p q : Place)
    → Callee modules ts f → p.blank ≡ false → Parameters modules us params → Reads modules levels.Conditional vs e
    → PayloadRuns modules (ts ++ sign p signs.LeftParen ∷ (us ++ sign q signs.Assign ∷ vs)) (method_evaluated (short_method f params e))
short-payload-runs {modules} {ts} {us} {vs} base p q d blank ds body m b k takes fine t r ends =
    from-any modules m b k (ts ++ sign p signs.LeftParen ∷ (us ++ sign q signs.Assign ∷ vs)) t r (starts-more _ (starts-callee d)) fine
    ∙ short-runs base p q d blank ds body (frames.Payload m b ∷ k) refl t r (eval-stops b t.what ends)
    ∙ evaluated-ends modules _ m k t r b takes ends

step-payload-function : (modules : Modules) (k : List Frame) (p : Place) → step modules (state modes.Payload k) (word p words.Function) ≡ at modes.PathStart (frames.FunctionName ∷ k)
unfolding step
step-payload-function modules k p = refl

pub long-payload-runs : {modules : Modules} {ts us : List Token} {f : Path} {params : List Param} (vs : List Token) (body : Lines) → is_module modules (codes "Base") ≡ true → (p q o : Place)
    → Callee modules ts f → q.blank ≡ false → Parameters modules us params → BlockRuns modules vs body
    → PayloadRuns modules (word p words.Function ∷ (ts ++ sign q signs.LeftParen ∷ (us ++ (vs ++ word o words.End ∷ [])))) (method_evaluated (method_of f params body))
long-payload-runs {modules} {ts} {us} {f} {params} vs body base p q o d blank ds block m b k takes fine t r ends =
    runs-step modules (word p words.Function) ((ts ++ sign q signs.LeftParen ∷ (us ++ (vs ++ word o words.End ∷ []))) ++ t ∷ r) _ _ (step-payload-function modules (frames.Payload m b ∷ k) p)
    ∙ ap (λ w. run modules w (at modes.PathStart (frames.FunctionName ∷ frames.Payload m b ∷ k)))
    (append_assoc ts (sign q signs.LeftParen ∷ (us ++ (vs ++ word o words.End ∷ []))) (t ∷ r)
    ∙ ap (λ w. ts ++ sign q signs.LeftParen ∷ w) (append_assoc us (vs ++ word o words.End ∷ []) (t ∷ r) ∙ ap (λ w. us ++ w) (append_assoc vs (word o words.End ∷ []) (t ∷ r))))
    ∙ long-runs base q d blank ds (frames.Payload m b ∷ k) (vs ++ word o words.End ∷ t ∷ r)
    ∙ block (openers.Function f params) no_lines (frames.Payload m b ∷ k) (word o words.End) (t ∷ r) by_end
    ∙ ap (λ w. run modules (t ∷ r) (closed_method (method_of f params w) (frames.Payload m b ∷ k))) (none-joined body)
