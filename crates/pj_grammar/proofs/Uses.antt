-- The machine reads `using`, constants and declarations.
use Rattle.std.proofs.Common.{◌≡◌, ℕ, true, List, [], ◌∷◌, ◌++◌, codes, refl, ap, ◌∙◌}
use Rattle.std.proofs.lemmas.List.{append_assoc}
use Rattle.pj_words.specs.declared.word.Word.TheVariants as words
use Rattle.pj_lex.specs.declared.sign.Sign.TheVariants as signs
use Rattle.pj_lex.specs.declared.token.TokenKind.{TokenKind}
use Rattle.pj_lex.specs.declared.token.Token.{Token}
use Rattle.pj_syntax.specs.declared.expression.Spot.{Spot}
use Rattle.pj_grammar.specs.declared.level.Level.TheVariants as levels
use Rattle.pj_grammar.specs.declared.node.Node.{Node}
use Rattle.pj_grammar.specs.declared.node.Entries.{Entries}
use Rattle.pj_grammar.specs.declared.frame.Frame.{Frame}
use Rattle.pj_grammar.specs.declared.frame.Frame.TheVariants as frames
use Rattle.pj_grammar.specs.declared.frame.Purpose.TheVariants as purposes
use Rattle.pj_grammar.specs.declared.frame.Root.{Root}
use Rattle.pj_grammar.specs.declared.frame.Root.TheVariants as roots
use Rattle.pj_grammar.specs.declared.mode.Head.TheVariants as heads
use Rattle.pj_grammar.specs.declared.mode.Mode.TheVariants as modes
use Rattle.pj_grammar.specs.Expressions.{Reads}
use Rattle.pj_grammar.specs.Frames.{at}
use Rattle.pj_grammar.specs.Machine.{run, step}
use Rattle.pj_grammar.specs.Makers.{const_of, declared, entry_after, using_of}
use Rattle.pj_grammar.specs.Modules.{Modules, is_module}
use Rattle.pj_grammar.specs.Texts.{Names, Separators, a_separator, also_name, no_separator, one_name}
use Rattle.pj_grammar.specs.Tokens.{Place, name, place, separator, sign, spot, token, word}
use Rattle.pj_grammar.proofs.Holes.{LineEnds, an_else_here, an_else_if_here, an_end_here, an_eof_here, a_separator_here, hole-runs, line-stops}
use Rattle.pj_grammar.proofs.Joining.{ItemRuns, entry-ends}
use Rattle.pj_grammar.proofs.Reading.{runs-step, state}

step-use : (modules : Modules) (xs : List Spot) (k : List Frame) (p : Place) (x : List ℕ)
    → step modules (state (modes.UsingName xs) k) (name p x) ≡ at (modes.UsingMore (xs ++ spot p x ∷ [])) k
unfolding step
step-use modules xs k p x = refl

step-use-comma : (modules : Modules) (xs : List Spot) (k : List Frame) (p : Place)
    → step modules (state (modes.UsingMore xs) k) (sign p signs.Comma) ≡ at (modes.UsingName xs) k
unfolding step
step-use-comma modules xs k p = refl

-- names behind `using`
pub names-run : {ts : List Token} {xs : List Spot} → Names ts xs → (modules : Modules) (before : List Spot) (k : List Frame) (r : List Token)
    → run modules (ts ++ r) (at (modes.UsingName before) k) ≡ run modules r (at (modes.UsingMore (before ++ xs)) k)
names-run (one_name p x) modules before k r = runs-step modules (name p x) r _ _ (step-use modules before k p x)
names-run (also_name {ts = ts} {xs = xs} p q x d) modules before k r =
    runs-step modules (name p x) (sign q signs.Comma ∷ (ts ++ r)) _ _ (step-use modules before k p x)
    ∙ runs-step modules (sign q signs.Comma) (ts ++ r) _ _ (step-use-comma modules (before ++ spot p x ∷ []) k q)
    ∙ names-run d modules (before ++ spot p x ∷ []) k r
    ∙ ap (λ ys. run modules r (at (modes.UsingMore ys) k)) (append_assoc before (spot p x ∷ []) xs)

step-using : (modules : Modules) (p : Place) (done : Entries) (k : List Frame)
    → step modules (state modes.Line (frames.Items roots.Script done ∷ k)) (word p words.Using) ≡ at (modes.UsingName []) (frames.Items roots.Script done ∷ k)
unfolding step
step-using modules p done k = refl

step-uses-end : (modules : Modules) (xs : List Spot) (done : Entries) (k : List Frame) (q : Place) (kind : TokenKind) → LineEnds kind
    → step modules (state (modes.UsingMore xs) (frames.Items roots.Script done ∷ k)) (token q kind) ≡ step modules (state modes.Closed (frames.Items roots.Script (entry_after done (using_of xs)) ∷ k)) (token q kind)
unfolding step
step-uses-end modules xs done k q _ a_separator_here = refl
step-uses-end modules xs done k q _ an_eof_here = refl
step-uses-end modules xs done k q _ an_end_here = refl
step-uses-end modules xs done k q _ an_else_here = refl
step-uses-end modules xs done k q _ an_else_if_here = refl

uses-end : (modules : Modules) (xs : List Spot) (done : Entries) (k : List Frame) (t : Token) (r : List Token) → LineEnds t.what
    → run modules (t ∷ r) (at (modes.UsingMore xs) (frames.Items roots.Script done ∷ k)) ≡ run modules (t ∷ r) (at modes.Closed (frames.Items roots.Script (entry_after done (using_of xs)) ∷ k))
unfolding run
uses-end modules xs done k t r ends = ap (run modules r) (step-uses-end modules xs done k (place t) t.what ends)

pub using-runs : {ts : List Token} {xs : List Spot} → Names ts xs → (modules : Modules) (p : Place) → ItemRuns modules roots.Script (word p words.Using ∷ ts) (using_of xs)
using-runs {ts} {xs} d modules p done k t r ends =
    runs-step modules (word p words.Using) (ts ++ t ∷ r) _ _ (step-using modules p done k)
    ∙ names-run d modules [] (frames.Items roots.Script done ∷ k) (t ∷ r)
    ∙ uses-end modules xs done k t r ends

-- constants
step-const : (modules : Modules) (root : Root) (p : Place) (done : Entries) (k : List Frame)
    → step modules (state modes.Line (frames.Items root done ∷ k)) (word p words.Const) ≡ at modes.ConstName (frames.Items root done ∷ k)
unfolding step
step-const modules root p done k = refl

step-const-name : (modules : Modules) (q : Place) (x : List ℕ) (k : List Frame) → step modules (state modes.ConstName k) (name q x) ≡ at (modes.ConstAssign (spot q x)) k
unfolding step
step-const-name modules q x k = refl

step-const-assign : (modules : Modules) (x : Spot) (q : Place) (k : List Frame)
    → step modules (state (modes.ConstAssign x) k) (sign q signs.Assign) ≡ at modes.Want (frames.Hole (purposes.Const x) ∷ k)
unfolding step
step-const-assign modules x q k = refl

pub const-runs : {modules : Modules} {ts : List Token} {e : Node} → is_module modules (codes "Base") ≡ true → (root : Root) (p q c : Place) (x : List ℕ) → Reads modules levels.Conditional ts e
    → ItemRuns modules root (word p words.Const ∷ name q x ∷ sign c signs.Assign ∷ ts) (const_of (spot q x) e)
const-runs {modules} {ts} {e} base root p q c x d done k t r ends =
    runs-step modules (word p words.Const) (name q x ∷ sign c signs.Assign ∷ (ts ++ t ∷ r)) _ _ (step-const modules root p done k)
    ∙ runs-step modules (name q x) (sign c signs.Assign ∷ (ts ++ t ∷ r)) _ _ (step-const-name modules q x (frames.Items root done ∷ k))
    ∙ runs-step modules (sign c signs.Assign) (ts ++ t ∷ r) _ _ (step-const-assign modules (spot q x) c (frames.Items root done ∷ k))
    ∙ hole-runs base d (purposes.Const (spot q x)) (frames.Items root done ∷ k) refl t r (line-stops t.what ends)
    ∙ entry-ends modules root (const_of (spot q x) e) done k t r

-- declarations
pub step-function : (modules : Modules) (root : Root) (p : Place) (done : Entries) (k : List Frame)
    → step modules (state modes.Line (frames.Items root done ∷ k)) (word p words.Function) ≡ at modes.PathStart (frames.FunctionName ∷ frames.Items root done ∷ k)
unfolding step
step-function modules root p done k = refl

step-function-name : (modules : Modules) (q : Place) (x : List ℕ) (k : List Frame)
    → step modules (state modes.PathStart k) (name q x) ≡ at (modes.Have (heads.Name (spot q x))) k
unfolding step
step-function-name modules q x k = refl

step-declared-here : (modules : Modules) (root : Root) (x : Spot) (p : Place) (done : Entries) (k : List Frame)
    → step modules (state (modes.Have (heads.Name x)) (frames.FunctionName ∷ frames.Items root done ∷ k)) (word p words.End) ≡ at modes.Closed (frames.Items root (entry_after done (declared x)) ∷ k)
unfolding step
step-declared-here modules root x p done k = refl

step-declared-later : (modules : Modules) (root : Root) (x : Spot) (p : Place) (done : Entries) (k : List Frame)
    → step modules (state (modes.Have (heads.Name x)) (frames.FunctionName ∷ frames.Items root done ∷ k)) (separator p) ≡ at (modes.Declared x) (frames.Items root done ∷ k)
unfolding step
step-declared-later modules root x p done k = refl

step-declared-more : (modules : Modules) (x : Spot) (p : Place) (k : List Frame) → step modules (state (modes.Declared x) k) (separator p) ≡ at (modes.Declared x) k
unfolding step
step-declared-more modules x p k = refl

step-declared-end : (modules : Modules) (root : Root) (x : Spot) (p : Place) (done : Entries) (k : List Frame)
    → step modules (state (modes.Declared x) (frames.Items root done ∷ k)) (word p words.End) ≡ at modes.Closed (frames.Items root (entry_after done (declared x)) ∷ k)
unfolding step
step-declared-end modules root x p done k = refl

later-runs : {ts : List Token} → Separators ts → (modules : Modules) (root : Root) (x : Spot) (p : Place) (done : Entries) (k : List Frame) (r : List Token)
    → run modules (ts ++ word p words.End ∷ r) (at (modes.Declared x) (frames.Items root done ∷ k)) ≡ run modules r (at modes.Closed (frames.Items root (entry_after done (declared x)) ∷ k))
later-runs no_separator modules root x p done k r = runs-step modules (word p words.End) r _ _ (step-declared-end modules root x p done k)
later-runs (a_separator {ts = ts} q d) modules root x p done k r =
    runs-step modules (separator q) (ts ++ word p words.End ∷ r) _ _ (step-declared-more modules x q (frames.Items root done ∷ k))
    ∙ later-runs d modules root x p done k r

named-runs : {ts : List Token} → Separators ts → (modules : Modules) (root : Root) (x : Spot) (p : Place) (done : Entries) (k : List Frame) (r : List Token)
    → run modules (ts ++ word p words.End ∷ r) (at (modes.Have (heads.Name x)) (frames.FunctionName ∷ frames.Items root done ∷ k)) ≡ run modules r (at modes.Closed (frames.Items root (entry_after done (declared x)) ∷ k))
named-runs no_separator modules root x p done k r = runs-step modules (word p words.End) r _ _ (step-declared-here modules root x p done k)
named-runs (a_separator {ts = ts} q d) modules root x p done k r =
    runs-step modules (separator q) (ts ++ word p words.End ∷ r) _ _ (step-declared-later modules root x q done k)
    ∙ later-runs d modules root x p done k r

pub declaration-runs : {ts : List Token} → Separators ts → (modules : Modules) (root : Root) (p q c : Place) (x : List ℕ)
    → ItemRuns modules root (word p words.Function ∷ name q x ∷ (ts ++ word c words.End ∷ [])) (declared (spot q x))
declaration-runs {ts} d modules root p q c x done k t r ends =
    runs-step modules (word p words.Function) (name q x ∷ ((ts ++ word c words.End ∷ []) ++ t ∷ r)) _ _ (step-function modules root p done k)
    ∙ runs-step modules (name q x) ((ts ++ word c words.End ∷ []) ++ t ∷ r) _ _ (step-function-name modules q x (frames.FunctionName ∷ frames.Items root done ∷ k))
    ∙ ap (λ w. run modules w (at (modes.Have (heads.Name (spot q x))) (frames.FunctionName ∷ frames.Items root done ∷ k))) (append_assoc ts (word c words.End ∷ []) (t ∷ r))
    ∙ named-runs d modules root (spot q x) c done k (t ∷ r)
