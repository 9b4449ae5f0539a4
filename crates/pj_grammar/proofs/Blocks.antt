-- The machine reads statements and blocks.
use Rattle.std.proofs.Common.{◌≡◌, arith, ℕ, max, true, List, [], ◌∷◌, ◌++◌, codes, refl, sym, ap, ◌∙◌}
use Rattle.std.proofs.lemmas.List.{append_assoc, append-nil}
use Rattle.std.proofs.Math.Nat.{max-zero, zero-max}
use Rattle.pj_words.specs.declared.word.Word.TheVariants as words
use Rattle.pj_lex.specs.declared.sign.Sign.TheVariants as signs
use Rattle.pj_lex.specs.declared.token.TokenKind.{TokenKind}
use Rattle.pj_lex.specs.declared.token.TokenKind.TheVariants as kinds
use Rattle.pj_lex.specs.declared.token.Token.{Token}
use Rattle.pj_syntax.specs.declared.expression.Spot.{Spot}
use Rattle.pj_syntax.specs.declared.statement.Stmt.{Stmt}
use Rattle.pj_grammar.specs.declared.level.Level.TheVariants as levels
use Rattle.pj_grammar.specs.declared.node.Node.{Node}
use Rattle.pj_grammar.specs.declared.node.Line.{Line}
use Rattle.pj_grammar.specs.declared.node.Lines.{Lines}
use Rattle.pj_grammar.specs.declared.frame.Frame.{Frame}
use Rattle.pj_grammar.specs.declared.frame.Frame.TheVariants as frames
use Rattle.pj_grammar.specs.declared.frame.Opener.{Opener}
use Rattle.pj_grammar.specs.declared.frame.Opener.TheVariants as openers
use Rattle.pj_grammar.specs.declared.frame.Purpose.TheVariants as purposes
use Rattle.pj_grammar.specs.declared.mode.Mode.TheVariants as modes
use Rattle.pj_grammar.specs.Closing.{closed_line, ending}
use Rattle.pj_grammar.specs.Frames.{at, takes_lines}
use Rattle.pj_grammar.specs.Machine.{run, step}
use Rattle.pj_grammar.specs.Makers.{for_of, if_of, line_after, line_before, no_lines, one_line, while_of}
use Rattle.pj_grammar.specs.Modules.{Modules, is_module}
use Rattle.pj_grammar.specs.Statements.{begins_bounds}
use Rattle.pj_grammar.specs.Tokens.{Place, name, place, separator, sign, spot, token, word}
use Rattle.pj_grammar.specs.Expressions.{Reads}
use Rattle.pj_grammar.proofs.Holes.{LineEnds, a_colon, a_separator, a_separator_here, an_else_here, an_else_if_here, an_end_here, hole-runs}
use Rattle.pj_grammar.proofs.Reading.{runs-step, state}

abbrev lines : List Stmt → ℕ → Lines
lines trees nesting = record { trees = trees; nesting = nesting }

same : {a b : List Stmt} {n m : ℕ} → a ≡ b → n ≡ m → lines a n ≡ lines b m
same p q = cc

max-assoc : (a b c : ℕ) → max (max a b) c ≡ max a (max b c)
max-assoc a b c = grind arith

abbrev pub joined : Lines → Lines → Lines
joined a b = lines (a.trees ++ b.trees) (max a.nesting b.nesting)

pub joined-none : (a : Lines) → joined a no_lines ≡ a
unfolding no_lines
joined-none a = same (append-nil a.trees) (max-zero a.nesting)

pub none-joined : (a : Lines) → joined no_lines a ≡ a
unfolding no_lines
none-joined a = same refl (zero-max a.nesting)

pub joined-after : (a b : Lines) (s : Line) → joined (line_after a s) b ≡ joined a (line_before s b)
unfolding line_after line_before
joined-after a b s = same (append_assoc a.trees _ b.trees) (max-assoc a.nesting s.nesting b.nesting)

pub joined-one : (a : Lines) (s : Line) → joined a (one_line s) ≡ line_after a s
joined-one a s = sym (joined-after a no_lines s) ∙ joined-none (line_after a s)

-- what ends the statements of a block
pub data BlockEnds : TokenKind → Type 0 where
  by_end : BlockEnds (kinds.Reserved words.End)
  by_else : BlockEnds (kinds.Reserved words.Else)
  by_else_if : BlockEnds (kinds.Reserved words.ElseIf)

pub block-line-ends : (kind : TokenKind) → BlockEnds kind → LineEnds kind
block-line-ends _ by_end = an_end_here
block-line-ends _ by_else = an_else_here
block-line-ends _ by_else_if = an_else_if_here

pub step-line-end : (modules : Modules) (k : List Frame) (q : Place) (kind : TokenKind) → BlockEnds kind → step modules (state modes.Line k) (token q kind) ≡ ending k kind
unfolding step
step-line-end modules k q _ by_end = refl
step-line-end modules k q _ by_else = refl
step-line-end modules k q _ by_else_if = refl

pub step-closed-end : (modules : Modules) (k : List Frame) (q : Place) (kind : TokenKind) → BlockEnds kind → step modules (state modes.Closed k) (token q kind) ≡ ending k kind
unfolding step
step-closed-end modules k q _ by_end = refl
step-closed-end modules k q _ by_else = refl
step-closed-end modules k q _ by_else_if = refl

pub step-separator : (modules : Modules) (k : List Frame) (q : Place) → step modules (state modes.Line k) (separator q) ≡ at modes.Line k
unfolding step
step-separator modules k q = refl

pub step-closed-separator : (modules : Modules) (k : List Frame) (q : Place) → step modules (state modes.Closed k) (separator q) ≡ at modes.Line k
unfolding step
step-closed-separator modules k q = refl

pub block-closed : (o : Opener) (done : Lines) (k : List Frame) (s : Line) → closed_line s (frames.Block o done ∷ k) ≡ at modes.Closed (frames.Block o (line_after done s) ∷ k)
unfolding closed_line
block-closed o done k s = refl

-- the machine reads a statement, or the statements of a block
abbrev pub LineRuns : Modules → List Token → Line → Type 0
LineRuns modules ts s = (k : List Frame) → takes_lines k ≡ true → (t : Token) (r : List Token) → LineEnds t.what
    → run modules (ts ++ t ∷ r) (at modes.Line k) ≡ run modules (t ∷ r) (closed_line s k)

abbrev pub BlockRuns : Modules → List Token → Lines → Type 0
BlockRuns modules ts b = (o : Opener) (done : Lines) (k : List Frame) (t : Token) (r : List Token) → BlockEnds t.what
    → run modules (ts ++ t ∷ r) (at modes.Line (frames.Block o done ∷ k)) ≡ run modules r (ending (frames.Block o (joined done b) ∷ k) t.what)

pub no-lines-run : (modules : Modules) → BlockRuns modules [] no_lines
no-lines-run modules o done k t r ends =
    runs-step modules t r _ _ (step-line-end modules (frames.Block o done ∷ k) (place t) t.what ends)
    ∙ ap (λ b. run modules r (ending (frames.Block o b ∷ k) t.what)) (sym (joined-none done))

pub skip-runs : (modules : Modules) (ts : List Token) (b : Lines) (p : Place) → BlockRuns modules ts b → BlockRuns modules (separator p ∷ ts) b
skip-runs modules ts b p runs o done k t r ends =
    runs-step modules (separator p) (ts ++ t ∷ r) _ _ (step-separator modules (frames.Block o done ∷ k) p) ∙ runs o done k t r ends

pub last-line-runs : (modules : Modules) (ts : List Token) (s : Line) → LineRuns modules ts s → BlockRuns modules ts (one_line s)
last-line-runs modules ts s runs o done k t r ends =
    runs (frames.Block o done ∷ k) refl t r (block-line-ends t.what ends)
    ∙ ap (run modules (t ∷ r)) (block-closed o done k s)
    ∙ runs-step modules t r _ _ (step-closed-end modules (frames.Block o (line_after done s) ∷ k) (place t) t.what ends)
    ∙ ap (λ b. run modules r (ending (frames.Block o b ∷ k) t.what)) (sym (joined-one done s))

pub then-lines-run : (modules : Modules) (ts us : List Token) (s : Line) (b : Lines) (p : Place) → LineRuns modules ts s → BlockRuns modules us b
    → BlockRuns modules (ts ++ separator p ∷ us) (line_before s b)
then-lines-run modules ts us s b p line rest o done k t r ends =
    ap (λ w. run modules w (at modes.Line (frames.Block o done ∷ k))) (append_assoc ts (separator p ∷ us) (t ∷ r))
    ∙ line (frames.Block o done ∷ k) refl (separator p) (us ++ t ∷ r) a_separator_here
    ∙ ap (run modules (separator p ∷ (us ++ t ∷ r))) (block-closed o done k s)
    ∙ runs-step modules (separator p) (us ++ t ∷ r) _ _ (step-closed-separator modules (frames.Block o (line_after done s) ∷ k) p)
    ∙ rest o (line_after done s) k t r ends
    ∙ ap (λ c. run modules r (ending (frames.Block o c ∷ k) t.what)) (joined-after done b s)

-- the branches of an `if`
abbrev pub BranchesRun : Modules → List Token → Lines → Type 0
BranchesRun modules vs b = (us : List Token) (a : Lines) → BlockRuns modules us a → (c : Node) (done : Lines) (k : List Frame) (r : List Token)
    → run modules (us ++ (vs ++ r)) (at modes.Line (frames.Block (openers.If c) done ∷ k)) ≡ run modules r (closed_line (if_of c (joined done a) b) k)

pub end-runs : (modules : Modules) (p : Place) → BranchesRun modules (word p words.End ∷ []) no_lines
end-runs modules p us a runs c done k r = runs (openers.If c) done k (word p words.End) r by_end

pub else-runs : (modules : Modules) (us : List Token) (b : Lines) (p q : Place) → BlockRuns modules us b
    → BranchesRun modules (word p words.Else ∷ (us ++ word q words.End ∷ [])) b
else-runs modules vs b p q other us a runs c done k r =
    runs (openers.If c) done k (word p words.Else) ((vs ++ word q words.End ∷ []) ++ r) by_else
    ∙ ap (λ w. run modules w (at modes.Line (frames.Block (openers.Else c (joined done a)) no_lines ∷ k))) (append_assoc vs (word q words.End ∷ []) r)
    ∙ other (openers.Else c (joined done a)) no_lines k (word q words.End) r by_end
    ∙ ap (λ b. run modules r (closed_line (if_of c (joined done a) b) k)) (none-joined b)

branch-closes : (c : Node) (a : Lines) (k : List Frame) (s : Line) → closed_line s (frames.Branch c a ∷ k) ≡ closed_line (if_of c a (one_line s)) k
unfolding closed_line
branch-closes c a k s = refl

-- a condition, its separator and its branches
pub if-rest-runs : {modules : Modules} {ts : List Token} {e : Node} (us vs : List Token) (a b : Lines) (q : Place) → is_module modules (codes "Base") ≡ true → Reads modules levels.Conditional ts e
    → BlockRuns modules us a → BranchesRun modules vs b → (k : List Frame) (r : List Token)
    → run modules ((ts ++ separator q ∷ (us ++ vs)) ++ r) (at modes.Want (frames.Hole purposes.If ∷ k)) ≡ run modules r (closed_line (if_of e a b) k)
if-rest-runs {modules} {ts} {e} us vs a b q base d block rest k r =
    ap (λ w. run modules w (at modes.Want (frames.Hole purposes.If ∷ k))) (append_assoc ts (separator q ∷ (us ++ vs)) r)
    ∙ hole-runs base d purposes.If k refl (separator q) ((us ++ vs) ++ r) a_separator
    ∙ ap (λ w. run modules w (at modes.Line (frames.Block (openers.If e) no_lines ∷ k))) (append_assoc us vs r)
    ∙ rest us a block e no_lines k r
    ∙ ap (λ x. run modules r (closed_line (if_of e x b) k)) (none-joined a)

pub else-if-runs : {modules : Modules} {ts : List Token} {e : Node} (us vs : List Token) (a b : Lines) (p q : Place) → is_module modules (codes "Base") ≡ true → Reads modules levels.Conditional ts e
    → BlockRuns modules us a → BranchesRun modules vs b
    → BranchesRun modules (word p words.ElseIf ∷ (ts ++ separator q ∷ (us ++ vs))) (one_line (if_of e a b))
else-if-runs {modules} {ts} {e} us vs a b p q base d block rest before first runs c done k r =
    runs (openers.If c) done k (word p words.ElseIf) ((ts ++ separator q ∷ (us ++ vs)) ++ r) by_else_if
    ∙ if-rest-runs us vs a b q base d block rest (frames.Branch c (joined done first) ∷ k) r
    ∙ ap (run modules r) (branch-closes c (joined done first) k (if_of e a b))

step-if : (modules : Modules) (p : Place) (k : List Frame) → step modules (state modes.Line k) (word p words.If) ≡ at modes.Want (frames.Hole purposes.If ∷ k)
unfolding step
step-if modules p k = refl

step-while : (modules : Modules) (p : Place) (k : List Frame) → step modules (state modes.Line k) (word p words.While) ≡ at modes.Want (frames.Hole purposes.While ∷ k)
unfolding step
step-while modules p k = refl

pub if-runs : {modules : Modules} {ts : List Token} {e : Node} (us vs : List Token) (a b : Lines) (p q : Place) → is_module modules (codes "Base") ≡ true → Reads modules levels.Conditional ts e
    → BlockRuns modules us a → BranchesRun modules vs b → LineRuns modules (word p words.If ∷ (ts ++ separator q ∷ (us ++ vs))) (if_of e a b)
if-runs {modules} {ts} us vs a b p q base d block rest k takes t r ends =
    runs-step modules (word p words.If) ((ts ++ separator q ∷ (us ++ vs)) ++ t ∷ r) _ _ (step-if modules p k) ∙ if-rest-runs us vs a b q base d block rest k (t ∷ r)

pub while-runs : {modules : Modules} {ts : List Token} {e : Node} (us : List Token) (b : Lines) (p q o : Place) → is_module modules (codes "Base") ≡ true → Reads modules levels.Conditional ts e
    → BlockRuns modules us b → LineRuns modules (word p words.While ∷ (ts ++ separator q ∷ (us ++ word o words.End ∷ []))) (while_of e b)
while-runs {modules} {ts} {e} us b p q o base d block k takes t r ends =
    runs-step modules (word p words.While) ((ts ++ separator q ∷ (us ++ word o words.End ∷ [])) ++ t ∷ r) _ _ (step-while modules p k)
    ∙ ap (λ w. run modules w (at modes.Want (frames.Hole purposes.While ∷ k))) (append_assoc ts (separator q ∷ (us ++ word o words.End ∷ [])) (t ∷ r))
    ∙ hole-runs base d purposes.While k refl (separator q) ((us ++ word o words.End ∷ []) ++ t ∷ r) a_separator
    ∙ ap (λ w. run modules w (at modes.Line (frames.Block (openers.While e) no_lines ∷ k))) (append_assoc us (word o words.End ∷ []) (t ∷ r))
    ∙ block (openers.While e) no_lines k (word o words.End) (t ∷ r) by_end
    ∙ ap (λ x. run modules (t ∷ r) (closed_line (while_of e x) k)) (none-joined b)

step-for : (modules : Modules) (p : Place) (k : List Frame) → step modules (state modes.Line k) (word p words.For) ≡ at modes.LoopName k
unfolding step
step-for modules p k = refl

step-loop-name : (modules : Modules) (q : Place) (x : List ℕ) (k : List Frame) → step modules (state modes.LoopName k) (name q x) ≡ at (modes.LoopIn (spot q x)) k
unfolding step
step-loop-name modules q x k = refl

step-loop-in : (modules : Modules) (i : Token) (x : Spot) (k : List Frame) → begins_bounds i.what ≡ true
    → step modules (state (modes.LoopIn x) k) i ≡ at modes.Want (frames.Hole (purposes.From x) ∷ k)
unfolding step
step-loop-in modules i x k is = rw is refl

pub for-runs : {modules : Modules} {ts us : List Token} {a b : Node} (vs : List Token) (body : Lines) (p q c e o : Place) (i : Token) (x : List ℕ) → is_module modules (codes "Base") ≡ true
    → begins_bounds i.what ≡ true → Reads modules levels.Sum ts a → Reads modules levels.Sum us b → BlockRuns modules vs body
    → LineRuns modules (word p words.For ∷ name q x ∷ i ∷ (ts ++ sign c signs.Colon ∷ (us ++ separator e ∷ (vs ++ word o words.End ∷ [])))) (for_of (spot q x) a b body)
for-runs {modules} {ts} {us} {a} {b} vs body p q c e o i x base is from to block k takes t r ends =
    runs-step modules (word p words.For) (name q x ∷ i ∷ (whole ++ t ∷ r)) _ _ (step-for modules p k)
    ∙ runs-step modules (name q x) (i ∷ (whole ++ t ∷ r)) _ _ (step-loop-name modules q x k)
    ∙ runs-step modules i (whole ++ t ∷ r) _ _ (step-loop-in modules i (spot q x) k is)
    ∙ ap (λ w. run modules w (at modes.Want (frames.Hole (purposes.From (spot q x)) ∷ k))) (append_assoc ts (sign c signs.Colon ∷ (us ++ separator e ∷ (vs ++ word o words.End ∷ []))) (t ∷ r))
    ∙ hole-runs base from (purposes.From (spot q x)) k refl (sign c signs.Colon) ((us ++ separator e ∷ (vs ++ word o words.End ∷ [])) ++ t ∷ r) a_colon
    ∙ ap (λ w. run modules w (at modes.Want (frames.Hole (purposes.To (spot q x) a) ∷ k))) (append_assoc us (separator e ∷ (vs ++ word o words.End ∷ [])) (t ∷ r))
    ∙ hole-runs base to (purposes.To (spot q x) a) k refl (separator e) ((vs ++ word o words.End ∷ []) ++ t ∷ r) a_separator
    ∙ ap (λ w. run modules w (at modes.Line (frames.Block (openers.For (spot q x) a b) no_lines ∷ k))) (append_assoc vs (word o words.End ∷ []) (t ∷ r))
    ∙ block (openers.For (spot q x) a b) no_lines k (word o words.End) (t ∷ r) by_end
    ∙ ap (λ y. run modules (t ∷ r) (closed_line (for_of (spot q x) a b y) k)) (none-joined body)
  where
    whole : List Token
    whole = ts ++ sign c signs.Colon ∷ (us ++ separator e ∷ (vs ++ word o words.End ∷ []))
