-- Where statements, items and blocks end, the frames stay well stacked and the need doesn't fall.
use Rattle.std.proofs.Common.{◌≡◌, ◌≤◌, ◌+◌, arith, max, ℕ, true, false, List, [], ◌∷◌, Option, Some, None, refl}
use Rattle.pj_words.specs.declared.word.Word.TheVariants as words
use Rattle.pj_lex.specs.declared.sign.Sign.{Sign}
use Rattle.pj_lex.specs.declared.sign.Sign.TheVariants as signs
use Rattle.pj_lex.specs.declared.token.TokenKind.{TokenKind}
use Rattle.pj_lex.specs.declared.token.TokenKind.TheVariants as kinds
use Rattle.pj_grammar.specs.declared.level.Operator.{Operator}
use Rattle.pj_grammar.specs.declared.node.Node.{Node}
use Rattle.pj_grammar.specs.declared.node.Line.{Line}
use Rattle.pj_grammar.specs.declared.node.Lines.{Lines}
use Rattle.pj_grammar.specs.declared.frame.Frame.{Frame}
use Rattle.pj_grammar.specs.declared.frame.Frame.TheVariants as frames
use Rattle.pj_grammar.specs.declared.frame.Opener.{Opener}
use Rattle.pj_grammar.specs.declared.frame.Opener.TheVariants as openers
use Rattle.pj_grammar.specs.declared.frame.Root.TheVariants as roots
use Rattle.pj_grammar.specs.declared.frame.Target.{Target}
use Rattle.pj_grammar.specs.declared.frame.Target.TheVariants as targets
use Rattle.pj_grammar.specs.declared.mode.Mode.{Mode}
use Rattle.pj_grammar.specs.declared.mode.Mode.TheVariants as modes
use Rattle.pj_grammar.specs.Closing.{after_end, after_end_at, after_line, close_block, closed_entry, closed_evaluated, closed_line, closed_method, closed_set, closed_value, ending, open_else, open_else_if}
use Rattle.pj_grammar.specs.Frames.{State, takes_items, takes_lines}
use Rattle.pj_grammar.specs.Makers.{Entry, Evaluated, Method, assign_of, entry_after, eval_of, field_of, for_of, if_of, infix_height, infix_of, line_after, line_before, method_defined, method_evaluated, method_of, name_of, no_lines, one_line, run_of, set_evaluated, value_evaluated, value_of, while_of}
use Rattle.pj_grammar.specs.Need.{Depth, assign_depth, depth, mode_nesting, need, need_at, opener_depth}
use Rattle.pj_grammar.proofs.Levels.{absurd-of}
use Rattle.pj_grammar.proofs.Stacks.{AssignOver, Good, Rise, Stack}

-- one statement more
line-below : (n : ℕ) (o : Opener) (ss : Lines) (s : Line) (d : Depth) → n ≤ need_at s.nesting (opener_depth o ss.nesting d)
    → n ≤ need_at 0 (opener_depth o (line_after ss s).nesting d)
unfolding line_after
line-below n (openers.If c) ss s d h = grind arith
line-below n (openers.Else c b) ss s d h = grind arith
line-below n (openers.While c) ss s d h = grind arith
line-below n (openers.For x a b) ss s d h = grind arith
line-below n (openers.Function f ps) ss s d h = grind arith

pub line-rises : (n : ℕ) (s : Line) (k : List Frame) → Stack k → n ≤ need_at s.nesting (depth k) → Rise n (closed_line s k)
unfolding closed_line depth need if_of line_before no_lines entry_after run_of
line-rises n s [] st h = tt
line-rises n s (frames.Block o ss ∷ k) st h = record { stack = st; good = refl; rises = line-below n o ss s (depth k) h }
line-rises n s (frames.Branch c ss ∷ k) st h = line-rises n (if_of c ss (one_line s)) k st.1 (grind arith)
line-rises n s (frames.Items root is ∷ k) st h = record { stack = st; good = refl; rises = grind arith }
line-rises n s (f ∷ k) st h = tt

-- nothing stands above the items of a text
pub flat : (k : List Frame) → takes_items k ≡ true → Stack k → (depth k).above ≡ 0
unfolding depth
flat (frames.Items root is ∷ []) h st = grind arith
flat (frames.Items root is ∷ f ∷ k) h st = absurd-of st.0
flat k h st = absurd-of h

pub entry-rises : (n m : ℕ) (i : Entry) (k : List Frame) → Stack k → m ≤ max 8 i.nesting → n ≤ need_at m (depth k) → Rise n (closed_entry i k)
unfolding depth need entry_after
entry-rises n m i (frames.Items root is ∷ []) st few h = record { stack = st; good = refl; rises = grind arith }
entry-rises n m i (frames.Items root is ∷ f ∷ k) st few h = absurd-of st.0
entry-rises n m i k st few h = tt

pub evaluated-rises : (n : ℕ) (y : Evaluated) (k : List Frame) → Stack k → n ≤ need_at y.nesting (depth k) → Rise n (closed_evaluated y k)
unfolding depth need eval_of
evaluated-rises n y (frames.Payload m false ∷ k) st h = line-rises n (eval_of m y) k st.1 (grind arith)
evaluated-rises n y (frames.Payload m true ∷ k) st h = record { stack = st.1; good = st.0; rises = grind arith }
evaluated-rises n y k st h = tt

pub method-rises : (n : ℕ) (f : Method) (k : List Frame) → Stack k → n ≤ need_at f.nesting (depth k) → Rise n (closed_method f k)
unfolding method_evaluated method_defined
method-rises n f (frames.Payload m quoted ∷ k) st h = evaluated-rises n (method_evaluated f) (frames.Payload m quoted ∷ k) st h
method-rises n f k st h = entry-rises n f.nesting (method_defined f) k st (grind arith) h

pub value-rises : (n : ℕ) (e : Node) (k : List Frame) → Stack k → n ≤ need_at (1 + e.nesting) (depth k) → Rise n (closed_value e k)
unfolding value_evaluated value_of
value-rises n e (frames.Payload m quoted ∷ k) st h = evaluated-rises n (value_evaluated e) (frames.Payload m quoted ∷ k) st h
value-rises n e k st h = line-rises n (value_of e) k st h

positive : (s : Sign) → 1 ≤ infix_height s
positive signs.NotSame = grind arith
positive s = grind arith

pub assign-below : (n : ℕ) (target : Target) (o : Option Operator) (e : Node) (d : Depth) → n ≤ need_at e.nesting (assign_depth target o d)
    → n ≤ need_at (assign_of target o e).nesting d
unfolding assign_of field_of name_of infix_of
assign-below n (targets.Local x) None e d h = grind arith
assign-below n (targets.Local x) (Some o) e d h = let p : 1 ≤ infix_height o.sign = positive o.sign in grind arith
assign-below n (targets.Field a x) None e d h = grind arith
assign-below n (targets.Field a x) (Some o) e d h = let p : 1 ≤ infix_height o.sign = positive o.sign in grind arith
assign-below n (targets.Global p' x) None e d h = grind arith
assign-below n (targets.Global p' x) (Some o) e d h = let p : 1 ≤ infix_height o.sign = positive o.sign in grind arith

pub set-rises : (n : ℕ) (target : Target) (o : Option Operator) (e : Node) (k : List Frame) → Stack k → AssignOver target o k
    → n ≤ need_at e.nesting (assign_depth target o (depth k)) → Rise n (closed_set target o e k)
unfolding set_evaluated
set-rises n (targets.Local x) None e (frames.Payload m quoted ∷ k) st over h =
    evaluated-rises n (set_evaluated x e) (frames.Payload m quoted ∷ k) st (grind arith)
set-rises n (targets.Local x) (Some o) e (frames.Payload m quoted ∷ k) st over h = absurd-of over.0
set-rises n target o e k st over h = line-rises n (assign_of target o e) k st (assign-below n target o e (depth k) h)

-- `end`
pub block-rises : (n : ℕ) (k : List Frame) → Stack k → n ≤ need_at 0 (depth k) → Rise n (close_block k)
unfolding depth need if_of while_of for_of method_of no_lines
block-rises n (frames.Block (openers.If c) ss ∷ k) st h = line-rises n (if_of c ss no_lines) k st.1 (grind arith)
block-rises n (frames.Block (openers.Else c b) ss ∷ k) st h = line-rises n (if_of c b ss) k st.1 (grind arith)
block-rises n (frames.Block (openers.While c) ss ∷ k) st h = line-rises n (while_of c ss) k st.1 (grind arith)
block-rises n (frames.Block (openers.For x a b) ss ∷ k) st h = line-rises n (for_of x a b ss) k st.1 (grind arith)
block-rises n (frames.Block (openers.Function f ps) ss ∷ k) st h = method-rises n (method_of f ps ss) k st.1 (grind arith)
block-rises n (frames.Items (roots.Package x uses) is ∷ k) st h = record { stack = st; good = refl; rises = grind arith }
block-rises n k st h = tt

else-rises : (n : ℕ) (k : List Frame) → Stack k → n ≤ need_at 0 (depth k) → Rise n (open_else k)
unfolding depth need no_lines
else-rises n (frames.Block (openers.If c) ss ∷ k) st h = record { stack = st; good = refl; rises = grind arith }
else-rises n k st h = tt

else-if-rises : (n : ℕ) (k : List Frame) → Stack k → n ≤ need_at 0 (depth k) → Rise n (open_else_if k)
unfolding depth need
else-if-rises n (frames.Block (openers.If c) ss ∷ k) st h = record { stack = (refl, st); good = refl; rises = grind arith }
else-if-rises n k st h = tt

accept-rises : (n : ℕ) (k : List Frame) → Stack k → n ≤ need_at 0 (depth k) → Rise n (ending k kinds.Eof)
unfolding need
accept-rises n (frames.Items roots.Script is ∷ k) st h = record { stack = st; good = refl; rises = h }
accept-rises n k st h = tt

pub ending-rises : (n : ℕ) (k : List Frame) (kind : TokenKind) → Stack k → n ≤ need_at 0 (depth k) → Rise n (ending k kind)
ending-rises n k (kinds.Reserved words.End) st h = block-rises n k st h
ending-rises n k (kinds.Reserved words.Else) st h = else-rises n k st h
ending-rises n k (kinds.Reserved words.ElseIf) st h = else-if-rises n k st h
ending-rises n k kinds.Eof st h = accept-rises n k st h
ending-rises n k kind st h = tt

pub after-line-rises : (n : ℕ) (k : List Frame) (kind : TokenKind) → Stack k → takes_lines k ≡ true → n ≤ need_at 0 (depth k)
    → Rise n (after_line k kind)
unfolding need
after-line-rises n k kinds.Separator st takes h = record { stack = st; good = takes; rises = h }
after-line-rises n k kind st takes h = ending-rises n k kind st h

pub closes-rise : (n : ℕ) (mode : Mode) (k : List Frame) (kind : TokenKind) → Stack k → Good mode k → n ≤ need_at (mode_nesting mode k) (depth k)
    → Rise n (after_end_at mode k kind)
unfolding need
closes-rise n modes.Closed k kind st g h = after-line-rises n k kind st g h
closes-rise n (modes.PayloadEnd s) k (kinds.Sign signs.RightParen) st g h = record { stack = st; good = g; rises = h }
closes-rise n (modes.PayloadEnd s) k kind st g h = tt
closes-rise n mode k kind st g h = tt

pub after-end-rises : (n : ℕ) (s : Option State) (kind : TokenKind) → Rise n s → Rise n (after_end s kind)
unfolding need
after-end-rises n None kind r = tt
after-end-rises n (Some s) kind r = closes-rise n s.mode s.frames kind r.stack r.good r.rises
