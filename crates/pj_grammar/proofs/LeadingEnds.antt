-- Tokens that lead on to a text that is read: from where a statement, an item or an expression has ended.
-- `Leads n s`: from the state `s` tokens lead to a text that nests `n` deep at most. `Ends n f`: a token that ends an expression, and
-- may stand behind any, leads on so, where `f` is what the machine answers to it.
use Rattle.std.proofs.Common.{◌≡◌, ◌≤◌, ◌+◌, arith, ℕ, pos, Bool, true, false, List, [], ◌∷◌, Option, Some, None, refl, sym, subst}
use Rattle.pj_words.specs.declared.word.Word.TheVariants as words
use Rattle.pj_lex.specs.declared.sign.Sign.TheVariants as signs
use Rattle.pj_lex.specs.declared.token.Token.{Token}
use Rattle.pj_lex.specs.declared.token.TokenKind.{TokenKind}
use Rattle.pj_lex.specs.declared.token.TokenKind.TheVariants as kinds
use Rattle.pj_syntax.specs.declared.expression.Spot.{Spot}
use Rattle.pj_syntax.specs.declared.expression.Expr.TheVariants as trees
use Rattle.pj_grammar.specs.declared.level.Operator.{Operator}
use Rattle.pj_grammar.specs.declared.node.Node.{Node}
use Rattle.pj_grammar.specs.declared.node.Line.{Line}
use Rattle.pj_grammar.specs.declared.node.Entries.{Entries}
use Rattle.pj_grammar.specs.declared.frame.Frame.{Frame}
use Rattle.pj_grammar.specs.declared.frame.Frame.TheVariants as frames
use Rattle.pj_grammar.specs.declared.frame.Opener.TheVariants as openers
use Rattle.pj_grammar.specs.declared.frame.Purpose.{Purpose}
use Rattle.pj_grammar.specs.declared.frame.Purpose.TheVariants as purposes
use Rattle.pj_grammar.specs.declared.frame.Root.{Root}
use Rattle.pj_grammar.specs.declared.frame.Root.TheVariants as roots
use Rattle.pj_grammar.specs.declared.frame.Target.{Target}
use Rattle.pj_grammar.specs.declared.frame.Target.TheVariants as targets
use Rattle.pj_grammar.specs.declared.mode.Head.TheVariants as heads
use Rattle.pj_grammar.specs.declared.mode.Mode.{Mode}
use Rattle.pj_grammar.specs.declared.mode.Mode.TheVariants as modes
use Rattle.pj_grammar.specs.declared.mode.Parsed.{Parsed}
use Rattle.pj_grammar.specs.declared.mode.Parsed.TheVariants as parsed
use Rattle.pj_grammar.specs.Closing.{after_end, after_end_at, closed_entry, closed_evaluated, closed_line, closed_method, closed_set, closed_value}
use Rattle.pj_grammar.specs.Frames.{State, at, settle, takes_definition, takes_items, takes_lines}
use Rattle.pj_grammar.specs.Machine.{accepted, run, step, step_at}
use Rattle.pj_grammar.specs.Makers.{Entry, Evaluated, Method, assign_of, const_of, entry_after, eval_of, field_of, for_of, if_of, infix_height, infix_of, leaf, line_after, line_before, method_defined, method_evaluated, method_of, name_of, no_lines, one_line, return_of, run_of, set_evaluated, short_method, value_evaluated, value_of, while_of}
use Rattle.pj_grammar.specs.Modules.{Modules}
use Rattle.pj_grammar.specs.Need.{assign_depth, depth, need_at}
use Rattle.pj_grammar.specs.Operands.{after_purpose}
use Rattle.pj_grammar.specs.Theorems.{Leads}
use Rattle.pj_grammar.specs.Tokens.{Place, token}
use Rattle.pj_grammar.proofs.Holes.{Stops, a_close, a_colon, a_separator, an_end, an_eof}
use Rattle.pj_grammar.proofs.Levels.{absurd-of}
use Rattle.pj_grammar.proofs.Stacks.{AssignOver, Stack, lines-if, takes_if, takes_value}

pub record Ends (modules : Modules) (limit : ℕ) (f : TokenKind → Option State) : Type 0 where
  pub last : TokenKind
  pub stops : Stops last
  pub leads : Leads modules limit (f last)

-- where a token of these texts stands
abbrev pub here : Place
here = record { start = 0; end = 0; blank = false }

-- the integer that completes what wants an expression
abbrev pub zero_kind : TokenKind
zero_kind = kinds.Integer (pos 0)

abbrev pub zero_node : Node
zero_node = leaf 0 (trees.Int (pos 0))

-- one token more before
pub step-leads : {modules : Modules} {limit : ℕ} (mode : Mode) (k : List Frame) (kind : TokenKind) → Leads modules limit (step_at modules mode k here kind)
    → Leads modules limit (at mode k)
unfolding run step
step-leads mode k kind l = record { more = token here kind ∷ l.more; tree = l.tree; nesting = l.nesting; is = l.is; within = l.within }

run-none : (modules : Modules) (ts : List Token) → run modules ts None ≡ None
unfolding run
run-none modules [] = refl
run-none modules (t ∷ ts) = refl

no-read : {A : Type 0} {read : Parsed × ℕ} (r : Option State) → r ≡ None → accepted r ≡ Some read → A
no-read None e h = absurd-none h
  where
    absurd-none : {A : Type 0} {read : Parsed × ℕ} → None ≡ Some read → A
    absurd-none h = cc
no-read (Some s) e h = absurd-some e
  where
    absurd-some : {A : Type 0} → Some s ≡ None → A
    absurd-some h = cc

pub nowhere : {A : Type 0} {modules : Modules} {limit : ℕ} → Leads modules limit None → A
nowhere {modules} l = no-read (run modules l.more None) (run-none modules l.more) l.is

-- what has ended is looked at by the token behind it
after-at : {modules : Modules} {limit : ℕ} (mode : Mode) (k : List Frame) (kind : TokenKind) → Leads modules limit (after_end_at mode k kind)
    → Leads modules limit (at mode k)
after-at modes.Closed k kind l = step-leads modes.Closed k kind l
after-at (modes.PayloadEnd s) k (kinds.Sign signs.RightParen) l = step-leads (modes.PayloadEnd s) k (kinds.Sign signs.RightParen) l
after-at (modes.PayloadEnd s) k kind l = nowhere l
after-at mode k kind l = nowhere l

pub closed : {modules : Modules} {limit : ℕ} (s : Option State) → Ends modules limit (after_end s) → Leads modules limit s
closed None e = e.leads
closed (Some s) e = after-at s.mode s.frames e.last e.leads

-- The text ends.
pub items-end : (modules : Modules) (limit : ℕ) (root : Root) (is : Entries) → is.nesting ≤ limit
    → Ends modules limit (after_end (at modes.Closed (frames.Items root is ∷ [])))
unfolding run
items-end modules limit roots.Script is h = record {
  last = kinds.Eof;
  stops = an_eof;
  leads = record { more = []; tree = parsed.Script (record { items = is.trees }); nesting = is.nesting; is = refl; within = h };
}
items-end modules limit (roots.Package x uses) is h = record {
  last = kinds.Reserved words.End;
  stops = an_end;
  leads = step-leads modes.PackageEnd (frames.Items (roots.Package x uses) is ∷ []) kinds.Eof
      (record { more = []; tree = parsed.Package (record { name = x; uses = uses; items = is.trees }); nesting = is.nesting; is = refl; within = h });
}

pub entry-ends : (modules : Modules) (limit : ℕ) (i : Entry) (k : List Frame) → Stack k → takes_items k ≡ true → need_at i.nesting (depth k) ≤ limit
    → Ends modules limit (after_end (closed_entry i k))
unfolding depth entry_after
entry-ends modules limit i (frames.Items root is ∷ []) st takes h = items-end modules limit root (entry_after is i) (grind arith)
entry-ends modules limit i (frames.Items root is ∷ f ∷ k) st takes h = absurd-of st.0
entry-ends modules limit i k st takes h = absurd-of takes

-- A statement ends.
pub quoted-leads : {modules : Modules} {limit : ℕ} (s : Line) (k : List Frame) → Leads modules limit (closed_line s k) → Leads modules limit (at (modes.EvalEnd s) k)
quoted-leads s k l = step-leads (modes.EvalEnd s) k (kinds.Sign signs.RightParen) l

end-of : {modules : Modules} {limit : ℕ} (f : TokenKind → Option State) (s : Option State) → f (kinds.Reserved words.End) ≡ s → Ends modules limit (after_end s) → Ends modules limit f
end-of {modules} {limit} f s e x = record { last = kinds.Reserved words.End; stops = an_end; leads = subst (λ y. Leads modules limit y) (sym e) (closed s x) }

pub line-ends : (modules : Modules) (limit : ℕ) (s : Line) (k : List Frame) → Stack k → takes_if k ≡ true → need_at s.nesting (depth k) ≤ limit
    → Ends modules limit (after_end (closed_line s k))
unfolding closed_line depth if_of while_of for_of method_of no_lines line_after line_before eval_of method_evaluated method_defined entry_after run_of
line-ends modules limit s (frames.Branch c ss ∷ k) st takes h = line-ends modules limit (if_of c ss (one_line s)) k st.1 st.0 (grind arith)
line-ends modules limit s (frames.Block (openers.If c) ss ∷ k) st takes h =
    end-of _ (closed_line (if_of c (line_after ss s) no_lines) k) refl (line-ends modules limit (if_of c (line_after ss s) no_lines) k st.1 st.0 (grind arith))
line-ends modules limit s (frames.Block (openers.Else c b) ss ∷ k) st takes h =
    end-of _ (closed_line (if_of c b (line_after ss s)) k) refl (line-ends modules limit (if_of c b (line_after ss s)) k st.1 st.0 (grind arith))
line-ends modules limit s (frames.Block (openers.While c) ss ∷ k) st takes h =
    end-of _ (closed_line (while_of c (line_after ss s)) k) refl (line-ends modules limit (while_of c (line_after ss s)) k st.1 (lines-if k st.0) (grind arith))
line-ends modules limit s (frames.Block (openers.For x a b) ss ∷ k) st takes h =
    end-of _ (closed_line (for_of x a b (line_after ss s)) k) refl (line-ends modules limit (for_of x a b (line_after ss s)) k st.1 (lines-if k st.0) (grind arith))
line-ends modules limit s (frames.Block (openers.Function f ps) ss ∷ frames.Payload m false ∷ k) st takes h =
    end-of _ (closed_line (eval_of m (method_evaluated (method_of f ps (line_after ss s)))) k) refl
    (line-ends modules limit (eval_of m (method_evaluated (method_of f ps (line_after ss s)))) k st.1.1 (lines-if k st.1.0) (grind arith))
line-ends modules limit s (frames.Block (openers.Function f ps) ss ∷ frames.Payload m true ∷ k) st takes h =
    let y : Line = eval_of m (method_evaluated (method_of f ps (line_after ss s))) in
    let e : Ends modules limit (after_end (closed_line y k)) = line-ends modules limit y k st.1.1 (lines-if k st.1.0) (grind arith) in
    record { last = kinds.Reserved words.End; stops = an_end; leads = step-leads (modes.PayloadEnd y) k (kinds.Sign signs.RightParen) (quoted-leads y k (closed (closed_line y k) e)) }
line-ends modules limit s (frames.Block (openers.Function f ps) ss ∷ frames.Items root is ∷ k) st takes h =
    end-of _ (closed_entry (method_defined (method_of f ps (line_after ss s))) (frames.Items root is ∷ k)) refl
    (entry-ends modules limit (method_defined (method_of f ps (line_after ss s))) (frames.Items root is ∷ k) st.1 refl (grind arith))
line-ends modules limit s (frames.Block (openers.Function f ps) ss ∷ k) st takes h = absurd-of st.0
line-ends modules limit s (frames.Items root is ∷ []) st takes h = items-end modules limit root (entry_after is (run_of s)) (grind arith)
line-ends modules limit s (frames.Items root is ∷ f ∷ k) st takes h = absurd-of st.0
line-ends modules limit s k st takes h = absurd-of takes

-- What is evaluated ends, and so `@eval`.
pub evaluated-ends : (modules : Modules) (limit : ℕ) (y : Evaluated) (m : Option Spot) (quoted : Bool) (k : List Frame) → Stack (frames.Payload m quoted ∷ k)
    → need_at y.nesting (depth (frames.Payload m quoted ∷ k)) ≤ limit → Ends modules limit (after_end (closed_evaluated y (frames.Payload m quoted ∷ k)))
unfolding depth eval_of
evaluated-ends modules limit y m false k st h = line-ends modules limit (eval_of m y) k st.1 (lines-if k st.0) (grind arith)
evaluated-ends modules limit y m true k st h =
    let e : Ends modules limit (after_end (closed_line (eval_of m y) k)) = line-ends modules limit (eval_of m y) k st.1 (lines-if k st.0) (grind arith) in
    record { last = kinds.Sign signs.RightParen; stops = a_close; leads = quoted-leads (eval_of m y) k (closed (closed_line (eval_of m y) k) e) }

pub method-ends : (modules : Modules) (limit : ℕ) (f : Method) (k : List Frame) → Stack k → takes_definition k ≡ true → need_at f.nesting (depth k) ≤ limit
    → Ends modules limit (after_end (closed_method f k))
unfolding method_evaluated method_defined
method-ends modules limit f (frames.Payload m quoted ∷ k) st takes h = evaluated-ends modules limit (method_evaluated f) m quoted k st h
method-ends modules limit f (frames.Items root is ∷ k) st takes h = entry-ends modules limit (method_defined f) (frames.Items root is ∷ k) st refl h
method-ends modules limit f k st takes h = absurd-of takes

pub value-ends : (modules : Modules) (limit : ℕ) (e : Node) (k : List Frame) → Stack k → takes_value k ≡ true → need_at (1 + e.nesting) (depth k) ≤ limit
    → Ends modules limit (after_end (closed_value e k))
unfolding value_evaluated value_of
value-ends modules limit e (frames.Payload m quoted ∷ k) st takes h = evaluated-ends modules limit (value_evaluated e) m quoted k st h
value-ends modules limit e (frames.Block o ss ∷ k) st takes h = line-ends modules limit (value_of e) (frames.Block o ss ∷ k) st refl h
value-ends modules limit e (frames.Items root is ∷ k) st takes h = line-ends modules limit (value_of e) (frames.Items root is ∷ k) st refl h
value-ends modules limit e k st takes h = absurd-of takes

-- An assignment nests no deeper than it was told to.
assign-within : (limit : ℕ) (target : Target) (o : Option Operator) (e : Node) (k : List Frame) → AssignOver target o k
    → need_at e.nesting (assign_depth target o (depth k)) ≤ limit → need_at (assign_of target o e).nesting (depth k) ≤ limit
unfolding assign_of field_of name_of infix_of
assign-within limit (targets.Local x) None e k a h = grind arith
assign-within limit (targets.Local x) (Some o) e k a h = let p : infix_height o.sign ≡ 1 = a.1 in grind arith
assign-within limit (targets.Field b x) None e k a h = grind arith
assign-within limit (targets.Field b x) (Some o) e k a h = let p : infix_height o.sign ≡ 1 = a.1 in grind arith
assign-within limit (targets.Global p' x) None e k a h = grind arith
assign-within limit (targets.Global p' x) (Some o) e k a h = let p : infix_height o.sign ≡ 1 = a.1 in grind arith

set-line : (target : Target) (o : Option Operator) (k : List Frame) → AssignOver target o k → takes_lines k ≡ true → (e : Node) → closed_set target o e k ≡ closed_line (assign_of target o e) k
set-line (targets.Local x) o (frames.Block b ss ∷ k) a t e = refl
set-line (targets.Local x) o (frames.Items root is ∷ k) a t e = refl
set-line (targets.Local x) o k a t e = absurd-of t
set-line (targets.Field b x) o k a t e = refl
set-line (targets.Global p' x) o k a t e = refl

lined-set : (modules : Modules) (limit : ℕ) (target : Target) (o : Option Operator) (e : Node) (k : List Frame) → Stack k → AssignOver target o k → takes_lines k ≡ true
    → need_at e.nesting (assign_depth target o (depth k)) ≤ limit → Ends modules limit (after_end (closed_set target o e k))
lined-set modules limit target o e k st a t h =
    subst (λ s. Ends modules limit (after_end s)) (sym (set-line target o k a t e))
    (line-ends modules limit (assign_of target o e) k st (lines-if k t) (assign-within limit target o e k a h))

pub set-ends : (modules : Modules) (limit : ℕ) (target : Target) (o : Option Operator) (e : Node) (k : List Frame) → Stack k → AssignOver target o k
    → need_at e.nesting (assign_depth target o (depth k)) ≤ limit → Ends modules limit (after_end (closed_set target o e k))
unfolding set_evaluated
set-ends modules limit (targets.Local x) None e (frames.Payload m quoted ∷ k) st a h = evaluated-ends modules limit (set_evaluated x e) m quoted k st (grind arith)
set-ends modules limit (targets.Local x) None e k st a h = lined-set modules limit (targets.Local x) None e k st a a h
set-ends modules limit (targets.Field b x) None e k st a h = lined-set modules limit (targets.Field b x) None e k st a a h
set-ends modules limit (targets.Global p' x) None e k st a h = lined-set modules limit (targets.Global p' x) None e k st a a h
set-ends modules limit target (Some o) e k st a h = lined-set modules limit target (Some o) e k st a a.0 h

-- What an expression is for.
pub purpose-ends : (modules : Modules) (limit : ℕ) (purpose : Purpose) (e : Node) (k : List Frame) → Stack (frames.Hole purpose ∷ k) → 1 ≤ e.nesting
    → need_at e.nesting (depth (frames.Hole purpose ∷ k)) ≤ limit → Ends modules limit (after_purpose purpose e k)
unfolding depth return_of const_of method_of line_before value_of no_lines if_of while_of for_of settle leaf
purpose-ends modules limit purposes.Value e k st some h = value-ends modules limit e k st.1 st.0 (grind arith)
purpose-ends modules limit (purposes.Assign target o) e k st some h = set-ends modules limit target o e k st.1 st.0 h
purpose-ends modules limit (purposes.Return p) e k st some h = line-ends modules limit (return_of p e) k st.1 (lines-if k st.0) (grind arith)
purpose-ends modules limit (purposes.Const x) e k st some h = entry-ends modules limit (const_of x e) k st.1 st.0 (grind arith)
purpose-ends modules limit (purposes.Short f ps) e k st some h = method-ends modules limit (short_method f ps e) k st.1 st.0 (grind arith)
purpose-ends modules limit purposes.If e k st some h = record {
  last = kinds.Separator;
  stops = a_separator;
  leads = step-leads modes.Line (frames.Block (openers.If e) no_lines ∷ k) (kinds.Reserved words.End)
      (closed (closed_line (if_of e no_lines no_lines) k) (line-ends modules limit (if_of e no_lines no_lines) k st.1 st.0 (grind arith)));
}
purpose-ends modules limit purposes.While e k st some h = record {
  last = kinds.Separator;
  stops = a_separator;
  leads = step-leads modes.Line (frames.Block (openers.While e) no_lines ∷ k) (kinds.Reserved words.End)
      (closed (closed_line (while_of e no_lines) k) (line-ends modules limit (while_of e no_lines) k st.1 (lines-if k st.0) (grind arith)));
}
purpose-ends modules limit (purposes.To x a) e k st some h = record {
  last = kinds.Separator;
  stops = a_separator;
  leads = step-leads modes.Line (frames.Block (openers.For x a e) no_lines ∷ k) (kinds.Reserved words.End)
      (closed (closed_line (for_of x a e no_lines) k) (line-ends modules limit (for_of x a e no_lines) k st.1 (lines-if k st.0) (grind arith)));
}
purpose-ends modules limit (purposes.From x) e k st some h = record {
  last = kinds.Sign signs.Colon;
  stops = a_colon;
  leads = step-leads modes.Want (frames.Hole (purposes.To x e) ∷ k) zero_kind
      (step-leads (modes.Have (heads.Plain zero_node)) (frames.Hole (purposes.To x e) ∷ k) kinds.Separator
      (step-leads modes.Line (frames.Block (openers.For x e zero_node) no_lines ∷ k) (kinds.Reserved words.End)
      (closed (closed_line (for_of x e zero_node no_lines) k) (line-ends modules limit (for_of x e zero_node no_lines) k st.1 (lines-if k st.0) (grind arith)))));
}
