-- From every state that stands well, tokens lead on to a text that is read, and that nests no deeper than the state needs.
use Rattle.std.proofs.Common.{◌≡◌, ◌≤◌, ◌+◌, arith, max, ℕ, true, false, List, [], ◌∷◌, ◌++◌, Option, refl, sym, subst, ◌∙◌}
use Rattle.pj_lex.specs.declared.sign.Sign.TheVariants as signs
use Rattle.pj_lex.specs.declared.token.TokenKind.{TokenKind}
use Rattle.pj_lex.specs.declared.token.TokenKind.TheVariants as kinds
use Rattle.pj_syntax.specs.declared.expression.Path.{Path}
use Rattle.pj_syntax.specs.declared.expression.Path.TheVariants as paths
use Rattle.pj_grammar.specs.declared.level.Level.{Level}
use Rattle.pj_grammar.specs.declared.level.Level.TheVariants as levels
use Rattle.pj_grammar.specs.declared.level.Operator.{Operator}
use Rattle.pj_grammar.specs.declared.node.Node.{Node}
use Rattle.pj_grammar.specs.declared.node.Arguments.{Arguments}
use Rattle.pj_grammar.specs.declared.frame.Frame.{Frame}
use Rattle.pj_grammar.specs.declared.frame.Frame.TheVariants as frames
use Rattle.pj_grammar.specs.declared.frame.Given.{Given}
use Rattle.pj_grammar.specs.declared.frame.Given.TheVariants as given
use Rattle.pj_grammar.specs.declared.frame.Purpose.TheVariants as purposes
use Rattle.pj_grammar.specs.declared.mode.Head.{Head}
use Rattle.pj_grammar.specs.declared.mode.Head.TheVariants as heads
use Rattle.pj_grammar.specs.declared.mode.Mode.TheVariants as modes
use Rattle.pj_grammar.specs.Frames.{State, at, give, is_value, node, settle}
use Rattle.pj_grammar.specs.Makers.{argument_after, argument_before, call_of, conditional_of, group_of, infix_of, lacks, leaf, name_of, paths_given, prefix_of}
use Rattle.pj_grammar.specs.Modules.{Modules}
use Rattle.pj_grammar.specs.Need.{depth, given_nesting, need_at}
use Rattle.pj_grammar.specs.Operands.{close_call, close_paths, finish, have, have_other, have_value, is_type_word}
use Rattle.pj_grammar.specs.Theorems.{Leads}
use Rattle.pj_grammar.proofs.RisingOperands.{given-last, paths-nest}
use Rattle.pj_grammar.proofs.Holes.{Stops, a_close, a_colon, a_separator, an_else, an_else_if, an_end, an_eof}
use Rattle.pj_grammar.proofs.LeadingEnds.{Ends, here, purpose-ends, step-leads, zero_kind, zero_node}
use Rattle.pj_grammar.proofs.Levels.{absurd-of, fits-conditional}
use Rattle.pj_grammar.proofs.Stacks.{Stack, takes_expression}

-- an operand that its expression ends with
abbrev pub whole : Head → List Frame → TokenKind → Option State
whole h k kind = finish (settle levels.Conditional h k) kind

no-type-word : (h : Head) (kind : TokenKind) → Stops kind → is_type_word h kind ≡ false
no-type-word (heads.Name x) _ a_separator = refl
no-type-word (heads.Name x) _ an_eof = refl
no-type-word (heads.Name x) _ an_end = refl
no-type-word (heads.Name x) _ an_else = refl
no-type-word (heads.Name x) _ an_else_if = refl
no-type-word (heads.Name x) _ a_close = refl
no-type-word (heads.Name x) _ a_colon = refl
no-type-word h kind s = refl

value-whole : (h : Head) (k : List Frame) (kind : TokenKind) → is_value h ≡ true → have_value h k kind ≡ whole h k kind
value-whole h k kind v = rw v refl

other-whole : (h : Head) (k : List Frame) (p : ℕ) (kind : TokenKind) → takes_expression k ≡ true → is_value h ≡ true → is_type_word h kind ≡ false
    → have_other h k p kind ≡ whole h k kind
other-whole h (frames.Hole purposes.Value ∷ k) p kind takes v w = rw w (value-whole h (frames.Hole purposes.Value ∷ k) kind v)
other-whole h (frames.Hole purpose ∷ k) p kind takes v w = value-whole h (frames.Hole purpose ∷ k) kind v
other-whole h (frames.Prefix o ∷ k) p kind takes v w = value-whole h (frames.Prefix o ∷ k) kind v
other-whole h (frames.Infix l a o ∷ k) p kind takes v w = value-whole h (frames.Infix l a o ∷ k) kind v
other-whole h (frames.Then c ∷ k) p kind takes v w = value-whole h (frames.Then c ∷ k) kind v
other-whole h (frames.Else c a ∷ k) p kind takes v w = value-whole h (frames.Else c a ∷ k) kind v
other-whole h (frames.Group q types ∷ k) p kind takes v w = value-whole h (frames.Group q types ∷ k) kind v
other-whole h (frames.Call f g ∷ k) p kind takes v w = value-whole h (frames.Call f g ∷ k) kind v
other-whole h k p kind takes v w = absurd-of takes

stops-other : (modules : Modules) (h : Head) (k : List Frame) (kind : TokenKind) → Stops kind → have modules h k here kind ≡ have_other h k 0 kind
stops-other modules h k _ a_separator = refl
stops-other modules h k _ an_eof = refl
stops-other modules h k _ an_end = refl
stops-other modules h k _ an_else = refl
stops-other modules h k _ an_else_if = refl
stops-other modules h k _ a_close = refl
stops-other modules h k _ a_colon = refl

pub have-leads : {modules : Modules} {limit : ℕ} (h : Head) (k : List Frame) → takes_expression k ≡ true → is_value h ≡ true → Ends modules limit (whole h k)
    → Leads modules limit (at (modes.Have h) k)
have-leads {modules} {limit} h k takes v e =
    step-leads (modes.Have h) k e.last
    (subst (λ s. Leads modules limit s) (sym (stops-other modules h k e.last e.stops ∙ other-whole h k 0 e.last takes v (no-type-word h e.last e.stops))) e.leads)

-- a call ends
lacks-none : (f : Path) (ps : List Path) (g : Path) → lacks f (paths_given (ps ++ g ∷ [])) ≡ false
unfolding lacks paths_given argument_before
lacks-none f [] g = refl
lacks-none f (p ∷ ps) g = refl

abbrev pub EndsAll : Modules → ℕ → List Frame → Type 0
EndsAll modules limit k = (h : Head) → is_value h ≡ true → 1 ≤ (node h).nesting → need_at (node h).nesting (depth k) ≤ limit → Ends modules limit (whole h k)

pub called-leads : (modules : Modules) (limit : ℕ) (f : Path) (ps : List Path) (k : List Frame) → lacks f (paths_given ps) ≡ false → takes_expression k ≡ true
    → need_at (1 + given_nesting (given.Paths ps)) (depth k) ≤ limit → EndsAll modules limit k → Leads modules limit (close_call f (given.Paths ps) k)
unfolding call_of
called-leads modules limit f ps k l takes h all =
    subst (λ b. Leads modules limit (close_paths f ps k b)) (sym l)
    (have-leads (heads.Call f ps) k takes (rw l refl) (all (heads.Call f ps) (rw l refl) (grind arith) (let e : (paths_given ps).nesting ≡ given_nesting (given.Paths ps) = paths-nest ps in grind arith)))

pub mixed-leads : (modules : Modules) (limit : ℕ) (f : Path) (es : Arguments) (k : List Frame) → takes_expression k ≡ true
    → need_at (1 + es.nesting) (depth k) ≤ limit → EndsAll modules limit k → Leads modules limit (close_call f (given.Mixed es) k)
unfolding call_of
mixed-leads modules limit f es k takes h all = have-leads (heads.Plain (call_of f es)) k takes refl (all (heads.Plain (call_of f es)) refl (grind arith) (grind arith))

call-leads : (modules : Modules) (limit : ℕ) (f : Path) (g : Given) (h : Head) (k : List Frame) → takes_expression k ≡ true → 1 ≤ (node h).nesting
    → need_at (1 + max (given_nesting g) (node h).nesting) (depth k) ≤ limit → EndsAll modules limit k → Leads modules limit (close_call f (give g h) k)
unfolding argument_after name_of
call-leads modules limit f (given.Paths ps) (heads.Name x) k takes some r all =
    called-leads modules limit f (ps ++ paths.Bare x ∷ []) k (lacks-none f ps (paths.Bare x)) takes (let e : given_nesting (given.Paths (ps ++ paths.Bare x ∷ [])) ≡ 1 = given-last ps (paths.Bare x) in grind arith) all
call-leads modules limit f (given.Paths ps) (heads.Member m x) k takes some r all =
    called-leads modules limit f (ps ++ paths.Of m x ∷ []) k (lacks-none f ps (paths.Of m x)) takes (let e : given_nesting (given.Paths (ps ++ paths.Of m x ∷ [])) ≡ 1 = given-last ps (paths.Of m x) in grind arith) all
call-leads modules limit f (given.Paths ps) (heads.Operator m x) k takes some r all =
    called-leads modules limit f (ps ++ paths.Of m x ∷ []) k (lacks-none f ps (paths.Of m x)) takes (let e : given_nesting (given.Paths (ps ++ paths.Of m x ∷ [])) ≡ 1 = given-last ps (paths.Of m x) in grind arith) all
call-leads modules limit f (given.Paths ps) (heads.Place b x) k takes some r all =
    mixed-leads modules limit f (argument_after (paths_given ps) (node (heads.Place b x))) k takes (let e : (paths_given ps).nesting ≡ given_nesting (given.Paths ps) = paths-nest ps in grind arith) all
call-leads modules limit f (given.Paths ps) (heads.Call g qs) k takes some r all =
    mixed-leads modules limit f (argument_after (paths_given ps) (node (heads.Call g qs))) k takes (let e : (paths_given ps).nesting ≡ given_nesting (given.Paths ps) = paths-nest ps in grind arith) all
call-leads modules limit f (given.Paths ps) (heads.Plain b) k takes some r all =
    mixed-leads modules limit f (argument_after (paths_given ps) b) k takes (let e : (paths_given ps).nesting ≡ given_nesting (given.Paths ps) = paths-nest ps in grind arith) all
call-leads modules limit f (given.Mixed es) h k takes some r all = mixed-leads modules limit f (argument_after es (node h)) k takes (grind arith) all

infix-whole : (h : Head) (m : Level) (a : Node) (o : Operator) (k : List Frame)
    → settle levels.Conditional h (frames.Infix m a o ∷ k) ≡ settle levels.Conditional (heads.Plain (infix_of a o (node h))) k
unfolding settle
infix-whole h m a o k = rw (fits-conditional m) refl

-- An operand whose expression ends.
pub expression-ends : (modules : Modules) (limit : ℕ) (k : List Frame) → Stack k → takes_expression k ≡ true → EndsAll modules limit k
unfolding settle depth prefix_of infix_of conditional_of group_of leaf
expression-ends modules limit (frames.Prefix o ∷ k) st takes h v some r =
    expression-ends modules limit k st.1 st.0 (heads.Plain (prefix_of o (node h))) refl (grind arith) (grind arith)
expression-ends modules limit (frames.Infix m a o ∷ k) st takes h v some r =
    subst (λ s. Ends modules limit (finish s)) (sym (infix-whole h m a o k))
    (expression-ends modules limit k st.1 st.0 (heads.Plain (infix_of a o (node h))) refl (grind arith) (grind arith))
expression-ends modules limit (frames.Else c a ∷ k) st takes h v some r =
    expression-ends modules limit k st.1 st.0 (heads.Plain (conditional_of c a (node h))) refl (grind arith) (grind arith)
expression-ends modules limit (frames.Then c ∷ k) st takes h v some r = record {
  last = kinds.Sign signs.Colon;
  stops = a_colon;
  leads = step-leads modes.Want (frames.Else c (node h) ∷ k) zero_kind
      (have-leads (heads.Plain zero_node) (frames.Else c (node h) ∷ k) refl refl
      (expression-ends modules limit k st.1 st.0 (heads.Plain (conditional_of c (node h) zero_node)) refl (grind arith) (grind arith)));
}
expression-ends modules limit (frames.Group p types ∷ k) st takes h v some r = record {
  last = kinds.Sign signs.RightParen;
  stops = a_close;
  leads = have-leads (heads.Plain (group_of p (node h))) k st.0.0 refl
      (expression-ends modules limit k st.1 st.0.0 (heads.Plain (group_of p (node h))) refl (grind arith) (grind arith));
}
expression-ends modules limit (frames.Call f g ∷ k) st takes h v some r = record {
  last = kinds.Sign signs.RightParen;
  stops = a_close;
  leads = call-leads modules limit f g h k st.0 some (grind arith) (λ h' v' s' r'. expression-ends modules limit k st.1 st.0 h' v' s' r');
}
expression-ends modules limit (frames.Hole purpose ∷ k) st takes h v some r = purpose-ends modules limit purpose (node h) k st some r
expression-ends modules limit k st takes h v some r = absurd-of takes
