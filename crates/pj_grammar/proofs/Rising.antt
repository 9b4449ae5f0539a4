-- Each token keeps the frames well stacked, and the need doesn't fall.
use Rattle.std.proofs.Common.{◌≡◌, ◌≤◌, ◌+◌, arith, ℕ, Bool, true, false, ◌&&◌, List, [], ◌∷◌, ◌++◌, if◌then◌else◌, Option, Some, None, refl, subst, codes}
use Rattle.std.specs.Str.{bytes_eq}
use Rattle.pj_words.specs.declared.word.Word.{Word}
use Rattle.pj_words.specs.declared.word.Word.TheVariants as words
use Rattle.pj_lex.specs.declared.sign.Sign.{Sign}
use Rattle.pj_lex.specs.declared.sign.Sign.TheVariants as signs
use Rattle.pj_lex.specs.declared.token.Token.{Token}
use Rattle.pj_lex.specs.declared.token.TokenKind.{TokenKind}
use Rattle.pj_lex.specs.declared.token.TokenKind.TheVariants as kinds
use Rattle.pj_lex.specs.Signs.{is_operator}
use Rattle.pj_syntax.specs.declared.expression.Expr.{Expr}
use Rattle.pj_syntax.specs.declared.expression.Spot.{Spot}
use Rattle.pj_syntax.specs.declared.expression.Path.{Path}
use Rattle.pj_syntax.specs.declared.expression.Path.TheVariants as paths
use Rattle.pj_grammar.specs.declared.level.Level.TheVariants as levels
use Rattle.pj_grammar.specs.declared.node.Node.{Node}
use Rattle.pj_grammar.specs.declared.frame.Form.TheVariants as forms
use Rattle.pj_grammar.specs.declared.frame.Frame.{Frame}
use Rattle.pj_grammar.specs.declared.frame.Frame.TheVariants as frames
use Rattle.pj_grammar.specs.declared.frame.Given.TheVariants as given
use Rattle.pj_grammar.specs.declared.frame.Header.{Header}
use Rattle.pj_grammar.specs.declared.frame.Header.TheVariants as headers
use Rattle.pj_grammar.specs.declared.frame.Purpose.TheVariants as purposes
use Rattle.pj_grammar.specs.declared.frame.Root.TheVariants as roots
use Rattle.pj_grammar.specs.declared.mode.Head.TheVariants as heads
use Rattle.pj_grammar.specs.declared.mode.Mode.{Mode}
use Rattle.pj_grammar.specs.declared.mode.Mode.TheVariants as modes
use Rattle.pj_grammar.specs.Closing.{closed_entry, closed_line}
use Rattle.pj_grammar.specs.Frames.{State, admits, at, guarded, params_of, takes_directives, takes_items, takes_lines, takes_uses}
use Rattle.pj_grammar.specs.Levels.{is_prefix}
use Rattle.pj_grammar.specs.Machine.{after_declared, after_return, after_use, argument, base_operator, close_types, directive_end, end_arguments, end_uses, ends_line, eval_name_then, expect_name, expect_sign, field_name, global_assign, header, line, line_word, member_name, opens_types, operand, operand_literal, operand_sign, package_end, package_named, package_start, parameter, path_start, payload, quote, reads_name, run, set_global, short_assign, start, step, step_at, takes_module, type_argument, types, with_module}
use Rattle.pj_grammar.specs.Makers.{bare_return, break_of, call_of, continue_of, declared, directive_of, field_of, lacks, leaf, literal_of, name_of, no_entries, paths_given, using_of}
use Rattle.pj_grammar.specs.Modules.{Modules, is_module}
use Rattle.pj_grammar.specs.Need.{argument_nesting, depth, given_nesting, head_nesting, mode_nesting, need, need_at}
use Rattle.pj_grammar.specs.Statements.{assigning, begins_bounds}
use Rattle.pj_grammar.specs.Texts.{Kind, script, «package»}
use Rattle.pj_grammar.specs.Theorems.{Monotone, reached, with_base}
use Rattle.pj_grammar.specs.Tokens.{Place, place, spot}
use Rattle.pj_grammar.proofs.Levels.{absurd-of}
use Rattle.pj_grammar.proofs.RisingOperands.{and-right, given-few, if-rises}
use Rattle.pj_grammar.proofs.RisingEnds.{after-end-rises, after-line-rises, ending-rises, entry-rises, flat, line-rises}
use Rattle.pj_grammar.proofs.RisingExpressions.{AllHigh, all-high, call-close-rises, have-rises, header-rises, params-end-rises, paths-close-rises, start-field-rises, type-of-rises}
use Rattle.pj_grammar.proofs.RisingOperators.{guard-rises}
use Rattle.pj_grammar.proofs.Stacks.{Good, GroupOver, Rise, Rises, Stack, call-expression, directives-items, expression-name, is_call, is_empty, is_payload, is_signature, is_types, items-definition, lines-if, lines-value, payload-definition, payload-value, signature-name, signature-type, takes_expression, takes_name, takes_path, types-name}

-- An operand begins.
types-close-rises : (n : ℕ) (k : List Frame) → Stack k → n ≤ need_at 1 (depth k) → Rise n (close_types k)
unfolding need depth
types-close-rises n (frames.Group p true ∷ frames.Call (paths.Bare f) (given.Paths (g ∷ [])) ∷ frames.Hole purposes.Value ∷ k) st r =
    let i : takes_items k ≡ true = directives-items k (and-right (bytes_eq f.text (codes "precompile")) _ st.0.1) in let z : (depth k).above ≡ 0 = flat k i st.1.1.1 in record { stack = (i, st.1.1.1); good = refl; rises = grind arith }
types-close-rises n (frames.Group p true ∷ frames.Call (paths.Of m f) (given.Paths (g ∷ [])) ∷ frames.Hole purposes.Value ∷ k) st r = absurd-of st.0.1
types-close-rises n k st r = tt

group-over : (b : Bool) (k : List Frame) → opens_types k ≡ b → GroupOver b k
group-over true k h = h
group-over false k h = tt

sign-rises : (n : ℕ) (k : List Frame) (p : ℕ) (s : Sign) → Stack k → takes_expression k ≡ true → n ≤ need_at 1 (depth k) → Rise n (operand_sign k p s)
unfolding need depth
sign-rises n k p signs.LeftParen st takes r = record { stack = ((takes, group-over (opens_types k) k refl), st); good = refl; rises = grind arith }
sign-rises n k p signs.RightParen st takes r = types-close-rises n k st r
sign-rises n k p s st takes r = prefix-rises s
  where
    prefix-rises : (s : Sign) → Rise n (guarded (is_prefix s) (at modes.Want (frames.Prefix (record { sign = s; at = p }) ∷ k)))
    prefix-rises s = guard-rises n (is_prefix s) _ (λ a. record { stack = (takes, st); good = refl; rises = grind arith })

literal-rises : (n : ℕ) (k : List Frame) (p : ℕ) (tree : Option Expr) → Stack k → takes_expression k ≡ true → n ≤ need_at 1 (depth k)
    → Rise n (operand_literal k p tree)
unfolding need leaf
literal-rises n k p (Some e) st takes r = record { stack = st; good = (takes, grind arith); rises = r }
literal-rises n k p None st takes r = tt

pub operand-rises : (n : ℕ) (k : List Frame) (p : Place) (kind : TokenKind) → Stack k → takes_expression k ≡ true → n ≤ need_at 1 (depth k)
    → Rise n (operand k p kind)
unfolding need name_of
operand-rises n k p (kinds.Name x) st takes r = record { stack = st; good = expression-name k takes; rises = r }
operand-rises n k p (kinds.Sign s) st takes r = sign-rises n k p.start s st takes r
operand-rises n k p kind st takes r = literal-rises n k p.start (literal_of kind) st takes r

-- Arguments.
empty-call : (f : Path) (k : List Frame) → 1 + argument_nesting (frames.Call f (given.Paths []) ∷ k) ≤ head_nesting (heads.Call f []) k
unfolding call_of
empty-call f k = branch (lacks f (paths_given []))
  where
    branch : (b : Bool) → 1 + (if b then 1 else 0) ≤ (if b then 3 else (call_of f (paths_given [])).nesting)
    branch true = grind arith
    branch false = grind arith

argument-few : (k : List Frame) → argument_nesting k ≤ 1
argument-few (frames.Call f (given.Paths []) ∷ k) = branch (lacks f (paths_given []))
  where
    branch : (b : Bool) → (if b then 1 else 0) ≤ 1
    branch true = grind arith
    branch false = grind arith
argument-few k = grind arith

arguments-end-rises : (n : ℕ) (k : List Frame) → Stack k → n ≤ need_at (argument_nesting k) (depth k) → Rise n (end_arguments k)
unfolding depth
arguments-end-rises n (frames.Call f (given.Paths []) ∷ k) st r =
    paths-close-rises n f [] k (lacks f (paths_given [])) refl st.1 st.0
    (let e : 1 + argument_nesting (frames.Call f (given.Paths []) ∷ k) ≤ head_nesting (heads.Call f []) k = empty-call f k in grind arith)
arguments-end-rises n (frames.Call f g ∷ k) st r = call-close-rises n f g k st.1 st.0 (grind arith)
arguments-end-rises n k st r = tt

type-argument-rises : (n p : ℕ) (k : List Frame) → Stack k → n ≤ need_at 1 (depth k) → Rise n (type_argument p k)
unfolding depth
type-argument-rises n p (frames.Call f (given.Paths ps) ∷ frames.Hole purposes.Value ∷ k) st r =
    type-of-rises n None p f (params_of ps) k st.1.1 (let l : given_nesting (given.Paths ps) ≤ 1 = given-few ps in grind arith)
type-argument-rises n p k st r = tt

quote-rises : (n : ℕ) (k : List Frame) → Stack k → n ≤ need_at 1 (depth k) → Rise n (quote k)
unfolding need depth
quote-rises n (frames.Call (paths.Bare f) (given.Paths []) ∷ frames.Hole purposes.Value ∷ k) st r =
    guard-rises n (bytes_eq f.text (codes "eval") && takes_lines k) _
    (λ a. record { stack = st.1.1; good = and-right (bytes_eq f.text (codes "eval")) (takes_lines k) a; rises = grind arith })
quote-rises n k st r = tt

argument-begins : (n : ℕ) (k : List Frame) (p : Place) (kind : TokenKind) → Stack k → is_call k ≡ true → n ≤ need_at (argument_nesting k) (depth k)
    → Rise n (argument k p kind)
argument-begins n k p (kinds.Sign signs.RightParen) st is r = arguments-end-rises n k st r
argument-begins n k p (kinds.Sign signs.DoubleColon) st is r = type-argument-rises n p.start k st (let l : argument_nesting k ≤ 1 = argument-few k in grind arith)
argument-begins n k p (kinds.Sign signs.Colon) st is r = quote-rises n k st (let l : argument_nesting k ≤ 1 = argument-few k in grind arith)
argument-begins n k p kind st is r = operand-rises n k p kind st (call-expression k is) (let l : argument_nesting k ≤ 1 = argument-few k in grind arith)

-- Parameters.
parameter-rises : (n : ℕ) (k : List Frame) (p : Place) (kind : TokenKind) → Stack k → is_signature k ≡ true → n ≤ need_at 1 (depth k)
    → Rise n (parameter k p kind)
unfolding need depth name_of
parameter-rises n k p (kinds.Sign signs.RightParen) st is r = params-end-rises n k st r
parameter-rises n k p (kinds.Sign signs.DoubleColon) st is r = record { stack = (signature-type k is, st); good = refl; rises = r }
parameter-rises n k p (kinds.Name x) st is r = record { stack = st; good = signature-name k is; rises = r }
parameter-rises n k p kind st is r = tt

short-assign-rises : (n : ℕ) (k : List Frame) (kind : TokenKind) → Stack k → n ≤ need_at 1 (depth k) → Rise n (short_assign k kind)
unfolding need depth
short-assign-rises n (frames.Signature forms.Short f ps ∷ k) (kinds.Sign signs.Assign) st r = record { stack = st; good = refl; rises = r }
short-assign-rises n (frames.Signature forms.Short f ps ∷ k) kind st r = tt
short-assign-rises n k kind st r = tt

-- Names behind dots.
field-name-rises : (n : ℕ) (e : Node) (placed : Bool) (k : List Frame) (p : Place) (kind : TokenKind) → Stack k → Good (modes.Field e placed) k
    → n ≤ need_at (mode_nesting (modes.Field e placed) k) (depth k) → Rise n (field_name e placed k p kind)
unfolding need field_of
field-name-rises n e true k p (kinds.Name x) st g r = record { stack = st; good = g; rises = r }
field-name-rises n e false k p (kinds.Name x) st g r = record { stack = st; good = (g.0, grind arith); rises = r }
field-name-rises n e true k p kind st g r = tt
field-name-rises n e false k p kind st g r = tt

member-rises : (n : ℕ) (m : Spot) (k : List Frame) (p : Place) (kind : TokenKind) → Stack k → takes_path k ≡ true → n ≤ need_at 1 (depth k)
    → Rise n (member_name m k p kind)
unfolding need name_of
member-rises n m k p (kinds.Name x) st g r = record { stack = st; good = g; rises = r }
member-rises n m k p (kinds.Sign signs.Colon) st g r = guard-rises n (bytes_eq m.text (codes "Base") && admits k levels.Callee) _ (λ a. record { stack = st; good = g; rises = r })
member-rises n m k p kind st g r = tt

base-rises : (n : ℕ) (m : Spot) (k : List Frame) (p : Place) (kind : TokenKind) → Stack k → takes_path k ≡ true → n ≤ need_at 1 (depth k)
    → Rise n (base_operator m k p kind)
unfolding need name_of
base-rises n m k p (kinds.Sign s) st g r = guard-rises n (is_operator s) _ (λ a. record { stack = st; good = g; rises = r })
base-rises n m k p kind st g r = tt

path-start-rises : (n : ℕ) (k : List Frame) (p : Place) (kind : TokenKind) → Stack k → takes_name k ≡ true → n ≤ need_at 1 (depth k)
    → Rise n (path_start k p kind)
unfolding need name_of
path-start-rises n k p (kinds.Name x) st g r = record { stack = st; good = g; rises = r }
path-start-rises n k p kind st g r = tt

-- Statements and items begin.
statement-operand-rises : (n : ℕ) (k : List Frame) (p : Place) (kind : TokenKind) → Stack k → takes_lines k ≡ true → n ≤ need_at 0 (depth k)
    → Rise n (operand (frames.Hole purposes.Value ∷ k) p kind)
unfolding depth
statement-operand-rises n k p kind st takes r = operand-rises n (frames.Hole purposes.Value ∷ k) p kind (lines-value k takes, st) refl (grind arith)

word-rises : (n : ℕ) (k : List Frame) (p : Place) (w : Word) → Stack k → takes_lines k ≡ true → n ≤ need_at 0 (depth k) → Rise n (line_word k p w)
unfolding need depth break_of continue_of
word-rises n k p words.If st takes r = record { stack = (lines-if k takes, st); good = refl; rises = grind arith }
word-rises n k p words.While st takes r = record { stack = (takes, st); good = refl; rises = grind arith }
word-rises n k p words.For st takes r = record { stack = st; good = takes; rises = grind arith }
word-rises n k p words.Break st takes r = line-rises n (break_of p.start) k st (grind arith)
word-rises n k p words.Continue st takes r = line-rises n (continue_of p.start) k st (grind arith)
word-rises n k p words.Return st takes r = record { stack = st; good = takes; rises = grind arith }
word-rises n k p words.Global st takes r = record { stack = st; good = takes; rises = grind arith }
word-rises n k p words.Struct st takes r = guard-rises n (takes_items k) _ (λ i. record { stack = st; good = i; rises = grind arith })
word-rises n k p words.Function st takes r = guard-rises n (takes_items k) _ (λ i. record { stack = (items-definition k i, st); good = refl; rises = grind arith })
word-rises n k p words.Const st takes r = guard-rises n (takes_items k) _ (λ i. record { stack = st; good = i; rises = grind arith })
word-rises n k p words.Using st takes r = guard-rises n (takes_uses k) _ (λ i. record { stack = st; good = i; rises = grind arith })
word-rises n k p words.True st takes r = statement-operand-rises n k p (kinds.Reserved words.True) st takes r
word-rises n k p words.False st takes r = statement-operand-rises n k p (kinds.Reserved words.False) st takes r
word-rises n k p words.Nothing st takes r = statement-operand-rises n k p (kinds.Reserved words.Nothing) st takes r
word-rises n k p w st takes r = ending-rises n k (kinds.Reserved w) st r

line-begins : (n : ℕ) (k : List Frame) (p : Place) (kind : TokenKind) → Stack k → takes_lines k ≡ true → n ≤ need_at 0 (depth k) → Rise n (line k p kind)
unfolding need depth
line-begins n k p (kinds.Reserved w) st takes r = word-rises n k p w st takes r
line-begins n k p kinds.AtEval st takes r = record { stack = (takes, st); good = refl; rises = grind arith }
line-begins n k p kinds.Separator st takes r = record { stack = st; good = takes; rises = r }
line-begins n k p kinds.Eof st takes r = ending-rises n k kinds.Eof st r
line-begins n k p kind st takes r = statement-operand-rises n k p kind st takes r

-- What is evaluated.
payload-operand-rises : (n : ℕ) (k : List Frame) (p : Place) (kind : TokenKind) → Stack k → is_payload k ≡ true → n ≤ need_at 2 (depth k)
    → Rise n (operand (frames.Hole purposes.Value ∷ k) p kind)
unfolding depth
payload-operand-rises n k p kind st is r = operand-rises n (frames.Hole purposes.Value ∷ k) p kind (payload-value k is, st) refl (grind arith)

payload-rises : (n : ℕ) (modules : Modules) (k : List Frame) (p : Place) (kind : TokenKind) → Stack k → is_payload k ≡ true → n ≤ need_at 2 (depth k)
    → Rise n (payload modules k p kind)
unfolding need depth
payload-rises n modules k p (kinds.Reserved words.Function) st is r = record { stack = (payload-definition k is, st); good = refl; rises = grind arith }
payload-rises n modules k p (kinds.Name x) st is r = if-rises n (takes_module k && is_module modules x) _ _
    (λ e. record { stack = st; good = is; rises = r })
    (λ e. payload-operand-rises n k p (kinds.Name x) st is r)
payload-rises n modules k p kind st is r = payload-operand-rises n k p kind st is r

in-module-rises : (n : ℕ) (modules : Modules) (m : Spot) (k : List Frame) (p : Place) (kind : TokenKind) → Stack k → is_payload k ≡ true → n ≤ need_at 2 (depth k)
    → Rise n (payload modules (with_module m k) p kind)
unfolding depth
in-module-rises n modules m (frames.Payload None quoted ∷ k) p kind st is r = payload-rises n modules (frames.Payload (Some m) quoted ∷ k) p kind st refl r
in-module-rises n modules m k p kind st is r = payload-rises n modules k p kind st is r

eval-name-rises : (n : ℕ) (modules : Modules) (m : Spot) (k : List Frame) (p : Place) (kind : TokenKind) → Stack k → is_payload k ≡ true → n ≤ need_at 2 (depth k)
    → Rise n (eval_name_then modules m k p kind)
unfolding depth name_of
eval-name-rises n modules m k p kind st is r = if-rises n (reads_name p kind) _ _
    (λ e. have-rises n modules (heads.Name m) (frames.Hole purposes.Value ∷ k) p kind (payload-value k is, st) refl (grind arith))
    (λ e. in-module-rises n modules m k p kind st is r)

-- Fixed forms.
expect-rises : (n : ℕ) (s : Sign) (kind : TokenKind) (x : Option State) → Rise n x → Rise n (expect_sign s kind x)
expect-rises n signs.Colon (kinds.Sign signs.Colon) x r = r
expect-rises n signs.LeftParen (kinds.Sign signs.LeftParen) x r = r
expect-rises n signs.RightParen (kinds.Sign signs.RightParen) x r = r
expect-rises n signs.Assign (kinds.Sign signs.Assign) x r = r
expect-rises n s kind x r = tt

name-rises : (n : ℕ) (then_ : Spot → Mode) (k : List Frame) (p : Place) (kind : TokenKind) → ((x : Spot) → Rise n (at (then_ x) k))
    → Rise n (expect_name then_ k p kind)
name-rises n then_ k p (kinds.Name x) f = f (spot p x)
name-rises n then_ k p kind f = tt

return-rises : (n at' : ℕ) (k : List Frame) (p : Place) (kind : TokenKind) → Stack k → takes_lines k ≡ true → n ≤ need_at 2 (depth k)
    → Rise n (after_return at' k p kind)
unfolding depth bare_return
return-rises n at' k p kind st takes r = if-rises n (ends_line kind) _ _
    (λ e. after-end-rises n _ kind (line-rises n (bare_return at') k st r))
    (λ e. operand-rises n (frames.Hole (purposes.Return at') ∷ k) p kind (takes, st) refl (grind arith))

set-global-rises : (n at' : ℕ) (x : Spot) (k : List Frame) (p : ℕ) (o : Option (Option Sign)) → AllHigh o → Stack k → takes_lines k ≡ true → n ≤ need_at 2 (depth k)
    → Rise n (set_global at' x k p o)
unfolding need depth name_of
set-global-rises n at' x k p (Some None) one st takes r = record { stack = (takes, st); good = refl; rises = grind arith }
set-global-rises n at' x k p (Some (Some s)) one st takes r = record { stack = ((takes, one), st); good = refl; rises = grind arith }
set-global-rises n at' x k p None one st takes r = tt

global-rises : (n at' : ℕ) (x : Spot) (k : List Frame) (p : Place) (kind : TokenKind) → Stack k → takes_lines k ≡ true → n ≤ need_at 2 (depth k)
    → Rise n (global_assign at' x k p kind)
global-rises n at' x k p (kinds.Sign s) st takes r = set-global-rises n at' x k p.start (assigning s) (all-high s) st takes r
global-rises n at' x k p kind st takes r = tt

-- Uses.
uses-end-rises : (n : ℕ) (names : List Spot) (k : List Frame) (kind : TokenKind) → Stack k → n ≤ need_at 1 (depth k) → Rise n (end_uses names k kind)
unfolding need depth
uses-end-rises n names (frames.Items roots.Script is ∷ k) kind st r = after-end-rises n (closed_entry (using_of names) (frames.Items roots.Script is ∷ k)) kind (entry-rises n 1 (using_of names) (frames.Items roots.Script is ∷ k) st (grind arith) r)
uses-end-rises n names (frames.Items (roots.Package x uses) is ∷ k) kinds.Separator st r =
    let z : (depth (frames.Items (roots.Package x uses) is ∷ k)).above ≡ 0 = flat (frames.Items (roots.Package x uses) is ∷ k) refl st in record { stack = st; good = refl; rises = grind arith }
uses-end-rises n names (frames.Items (roots.Package x uses) is ∷ k) kind st r = tt
uses-end-rises n names k kind st r = tt

use-rises : (n : ℕ) (names : List Spot) (k : List Frame) (kind : TokenKind) → Stack k → takes_uses k ≡ true → n ≤ need_at 1 (depth k)
    → Rise n (after_use names k kind)
unfolding need
use-rises n names k (kinds.Sign signs.Comma) st takes r = record { stack = st; good = takes; rises = r }
use-rises n names k kind st takes r = uses-end-rises n names k kind st r

-- Types and declarations.
header-begins : (n : ℕ) (h : Header) (k : List Frame) (p : Place) (kind : TokenKind) → Stack k → takes_items k ≡ true → n ≤ need_at 1 (depth k)
    → Rise n (header h k p kind)
unfolding need depth
header-begins n h k p (kinds.Sign signs.Below) st i r = record { stack = (i, st); good = refl; rises = r }
header-begins n h k p kind st i r = header-rises n h None k p.start kind st i r

declared-rises : (n : ℕ) (x : Spot) (k : List Frame) (kind : TokenKind) → Stack k → takes_items k ≡ true → n ≤ need_at 1 (depth k)
    → Rise n (after_declared x k kind)
unfolding need
declared-rises n x k kinds.Separator st i r = record { stack = st; good = i; rises = r }
declared-rises n x k (kinds.Reserved words.End) st i r = entry-rises n 1 (declared x) k st (grind arith) r
declared-rises n x k kind st i r = tt

-- Directives.
types-rise : (n : ℕ) (k : List Frame) (p : Place) (kind : TokenKind) → Stack k → is_types k ≡ true → n ≤ need_at 1 (depth k) → Rise n (types k p kind)
unfolding need name_of
types-rise n k p (kinds.Sign signs.RightParen) st is r = record { stack = st; good = is; rises = r }
types-rise n k p (kinds.Name x) st is r = record { stack = st; good = types-name k is; rises = r }
types-rise n k p kind st is r = tt

directive-rises : (n : ℕ) (k : List Frame) (kind : TokenKind) → Stack k → n ≤ need_at 1 (depth k) → Rise n (directive_end k kind)
unfolding depth
directive-rises n (frames.Types f ts ∷ k) (kinds.Sign signs.RightParen) st r = entry-rises n 1 (directive_of f ts) k st.1 (grind arith) r
directive-rises n (frames.Types f ts ∷ k) kind st r = tt
directive-rises n k kind st r = tt

-- Packages.
package-start-rises : (n : ℕ) (k : List Frame) (kind : TokenKind) → Stack k → is_empty k ≡ true → n ≤ need_at 1 (depth k) → Rise n (package_start k kind)
unfolding need
package-start-rises n k kinds.Separator st is r = record { stack = st; good = is; rises = r }
package-start-rises n k (kinds.Reserved words.Module) st is r = record { stack = st; good = is; rises = r }
package-start-rises n k kind st is r = tt

package-named-rises : (n : ℕ) (x : Spot) (k : List Frame) (kind : TokenKind) → is_empty k ≡ true → n ≤ need_at 1 (depth k) → Rise n (package_named x kind)
unfolding need depth no_entries
package-named-rises n x [] kinds.Separator is r = record { stack = (refl, tt); good = refl; rises = grind arith }
package-named-rises n x (f ∷ k) kind is r = absurd-of is
package-named-rises n x [] kind is r = tt

package-end-rises : (n : ℕ) (k : List Frame) (kind : TokenKind) → Stack k → takes_directives k ≡ true → n ≤ need_at 1 (depth k) → Rise n (package_end k kind)
unfolding need
package-end-rises n k kinds.Separator st is r = record { stack = st; good = is; rises = r }
package-end-rises n k kinds.Eof st is r =
    let i : takes_items k ≡ true = directives-items k is in let z : (depth k).above ≡ 0 = flat k i st in record { stack = st; good = i; rises = grind arith }
package-end-rises n k kind st is r = tt

-- One token.
bounds-rises : (n : ℕ) (x : Spot) (k : List Frame) (kind : TokenKind) → Stack k → takes_lines k ≡ true → n ≤ need_at 2 (depth k)
    → Rise n (guarded (begins_bounds kind) (at modes.Want (frames.Hole (purposes.From x) ∷ k)))
unfolding need depth
bounds-rises n x k kind st takes r = guard-rises n (begins_bounds kind) _ (λ a. record { stack = (takes, st); good = refl; rises = grind arith })

pub step-rises : (n : ℕ) (modules : Modules) (mode : Mode) (k : List Frame) (p : Place) (kind : TokenKind) → Stack k → Good mode k
    → n ≤ need_at (mode_nesting mode k) (depth k) → Rise n (step_at modules mode k p kind)
unfolding need depth
step-rises n modules modes.Want k p kind st g r = operand-rises n k p kind st g r
step-rises n modules (modes.Have h) k p kind st g r = have-rises n modules h k p kind st g r
step-rises n modules (modes.Field e placed) k p kind st g r = field-name-rises n e placed k p kind st g r
step-rises n modules (modes.Member m) k p kind st g r = member-rises n m k p kind st g r
step-rises n modules (modes.BaseOperator m) k p kind st g r = base-rises n m k p kind st g r
step-rises n modules modes.Arguments k p kind st g r = argument-begins n k p kind st g r
step-rises n modules modes.Params k p kind st g r = parameter-rises n k p kind st g r
step-rises n modules modes.ShortAssign k p kind st g r = short-assign-rises n k kind st r
step-rises n modules modes.PathStart k p kind st g r = path-start-rises n k p kind st g r
step-rises n modules modes.Line k p kind st g r = line-begins n k p kind st g r
step-rises n modules modes.Closed k p kind st g r = after-line-rises n k kind st g r
step-rises n modules modes.Payload k p kind st g r = payload-rises n modules k p kind st g r
step-rises n modules (modes.EvalName m) k p kind st g r = eval-name-rises n modules m k p kind st g r
step-rises n modules modes.EvalColon k p kind st g r = expect-rises n signs.Colon kind (at modes.EvalOpen k) (record { stack = st; good = g; rises = r })
step-rises n modules modes.EvalOpen k p kind st g r =
    expect-rises n signs.LeftParen kind (at modes.Payload (frames.Payload None true ∷ k)) (record { stack = (g, st); good = refl; rises = grind arith })
step-rises n modules (modes.PayloadEnd s) k p kind st g r = expect-rises n signs.RightParen kind (at (modes.EvalEnd s) k) (record { stack = st; good = g; rises = r })
step-rises n modules (modes.EvalEnd s) k p kind st g r = expect-rises n signs.RightParen kind (closed_line s k) (line-rises n s k st r)
step-rises n modules (modes.Return at') k p kind st g r = return-rises n at' k p kind st g r
step-rises n modules (modes.GlobalName at') k p kind st g r = name-rises n (modes.GlobalAssign at') k p kind (λ x. record { stack = st; good = g; rises = r })
step-rises n modules (modes.GlobalAssign at' x) k p kind st g r = global-rises n at' x k p kind st g r
step-rises n modules modes.ConstName k p kind st g r = name-rises n modes.ConstAssign k p kind (λ x. record { stack = st; good = g; rises = r })
step-rises n modules (modes.ConstAssign x) k p kind st g r =
    expect-rises n signs.Assign kind (at modes.Want (frames.Hole (purposes.Const x) ∷ k)) (record { stack = (g, st); good = refl; rises = r })
step-rises n modules modes.LoopName k p kind st g r = name-rises n modes.LoopIn k p kind (λ x. record { stack = st; good = g; rises = r })
step-rises n modules (modes.LoopIn x) k p kind st g r = bounds-rises n x k kind st g r
step-rises n modules (modes.UsingName names) k p kind st g r = name-rises n (λ x. modes.UsingMore (names ++ x ∷ [])) k p kind (λ x. record { stack = st; good = g; rises = r })
step-rises n modules (modes.UsingMore names) k p kind st g r = use-rises n names k kind st g r
step-rises n modules modes.AbstractName k p kind st g r = name-rises n (λ x. modes.Header (headers.Abstract x)) k p kind (λ x. record { stack = st; good = g; rises = r })
step-rises n modules (modes.StructName mutable) k p kind st g r = name-rises n (λ x. modes.Header (headers.Struct mutable x)) k p kind (λ x. record { stack = st; good = g; rises = r })
step-rises n modules (modes.Header h) k p kind st g r = header-begins n h k p kind st g r
step-rises n modules modes.FieldStart k p kind st g r = start-field-rises n k p.start kind st g r
step-rises n modules (modes.Declared x) k p kind st g r = declared-rises n x k kind st g r
step-rises n modules (modes.TypesOpen f) k p kind st g r = expect-rises n signs.LeftParen kind (at modes.Types (frames.Types f [] ∷ k)) (record { stack = (g, st); good = refl; rises = r })
step-rises n modules modes.Types k p kind st g r = types-rise n k p kind st g r
step-rises n modules modes.DirectiveEnd k p kind st g r = directive-rises n k kind st r
step-rises n modules modes.PackageStart k p kind st g r = package-start-rises n k kind st g r
step-rises n modules modes.PackageName k p kind st g r = name-rises n modes.PackageNamed k p kind (λ x. record { stack = st; good = g; rises = r })
step-rises n modules (modes.PackageNamed x) k p kind st g r = package-named-rises n x k kind g r
step-rises n modules modes.PackageEnd k p kind st g r = package-end-rises n k kind st g r
step-rises n modules modes.Accepted k p kind st g r = tt

-- Tokens one by one.
pub run-rises : (n : ℕ) (modules : Modules) (ts : List Token) (s : Option State) → Rise n s → Rise n (run modules ts s)
unfolding need run step
run-rises n modules ts None r = none ts
  where
    none : (ts : List Token) → Rise n (run modules ts None)
    none [] = tt
    none (t ∷ ts) = tt
run-rises n modules [] (Some s) r = r
run-rises n modules (t ∷ ts) (Some s) r = run-rises n modules ts (step modules s t) (step-rises n modules s.mode s.frames (place t) t.what r.stack r.good r.rises)

pub start-rises : (kind : Kind) → Rises 0 (start kind)
unfolding need depth
start-rises script = record { stack = (refl, tt); good = refl; rises = grind arith }
start-rises «package» = record { stack = tt; good = refl; rises = grind arith }

-- every state that is reached stands well
pub reached-stands : (modules : Modules) (kind : Kind) (tokens : List Token) (s : State) → reached modules kind tokens ≡ Some s → Rises 0 s
reached-stands modules kind tokens s e = subst (λ x. Rise 0 x) e (run-rises 0 modules tokens (Some (start kind)) (start-rises kind))

again : (s : State) → Rises 0 s → Rises (need s) s
again s r = record { stack = r.stack; good = r.good; rises = grind arith }

pub monotone : Monotone
monotone modules kind tokens more s t before later = rising (subst (λ x. Rise (need s) x) later (run-rises (need s) (with_base modules) more (Some s) (again s (reached-stands (with_base modules) kind tokens s before))))
  where
    rising : Rises (need s) t → need s ≤ need t
    rising r = r.rises
