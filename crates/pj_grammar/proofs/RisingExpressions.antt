-- From an operand on, the frames stay well stacked and the need doesn't fall: parameters, fields, types, calls and what ends an expression.
use Rattle.std.proofs.Common.{◌≡◌, ◌≤◌, ◌+◌, arith, max, ℕ, Bool, true, false, List, [], ◌∷◌, ◌++◌, if◌then◌else◌, Option, Some, None, refl, ◌∙◌, codes}
use Rattle.std.specs.Str.{bytes_eq}
use Rattle.pj_words.specs.declared.word.Word.TheVariants as words
use Rattle.pj_lex.specs.declared.sign.Sign.{Sign}
use Rattle.pj_lex.specs.declared.sign.Sign.TheVariants as signs
use Rattle.pj_lex.specs.declared.token.TokenKind.{TokenKind}
use Rattle.pj_lex.specs.declared.token.TokenKind.TheVariants as kinds
use Rattle.pj_syntax.specs.declared.expression.Spot.{Spot}
use Rattle.pj_syntax.specs.declared.expression.Path.{Path}
use Rattle.pj_syntax.specs.declared.expression.Path.TheVariants as paths
use Rattle.pj_syntax.specs.declared.statement.Param.{Param}
use Rattle.pj_grammar.specs.declared.level.Level.TheVariants as levels
use Rattle.pj_grammar.specs.declared.node.Node.{Node}
use Rattle.pj_grammar.specs.declared.frame.Form.TheVariants as forms
use Rattle.pj_grammar.specs.declared.frame.Frame.{Frame}
use Rattle.pj_grammar.specs.declared.frame.Frame.TheVariants as frames
use Rattle.pj_grammar.specs.declared.frame.Given.{Given}
use Rattle.pj_grammar.specs.declared.frame.Given.TheVariants as given
use Rattle.pj_grammar.specs.declared.frame.Header.{Header}
use Rattle.pj_grammar.specs.declared.frame.Header.TheVariants as headers
use Rattle.pj_grammar.specs.declared.frame.Purpose.{Purpose}
use Rattle.pj_grammar.specs.declared.frame.Purpose.TheVariants as purposes
use Rattle.pj_grammar.specs.declared.frame.Target.TheVariants as targets
use Rattle.pj_grammar.specs.declared.mode.Head.{Head}
use Rattle.pj_grammar.specs.declared.mode.Head.TheVariants as heads
use Rattle.pj_grammar.specs.declared.mode.Mode.TheVariants as modes
use Rattle.pj_grammar.specs.Frames.{at, give, head_path, is_value, node, params_of, settle, takes_definition, takes_directives, takes_items, takes_lines, takes_short}
use Rattle.pj_grammar.specs.Levels.{left_of}
use Rattle.pj_grammar.specs.Makers.{abstract_of, call_of, const_of, declared, field_of, group_of, infix_height, lacks, line_before, method_of, name_of, no_lines, paths_given, return_of, short_method, struct_of, value_of}
use Rattle.pj_grammar.specs.Modules.{Modules}
use Rattle.pj_grammar.specs.Need.{depth, given_nesting, head_nesting, need, need_at, place_nesting}
use Rattle.pj_grammar.specs.Operands.{Next, add_name, add_param, after_argument, after_field, after_function, after_group, after_header, after_param, after_path, after_purpose, after_type, assignment, begin_type, begin_types, close_call, close_paths, dot, end_fields, end_params, finish, finish_at, have, have_assign, have_first, have_next, have_other, have_path, have_type, have_value, infix_, is_plain, is_type_word, next, next_sign, other, paren, question, start_field, type, type_of_param, type_path}
use Rattle.pj_grammar.specs.Statements.{assigning, operator_at}
use Rattle.pj_grammar.specs.Tokens.{Place}
use Rattle.pj_grammar.proofs.Levels.{Binary, absurd-of, and, comparison, or, product, sum}
use Rattle.pj_grammar.proofs.RisingOperands.{and-right, ask-rises, call-head-high, call-head-low, define-rises, dot-rises, extend-rises, give-low, if-rises, paren-rises, some-node, value-rises-here}
use Rattle.pj_grammar.proofs.RisingEnds.{after-end-rises, entry-rises, flat, line-rises, method-rises, set-rises, value-rises}
use Rattle.pj_grammar.proofs.RisingOperators.{Ended, ended, guard-rises}
use Rattle.pj_grammar.proofs.Stacks.{GroupOver, HeadOver, Over, Rise, Stack, directives-items, is_fields, is_signature, takes_expression, takes_set}

-- Types of parameters and fields.
pub type-of-rises : (n : ℕ) (x : Option Spot) (p : ℕ) (f : Path) (ps : Option (List Param)) (k : List Frame) → Stack k → n ≤ need_at 4 (depth k)
    → Rise n (type_of_param x p f ps k)
unfolding need depth
type-of-rises n x p f (Some ps) k st r = guard-rises n (takes_definition k) _ (λ a. record { stack = (refl, (a, st)); good = refl; rises = grind arith })
type-of-rises n x p f None k st r = tt

pub type-rises : (n : ℕ) (h : Head) (k : List Frame) → Stack k → n ≤ need_at (head_nesting h k) (depth k) → Rise n (have_type h k)
unfolding need depth name_of
type-rises n (heads.Name x) (frames.Signature form f ps ∷ k) st r = record { stack = (refl, st); good = refl; rises = r }
type-rises n (heads.Name x) (frames.Fields mutable s parent fs ∷ k) st r = record { stack = (refl, st); good = refl; rises = r }
type-rises n (heads.Name x) (frames.Call f (given.Paths []) ∷ frames.Hole purposes.Value ∷ k) st r = type-of-rises n (Some x) x.at f (params_of []) k st.1.1 (grind arith)
type-rises n (heads.Name x) (frames.Call f (given.Paths (p ∷ ps)) ∷ frames.Hole purposes.Value ∷ k) st r = type-of-rises n (Some x) x.at f (params_of (p ∷ ps)) k st.1.1 (grind arith)
type-rises n h k st r = tt

-- Parameters.
pub params-end-rises : (n : ℕ) (k : List Frame) → Stack k → n ≤ need_at 1 (depth k) → Rise n (end_params k)
unfolding need depth no_lines
params-end-rises n (frames.Signature forms.Long f ps ∷ k) st r = record { stack = st; good = refl; rises = grind arith }
params-end-rises n (frames.Signature forms.Short f ps ∷ k) st r = record { stack = st; good = refl; rises = r }
params-end-rises n k st r = tt

pub param-rises : (n : ℕ) (k : List Frame) (kind : TokenKind) → Stack k → is_signature k ≡ true → n ≤ need_at 1 (depth k) → Rise n (after_param k kind)
unfolding need depth
param-rises n k (kinds.Sign signs.Comma) st is r = record { stack = st; good = is; rises = r }
param-rises n k (kinds.Sign signs.RightParen) st is r = params-end-rises n k st r
param-rises n k kind st is r = tt

-- Fields.
pub fields-end-rises : (n : ℕ) (k : List Frame) → Stack k → n ≤ need_at 1 (depth k) → Rise n (end_fields k)
unfolding depth
fields-end-rises n (frames.Fields mutable x parent fs ∷ k) st r = entry-rises n 1 (struct_of mutable x parent fs) k st.1 (grind arith) r
fields-end-rises n k st r = tt

pub field-end-rises : (n : ℕ) (k : List Frame) (kind : TokenKind) → Stack k → is_fields k ≡ true → n ≤ need_at 1 (depth k) → Rise n (after_field k kind)
unfolding need
field-end-rises n k kinds.Separator st is r = record { stack = st; good = is; rises = r }
field-end-rises n k (kinds.Reserved words.End) st is r = fields-end-rises n k st r
field-end-rises n k kind st is r = tt

fields-name : (k : List Frame) → is_fields k ≡ true → HeadOver (heads.Name (record { text = []; at = 0 })) k
fields-name (frames.Fields mutable x parent fs ∷ k) h = refl
fields-name k h = absurd-of h

pub start-field-rises : (n : ℕ) (k : List Frame) (p : ℕ) (kind : TokenKind) → Stack k → is_fields k ≡ true → n ≤ need_at 1 (depth k)
    → Rise n (start_field k p kind)
unfolding need name_of
start-field-rises n k p (kinds.Name x) st is r = record { stack = st; good = fields-name k is; rises = r }
start-field-rises n k p kind st is r = field-end-rises n k kind st is r

pub add-rises : (n : ℕ) (param : Param) (k : List Frame) (kind : TokenKind) → Stack k → n ≤ need_at 1 (depth k) → Rise n (add_param param k kind)
unfolding depth
add-rises n param (frames.Signature form f ps ∷ k) kind st r = param-rises n (frames.Signature form f (ps ++ param ∷ []) ∷ k) kind st refl r
add-rises n param (frames.Fields mutable x parent fs ∷ k) kind st r = field-end-rises n (frames.Fields mutable x parent (fs ++ param ∷ []) ∷ k) kind st refl r
add-rises n param k kind st r = tt

pub header-rises : (n : ℕ) (h : Header) (parent : Option Path) (k : List Frame) (p : ℕ) (kind : TokenKind) → Stack k → takes_items k ≡ true → n ≤ need_at 1 (depth k)
    → Rise n (after_header h parent k p kind)
unfolding depth
header-rises n (headers.Abstract x) parent k p (kinds.Reserved words.End) st i r = entry-rises n 1 (abstract_of x parent) k st (grind arith) r
header-rises n (headers.Abstract x) parent k p kind st i r = tt
header-rises n (headers.Struct mutable x) parent k p kind st i r = start-field-rises n (frames.Fields mutable x parent [] ∷ k) p kind (i, st) refl r

pub function-rises : (n : ℕ) (h : Head) (k : List Frame) (kind : TokenKind) → Stack k → n ≤ need_at (1 + head_nesting h (frames.FunctionName ∷ k)) (depth k)
    → Rise n (after_function h k kind)
unfolding need name_of
function-rises n (heads.Name x) k kinds.Separator st r = guard-rises n (takes_items k) _
    (λ i. let z : (depth k).above ≡ 0 = flat k i st in record { stack = st; good = i; rises = grind arith })
function-rises n (heads.Name x) k (kinds.Reserved words.End) st r = entry-rises n 2 (declared x) k st (grind arith) r
function-rises n (heads.Name x) k kind st r = tt
function-rises n h k kind st r = tt

pub types-rises : (n : ℕ) (f : Path) (ts : List Path) (t : Path) (k : List Frame) (kind : TokenKind) → Stack k → takes_items k ≡ true → n ≤ need_at 1 (depth k)
    → Rise n (after_type f ts t k kind)
unfolding need depth
types-rises n f ts t k (kinds.Sign signs.Comma) st i r = record { stack = (i, st); good = refl; rises = r }
types-rises n f (t' ∷ ts) t k (kinds.Sign signs.RightParen) st i r = record { stack = (i, st); good = refl; rises = r }
types-rises n f [] t k (kinds.Sign signs.RightParen) st i r = tt
types-rises n f ts t k kind st i r = tt

-- a name in a place that takes no expression
pub path-rises : (n : ℕ) (f : Frame) (t : Path) (k : List Frame) (p : ℕ) (kind : TokenKind) → Over f k → Stack k → n ≤ need_at 1 (depth k)
    → Rise n (after_path f t k p kind)
unfolding need depth
path-rises n (frames.TypeOf x first) t k p kind o st r = add-rises n (record { at = first; name = x; declared = Some t }) k kind st r
path-rises n (frames.Parent header) t k p kind o st r = header-rises n header (Some t) k p kind st o r
path-rises n frames.DirectiveFun f k p (kinds.Sign signs.Comma) o st r = record { stack = st; good = o; rises = r }
path-rises n frames.DirectiveFun f k p kind o st r = tt
path-rises n (frames.Types f ts) t k p kind o st r = types-rises n f ts t k kind st o r
path-rises n f t k p kind o st r = tt

-- Calls.
pub paths-close-rises : (n : ℕ) (f : Path) (ps : List Path) (k : List Frame) (b : Bool) → b ≡ lacks f (paths_given ps) → Stack k → takes_expression k ≡ true
    → n ≤ need_at (head_nesting (heads.Call f ps) k) (depth k) → Rise n (close_paths f ps k b)
unfolding need
paths-close-rises n f ps k true e st takes r = guard-rises n (takes_short k) _ (λ s. record { stack = st; good = (takes, λ l. s); rises = r })
paths-close-rises n f ps k false e st takes r = record { stack = st; good = (takes, λ l. absurd-of (e ∙ l)); rises = r }

pub call-close-rises : (n : ℕ) (f : Path) (g : Given) (k : List Frame) → Stack k → takes_expression k ≡ true
    → n ≤ need_at (1 + given_nesting g) (depth k) → Rise n (close_call f g k)
unfolding need call_of
call-close-rises n f (given.Paths ps) k st takes r =
    paths-close-rises n f ps k (lacks f (paths_given ps)) refl st takes
    (let l : 1 + given_nesting (given.Paths ps) ≤ head_nesting (heads.Call f ps) k = call-head-low f ps k in grind arith)
call-close-rises n f (given.Mixed es) k st takes r = record { stack = st; good = (takes, grind arith); rises = r }

pub argument-rises : (n : ℕ) (f : Path) (g : Given) (k : List Frame) (kind : TokenKind) → Stack k → takes_expression k ≡ true
    → n ≤ need_at (1 + given_nesting g) (depth k) → Rise n (after_argument f g k kind)
unfolding need depth
argument-rises n f g k (kinds.Sign signs.Comma) st takes r = record { stack = (takes, st); good = refl; rises = grind arith }
argument-rises n f g k (kinds.Sign signs.RightParen) st takes r = call-close-rises n f g k st takes r
argument-rises n f g k kind st takes r = tt

-- Groups.
pub begin-types-rises : (n : ℕ) (types : Bool) (t : Option Path) (k : List Frame) → Stack k → GroupOver types k → n ≤ need_at 2 (depth k)
    → Rise n (begin_types types t k)
unfolding need depth
begin-types-rises n true (Some t) (frames.Call (paths.Bare f) (given.Paths (g ∷ [])) ∷ frames.Hole purposes.Value ∷ k) st o r =
    let i : takes_items k ≡ true = directives-items k (and-right (bytes_eq f.text (codes "precompile")) (takes_directives k) o) in let z : (depth k).above ≡ 0 = flat k i st.1.1 in record { stack = (i, st.1.1); good = refl; rises = grind arith }
begin-types-rises n true (Some t) (frames.Call (paths.Of m f) (given.Paths (g ∷ [])) ∷ frames.Hole purposes.Value ∷ k) st o r = absurd-of o
begin-types-rises n types t k st o r = tt

typed-rises : (n : ℕ) (types : Bool) (h : Head) (k : List Frame) → Stack k → GroupOver types k → n ≤ need_at (1 + (node h).nesting) (depth k)
    → Rise n (begin_types types (type_path h) k)
unfolding name_of
typed-rises n types (heads.Name x) k st o r = begin-types-rises n types (Some (paths.Bare x)) k st o r
typed-rises n types (heads.Member m x) k st o r = begin-types-rises n types (Some (paths.Of m x)) k st o r
typed-rises n true h k st o r = tt
typed-rises n false h k st o r = tt

pub group-rises : (n p : ℕ) (types : Bool) (h : Head) (k : List Frame) (kind : TokenKind) → Stack k → takes_expression k ≡ true → GroupOver types k
    → n ≤ need_at (1 + (node h).nesting) (depth k) → Rise n (after_group p types h k kind)
unfolding need group_of
group-rises n p types h k (kinds.Sign signs.RightParen) st takes o r = record { stack = st; good = (takes, grind arith); rises = r }
group-rises n p types h k (kinds.Sign signs.Comma) st takes o r = typed-rises n types h k st o r
group-rises n p types h k kind st takes o r = tt

-- What an expression is for.
pub purpose-rises : (n : ℕ) (purpose : Purpose) (e : Node) (k : List Frame) (kind : TokenKind) → Stack (frames.Hole purpose ∷ k)
    → n ≤ need_at e.nesting (depth (frames.Hole purpose ∷ k)) → Rise n (after_purpose purpose e k kind)
unfolding need depth no_lines return_of const_of method_of line_before value_of
purpose-rises n purposes.Value e k kind st r = after-end-rises n _ kind (value-rises n e k st.1 (grind arith))
purpose-rises n (purposes.Assign target o) e k kind st r = after-end-rises n _ kind (set-rises n target o e k st.1 st.0 r)
purpose-rises n (purposes.Return p) e k kind st r = after-end-rises n _ kind (line-rises n (return_of p e) k st.1 (grind arith))
purpose-rises n (purposes.Const x) e k kind st r = after-end-rises n _ kind (entry-rises n e.nesting (const_of x e) k st.1 (grind arith) r)
purpose-rises n (purposes.Short f ps) e k kind st r = after-end-rises n _ kind (method-rises n (short_method f ps e) k st.1 (grind arith))
purpose-rises n purposes.If e k kinds.Separator st r = record { stack = st; good = refl; rises = grind arith }
purpose-rises n purposes.While e k kinds.Separator st r = record { stack = st; good = refl; rises = grind arith }
purpose-rises n (purposes.To x a) e k kinds.Separator st r = record { stack = st; good = refl; rises = grind arith }
purpose-rises n (purposes.From x) e k (kinds.Sign signs.Colon) st r = record { stack = st; good = refl; rises = grind arith }
purpose-rises n purpose e k kind st r = tt

-- The end of an expression.
pub finish-rises : (n : ℕ) (h : Head) (k : List Frame) (kind : TokenKind) → Stack k → 1 ≤ (node h).nesting → n ≤ need_at (node h).nesting (depth k)
    → Rise n (finish_at h k kind)
unfolding need depth
finish-rises n h (frames.Then c ∷ k) (kinds.Sign signs.Colon) st some r = record { stack = st; good = refl; rises = grind arith }
finish-rises n h (frames.Then c ∷ k) kind st some r = tt
finish-rises n h (frames.Group p types ∷ k) kind st some r = group-rises n p types h k kind st.1 st.0.0 st.0.1 (grind arith)
finish-rises n h (frames.Call f g ∷ k) kind st some r =
    argument-rises n f (give g h) k kind st.1 st.0 (let l : max (given_nesting g) (node h).nesting ≤ given_nesting (give g h) = give-low g h in grind arith)
finish-rises n h (frames.Hole purpose ∷ k) kind st some r = purpose-rises n purpose (node h) k kind st r
finish-rises n h k kind st some r = tt

pub value-ends-rises : (n : ℕ) (h : Head) (k : List Frame) (kind : TokenKind) → Stack k → HeadOver h k → n ≤ need_at (head_nesting h k) (depth k)
    → Rise n (have_value h k kind)
value-ends-rises n h k kind st o r = if-rises n (is_value h) _ _ (λ v. ends (ended n levels.Conditional h k st (some-node h k o) (value-rises-here n h k v r))) (λ v. tt)
  where
    ends : Ended n (settle levels.Conditional h k) → Rise n (finish (settle levels.Conditional h k) kind)
    ends e = finish-rises n (settle levels.Conditional h k).head (settle levels.Conditional h k).frames kind e.stack e.some e.rises

-- A type's definition begins.
pub begin-type-rises : (n : ℕ) (kind : TokenKind) (k : List Frame) → Stack k → n ≤ need_at 2 (depth k) → Rise n (begin_type kind k)
unfolding need
begin-type-rises n (kinds.Name y) k st r = guard-rises n (takes_items k) _ (λ i. let z : (depth k).above ≡ 0 = flat k i st in record { stack = st; good = i; rises = grind arith })
begin-type-rises n kind k st r = guard-rises n (takes_items k) _ (λ i. let z : (depth k).above ≡ 0 = flat k i st in record { stack = st; good = i; rises = grind arith })

pub first-rises : (n : ℕ) (h : Head) (k : List Frame) (kind : TokenKind) → Stack (frames.Hole purposes.Value ∷ k) → HeadOver h (frames.Hole purposes.Value ∷ k)
    → n ≤ need_at (head_nesting h (frames.Hole purposes.Value ∷ k)) (depth (frames.Hole purposes.Value ∷ k)) → Rise n (have_first h k kind)
unfolding depth name_of
first-rises n (heads.Name x) k kind st o r = if-rises n (is_type_word (heads.Name x) kind) _ _
    (λ e. begin-type-rises n kind k st.1 (grind arith))
    (λ e. value-ends-rises n (heads.Name x) (frames.Hole purposes.Value ∷ k) kind st o r)
first-rises n h k kind st o r = value-ends-rises n h (frames.Hole purposes.Value ∷ k) kind st o r

named-rises : (n : ℕ) (f : Frame) (h : Head) (k : List Frame) (p : ℕ) (kind : TokenKind) → Over f k → Stack k → n ≤ need_at (head_nesting h (f ∷ k)) (depth k)
    → Rise n (have_path f (head_path h) k p kind)
unfolding name_of
named-rises n f (heads.Name x) k p kind o st r = path-rises n f (paths.Bare x) k p kind o st r
named-rises n f (heads.Member m x) k p kind o st r = path-rises n f (paths.Of m x) k p kind o st r
named-rises n f (heads.Operator m x) k p kind o st r = path-rises n f (paths.Of m x) k p kind o st r
named-rises n f h k p kind o st r = tt

name-adds-rises : (n : ℕ) (h : Head) (k : List Frame) (kind : TokenKind) → Stack k → n ≤ need_at (head_nesting h k) (depth k) → Rise n (add_name h k kind)
unfolding name_of
name-adds-rises n (heads.Name x) k kind st r = add-rises n (record { at = x.at; name = Some x; declared = None }) k kind st r
name-adds-rises n h k kind st r = tt

-- An assignment.
pub place-exact : (e : Node) (k : List Frame) → takes_lines k ≡ true → place_nesting e (frames.Hole purposes.Value ∷ k) ≡ e.nesting
place-exact e k h = branch (takes_lines k) h
  where
    branch : (b : Bool) → b ≡ true → (if b then e.nesting else 1 + e.nesting) ≡ e.nesting
    branch true h = refl
    branch false h = absurd-of h

abbrev pub OneHigh : Option Sign → Type 0
OneHigh None = Unit {0}
OneHigh (Some s) = infix_height s ≡ 1

local-rises : (n : ℕ) (x : Spot) (k : List Frame) (p : ℕ) (o : Option Sign) → OneHigh o → Stack k → takes_lines k ≡ true → takes_set (targets.Local x) k ≡ true
    → n ≤ need_at 2 (depth k) → Rise n (at modes.Want (frames.Hole (purposes.Assign (targets.Local x) (operator_at p o)) ∷ k))
unfolding need depth name_of
local-rises n x k p None one st takes sets r = record { stack = (sets, st); good = refl; rises = grind arith }
local-rises n x k p (Some s) one st takes sets r = record { stack = ((takes, one), st); good = refl; rises = grind arith }

place-rises : (n : ℕ) (e : Node) (x : Spot) (k : List Frame) (p : ℕ) (o : Option Sign) → OneHigh o → Stack k → takes_lines k ≡ true
    → n ≤ need_at (1 + e.nesting) (depth k) → Rise n (at modes.Want (frames.Hole (purposes.Assign (targets.Field e x) (operator_at p o)) ∷ k))
unfolding need depth field_of
place-rises n e x k p None one st takes r = record { stack = (takes, st); good = refl; rises = grind arith }
place-rises n e x k p (Some s) one st takes r = record { stack = ((takes, one), st); good = refl; rises = grind arith }

pub assign-rises : (n : ℕ) (h : Head) (k : List Frame) (p : ℕ) (o : Option Sign) → OneHigh o → Stack k → n ≤ need_at (head_nesting h k) (depth k)
    → Rise n (have_assign h k p o)
unfolding need depth name_of
assign-rises n (heads.Name x) (frames.Hole purposes.Value ∷ frames.Payload m quoted ∷ k) p o one st r =
    guard-rises n (is_plain o) _ (λ a. record { stack = (refl, st.1); good = refl; rises = grind arith })
assign-rises n (heads.Name x) (frames.Hole purposes.Value ∷ k) p o one st r = local-rises n x k p o one st.1 st.0 st.0 (grind arith)
assign-rises n (heads.Place e x) (frames.Hole purposes.Value ∷ k) p o one st r =
    guard-rises n (takes_lines k) _ (λ a. place-rises n e x k p o one st.1 a (let z : place_nesting e (frames.Hole purposes.Value ∷ k) ≡ e.nesting = place-exact e k a in grind arith))
assign-rises n (heads.Call f ps) (frames.Hole purposes.Value ∷ k) p None one st r =
    define-rises n f (params_of ps) k st.1 (let l : head_nesting (heads.Call f ps) (frames.Hole purposes.Value ∷ k) ≤ 3 = call-head-high f ps (frames.Hole purposes.Value ∷ k) in grind arith)
assign-rises n h k p o one st r = tt

-- Any other token.
pub other-rises : (n : ℕ) (h : Head) (k : List Frame) (p : ℕ) (kind : TokenKind) → Stack k → HeadOver h k → n ≤ need_at (head_nesting h k) (depth k)
    → Rise n (have_other h k p kind)
unfolding depth
other-rises n h (frames.FunctionName ∷ k) p kind st o r = function-rises n h k kind st.1 (grind arith)
other-rises n h (frames.Signature form f ps ∷ k) p kind st o r = name-adds-rises n h (frames.Signature form f ps ∷ k) kind st r
other-rises n h (frames.Fields mutable x parent fs ∷ k) p kind st o r = name-adds-rises n h (frames.Fields mutable x parent fs ∷ k) kind st r
other-rises n h (frames.TypeOf x first ∷ k) p kind st o r = named-rises n (frames.TypeOf x first) h k p kind st.0 st.1 r
other-rises n h (frames.Parent header ∷ k) p kind st o r = named-rises n (frames.Parent header) h k p kind st.0 st.1 r
other-rises n h (frames.DirectiveFun ∷ k) p kind st o r = named-rises n frames.DirectiveFun h k p kind st.0 st.1 r
other-rises n h (frames.Types f ts ∷ k) p kind st o r = named-rises n (frames.Types f ts) h k p kind st.0 st.1 r
other-rises n h (frames.Hole purposes.Value ∷ k) p kind st o r = first-rises n h k kind st o r
other-rises n h k p kind st o r = value-ends-rises n h k kind st o r

-- What a sign is behind an operand.
abbrev NextFits : Next → Type 0
NextFits (infix_ l s) = Binary l
NextFits (assignment o) = OneHigh o
NextFits _ = Unit {0}

sign-fits : (s : Sign) → NextFits (next_sign s)
sign-fits signs.Same = comparison
sign-fits signs.NotSame = comparison
sign-fits signs.AddAssign = refl
sign-fits signs.SubtractAssign = refl
sign-fits signs.MultiplyAssign = refl
sign-fits signs.Equal = comparison
sign-fits signs.NotEqual = comparison
sign-fits signs.LessOrEqual = comparison
sign-fits signs.GreaterOrEqual = comparison
sign-fits signs.And = and
sign-fits signs.Or = or
sign-fits signs.DoubleColon = tt
sign-fits signs.Below = tt
sign-fits signs.Comma = tt
sign-fits signs.Assign = tt
sign-fits signs.Plus = sum
sign-fits signs.Minus = sum
sign-fits signs.Times = product
sign-fits signs.Quotient = product
sign-fits signs.Remainder = product
sign-fits signs.Less = comparison
sign-fits signs.Greater = comparison
sign-fits signs.Question = tt
sign-fits signs.Colon = tt
sign-fits signs.LeftParen = tt
sign-fits signs.RightParen = tt
sign-fits signs.Dot = tt
sign-fits signs.Not = tt

next-fits : (kind : TokenKind) → NextFits (next kind)
next-fits (kinds.Sign s) = sign-fits s
next-fits kind = tt

next-rises : (n : ℕ) (modules : Modules) (h : Head) (k : List Frame) (p : Place) (kind : TokenKind) (x : Next) → NextFits x → Stack k → HeadOver h k
    → n ≤ need_at (head_nesting h k) (depth k) → Rise n (have_next modules h k p kind x)
next-rises n modules h k p kind dot fit st o r = guard-rises n (is_value h) _ (λ v. dot-rises n modules h k st o v r)
next-rises n modules h k p kind paren fit st o r = paren-rises n h k p.blank st r
next-rises n modules h k p kind (infix_ l s) fit st o r =
    guard-rises n (is_value h) _ (λ v. extend-rises n l s p.start (settle (left_of l) h k) fit (ended n (left_of l) h k st (some-node h k o) (value-rises-here n h k v r)))
next-rises n modules h k p kind question fit st o r =
    guard-rises n (is_value h) _ (λ v. ask-rises n (settle levels.Disjunction h k) (ended n levels.Disjunction h k st (some-node h k o) (value-rises-here n h k v r)))
next-rises n modules h k p kind (assignment a) fit st o r = assign-rises n h k p.start a fit st r
next-rises n modules h k p kind type fit st o r = type-rises n h k st r
next-rises n modules h k p kind other fit st o r = other-rises n h k p.start kind st o r

pub have-rises : (n : ℕ) (modules : Modules) (h : Head) (k : List Frame) (p : Place) (kind : TokenKind) → Stack k → HeadOver h k
    → n ≤ need_at (head_nesting h k) (depth k) → Rise n (have modules h k p kind)
have-rises n modules h k p kind st o r = next-rises n modules h k p kind (next kind) (next-fits kind) st o r

-- the operators of assignments
abbrev pub AllHigh : Option (Option Sign) → Type 0
AllHigh None = Unit {0}
AllHigh (Some o) = OneHigh o

pub all-high : (s : Sign) → AllHigh (assigning s)
all-high signs.AddAssign = refl
all-high signs.SubtractAssign = refl
all-high signs.MultiplyAssign = refl
all-high s = tt
