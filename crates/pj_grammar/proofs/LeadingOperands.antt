-- From every mode over frames that stands well, tokens lead on to a text that is read, and that nests no deeper than the state needs.
use Rattle.std.proofs.Common.{◌≡◌, ◌≤◌, ◌+◌, arith, ℕ, Bool, true, false, List, [], ◌∷◌, ◌++◌, Option, Some, None, refl, sym, subst, ◌∙◌, codes}
use Rattle.pj_words.specs.declared.word.Word.TheVariants as words
use Rattle.pj_lex.specs.declared.sign.Sign.TheVariants as signs
use Rattle.pj_lex.specs.declared.token.TokenKind.{TokenKind}
use Rattle.pj_lex.specs.declared.token.TokenKind.TheVariants as kinds
use Rattle.pj_syntax.specs.declared.expression.Spot.{Spot}
use Rattle.pj_syntax.specs.declared.expression.Path.{Path}
use Rattle.pj_syntax.specs.declared.expression.Path.TheVariants as paths
use Rattle.pj_syntax.specs.declared.statement.Param.{Param}
use Rattle.pj_grammar.specs.declared.node.Node.{Node}
use Rattle.pj_grammar.specs.declared.frame.Form.{Form}
use Rattle.pj_grammar.specs.declared.frame.Form.TheVariants as forms
use Rattle.pj_grammar.specs.declared.frame.Frame.{Frame}
use Rattle.pj_grammar.specs.declared.frame.Frame.TheVariants as frames
use Rattle.pj_grammar.specs.declared.frame.Header.TheVariants as headers
use Rattle.pj_grammar.specs.declared.frame.Opener.TheVariants as openers
use Rattle.pj_grammar.specs.declared.frame.Purpose.TheVariants as purposes
use Rattle.pj_grammar.specs.declared.frame.Root.TheVariants as roots
use Rattle.pj_grammar.specs.declared.frame.Target.TheVariants as targets
use Rattle.pj_grammar.specs.declared.mode.Head.{Head}
use Rattle.pj_grammar.specs.declared.mode.Head.TheVariants as heads
use Rattle.pj_grammar.specs.declared.mode.Mode.TheVariants as modes
use Rattle.pj_grammar.specs.declared.mode.Parsed.TheVariants as parsed
use Rattle.pj_grammar.specs.Closing.{closed_entry, closed_line, closed_method, ending}
use Rattle.pj_grammar.specs.Frames.{at, guarded, head_path, is_value, node, takes_items, takes_lines, takes_short}
use Rattle.pj_grammar.specs.Machine.{run}
use Rattle.pj_grammar.specs.Makers.{Entry, abstract_of, argument_before, directive_of, field_of, for_of, if_of, lacks, leaf, method_of, name_of, no_lines, paths_given, struct_of, while_of}
use Rattle.pj_grammar.specs.Modules.{Modules}
use Rattle.pj_grammar.specs.Need.{depth, head_nesting, need_at, place_nesting}
use Rattle.pj_grammar.specs.Operands.{end_params}
use Rattle.pj_grammar.specs.Tokens.{spot}
use Rattle.pj_grammar.specs.Theorems.{Leads}
use Rattle.pj_grammar.proofs.LeadingExpressions.{expression-ends, have-leads}
use Rattle.pj_grammar.proofs.RisingOperands.{some-node}
use Rattle.pj_grammar.proofs.LeadingEnds.{closed, entry-ends, here, line-ends, method-ends, step-leads, zero_kind, zero_node}
use Rattle.pj_grammar.proofs.Levels.{absurd-of}
use Rattle.pj_grammar.proofs.RisingExpressions.{place-exact}
use Rattle.pj_grammar.proofs.Stacks.{HeadOver, Stack, is_short, lines-if, takes_expression, takes_name, takes_path}

-- a name; where a module is used, one that every text has
abbrev pub some_name : TokenKind
some_name = kinds.Name (codes "x")

abbrev pub some_spot : Spot
some_spot = spot here (codes "x")

abbrev pub base_name : TokenKind
base_name = kinds.Name (codes "Base")

abbrev pub base_spot : Spot
base_spot = spot here (codes "Base")

-- A list of statements or items ends.
pub data ListEnds (modules : Modules) (limit : ℕ) (k : List Frame) : Type 0 where
  by_end : Leads modules limit (ending k (kinds.Reserved words.End)) → ListEnds modules limit k
  by_eof : Leads modules limit (ending k kinds.Eof) → ListEnds modules limit k

pub lines-end : (modules : Modules) (limit : ℕ) (k : List Frame) → Stack k → takes_lines k ≡ true → need_at 0 (depth k) ≤ limit → ListEnds modules limit k
unfolding depth if_of while_of for_of method_of no_lines run
lines-end modules limit (frames.Block (openers.If c) ss ∷ k) st takes h =
    by_end (closed (closed_line (if_of c ss no_lines) k) (line-ends modules limit (if_of c ss no_lines) k st.1 st.0 (grind arith)))
lines-end modules limit (frames.Block (openers.Else c b) ss ∷ k) st takes h =
    by_end (closed (closed_line (if_of c b ss) k) (line-ends modules limit (if_of c b ss) k st.1 st.0 (grind arith)))
lines-end modules limit (frames.Block (openers.While c) ss ∷ k) st takes h =
    by_end (closed (closed_line (while_of c ss) k) (line-ends modules limit (while_of c ss) k st.1 (lines-if k st.0) (grind arith)))
lines-end modules limit (frames.Block (openers.For x a b) ss ∷ k) st takes h =
    by_end (closed (closed_line (for_of x a b ss) k) (line-ends modules limit (for_of x a b ss) k st.1 (lines-if k st.0) (grind arith)))
lines-end modules limit (frames.Block (openers.Function f ps) ss ∷ k) st takes h =
    by_end (closed (closed_method (method_of f ps ss) k) (method-ends modules limit (method_of f ps ss) k st.1 st.0 (grind arith)))
lines-end modules limit (frames.Items roots.Script is ∷ []) st takes h =
    by_eof (record { more = []; tree = parsed.Script (record { items = is.trees }); nesting = is.nesting; is = refl; within = grind arith })
lines-end modules limit (frames.Items (roots.Package x uses) is ∷ []) st takes h =
    by_end (step-leads modes.PackageEnd (frames.Items (roots.Package x uses) is ∷ []) kinds.Eof
    (record { more = []; tree = parsed.Package (record { name = x; uses = uses; items = is.trees }); nesting = is.nesting; is = refl; within = grind arith }))
lines-end modules limit (frames.Items root is ∷ f ∷ k) st takes h = absurd-of st.0
lines-end modules limit k st takes h = absurd-of takes

line-list : {modules : Modules} {limit : ℕ} (k : List Frame) → ListEnds modules limit k → Leads modules limit (at modes.Line k)
line-list k (by_end l) = step-leads modes.Line k (kinds.Reserved words.End) l
line-list k (by_eof l) = step-leads modes.Line k kinds.Eof l

pub closed-list : {modules : Modules} {limit : ℕ} (k : List Frame) → ListEnds modules limit k → Leads modules limit (at modes.Closed k)
closed-list k (by_end l) = step-leads modes.Closed k (kinds.Reserved words.End) l
closed-list k (by_eof l) = step-leads modes.Closed k kinds.Eof l

pub line-leads : (modules : Modules) (limit : ℕ) (k : List Frame) → Stack k → takes_lines k ≡ true → need_at 0 (depth k) ≤ limit → Leads modules limit (at modes.Line k)
line-leads modules limit k st takes h = line-list k (lines-end modules limit k st takes h)

-- An item ends.
pub entry-leads : (modules : Modules) (limit : ℕ) (i : Entry) (k : List Frame) → Stack k → takes_items k ≡ true → i.nesting ≡ 0 → need_at 0 (depth k) ≤ limit
    → Leads modules limit (closed_entry i k)
entry-leads modules limit i k st takes none h = closed (closed_entry i k) (entry-ends modules limit i k st takes (grind arith))

-- Expressions.
pub value-leads : (modules : Modules) (limit : ℕ) (h : Head) (k : List Frame) → Stack k → takes_expression k ≡ true → is_value h ≡ true → 1 ≤ (node h).nesting
    → need_at (node h).nesting (depth k) ≤ limit → Leads modules limit (at (modes.Have h) k)
value-leads modules limit h k st takes v some r = have-leads h k takes v (expression-ends modules limit k st takes h v some r)

pub zero-leads : (modules : Modules) (limit : ℕ) (k : List Frame) → Stack k → takes_expression k ≡ true → need_at 1 (depth k) ≤ limit
    → Leads modules limit (at (modes.Have (heads.Plain zero_node)) k)
unfolding leaf
zero-leads modules limit k st takes r = value-leads modules limit (heads.Plain zero_node) k st takes refl (grind arith) r

pub want-leads : (modules : Modules) (limit : ℕ) (k : List Frame) → Stack k → takes_expression k ≡ true → need_at 1 (depth k) ≤ limit
    → Leads modules limit (at modes.Want k)
want-leads modules limit k st takes r = step-leads modes.Want k zero_kind (zero-leads modules limit k st takes r)

-- Parameters.
pub short-leads : (modules : Modules) (limit : ℕ) (k : List Frame) → Stack k → is_short k ≡ true → need_at 1 (depth k) ≤ limit → Leads modules limit (at modes.ShortAssign k)
unfolding depth
short-leads modules limit (frames.Signature forms.Short f ps ∷ k) st is r =
    step-leads modes.ShortAssign (frames.Signature forms.Short f ps ∷ k) (kinds.Sign signs.Assign) (want-leads modules limit (frames.Hole (purposes.Short f ps) ∷ k) st refl r)
short-leads modules limit (frames.Signature forms.Long f ps ∷ k) st is r = absurd-of is
short-leads modules limit k st is r = absurd-of is

pub signature-leads : (modules : Modules) (limit : ℕ) (form : Form) (f : Path) (ps : List Param) (k : List Frame) → Stack (frames.Signature form f ps ∷ k)
    → need_at 1 (depth (frames.Signature form f ps ∷ k)) ≤ limit → Leads modules limit (end_params (frames.Signature form f ps ∷ k))
unfolding depth method_of no_lines
signature-leads modules limit forms.Long f ps k st r =
    step-leads modes.Line (frames.Block (openers.Function f ps) no_lines ∷ k) (kinds.Reserved words.End)
    (closed (closed_method (method_of f ps no_lines) k) (method-ends modules limit (method_of f ps no_lines) k st.1 st.0 (grind arith)))
signature-leads modules limit forms.Short f ps k st r = short-leads modules limit (frames.Signature forms.Short f ps ∷ k) st refl r

-- Directives.
pub directive-leads : (modules : Modules) (limit : ℕ) (f : Path) (ts : List Path) (k : List Frame) → Stack (frames.Types f ts ∷ k) → need_at 1 (depth k) ≤ limit
    → Leads modules limit (at modes.DirectiveEnd (frames.Types f ts ∷ k))
unfolding directive_of
directive-leads modules limit f ts k st r =
    step-leads modes.DirectiveEnd (frames.Types f ts ∷ k) (kinds.Sign signs.RightParen) (entry-leads modules limit (directive_of f ts) k st.1 st.0 refl (grind arith))

pub types-leads : (modules : Modules) (limit : ℕ) (f : Path) (ts : List Path) (k : List Frame) → Stack (frames.Types f ts ∷ k) → need_at 1 (depth k) ≤ limit
    → Leads modules limit (at modes.Types (frames.Types f ts ∷ k))
types-leads modules limit f ts k st r = step-leads modes.Types (frames.Types f ts ∷ k) (kinds.Sign signs.RightParen) (directive-leads modules limit f ts k st r)

pub types-open-leads : (modules : Modules) (limit : ℕ) (f : Path) (k : List Frame) → Stack k → takes_items k ≡ true → need_at 1 (depth k) ≤ limit
    → Leads modules limit (at (modes.TypesOpen f) k)
types-open-leads modules limit f k st i r = step-leads (modes.TypesOpen f) k (kinds.Sign signs.LeftParen) (types-leads modules limit f [] k (i, st) r)

-- The types of parameters and fields.
pub struct-leads : (modules : Modules) (limit : ℕ) (mutable : Bool) (x : Spot) (parent : Option Path) (fs : List Param) (k : List Frame) → Stack k → takes_items k ≡ true
    → need_at 1 (depth k) ≤ limit → Leads modules limit (closed_entry (struct_of mutable x parent fs) k)
unfolding struct_of
struct-leads modules limit mutable x parent fs k st i r = entry-leads modules limit (struct_of mutable x parent fs) k st i refl (grind arith)

-- A name in a place that takes no expression.
name-leads : (modules : Modules) (limit : ℕ) (h : Head) (f : Path) → head_path h ≡ Some f → (k : List Frame) → Stack k → takes_path k ≡ true → takes_expression k ≡ false
    → need_at 1 (depth k) ≤ limit → Leads modules limit (at (modes.Have h) k)
unfolding depth abstract_of
name-leads modules limit h f e (frames.FunctionName ∷ k) st takes lone r =
    step-leads (modes.Have h) (frames.FunctionName ∷ k) (kinds.Sign signs.LeftParen)
    (rw e (step-leads modes.Params (frames.Signature forms.Long f [] ∷ k) (kinds.Sign signs.RightParen) (signature-leads modules limit forms.Long f [] k st r)))
name-leads modules limit h f e (frames.TypeOf x p ∷ frames.Signature form g ps ∷ k) st takes lone r =
    step-leads (modes.Have h) (frames.TypeOf x p ∷ frames.Signature form g ps ∷ k) (kinds.Sign signs.RightParen)
    (rw e (signature-leads modules limit form g (ps ++ record { at = p; name = x; declared = Some f } ∷ []) k st.1 r))
name-leads modules limit h f e (frames.TypeOf x p ∷ frames.Fields mutable s parent fs ∷ k) st takes lone r =
    step-leads (modes.Have h) (frames.TypeOf x p ∷ frames.Fields mutable s parent fs ∷ k) (kinds.Reserved words.End)
    (rw e (struct-leads modules limit mutable s parent (fs ++ record { at = p; name = x; declared = Some f } ∷ []) k st.1.1 st.1.0 r))
name-leads modules limit h f e (frames.TypeOf x p ∷ k) st takes lone r = absurd-of st.0
name-leads modules limit h f e (frames.Parent (headers.Abstract x) ∷ k) st takes lone r =
    step-leads (modes.Have h) (frames.Parent (headers.Abstract x) ∷ k) (kinds.Reserved words.End)
    (rw e (entry-leads modules limit (abstract_of x (Some f)) k st.1 st.0 refl (grind arith)))
name-leads modules limit h f e (frames.Parent (headers.Struct mutable x) ∷ k) st takes lone r =
    step-leads (modes.Have h) (frames.Parent (headers.Struct mutable x) ∷ k) (kinds.Reserved words.End)
    (rw e (struct-leads modules limit mutable x (Some f) [] k st.1 st.0 r))
name-leads modules limit h f e (frames.DirectiveFun ∷ k) st takes lone r =
    step-leads (modes.Have h) (frames.DirectiveFun ∷ k) (kinds.Sign signs.Comma) (rw e (types-open-leads modules limit f k st.1 st.0 r))
name-leads modules limit h f e (frames.Types g ts ∷ k) st takes lone r =
    step-leads (modes.Have h) (frames.Types g ts ∷ k) (kinds.Sign signs.Comma) (rw e (types-leads modules limit g (ts ++ f ∷ []) k st r))
name-leads modules limit h f e k st takes lone r = absurd-of (sym lone ∙ takes)

-- What becomes an assignment or a definition.
place-plain : (e : Node) (k : List Frame) → takes_lines k ≡ false → place_nesting e (frames.Hole purposes.Value ∷ k) ≡ 1 + e.nesting
place-plain e k h = rw h refl

placed-leads : (modules : Modules) (limit : ℕ) (e : Node) (x : Spot) (k : List Frame) (b : Bool) → takes_lines k ≡ b → Stack (frames.Hole purposes.Value ∷ k) → 1 ≤ e.nesting
    → need_at (place_nesting e (frames.Hole purposes.Value ∷ k)) (depth (frames.Hole purposes.Value ∷ k)) ≤ limit
    → Leads modules limit (at (modes.Have (heads.Place e x)) (frames.Hole purposes.Value ∷ k))
unfolding depth field_of
placed-leads modules limit e x k true t st some r =
    step-leads (modes.Have (heads.Place e x)) (frames.Hole purposes.Value ∷ k) (kinds.Sign signs.Assign)
    (subst (λ b. Leads modules limit (guarded b (at modes.Want (frames.Hole (purposes.Assign (targets.Field e x) None) ∷ k)))) (sym t)
    (want-leads modules limit (frames.Hole (purposes.Assign (targets.Field e x) None) ∷ k) (t, st.1) refl
    (let z : place_nesting e (frames.Hole purposes.Value ∷ k) ≡ e.nesting = place-exact e k t in grind arith)))
placed-leads modules limit e x k false t st some r =
    value-leads modules limit (heads.Place e x) (frames.Hole purposes.Value ∷ k) st refl refl (grind arith)
    (let z : place_nesting e (frames.Hole purposes.Value ∷ k) ≡ 1 + e.nesting = place-plain e k t in grind arith)

place-leads : (modules : Modules) (limit : ℕ) (e : Node) (x : Spot) (k : List Frame) → Stack k → takes_expression k ≡ true → 1 ≤ e.nesting
    → need_at (place_nesting e k) (depth k) ≤ limit → Leads modules limit (at (modes.Have (heads.Place e x)) k)
unfolding field_of
place-leads modules limit e x (frames.Hole purposes.Value ∷ k) st takes some r = placed-leads modules limit e x k (takes_lines k) refl st some r
place-leads modules limit e x k st takes some r = value-leads modules limit (heads.Place e x) k st takes refl (grind arith) r

define-leads : (modules : Modules) (limit : ℕ) (f : Path) (k : List Frame) → Stack k → takes_short k ≡ true → need_at 3 (depth k) ≤ limit
    → Leads modules limit (at (modes.Have (heads.Call f [])) k)
unfolding depth
define-leads modules limit f (frames.Hole purposes.Value ∷ k) st takes r =
    step-leads (modes.Have (heads.Call f [])) (frames.Hole purposes.Value ∷ k) (kinds.Sign signs.Assign)
    (subst (λ b. Leads modules limit (guarded b (at modes.Want (frames.Hole (purposes.Short f []) ∷ k)))) (sym takes)
    (want-leads modules limit (frames.Hole (purposes.Short f []) ∷ k) (takes, st.1) refl (grind arith)))
define-leads modules limit f k st takes r = absurd-of takes

lacking-nests : (f : Path) (k : List Frame) → lacks f (paths_given []) ≡ true → head_nesting (heads.Call f []) k ≡ 3
lacking-nests f k l = rw l refl

called-nests : (f : Path) (k : List Frame) → lacks f (paths_given []) ≡ false → head_nesting (heads.Call f []) k ≡ (node (heads.Call f [])).nesting
called-nests f k l = rw l refl

empty-leads : (modules : Modules) (limit : ℕ) (f : Path) (k : List Frame) (b : Bool) → lacks f (paths_given []) ≡ b → Stack k → HeadOver (heads.Call f []) k
    → need_at (head_nesting (heads.Call f []) k) (depth k) ≤ limit → Leads modules limit (at (modes.Have (heads.Call f [])) k)
empty-leads modules limit f k true l st o r = define-leads modules limit f k st (o.1 l) (let z : head_nesting (heads.Call f []) k ≡ 3 = lacking-nests f k l in grind arith)
empty-leads modules limit f k false l st o r =
    value-leads modules limit (heads.Call f []) k st o.0 (rw l refl) (some-node (heads.Call f []) k o)
    (let z : head_nesting (heads.Call f []) k ≡ (node (heads.Call f [])).nesting = called-nests f k l in grind arith)

call-head-leads : (modules : Modules) (limit : ℕ) (f : Path) (ps : List Path) (k : List Frame) → Stack k → HeadOver (heads.Call f ps) k
    → need_at (head_nesting (heads.Call f ps) k) (depth k) ≤ limit → Leads modules limit (at (modes.Have (heads.Call f ps)) k)
unfolding lacks paths_given argument_before
call-head-leads modules limit f [] k st o r = empty-leads modules limit f k (lacks f (paths_given [])) refl st o r
call-head-leads modules limit f (p ∷ ps) k st o r = value-leads modules limit (heads.Call f (p ∷ ps)) k st o.0 refl (some-node (heads.Call f (p ∷ ps)) k o) r

-- A name that can have a module.
path-leads : (modules : Modules) (limit : ℕ) (h : Head) (f : Path) → head_path h ≡ Some f → (k : List Frame) (b : Bool) → takes_expression k ≡ b → Stack k → takes_path k ≡ true
    → is_value h ≡ true → (node h).nesting ≡ 1 → need_at 1 (depth k) ≤ limit → Leads modules limit (at (modes.Have h) k)
path-leads modules limit h f e k true t st takes v one r = value-leads modules limit h k st t v (grind arith) (grind arith)
path-leads modules limit h f e k false t st takes v one r = name-leads modules limit h f e k st takes t r

pub bare-leads : (modules : Modules) (limit : ℕ) (x : Spot) (k : List Frame) → Stack k → takes_name k ≡ true → need_at 1 (depth k) ≤ limit
    → Leads modules limit (at (modes.Have (heads.Name x)) k)
unfolding depth name_of
bare-leads modules limit x (frames.Signature form f ps ∷ k) st takes r =
    step-leads (modes.Have (heads.Name x)) (frames.Signature form f ps ∷ k) (kinds.Sign signs.RightParen)
    (signature-leads modules limit form f (ps ++ record { at = x.at; name = Some x; declared = None } ∷ []) k st r)
bare-leads modules limit x (frames.Fields mutable s parent fs ∷ k) st takes r =
    step-leads (modes.Have (heads.Name x)) (frames.Fields mutable s parent fs ∷ k) (kinds.Reserved words.End)
    (struct-leads modules limit mutable s parent (fs ++ record { at = x.at; name = Some x; declared = None } ∷ []) k st.1 st.0 r)
bare-leads modules limit x k st takes r = path-leads modules limit (heads.Name x) (paths.Bare x) refl k (takes_expression k) refl st takes refl refl r

pub head-leads : (modules : Modules) (limit : ℕ) (h : Head) (k : List Frame) → Stack k → HeadOver h k → need_at (head_nesting h k) (depth k) ≤ limit
    → Leads modules limit (at (modes.Have h) k)
unfolding name_of
head-leads modules limit (heads.Name x) k st o r = bare-leads modules limit x k st o r
head-leads modules limit (heads.Member m x) k st o r = path-leads modules limit (heads.Member m x) (paths.Of m x) refl k (takes_expression k) refl st o refl refl r
head-leads modules limit (heads.Operator m x) k st o r = path-leads modules limit (heads.Operator m x) (paths.Of m x) refl k (takes_expression k) refl st o refl refl r
head-leads modules limit (heads.Place e x) k st o r = place-leads modules limit e x k st o.0 o.1 r
head-leads modules limit (heads.Call f ps) k st o r = call-head-leads modules limit f ps k st o r
head-leads modules limit (heads.Plain e) k st o r = value-leads modules limit (heads.Plain e) k st o.0 refl o.1 r
