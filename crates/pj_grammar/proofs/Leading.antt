-- Each state that is reached has tokens that lead on from it to a text that is read, and that nests no deeper than the state needs.
use Rattle.std.proofs.Common.{◌≡◌, ◌≤◌, arith, ℕ, Bool, true, false, List, [], ◌∷◌, ◌++◌, Some, None, refl, ap, ◌∙◌}
use Rattle.pj_words.specs.declared.word.Word.TheVariants as words
use Rattle.pj_lex.specs.declared.sign.Sign.TheVariants as signs
use Rattle.pj_lex.specs.declared.token.TokenKind.TheVariants as kinds
use Rattle.pj_syntax.specs.declared.expression.Spot.{Spot}
use Rattle.pj_syntax.specs.declared.expression.Path.{Path}
use Rattle.pj_grammar.specs.declared.node.Node.{Node}
use Rattle.pj_grammar.specs.declared.node.Line.{Line}
use Rattle.pj_grammar.specs.declared.frame.Frame.{Frame}
use Rattle.pj_grammar.specs.declared.frame.Frame.TheVariants as frames
use Rattle.pj_grammar.specs.declared.frame.Given.TheVariants as given
use Rattle.pj_grammar.specs.declared.frame.Header.{Header}
use Rattle.pj_grammar.specs.declared.frame.Header.TheVariants as headers
use Rattle.pj_grammar.specs.declared.frame.Purpose.TheVariants as purposes
use Rattle.pj_grammar.specs.declared.frame.Root.TheVariants as roots
use Rattle.pj_grammar.specs.declared.frame.Target.TheVariants as targets
use Rattle.pj_grammar.specs.declared.mode.Head.TheVariants as heads
use Rattle.pj_grammar.specs.declared.mode.Mode.{Mode}
use Rattle.pj_grammar.specs.declared.mode.Mode.TheVariants as modes
use Rattle.pj_grammar.specs.declared.mode.Parsed.TheVariants as parsed
use Rattle.pj_grammar.specs.Closing.{closed_line}
use Rattle.pj_grammar.specs.Frames.{at, takes_directives, takes_items, takes_lines, takes_uses}
use Rattle.pj_grammar.specs.Levels.{operator_text}
use Rattle.pj_grammar.specs.Machine.{accepted, run, start}
use Rattle.pj_grammar.specs.Makers.{abstract_of, argument_before, declared, entry_after, field_of, lacks, name_of, no_entries, paths_given, using_of}
use Rattle.pj_grammar.specs.Modules.{Modules}
use Rattle.pj_grammar.specs.Need.{argument_nesting, depth, mode_nesting, need, need_at}
use Rattle.pj_grammar.specs.Theorems.{Completion, Leads, LeadsOn, Sound, with_base}
use Rattle.pj_grammar.proofs.LeadingOperands.{base_name, base_spot, bare-leads, closed-list, directive-leads, entry-leads, head-leads, line-leads, lines-end, short-leads, signature-leads, some_name, some_spot, struct-leads, types-leads, types-open-leads, want-leads, zero-leads}
use Rattle.pj_grammar.proofs.LeadingExpressions.{called-leads, expression-ends, mixed-leads}
use Rattle.pj_grammar.proofs.Determined.{run-append}
use Rattle.pj_grammar.proofs.LeadingEnds.{closed, line-ends, quoted-leads, step-leads, zero_kind}
use Rattle.pj_grammar.proofs.Levels.{absurd-of}
use Rattle.pj_grammar.proofs.Rising.{reached-stands}
use Rattle.pj_grammar.proofs.Stacks.{Good, Rises, Stack, directives-items, is_call, is_empty, is_fields, is_payload, is_signature, is_types, lines-if, payload-value}

-- Fields behind dots.
field-leads : (modules : Modules) (limit : ℕ) (e : Node) (placed : Bool) (k : List Frame) → Stack k → Good (modes.Field e placed) k
    → need_at (mode_nesting (modes.Field e placed) k) (depth k) ≤ limit → Leads modules limit (at (modes.Field e placed) k)
unfolding field_of
field-leads modules limit e true k st g r = step-leads (modes.Field e true) k some_name (head-leads modules limit (heads.Place e some_spot) k st g r)
field-leads modules limit e false k st g r =
    step-leads (modes.Field e false) k some_name (head-leads modules limit (heads.Plain (field_of e some_spot)) k st (g.0, grind arith) r)

-- Arguments.
empty-nests : (f : Path) (k : List Frame) → lacks f (paths_given []) ≡ true → argument_nesting (frames.Call f (given.Paths []) ∷ k) ≡ 1
empty-nests f k l = rw l refl

empty-leads : (modules : Modules) (limit : ℕ) (f : Path) (k : List Frame) (b : Bool) → lacks f (paths_given []) ≡ b → Stack (frames.Call f (given.Paths []) ∷ k)
    → need_at (argument_nesting (frames.Call f (given.Paths []) ∷ k)) (depth (frames.Call f (given.Paths []) ∷ k)) ≤ limit
    → Leads modules limit (at modes.Arguments (frames.Call f (given.Paths []) ∷ k))
unfolding depth
empty-leads modules limit f k true l st r =
    step-leads modes.Arguments (frames.Call f (given.Paths []) ∷ k) zero_kind
    (zero-leads modules limit (frames.Call f (given.Paths []) ∷ k) st refl (let z : argument_nesting (frames.Call f (given.Paths []) ∷ k) ≡ 1 = empty-nests f k l in grind arith))
empty-leads modules limit f k false l st r =
    step-leads modes.Arguments (frames.Call f (given.Paths []) ∷ k) (kinds.Sign signs.RightParen)
    (called-leads modules limit f [] k l st.0 (grind arith) (expression-ends modules limit k st.1 st.0))

arguments-leads : (modules : Modules) (limit : ℕ) (k : List Frame) → Stack k → is_call k ≡ true → need_at (argument_nesting k) (depth k) ≤ limit
    → Leads modules limit (at modes.Arguments k)
unfolding depth lacks paths_given argument_before
arguments-leads modules limit (frames.Call f (given.Paths []) ∷ k) st is r = empty-leads modules limit f k (lacks f (paths_given [])) refl st r
arguments-leads modules limit (frames.Call f (given.Paths (p ∷ ps)) ∷ k) st is r =
    step-leads modes.Arguments (frames.Call f (given.Paths (p ∷ ps)) ∷ k) (kinds.Sign signs.RightParen)
    (called-leads modules limit f (p ∷ ps) k refl st.0 (grind arith) (expression-ends modules limit k st.1 st.0))
arguments-leads modules limit (frames.Call f (given.Mixed es) ∷ k) st is r =
    step-leads modes.Arguments (frames.Call f (given.Mixed es) ∷ k) (kinds.Sign signs.RightParen)
    (mixed-leads modules limit f es k st.0 (grind arith) (expression-ends modules limit k st.1 st.0))
arguments-leads modules limit k st is r = absurd-of is

params-leads : (modules : Modules) (limit : ℕ) (k : List Frame) → Stack k → is_signature k ≡ true → need_at 1 (depth k) ≤ limit → Leads modules limit (at modes.Params k)
params-leads modules limit (frames.Signature form f ps ∷ k) st is r =
    step-leads modes.Params (frames.Signature form f ps ∷ k) (kinds.Sign signs.RightParen) (signature-leads modules limit form f ps k st r)
params-leads modules limit k st is r = absurd-of is

-- What is evaluated.
payload-leads : (modules : Modules) (limit : ℕ) (k : List Frame) → Stack k → is_payload k ≡ true → need_at 2 (depth k) ≤ limit → Leads modules limit (at modes.Payload k)
unfolding depth
payload-leads modules limit k st is r =
    step-leads modes.Payload k zero_kind (zero-leads modules limit (frames.Hole purposes.Value ∷ k) (payload-value k is, st) refl (grind arith))

eval-name-leads : (modules : Modules) (limit : ℕ) (m : Spot) (k : List Frame) → Stack k → is_payload k ≡ true → need_at 2 (depth k) ≤ limit
    → Leads modules limit (at (modes.EvalName m) k)
unfolding depth
eval-name-leads modules limit m (frames.Payload None quoted ∷ k) st is r =
    step-leads (modes.EvalName m) (frames.Payload None quoted ∷ k) zero_kind
    (zero-leads modules limit (frames.Hole purposes.Value ∷ frames.Payload (Some m) quoted ∷ k) (refl, st) refl (grind arith))
eval-name-leads modules limit m (frames.Payload (Some n) quoted ∷ k) st is r =
    step-leads (modes.EvalName m) (frames.Payload (Some n) quoted ∷ k) zero_kind
    (zero-leads modules limit (frames.Hole purposes.Value ∷ frames.Payload (Some n) quoted ∷ k) (refl, st) refl (grind arith))
eval-name-leads modules limit m k st is r = absurd-of is

eval-open-leads : (modules : Modules) (limit : ℕ) (k : List Frame) → Stack k → takes_lines k ≡ true → need_at 3 (depth k) ≤ limit → Leads modules limit (at modes.EvalOpen k)
unfolding depth
eval-open-leads modules limit k st takes r =
    step-leads modes.EvalOpen k (kinds.Sign signs.LeftParen) (payload-leads modules limit (frames.Payload None true ∷ k) (takes, st) refl (grind arith))

eval-end-leads : (modules : Modules) (limit : ℕ) (s : Line) (k : List Frame) → Stack k → takes_lines k ≡ true → need_at s.nesting (depth k) ≤ limit
    → Leads modules limit (at (modes.EvalEnd s) k)
eval-end-leads modules limit s k st takes r = quoted-leads s k (closed (closed_line s k) (line-ends modules limit s k st (lines-if k takes) r))

-- Statements and items that are begun.
return-leads : (modules : Modules) (limit p : ℕ) (k : List Frame) → Stack k → takes_lines k ≡ true → need_at 2 (depth k) ≤ limit → Leads modules limit (at (modes.Return p) k)
unfolding depth
return-leads modules limit p k st takes r =
    step-leads (modes.Return p) k zero_kind (zero-leads modules limit (frames.Hole (purposes.Return p) ∷ k) (takes, st) refl (grind arith))

global-leads : (modules : Modules) (limit p : ℕ) (x : Spot) (k : List Frame) → Stack k → takes_lines k ≡ true → need_at 2 (depth k) ≤ limit
    → Leads modules limit (at (modes.GlobalAssign p x) k)
unfolding depth
global-leads modules limit p x k st takes r =
    step-leads (modes.GlobalAssign p x) k (kinds.Sign signs.Assign)
    (want-leads modules limit (frames.Hole (purposes.Assign (targets.Global p x) None) ∷ k) (takes, st) refl (grind arith))

const-leads : (modules : Modules) (limit : ℕ) (x : Spot) (k : List Frame) → Stack k → takes_items k ≡ true → need_at 1 (depth k) ≤ limit
    → Leads modules limit (at (modes.ConstAssign x) k)
unfolding depth
const-leads modules limit x k st i r =
    step-leads (modes.ConstAssign x) k (kinds.Sign signs.Assign) (want-leads modules limit (frames.Hole (purposes.Const x) ∷ k) (i, st) refl r)

loop-leads : (modules : Modules) (limit : ℕ) (x : Spot) (k : List Frame) → Stack k → takes_lines k ≡ true → need_at 2 (depth k) ≤ limit
    → Leads modules limit (at (modes.LoopIn x) k)
unfolding depth
loop-leads modules limit x k st takes r =
    step-leads (modes.LoopIn x) k (kinds.Sign signs.Assign) (want-leads modules limit (frames.Hole (purposes.From x) ∷ k) (takes, st) refl (grind arith))

uses-leads : (modules : Modules) (limit : ℕ) (names : List Spot) (k : List Frame) → Stack k → takes_uses k ≡ true → need_at 1 (depth k) ≤ limit
    → Leads modules limit (at (modes.UsingMore names) k)
unfolding depth entry_after using_of
uses-leads modules limit names (frames.Items roots.Script is ∷ k) st takes r =
    step-leads (modes.UsingMore names) (frames.Items roots.Script is ∷ k) kinds.Separator
    (line-leads modules limit (frames.Items roots.Script (entry_after is (using_of names)) ∷ k) st refl (grind arith))
uses-leads modules limit names (frames.Items (roots.Package x uses) is ∷ k) st takes r =
    step-leads (modes.UsingMore names) (frames.Items (roots.Package x uses) is ∷ k) kinds.Separator
    (line-leads modules limit (frames.Items (roots.Package x (uses ++ names)) is ∷ k) st refl (grind arith))
uses-leads modules limit names k st takes r = absurd-of takes

header-leads : (modules : Modules) (limit : ℕ) (h : Header) (k : List Frame) → Stack k → takes_items k ≡ true → need_at 1 (depth k) ≤ limit
    → Leads modules limit (at (modes.Header h) k)
unfolding abstract_of
header-leads modules limit (headers.Abstract x) k st i r =
    step-leads (modes.Header (headers.Abstract x)) k (kinds.Reserved words.End) (entry-leads modules limit (abstract_of x None) k st i refl (grind arith))
header-leads modules limit (headers.Struct mutable x) k st i r =
    step-leads (modes.Header (headers.Struct mutable x)) k (kinds.Reserved words.End) (struct-leads modules limit mutable x None [] k st i r)

fields-leads : (modules : Modules) (limit : ℕ) (k : List Frame) → Stack k → is_fields k ≡ true → need_at 1 (depth k) ≤ limit → Leads modules limit (at modes.FieldStart k)
unfolding depth
fields-leads modules limit (frames.Fields mutable x parent fs ∷ k) st is r =
    step-leads modes.FieldStart (frames.Fields mutable x parent fs ∷ k) (kinds.Reserved words.End) (struct-leads modules limit mutable x parent fs k st.1 st.0 r)
fields-leads modules limit k st is r = absurd-of is

declared-leads : (modules : Modules) (limit : ℕ) (x : Spot) (k : List Frame) → Stack k → takes_items k ≡ true → need_at 1 (depth k) ≤ limit
    → Leads modules limit (at (modes.Declared x) k)
unfolding declared
declared-leads modules limit x k st i r = step-leads (modes.Declared x) k (kinds.Reserved words.End) (entry-leads modules limit (declared x) k st i refl (grind arith))

-- Directives.
types-begun-leads : (modules : Modules) (limit : ℕ) (k : List Frame) → Stack k → is_types k ≡ true → need_at 1 (depth k) ≤ limit → Leads modules limit (at modes.Types k)
unfolding depth
types-begun-leads modules limit (frames.Types f ts ∷ k) st is r = types-leads modules limit f ts k st r
types-begun-leads modules limit k st is r = absurd-of is

directive-end-leads : (modules : Modules) (limit : ℕ) (k : List Frame) → Stack k → is_types k ≡ true → need_at 1 (depth k) ≤ limit → Leads modules limit (at modes.DirectiveEnd k)
unfolding depth
directive-end-leads modules limit (frames.Types f ts ∷ k) st is r = directive-leads modules limit f ts k st r
directive-end-leads modules limit k st is r = absurd-of is

-- Packages, and the end of a text.
named-leads : (modules : Modules) (limit : ℕ) (x : Spot) (k : List Frame) → is_empty k ≡ true → need_at 1 (depth k) ≤ limit → Leads modules limit (at (modes.PackageNamed x) k)
unfolding depth no_entries
named-leads modules limit x k e r =
    step-leads (modes.PackageNamed x) k kinds.Separator (line-leads modules limit (frames.Items (roots.Package x []) no_entries ∷ []) (refl, tt) refl (grind arith))

accepted-leads : (modules : Modules) (limit : ℕ) (k : List Frame) → Stack k → takes_items k ≡ true → need_at 0 (depth k) ≤ limit → Leads modules limit (at modes.Accepted k)
unfolding depth run
accepted-leads modules limit (frames.Items roots.Script is ∷ []) st i r =
    record { more = []; tree = parsed.Script (record { items = is.trees }); nesting = is.nesting; is = refl; within = grind arith }
accepted-leads modules limit (frames.Items (roots.Package x uses) is ∷ []) st i r =
    record { more = []; tree = parsed.Package (record { name = x; uses = uses; items = is.trees }); nesting = is.nesting; is = refl; within = grind arith }
accepted-leads modules limit (frames.Items root is ∷ f ∷ k) st i r = absurd-of st.0
accepted-leads modules limit k st i r = absurd-of i

package-end-leads : (modules : Modules) (limit : ℕ) (k : List Frame) → Stack k → takes_directives k ≡ true → need_at 1 (depth k) ≤ limit
    → Leads modules limit (at modes.PackageEnd k)
package-end-leads modules limit k st d r =
    step-leads modes.PackageEnd k kinds.Eof (accepted-leads modules limit k st (directives-items k d) (grind arith))

-- From every state that stands well.
pub state-leads : (modules : Modules) (limit : ℕ) (mode : Mode) (k : List Frame) → Stack k → Good mode k → need_at (mode_nesting mode k) (depth k) ≤ limit
    → Leads modules limit (at mode k)
unfolding name_of
state-leads modules limit modes.Want k st g r = want-leads modules limit k st g r
state-leads modules limit (modes.Have h) k st g r = head-leads modules limit h k st g r
state-leads modules limit (modes.Field e placed) k st g r = field-leads modules limit e placed k st g r
state-leads modules limit (modes.Member m) k st g r = step-leads (modes.Member m) k some_name (head-leads modules limit (heads.Member m some_spot) k st g r)
state-leads modules limit (modes.BaseOperator m) k st g r =
    step-leads (modes.BaseOperator m) k (kinds.Sign signs.Plus) (head-leads modules limit (heads.Operator m (record { text = operator_text signs.Plus; at = 0 })) k st g r)
state-leads modules limit modes.Arguments k st g r = arguments-leads modules limit k st g r
state-leads modules limit modes.Params k st g r = params-leads modules limit k st g r
state-leads modules limit modes.ShortAssign k st g r = short-leads modules limit k st g r
state-leads modules limit modes.PathStart k st g r = step-leads modes.PathStart k some_name (bare-leads modules limit some_spot k st g r)
state-leads modules limit modes.Line k st g r = line-leads modules limit k st g r
state-leads modules limit modes.Closed k st g r = closed-list k (lines-end modules limit k st g r)
state-leads modules limit modes.Payload k st g r = payload-leads modules limit k st g r
state-leads modules limit (modes.EvalName m) k st g r = eval-name-leads modules limit m k st g r
state-leads modules limit modes.EvalColon k st g r = step-leads modes.EvalColon k (kinds.Sign signs.Colon) (eval-open-leads modules limit k st g r)
state-leads modules limit modes.EvalOpen k st g r = eval-open-leads modules limit k st g r
state-leads modules limit (modes.PayloadEnd s) k st g r = step-leads (modes.PayloadEnd s) k (kinds.Sign signs.RightParen) (eval-end-leads modules limit s k st g r)
state-leads modules limit (modes.EvalEnd s) k st g r = eval-end-leads modules limit s k st g r
state-leads modules limit (modes.Return p) k st g r = return-leads modules limit p k st g r
state-leads modules limit (modes.GlobalName p) k st g r = step-leads (modes.GlobalName p) k some_name (global-leads modules limit p some_spot k st g r)
state-leads modules limit (modes.GlobalAssign p x) k st g r = global-leads modules limit p x k st g r
state-leads modules limit modes.ConstName k st g r = step-leads modes.ConstName k some_name (const-leads modules limit some_spot k st g r)
state-leads modules limit (modes.ConstAssign x) k st g r = const-leads modules limit x k st g r
state-leads modules limit modes.LoopName k st g r = step-leads modes.LoopName k some_name (loop-leads modules limit some_spot k st g r)
state-leads modules limit (modes.LoopIn x) k st g r = loop-leads modules limit x k st g r
state-leads modules limit (modes.UsingName names) k st g r = step-leads (modes.UsingName names) k base_name (uses-leads modules limit (names ++ base_spot ∷ []) k st g r)
state-leads modules limit (modes.UsingMore names) k st g r = uses-leads modules limit names k st g r
state-leads modules limit modes.AbstractName k st g r = step-leads modes.AbstractName k some_name (header-leads modules limit (headers.Abstract some_spot) k st g r)
state-leads modules limit (modes.StructName mutable) k st g r = step-leads (modes.StructName mutable) k some_name (header-leads modules limit (headers.Struct mutable some_spot) k st g r)
state-leads modules limit (modes.Header h) k st g r = header-leads modules limit h k st g r
state-leads modules limit modes.FieldStart k st g r = fields-leads modules limit k st g r
state-leads modules limit (modes.Declared x) k st g r = declared-leads modules limit x k st g r
state-leads modules limit (modes.TypesOpen f) k st g r = types-open-leads modules limit f k st g r
state-leads modules limit modes.Types k st g r = types-begun-leads modules limit k st g r
state-leads modules limit modes.DirectiveEnd k st g r = directive-end-leads modules limit k st g r
state-leads modules limit modes.PackageStart k st g r =
    step-leads modes.PackageStart k (kinds.Reserved words.Module) (step-leads modes.PackageName k some_name (named-leads modules limit some_spot k g r))
state-leads modules limit modes.PackageName k st g r = step-leads modes.PackageName k some_name (named-leads modules limit some_spot k g r)
state-leads modules limit (modes.PackageNamed x) k st g r = named-leads modules limit x k g r
state-leads modules limit modes.PackageEnd k st g r = package-end-leads modules limit k st g r
state-leads modules limit modes.Accepted k st g r = accepted-leads modules limit k st g r

-- Each state that is reached: tokens lead on from it.
pub reached-leads : LeadsOn
unfolding need
reached-leads modules kind tokens s e =
    let r : Rises 0 s = reached-stands modules kind tokens s e in state-leads modules (need s) s.mode s.frames r.stack r.good (grind arith)

-- And where what the machine accepts is a text of the grammar, that is one which begins so.
pub completion : Sound → Completion
completion sound modules kind tokens s e =
    let l : Leads (with_base modules) (need s) (Some s) = reached-leads (with_base modules) kind tokens s e in
    record {
      more = l.more;
      tree = l.tree;
      nesting = l.nesting;
      is = sound modules kind (tokens ++ l.more) l.tree l.nesting
          (ap accepted (run-append (with_base modules) tokens l.more (Some (start kind)) ∙ ap (run (with_base modules) l.more) e) ∙ l.is);
      within = l.within;
    }
