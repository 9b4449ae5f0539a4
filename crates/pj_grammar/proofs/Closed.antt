-- Behind the text's end the machine has accepted: each step over that token has no answer, or one that has accepted; and where it
-- has accepted, the frames are those of a text. `Done s` says that, where there is a state, it has accepted.
use Rattle.std.proofs.Common.{◌≡◌, ℕ, Bool, true, false, List, [], ◌∷◌, ◌++◌, if◌then◌else◌, Option, Some, None, refl, subst, sym, ap, ◌∙◌}
use Rattle.pj_lex.specs.declared.token.Token.{Token}
use Rattle.pj_lex.specs.declared.token.TokenKind.TheVariants as kinds
use Rattle.pj_syntax.specs.declared.expression.Spot.{Spot}
use Rattle.pj_syntax.specs.declared.expression.Path.{Path}
use Rattle.pj_syntax.specs.declared.statement.Param.{Param}
use Rattle.pj_grammar.specs.declared.node.Node.{Node}
use Rattle.pj_grammar.specs.declared.frame.Form.TheVariants as forms
use Rattle.pj_grammar.specs.declared.frame.Frame.{Frame}
use Rattle.pj_grammar.specs.declared.frame.Frame.TheVariants as frames
use Rattle.pj_grammar.specs.declared.frame.Header.{Header}
use Rattle.pj_grammar.specs.declared.frame.Header.TheVariants as headers
use Rattle.pj_grammar.specs.declared.frame.Purpose.{Purpose}
use Rattle.pj_grammar.specs.declared.frame.Purpose.TheVariants as purposes
use Rattle.pj_grammar.specs.declared.frame.Root.TheVariants as roots
use Rattle.pj_grammar.specs.declared.mode.Head.{Head}
use Rattle.pj_grammar.specs.declared.mode.Head.TheVariants as heads
use Rattle.pj_grammar.specs.declared.mode.Mode.{Mode}
use Rattle.pj_grammar.specs.declared.mode.Mode.TheVariants as modes
use Rattle.pj_grammar.specs.declared.mode.Parsed.{Parsed}
use Rattle.pj_grammar.specs.Closing.{accept_script, after_end, after_end_at, closed_entry, closed_line, closed_method, closed_set, closed_value}
use Rattle.pj_grammar.specs.Frames.{Settled, State, head_path, is_value, node, settle, takes_items}
use Rattle.pj_grammar.specs.Machine.{accepted_at, directive_end, end_uses, field_name, read_frames, run, short_assign, start, step, step_at}
use Rattle.pj_grammar.specs.Makers.{bare_return, const_of, return_of, short_method, using_of}
use Rattle.pj_grammar.specs.Modules.{Modules}
use Rattle.pj_grammar.specs.Operands.{add_name, add_param, after_function, after_header, after_purpose, after_type, finish, finish_at, have_first, have_other, have_path, have_value}
use Rattle.pj_grammar.specs.Theorems.{EndsAccepted, reached, with_base}
use Rattle.pj_grammar.specs.Tokens.{Place, place}
use Rattle.pj_grammar.specs.declared.level.Level.TheVariants as levels
use Rattle.pj_grammar.proofs.Determined.{run-append}
use Rattle.pj_grammar.proofs.Levels.{absurd-of}
use Rattle.pj_grammar.proofs.Rising.{reached-stands}
use Rattle.pj_grammar.proofs.Stacks.{Good, Rises, Stack}

abbrev Done : Option State → Type 0
Done None = Unit {0}
Done (Some s) = s.mode ≡ modes.Accepted

if-done : (b : Bool) (x y : Option State) → Done x → Done y → Done (if b then x else y)
if-done true x y f g = f
if-done false x y f g = g

-- Statements and items end.
script-done : (k : List Frame) → Done (accept_script k)
script-done (frames.Items roots.Script is ∷ k) = refl
script-done k = tt

end-at-done : (mode : Mode) (k : List Frame) → Done (after_end_at mode k kinds.Eof)
end-at-done modes.Closed k = script-done k
end-at-done (modes.PayloadEnd s) k = tt
end-at-done mode k = tt

end-done : (s : Option State) → Done (after_end s kinds.Eof)
end-done None = tt
end-done (Some s) = end-at-done s.mode s.frames

purpose-done : (purpose : Purpose) (e : Node) (k : List Frame) → Done (after_purpose purpose e k kinds.Eof)
purpose-done purposes.Value e k = end-done (closed_value e k)
purpose-done (purposes.Assign target o) e k = end-done (closed_set target o e k)
purpose-done (purposes.Return p) e k = end-done (closed_line (return_of p e) k)
purpose-done (purposes.Const x) e k = end-done (closed_entry (const_of x e) k)
purpose-done (purposes.Short f params) e k = end-done (closed_method (short_method f params e) k)
purpose-done purposes.If e k = tt
purpose-done purposes.While e k = tt
purpose-done (purposes.From x) e k = tt
purpose-done (purposes.To x a) e k = tt

-- An expression ends.
finish-done : (h : Head) (k : List Frame) → Done (finish_at h k kinds.Eof)
finish-done h (frames.Hole purpose ∷ k) = purpose-done purpose (node h) k
finish-done h (frames.Then c ∷ k) = tt
finish-done h (frames.Group p types ∷ k) = tt
finish-done h (frames.Call f g ∷ k) = tt
finish-done h k = tt

value-done : (h : Head) (k : List Frame) → Done (have_value h k kinds.Eof)
value-done h k = if-done (is_value h) _ None (settled-done (settle levels.Conditional h k)) tt
  where
    settled-done : (settled : Settled) → Done (finish settled kinds.Eof)
    settled-done settled = finish-done settled.head settled.frames

first-done : (h : Head) (k : List Frame) → Done (have_first h k kinds.Eof)
first-done (heads.Name x) k = value-done (heads.Name x) (frames.Hole purposes.Value ∷ k)
first-done h k = value-done h (frames.Hole purposes.Value ∷ k)

-- Names end that stand where no expression does.
param-done : (param : Param) (k : List Frame) → Done (add_param param k kinds.Eof)
param-done param (frames.Signature form f ps ∷ k) = tt
param-done param (frames.Fields mutable x parent fs ∷ k) = tt
param-done param k = tt

name-done : (h : Head) (k : List Frame) → Done (add_name h k kinds.Eof)
name-done (heads.Name x) k = param-done (record { at = x.at; name = Some x; declared = None }) k
name-done h k = tt

header-done : (h : Header) (parent : Option Path) (k : List Frame) (p : ℕ) → Done (after_header h parent k p kinds.Eof)
header-done (headers.Abstract x) parent k p = tt
header-done (headers.Struct mutable x) parent k p = tt

function-done : (h : Head) (k : List Frame) → Done (after_function h k kinds.Eof)
function-done (heads.Name x) k = tt
function-done h k = tt

type-done : (f : Path) (ts : List Path) (t : Path) (k : List Frame) → Done (after_type f ts t k kinds.Eof)
type-done f [] t k = tt
type-done f (t' ∷ ts) t k = tt

type-of-done : (x : Option Spot) (first : ℕ) (path : Option Path) (k : List Frame) (p : ℕ) → Done (have_path (frames.TypeOf x first) path k p kinds.Eof)
type-of-done x first (Some t) k p = param-done (record { at = first; name = x; declared = Some t }) k
type-of-done x first None k p = tt

parent-done : (h : Header) (path : Option Path) (k : List Frame) (p : ℕ) → Done (have_path (frames.Parent h) path k p kinds.Eof)
parent-done h (Some t) k p = header-done h (Some t) k p
parent-done h None k p = tt

directive-fun-done : (path : Option Path) (k : List Frame) (p : ℕ) → Done (have_path frames.DirectiveFun path k p kinds.Eof)
directive-fun-done (Some f) k p = tt
directive-fun-done None k p = tt

types-done : (f : Path) (ts : List Path) (path : Option Path) (k : List Frame) (p : ℕ) → Done (have_path (frames.Types f ts) path k p kinds.Eof)
types-done f ts (Some t) k p = type-done f ts t k
types-done f ts None k p = tt

-- An operand ends.
other-done : (h : Head) (k : List Frame) (p : ℕ) → Done (have_other h k p kinds.Eof)
other-done h (frames.FunctionName ∷ k) p = function-done h k
other-done h (frames.Signature form f ps ∷ k) p = name-done h (frames.Signature form f ps ∷ k)
other-done h (frames.Fields mutable x parent fs ∷ k) p = name-done h (frames.Fields mutable x parent fs ∷ k)
other-done h (frames.TypeOf x first ∷ k) p = type-of-done x first (head_path h) k p
other-done h (frames.Parent l ∷ k) p = parent-done l (head_path h) k p
other-done h (frames.DirectiveFun ∷ k) p = directive-fun-done (head_path h) k p
other-done h (frames.Types f ts ∷ k) p = types-done f ts (head_path h) k p
other-done h (frames.Hole purposes.Value ∷ k) p = first-done h k
other-done h k p = value-done h k

-- What is begun.
field-done : (e : Node) (placed : Bool) (k : List Frame) (p : Place) → Done (field_name e placed k p kinds.Eof)
field-done e true k p = tt
field-done e false k p = tt

short-done : (k : List Frame) → Done (short_assign k kinds.Eof)
short-done (frames.Signature forms.Short f ps ∷ k) = tt
short-done k = tt

directive-done : (k : List Frame) → Done (directive_end k kinds.Eof)
directive-done (frames.Types f ts ∷ k) = tt
directive-done k = tt

uses-done : (names : List Spot) (k : List Frame) → Done (end_uses names k kinds.Eof)
uses-done names (frames.Items roots.Script is ∷ k) = end-done (closed_entry (using_of names) (frames.Items roots.Script is ∷ k))
uses-done names (frames.Items (roots.Package x uses) is ∷ k) = tt
uses-done names k = tt

-- The text's end, wherever the machine stands.
end-step : (modules : Modules) (mode : Mode) (k : List Frame) (p : Place) → Done (step_at modules mode k p kinds.Eof)
end-step modules (modes.Have h) k p = other-done h k p.start
end-step modules (modes.Field e placed) k p = field-done e placed k p
end-step modules modes.ShortAssign k p = short-done k
end-step modules modes.Line k p = script-done k
end-step modules modes.Closed k p = script-done k
end-step modules (modes.EvalName m) k p = first-done (heads.Name m) k
end-step modules (modes.Return at') k p = end-done (closed_line (bare_return at') k)
end-step modules (modes.UsingMore names) k p = uses-done names k
end-step modules (modes.Header h) k p = header-done h None k p.start
end-step modules modes.DirectiveEnd k p = directive-done k
end-step modules modes.PackageEnd k p = refl
end-step modules mode k p = tt

-- where the machine has accepted, it has a tree and its nesting
tree-read : (k : List Frame) → takes_items k ≡ true → Stack k → (read : Parsed × ℕ) × (read_frames k ≡ Some read)
tree-read (frames.Items roots.Script is ∷ []) h st = (_, refl)
tree-read (frames.Items (roots.Package x uses) is ∷ []) h st = (_, refl)
tree-read (frames.Items root is ∷ f ∷ k) h st = absurd-of st.0
tree-read k h st = absurd-of h

mode-read : (mode : Mode) (k : List Frame) → mode ≡ modes.Accepted → Good mode k → Stack k → (read : Parsed × ℕ) × (accepted_at mode k ≡ Some read)
mode-read mode k e g st =
    let r : (read : Parsed × ℕ) × (read_frames k ≡ Some read) = tree-read k (subst (λ m. Good m k) e g) st in (r.0, ap (λ m. accepted_at m k) e ∙ r.1)

-- one more token
last-done : (modules : Modules) (s : Option State) (t : Token) → t.what ≡ kinds.Eof → Done (run modules (t ∷ []) s)
unfolding run step
last-done modules None t e = tt
last-done modules (Some s) t e = answered (step modules s t) (subst (λ what. Done (step_at modules s.mode s.frames (place t) what)) (sym e) (end-step modules s.mode s.frames (place t)))
  where
    answered : (next : Option State) → Done next → Done (run modules [] next)
    answered None d = tt
    answered (Some s) d = d

pub ends-accepted : EndsAccepted
ends-accepted modules kind tokens t s e now = mode-read s.mode s.frames done r.good r.stack
  where
    r : Rises 0 s
    r = reached-stands (with_base modules) kind (tokens ++ t ∷ []) s now

    done : s.mode ≡ modes.Accepted
    done = subst Done (sym (run-append (with_base modules) tokens (t ∷ []) (Some (start kind))) ∙ now) (last-done (with_base modules) (reached (with_base modules) kind tokens) t e)
