-- What holds of the frames and the mode wherever the machine stands, whatever it has read: each frame stands over one that takes
-- it, and the mode over one that it can end in. `Rise n s` says that, where there is a state, it stands so and needs no less than n.
use Rattle.std.proofs.Common.{◌≡◌, ◌≤◌, ℕ, Bool, true, false, List, [], ◌∷◌, Option, Some, None, refl}
use Rattle.pj_grammar.specs.declared.level.Operator.{Operator}
use Rattle.pj_grammar.specs.declared.frame.Form.TheVariants as forms
use Rattle.pj_grammar.specs.declared.frame.Frame.{Frame}
use Rattle.pj_grammar.specs.declared.frame.Frame.TheVariants as frames
use Rattle.pj_grammar.specs.declared.frame.Opener.{Opener}
use Rattle.pj_grammar.specs.declared.frame.Opener.TheVariants as openers
use Rattle.pj_grammar.specs.declared.frame.Purpose.{Purpose}
use Rattle.pj_grammar.specs.declared.frame.Purpose.TheVariants as purposes
use Rattle.pj_grammar.specs.declared.frame.Target.{Target}
use Rattle.pj_grammar.specs.declared.frame.Target.TheVariants as targets
use Rattle.pj_grammar.specs.declared.mode.Head.{Head}
use Rattle.pj_grammar.specs.declared.mode.Head.TheVariants as heads
use Rattle.pj_grammar.specs.declared.mode.Mode.{Mode}
use Rattle.pj_grammar.specs.declared.mode.Mode.TheVariants as modes
use Rattle.pj_grammar.specs.Frames.{State, takes_definition, takes_directives, takes_items, takes_lines, takes_short, takes_uses}
use Rattle.pj_grammar.specs.Machine.{opens_types}
use Rattle.pj_grammar.specs.Makers.{infix_height, lacks, paths_given}
use Rattle.pj_grammar.specs.Need.{need}
use Rattle.pj_grammar.proofs.Levels.{absurd-of}

-- What stands on top: a frame that takes an expression; one that takes a name that may have a module; one that takes a name.
abbrev pub takes_expression : List Frame → Bool
takes_expression (frames.Prefix o ∷ k) = true
takes_expression (frames.Infix l a o ∷ k) = true
takes_expression (frames.Then c ∷ k) = true
takes_expression (frames.Else c a ∷ k) = true
takes_expression (frames.Group p types ∷ k) = true
takes_expression (frames.Call f g ∷ k) = true
takes_expression (frames.Hole purpose ∷ k) = true
takes_expression _ = false

abbrev pub takes_path : List Frame → Bool
takes_path (frames.FunctionName ∷ k) = true
takes_path (frames.TypeOf x p ∷ k) = true
takes_path (frames.Parent h ∷ k) = true
takes_path (frames.DirectiveFun ∷ k) = true
takes_path (frames.Types f ts ∷ k) = true
takes_path k = takes_expression k

abbrev pub takes_name : List Frame → Bool
takes_name (frames.Signature form f ps ∷ k) = true
takes_name (frames.Fields mutable x parent fs ∷ k) = true
takes_name k = takes_path k

-- single frames
abbrev pub is_call : List Frame → Bool
is_call (frames.Call f g ∷ k) = true
is_call _ = false

abbrev pub is_signature : List Frame → Bool
is_signature (frames.Signature form f ps ∷ k) = true
is_signature _ = false

abbrev pub is_short : List Frame → Bool
is_short (frames.Signature forms.Short f ps ∷ k) = true
is_short _ = false

abbrev pub is_fields : List Frame → Bool
is_fields (frames.Fields mutable x parent fs ∷ k) = true
is_fields _ = false

abbrev pub is_types : List Frame → Bool
is_types (frames.Types f ts ∷ k) = true
is_types _ = false

abbrev pub is_payload : List Frame → Bool
is_payload (frames.Payload m quoted ∷ k) = true
is_payload _ = false

abbrev pub is_empty : List Frame → Bool
is_empty [] = true
is_empty (f ∷ k) = false

-- what a parameter's or a field's type may stand over; a value; an `if`
abbrev pub takes_type : List Frame → Bool
takes_type (frames.Signature form f ps ∷ k) = true
takes_type (frames.Fields mutable x parent fs ∷ k) = true
takes_type _ = false

abbrev pub takes_value : List Frame → Bool
takes_value (frames.Payload m quoted ∷ k) = true
takes_value k = takes_lines k

abbrev pub takes_if : List Frame → Bool
takes_if (frames.Branch c ss ∷ k) = true
takes_if k = takes_lines k

-- what an assignment without an operator may stand over
abbrev pub takes_set : Target → List Frame → Bool
takes_set (targets.Local x) (frames.Payload m quoted ∷ k) = true
takes_set target k = takes_lines k

abbrev pub AssignOver : Target → Option Operator → List Frame → Type 0
AssignOver target None k = takes_set target k ≡ true
AssignOver target (Some o) k = (takes_lines k ≡ true) × (infix_height o.sign ≡ 1)

abbrev pub PurposeOver : Purpose → List Frame → Type 0
PurposeOver purposes.Value k = takes_value k ≡ true
PurposeOver (purposes.Assign target o) k = AssignOver target o k
PurposeOver (purposes.Return p) k = takes_lines k ≡ true
PurposeOver purposes.If k = takes_if k ≡ true
PurposeOver purposes.While k = takes_lines k ≡ true
PurposeOver (purposes.From x) k = takes_lines k ≡ true
PurposeOver (purposes.To x a) k = takes_lines k ≡ true
PurposeOver (purposes.Const x) k = takes_items k ≡ true
PurposeOver (purposes.Short f params) k = takes_definition k ≡ true

abbrev pub OpenerOver : Opener → List Frame → Type 0
OpenerOver (openers.If c) k = takes_if k ≡ true
OpenerOver (openers.Else c b) k = takes_if k ≡ true
OpenerOver (openers.While c) k = takes_lines k ≡ true
OpenerOver (openers.For x a b) k = takes_lines k ≡ true
OpenerOver (openers.Function f params) k = takes_definition k ≡ true

abbrev pub GroupOver : Bool → List Frame → Type 0
GroupOver true k = opens_types k ≡ true
GroupOver false k = Unit {0}

-- a frame over those below it
abbrev pub Over : Frame → List Frame → Type 0
Over (frames.Prefix o) k = takes_expression k ≡ true
Over (frames.Infix l a o) k = takes_expression k ≡ true
Over (frames.Then c) k = takes_expression k ≡ true
Over (frames.Else c a) k = takes_expression k ≡ true
Over (frames.Group p types) k = (takes_expression k ≡ true) × GroupOver types k
Over (frames.Call f g) k = takes_expression k ≡ true
Over (frames.Signature form f ps) k = takes_definition k ≡ true
Over (frames.TypeOf x p) k = takes_type k ≡ true
Over frames.FunctionName k = takes_definition k ≡ true
Over (frames.Parent h) k = takes_items k ≡ true
Over (frames.Fields mutable x parent fs) k = takes_items k ≡ true
Over frames.DirectiveFun k = takes_items k ≡ true
Over (frames.Types f ts) k = takes_items k ≡ true
Over (frames.Hole purpose) k = PurposeOver purpose k
Over (frames.Block o ss) k = OpenerOver o k
Over (frames.Branch c ss) k = takes_if k ≡ true
Over (frames.Payload m quoted) k = takes_lines k ≡ true
Over (frames.Items root is) k = is_empty k ≡ true

abbrev pub Stack : List Frame → Type 0
Stack [] = Unit {0}
Stack (f ∷ k) = Over f k × Stack k

-- an operand over frames
abbrev pub HeadOver : Head → List Frame → Type 0
HeadOver (heads.Name x) k = takes_name k ≡ true
HeadOver (heads.Member m x) k = takes_path k ≡ true
HeadOver (heads.Operator m x) k = takes_path k ≡ true
HeadOver (heads.Place e x) k = (takes_expression k ≡ true) × (1 ≤ e.nesting)
HeadOver (heads.Call f ps) k = (takes_expression k ≡ true) × (lacks f (paths_given ps) ≡ true → takes_short k ≡ true)
HeadOver (heads.Plain e) k = (takes_expression k ≡ true) × (1 ≤ e.nesting)

-- a mode over frames
abbrev pub Good : Mode → List Frame → Type 0
Good modes.Want k = takes_expression k ≡ true
Good (modes.Have h) k = HeadOver h k
Good (modes.Field e place) k = (takes_expression k ≡ true) × (1 ≤ e.nesting)
Good (modes.Member m) k = takes_path k ≡ true
Good (modes.BaseOperator m) k = takes_path k ≡ true
Good modes.Arguments k = is_call k ≡ true
Good modes.Params k = is_signature k ≡ true
Good modes.ShortAssign k = is_short k ≡ true
Good modes.PathStart k = takes_name k ≡ true
Good modes.Line k = takes_lines k ≡ true
Good modes.Closed k = takes_lines k ≡ true
Good modes.Payload k = is_payload k ≡ true
Good (modes.EvalName m) k = is_payload k ≡ true
Good modes.EvalColon k = takes_lines k ≡ true
Good modes.EvalOpen k = takes_lines k ≡ true
Good (modes.PayloadEnd s) k = takes_lines k ≡ true
Good (modes.EvalEnd s) k = takes_lines k ≡ true
Good (modes.Return p) k = takes_lines k ≡ true
Good (modes.GlobalName p) k = takes_lines k ≡ true
Good (modes.GlobalAssign p x) k = takes_lines k ≡ true
Good modes.ConstName k = takes_items k ≡ true
Good (modes.ConstAssign x) k = takes_items k ≡ true
Good modes.LoopName k = takes_lines k ≡ true
Good (modes.LoopIn x) k = takes_lines k ≡ true
Good (modes.UsingName names) k = takes_uses k ≡ true
Good (modes.UsingMore names) k = takes_uses k ≡ true
Good modes.AbstractName k = takes_items k ≡ true
Good (modes.StructName mutable) k = takes_items k ≡ true
Good (modes.Header h) k = takes_items k ≡ true
Good modes.FieldStart k = is_fields k ≡ true
Good (modes.Declared x) k = takes_items k ≡ true
Good (modes.TypesOpen f) k = takes_items k ≡ true
Good modes.Types k = is_types k ≡ true
Good modes.DirectiveEnd k = is_types k ≡ true
Good modes.PackageStart k = is_empty k ≡ true
Good modes.PackageName k = is_empty k ≡ true
Good (modes.PackageNamed x) k = is_empty k ≡ true
Good modes.PackageEnd k = takes_directives k ≡ true
Good modes.Accepted k = takes_items k ≡ true

pub record Rises (n : ℕ) (s : State) : Type 0 where
  pub stack : Stack s.frames
  pub good : Good s.mode s.frames
  pub rises : n ≤ need s

abbrev pub Rise : ℕ → Option State → Type 0
Rise n None = Unit {0}
Rise n (Some s) = Rises n s

-- What takes the one takes the other.
pub call-expression : (k : List Frame) → is_call k ≡ true → takes_expression k ≡ true
call-expression (frames.Call f g ∷ k) h = refl
call-expression k h = absurd-of h

pub signature-type : (k : List Frame) → is_signature k ≡ true → takes_type k ≡ true
signature-type (frames.Signature form f ps ∷ k) h = refl
signature-type k h = absurd-of h

pub signature-name : (k : List Frame) → is_signature k ≡ true → takes_name k ≡ true
signature-name (frames.Signature form f ps ∷ k) h = refl
signature-name k h = absurd-of h

pub lines-value : (k : List Frame) → takes_lines k ≡ true → takes_value k ≡ true
lines-value (frames.Block o ss ∷ k) h = refl
lines-value (frames.Items root is ∷ k) h = refl
lines-value k h = absurd-of h

pub lines-if : (k : List Frame) → takes_lines k ≡ true → takes_if k ≡ true
lines-if (frames.Block o ss ∷ k) h = refl
lines-if (frames.Items root is ∷ k) h = refl
lines-if k h = absurd-of h

pub items-definition : (k : List Frame) → takes_items k ≡ true → takes_definition k ≡ true
items-definition (frames.Items root is ∷ k) h = refl
items-definition k h = absurd-of h

pub payload-value : (k : List Frame) → is_payload k ≡ true → takes_value k ≡ true
payload-value (frames.Payload m quoted ∷ k) h = refl
payload-value k h = absurd-of h

pub payload-definition : (k : List Frame) → is_payload k ≡ true → takes_definition k ≡ true
payload-definition (frames.Payload m quoted ∷ k) h = refl
payload-definition k h = absurd-of h

pub types-name : (k : List Frame) → is_types k ≡ true → takes_name k ≡ true
types-name (frames.Types f ts ∷ k) h = refl
types-name k h = absurd-of h

pub directives-items : (k : List Frame) → takes_directives k ≡ true → takes_items k ≡ true
directives-items (frames.Items root is ∷ k) h = refl
directives-items k h = absurd-of h

pub expression-name : (k : List Frame) → takes_expression k ≡ true → takes_name k ≡ true
expression-name (frames.Prefix o ∷ k) h = refl
expression-name (frames.Infix l a o ∷ k) h = refl
expression-name (frames.Then c ∷ k) h = refl
expression-name (frames.Else c a ∷ k) h = refl
expression-name (frames.Group p types ∷ k) h = refl
expression-name (frames.Call f g ∷ k) h = refl
expression-name (frames.Hole purpose ∷ k) h = refl
expression-name k h = absurd-of h
