-- How deep a text nests at least that goes on from a state of the machine. Texts that nest less than 8 deep aren't told apart.
use Rattle.std.specs.Prelude.{ℕ, ◌+◌, max, Bool, true, false, List, [], ◌∷◌, Option, Some, None, if◌then◌else◌}
use Rattle.pj_grammar.specs.declared.level.Operator.{Operator}
use Rattle.pj_grammar.specs.declared.node.Node.{Node}
use Rattle.pj_grammar.specs.declared.frame.Form.{Form}
use Rattle.pj_grammar.specs.declared.frame.Form.TheVariants as forms
use Rattle.pj_grammar.specs.declared.frame.Frame.{Frame}
use Rattle.pj_grammar.specs.declared.frame.Frame.TheVariants as frames
use Rattle.pj_grammar.specs.declared.frame.Given.{Given}
use Rattle.pj_grammar.specs.declared.frame.Given.TheVariants as given
use Rattle.pj_grammar.specs.declared.frame.Opener.{Opener}
use Rattle.pj_grammar.specs.declared.frame.Opener.TheVariants as openers
use Rattle.pj_grammar.specs.declared.frame.Purpose.{Purpose}
use Rattle.pj_grammar.specs.declared.frame.Purpose.TheVariants as purposes
use Rattle.pj_grammar.specs.declared.frame.Target.{Target}
use Rattle.pj_grammar.specs.declared.frame.Target.TheVariants as targets
use Rattle.pj_grammar.specs.declared.mode.Head.{Head}
use Rattle.pj_grammar.specs.declared.mode.Head.TheVariants as heads
use Rattle.pj_grammar.specs.declared.mode.Mode.{Mode}
use Rattle.pj_grammar.specs.declared.mode.Mode.TheVariants as modes
use Rattle.pj_grammar.specs.Frames.{State, node, takes_lines}
use Rattle.pj_grammar.specs.Makers.{infix_height, lacks, paths_given, target_value}

-- What the frames add: how many nodes stand above what is read next, and how deep what was read before nests.
pub record Depth : Type 0 where
  pub above : ℕ
  pub read : ℕ

-- one frame more: it has so many nodes, and below the first so many a part that nests so deep
abbrev pub deeper : ℕ → ℕ → Depth → Depth
deeper nodes nesting d = record { above = d.above + nodes; read = max d.read (d.above + nesting) }

abbrev pub given_nesting : Given → ℕ
given_nesting (given.Paths []) = 0
given_nesting (given.Paths (_ ∷ _)) = 1
given_nesting (given.Mixed es) = es.nesting

-- what an assignment has beside its value: the part that has the field, and with an operator what is computed from
abbrev pub holder_nesting : Target → ℕ
holder_nesting (targets.Field e x) = e.nesting
holder_nesting _ = 0

abbrev pub assign_depth : Target → Option Operator → Depth → Depth
assign_depth target None d = deeper 1 (1 + holder_nesting target) d
assign_depth target (Some o) d = deeper 2 (max (1 + holder_nesting target) (2 + (target_value target).nesting)) d

abbrev pub purpose_depth : Purpose → Depth → Depth
purpose_depth purposes.Value d = deeper 1 0 d
purpose_depth (purposes.Assign target o) d = assign_depth target o d
purpose_depth (purposes.Return p) d = deeper 1 0 d
purpose_depth purposes.If d = deeper 1 0 d
purpose_depth purposes.While d = deeper 1 0 d
purpose_depth (purposes.From x) d = deeper 1 0 d
purpose_depth (purposes.To x a) d = deeper 1 (1 + a.nesting) d
purpose_depth (purposes.Const x) d = d
purpose_depth (purposes.Short f params) d = deeper 3 0 d

abbrev pub opener_depth : Opener → ℕ → Depth → Depth
opener_depth (openers.If c) lines d = deeper 1 (1 + max c.nesting lines) d
opener_depth (openers.Else c before) lines d = deeper 1 (1 + max c.nesting (max before.nesting lines)) d
opener_depth (openers.While c) lines d = deeper 1 (1 + max c.nesting lines) d
opener_depth (openers.For x a b) lines d = deeper 1 (1 + max (max a.nesting b.nesting) lines) d
opener_depth (openers.Function f params) lines d = deeper 2 (2 + lines) d

abbrev pub form_nodes : Form → ℕ
form_nodes forms.Short = 3
form_nodes forms.Long = 1

abbrev pub frame_depth : Frame → Depth → Depth
frame_depth (frames.Prefix o) d = deeper 1 0 d
frame_depth (frames.Infix l a o) d = deeper (infix_height o.sign) (infix_height o.sign + a.nesting) d
frame_depth (frames.Then c) d = deeper 1 (1 + c.nesting) d
frame_depth (frames.Else c a) d = deeper 1 (1 + max c.nesting a.nesting) d
frame_depth (frames.Group p types) d = deeper 1 0 d
frame_depth (frames.Call f g) d = deeper 1 (1 + given_nesting g) d
frame_depth (frames.Signature form f params) d = deeper (form_nodes form) 0 d
frame_depth (frames.TypeOf x p) d = d
frame_depth frames.FunctionName d = deeper 1 0 d
frame_depth (frames.Parent h) d = d
frame_depth (frames.Fields mutable x parent fields) d = d
frame_depth frames.DirectiveFun d = d
frame_depth (frames.Types f ts) d = d
frame_depth (frames.Hole purpose) d = purpose_depth purpose d
frame_depth (frames.Block o ss) d = opener_depth o ss.nesting d
frame_depth (frames.Branch c ss) d = deeper 1 (1 + max c.nesting ss.nesting) d
frame_depth (frames.Payload m quoted) d = deeper 1 0 d
frame_depth (frames.Items root is) d = deeper 0 is.nesting d

unfoldable pub depth : List Frame → Depth
depth [] = record { above = 0; read = 0 }
depth (f ∷ k) = frame_depth f (depth k)

-- what a field adds to an operand: where it can be assigned, that nests less than its value
abbrev pub place_nesting : Node → List Frame → ℕ
place_nesting e (frames.Hole purposes.Value ∷ k) = if takes_lines k then e.nesting else 1 + e.nesting
place_nesting e k = 1 + e.nesting

-- `invokelatest()` is the head of a definition
abbrev pub head_nesting : Head → List Frame → ℕ
head_nesting (heads.Place e x) k = place_nesting e k
head_nesting (heads.Call f ps) k = if lacks f (paths_given ps) then 3 else (node (heads.Call f ps)).nesting
head_nesting h k = (node h).nesting

abbrev pub field_nesting : Node → Bool → List Frame → ℕ
field_nesting e true k = place_nesting e k
field_nesting e false k = 1 + e.nesting

abbrev pub argument_nesting : List Frame → ℕ
argument_nesting (frames.Call f (given.Paths []) ∷ k) = if lacks f (paths_given []) then 1 else 0
argument_nesting _ = 0

-- how deep what comes next nests at least
abbrev pub mode_nesting : Mode → List Frame → ℕ
mode_nesting (modes.Have h) k = head_nesting h k
mode_nesting (modes.Field e place) k = field_nesting e place k
mode_nesting modes.Arguments k = argument_nesting k
mode_nesting modes.Line k = 0
mode_nesting modes.Closed k = 0
mode_nesting modes.Payload k = 2
mode_nesting (modes.EvalName m) k = 2
mode_nesting modes.EvalColon k = 3
mode_nesting modes.EvalOpen k = 3
mode_nesting (modes.PayloadEnd s) k = s.nesting
mode_nesting (modes.EvalEnd s) k = s.nesting
mode_nesting (modes.Return p) k = 2
mode_nesting (modes.GlobalName p) k = 2
mode_nesting (modes.GlobalAssign p x) k = 2
mode_nesting modes.LoopName k = 2
mode_nesting (modes.LoopIn x) k = 2
mode_nesting modes.Accepted k = 0
mode_nesting _ k = 1

abbrev pub need_at : ℕ → Depth → ℕ
need_at nesting d = max 8 (max d.read (d.above + nesting))

unfoldable pub need : State → ℕ
need s = need_at (mode_nesting s.mode s.frames) (depth s.frames)
