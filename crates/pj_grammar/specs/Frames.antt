-- What the frames of the machine say: which operands they take, and what stands on top.
use Rattle.std.specs.Prelude.{Bool, true, false, List, [], ◌∷◌, ◌++◌, Option, Some, None, if◌then◌else◌}
use Rattle.pj_syntax.specs.declared.expression.Path.{Path}
use Rattle.pj_syntax.specs.declared.expression.Path.TheVariants as paths
use Rattle.pj_syntax.specs.declared.statement.Param.{Param}
use Rattle.pj_syntax.specs.declared.item.Item.{Item}
use Rattle.pj_grammar.specs.declared.level.Level.{Level}
use Rattle.pj_grammar.specs.declared.level.Level.TheVariants as levels
use Rattle.pj_grammar.specs.declared.node.Node.{Node}
use Rattle.pj_grammar.specs.declared.frame.Frame.{Frame}
use Rattle.pj_grammar.specs.declared.frame.Frame.TheVariants as frames
use Rattle.pj_grammar.specs.declared.frame.Given.{Given}
use Rattle.pj_grammar.specs.declared.frame.Given.TheVariants as given
use Rattle.pj_grammar.specs.declared.frame.Purpose.{Purpose}
use Rattle.pj_grammar.specs.declared.frame.Purpose.TheVariants as purposes
use Rattle.pj_grammar.specs.declared.frame.Root.TheVariants as roots
use Rattle.pj_grammar.specs.declared.mode.Head.{Head}
use Rattle.pj_grammar.specs.declared.mode.Head.TheVariants as heads
use Rattle.pj_grammar.specs.declared.mode.Mode.{Mode}
use Rattle.pj_grammar.specs.Levels.{fits, right_of}
use Rattle.pj_grammar.specs.Makers.{argument_after, call_of, conditional_of, field_of, infix_of, lacks, name_of, paths_given, prefix_of}

-- the state of the machine: the frames have the innermost first
pub record State : Type 0 where
  pub mode : Mode
  pub frames : List Frame

abbrev pub at : Mode → List Frame → Option State
at mode frames = Some (record { mode = mode; frames = frames })

abbrev pub guarded : Bool → Option State → Option State
guarded holds s = if holds then s else None

-- the level at which a purpose's expression is read
abbrev pub purpose_level : Purpose → Level
purpose_level (purposes.From x) = levels.Sum
purpose_level (purposes.To x a) = levels.Sum
purpose_level _ = levels.Conditional

-- the level at which a frame's operand is read
abbrev pub frame_level : Frame → Level
frame_level (frames.Prefix o) = levels.Unary
frame_level (frames.Infix l a o) = right_of l
frame_level (frames.Then c) = levels.Conditional
frame_level (frames.Else c a) = levels.Conditional
frame_level (frames.Group p types) = levels.Conditional
frame_level (frames.Call f g) = levels.Conditional
frame_level (frames.Hole purpose) = purpose_level purpose
frame_level frames.FunctionName = levels.Callee
frame_level frames.DirectiveFun = levels.Callee
frame_level (frames.TypeOf x p) = levels.Named
frame_level (frames.Parent h) = levels.Named
frame_level (frames.Types f ts) = levels.Named
frame_level _ = levels.Bare

abbrev pub wants : List Frame → Level
wants [] = levels.Bare
wants (f ∷ k) = frame_level f

-- whether what is read at a level may stand as the operand of the top frame
abbrev pub admits : List Frame → Level → Bool
admits k l = fits (wants k) l

-- what stands on top takes statements; items; a definition; directives
abbrev pub takes_lines : List Frame → Bool
takes_lines (frames.Block o ss ∷ k) = true
takes_lines (frames.Items r is ∷ k) = true
takes_lines _ = false

abbrev pub takes_items : List Frame → Bool
takes_items (frames.Items r is ∷ k) = true
takes_items _ = false

abbrev pub takes_definition : List Frame → Bool
takes_definition (frames.Payload m quoted ∷ k) = true
takes_definition (frames.Items r is ∷ k) = true
takes_definition _ = false

abbrev pub takes_directives : List Frame → Bool
takes_directives (frames.Items (roots.Package x uses) is ∷ k) = true
takes_directives _ = false

-- `using` stands before all items of a package
abbrev before_items : List Item → Bool
before_items [] = true
before_items (_ ∷ _) = false

abbrev pub takes_uses : List Frame → Bool
takes_uses (frames.Items roots.Script is ∷ k) = true
takes_uses (frames.Items (roots.Package x uses) is ∷ k) = before_items is.trees
takes_uses _ = false

-- a statement or payload whose first operand is read
abbrev pub takes_short : List Frame → Bool
takes_short (frames.Hole purposes.Value ∷ k) = takes_definition k
takes_short _ = false

-- An operand.

-- the path that an operand is
abbrev pub head_path : Head → Option Path
head_path (heads.Name x) = Some (paths.Bare x)
head_path (heads.Member m x) = Some (paths.Of m x)
head_path (heads.Operator m x) = Some (paths.Of m x)
head_path _ = None

abbrev pub node : Head → Node
node (heads.Name x) = name_of (paths.Bare x)
node (heads.Member m x) = name_of (paths.Of m x)
node (heads.Operator m x) = name_of (paths.Of m x)
node (heads.Place e x) = field_of e x
node (heads.Call f ps) = call_of f (paths_given ps)
node (heads.Plain e) = e

-- whether an operand can be more than the head of a definition, as `invokelatest()` can't
abbrev pub is_value : Head → Bool
is_value (heads.Call f ps) = if lacks f (paths_given ps) then false else true
is_value _ = true

-- the parameters that these names are, where they have no modules
abbrev pub params_of : List Path → Option (List Param)
params_of [] = Some []
params_of (paths.Bare x ∷ ps) = elim (params_of ps) [ Some qs ↦ Some (record { at = x.at; name = Some x; declared = None } ∷ qs) | None ↦ None ]
params_of (paths.Of m x ∷ ps) = None

-- one more argument
abbrev pub give : Given → Head → Given
give (given.Paths ps) h = elim (head_path h) [ Some f ↦ given.Paths (ps ++ f ∷ []) | None ↦ given.Mixed (argument_after (paths_given ps) (node h)) ]
give (given.Mixed es) h = given.Mixed (argument_after es (node h))

-- an operand over the frames
pub record Settled : Type 0 where
  pub head : Head
  pub frames : List Frame

-- Ends the operators that bind so tightly or more tightly, once what follows their operand is known.
unfoldable pub settle : Level → Head → List Frame → Settled
settle l h [] = record { head = h; frames = [] }
settle l h (frames.Prefix o ∷ k) = settle l (heads.Plain (prefix_of o (node h))) k
settle l h (frames.Infix m a o ∷ k) = if fits l m then settle l (heads.Plain (infix_of a o (node h))) k else record { head = h; frames = frames.Infix m a o ∷ k }
settle l h (frames.Else c a ∷ k) = if fits l levels.Conditional then settle l (heads.Plain (conditional_of c a (node h))) k else record { head = h; frames = frames.Else c a ∷ k }
settle l h (f ∷ k) = record { head = h; frames = f ∷ k }
