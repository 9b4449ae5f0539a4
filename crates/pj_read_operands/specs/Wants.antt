-- What a frame takes behind an operand, where no sign goes on with that.
use Rattle.std.specs.Prelude.{ℕ, List, [], ◌∷◌, Option, None}
use Rattle.pj_lex.specs.declared.token.TokenKind.{TokenKind}
use Rattle.pj_grammar.specs.declared.frame.Frame.{Frame}
use Rattle.pj_grammar.specs.declared.frame.Frame.TheVariants as frames
use Rattle.pj_grammar.specs.declared.frame.Purpose.TheVariants as purposes
use Rattle.pj_grammar.specs.declared.mode.Head.{Head}
use Rattle.pj_grammar.specs.Frames.{State, head_path}
use Rattle.pj_grammar.specs.Operands.{have_path}
use Rattle.pj_read_operands.specs.declared.finishing.Wanted.{Wanted}
use Rattle.pj_read_operands.specs.declared.finishing.Wanted.TheVariants as wants

abbrev pub wanted_of : Frame → Wanted
wanted_of frames.FunctionName = wants.Declared
wanted_of (frames.Signature form f ps) = wants.Param
wanted_of (frames.Fields mutable x parent fs) = wants.Param
wanted_of (frames.TypeOf x first) = wants.Path
wanted_of (frames.Parent header) = wants.Path
wanted_of frames.DirectiveFun = wants.Path
wanted_of (frames.Types f ts) = wants.Path
wanted_of (frames.Hole purposes.Value) = wants.First
wanted_of _ = wants.Value

-- The frame on top says it; where there is none, a value follows.
abbrev pub wanted_on : List Frame → Wanted
wanted_on (f ∷ k) = wanted_of f
wanted_on _ = wants.Value

-- the frames below the one on top
abbrev pub below_top : List Frame → List Frame
below_top (f ∷ k) = k
below_top _ = []

-- a name in a place that takes no expression, whose frame is on top
abbrev pub path_on : Head → List Frame → ℕ → TokenKind → Option State
path_on h (f ∷ k) p kind = have_path f (head_path h) k p kind
path_on h _ p kind = None
