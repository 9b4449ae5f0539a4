-- What stands on top of the frames, and what one operator that ends leaves.
use Rattle.std.specs.Prelude.{Bool, true, false, List, [], ◌∷◌, Option, Some, None}
use Rattle.pj_syntax.specs.declared.expression.Path.{Path}
use Rattle.pj_grammar.specs.declared.level.Level.{Level}
use Rattle.pj_grammar.specs.declared.level.Level.TheVariants as levels
use Rattle.pj_grammar.specs.declared.frame.Frame.{Frame}
use Rattle.pj_grammar.specs.declared.frame.Frame.TheVariants as frames
use Rattle.pj_grammar.specs.declared.frame.Purpose.TheVariants as purposes
use Rattle.pj_grammar.specs.declared.mode.Head.{Head}
use Rattle.pj_grammar.specs.declared.mode.Head.TheVariants as heads
use Rattle.pj_grammar.specs.Frames.{Settled, node, takes_directives}
use Rattle.pj_grammar.specs.Levels.{fits}
use Rattle.pj_grammar.specs.Makers.{conditional_of, infix_of, prefix_of}
use Rattle.pj_read_frames.specs.declared.settling.Operand.{Operand}

-- the path of a list of one
abbrev pub only_of : List Path → Option Path
only_of (p ∷ []) = Some p
only_of _ = None

-- what `@eval` evaluates
abbrev pub on_payload : List Frame → Bool
on_payload (frames.Payload m quoted ∷ k) = true
on_payload _ = false

-- an operator that ends where what follows is read at a level
abbrev pub ends_top : Level → List Frame → Bool
ends_top l (frames.Prefix o ∷ k) = true
ends_top l (frames.Infix m a o ∷ k) = fits l m
ends_top l (frames.Else c a ∷ k) = fits l levels.Conditional
ends_top _ _ = false

-- the operand that the operator on top makes, over the frames below it
abbrev pub ended : Head → List Frame → Settled
ended h (frames.Prefix o ∷ k) = record { head = heads.Plain (prefix_of o (node h)); frames = k }
ended h (frames.Infix m a o ∷ k) = record { head = heads.Plain (infix_of a o (node h)); frames = k }
ended h (frames.Else c a ∷ k) = record { head = heads.Plain (conditional_of c a (node h)); frames = k }
ended h k = record { head = h; frames = k }

abbrev pub settled_of : Operand → Settled
settled_of o = record { head = o.head; frames = o.stack }

-- the condition and the statements of a branch before `elseif`
abbrev pub on_branch : List Frame → Bool
on_branch (frames.Branch c ss ∷ k) = true
on_branch _ = false

-- the first operand of a statement of a package, which may be a directive
abbrev pub in_directive : List Frame → Bool
in_directive (frames.Hole purposes.Value ∷ k) = takes_directives k
in_directive _ = false
