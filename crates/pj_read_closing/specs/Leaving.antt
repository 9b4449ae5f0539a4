-- How a statement that ends leaves one branch before `elseif`, and where it stands at last.
use Rattle.std.specs.Prelude.{◌≡◌, List, ◌∷◌, Option, Some, None}
use Rattle.pj_grammar.specs.declared.node.Line.{Line}
use Rattle.pj_grammar.specs.declared.frame.Frame.{Frame}
use Rattle.pj_grammar.specs.declared.frame.Frame.TheVariants as frames
use Rattle.pj_grammar.specs.declared.mode.Mode.TheVariants as modes
use Rattle.pj_grammar.specs.Frames.{State, at}
use Rattle.pj_grammar.specs.Makers.{entry_after, if_of, line_after, one_line, run_of}
use Rattle.pj_read_closing.specs.declared.lines.Branching.{Branching}
use Rattle.pj_read_closing.specs.declared.lines.Standing.{Standing}

-- a statement, and the frames around it
pub record Within : Type 0 where
  pub line : Line
  pub frames : List Frame

-- the branch on top
abbrev pub branch_of : List Frame → Option Branching
branch_of (frames.Branch c ss ∷ k) = Some (record { condition = c; before = ss; stack = k })
branch_of _ = None

-- the `if` of a branch has ended with the statement
abbrev pub left : Line → Branching → Within
left s b = record { line = if_of b.condition b.before (one_line s); frames = b.stack }

-- the statement ends where no branch stands on top
abbrev pub placed : Line → List Frame → Option State
placed s (frames.Block o ss ∷ k) = at modes.Closed (frames.Block o (line_after ss s) ∷ k)
placed s (frames.Items root is ∷ k) = at modes.Closed (frames.Items root (entry_after is (run_of s)) ∷ k)
placed s _ = None

abbrev pub within : Standing → Within
within c = record { line = c.line; frames = c.stack }

-- the branch on top, and what has been left of it
pub record Leaves (before after : Standing) : Type 0 where
  pub branch : Branching
  pub stood : branch_of before.stack ≡ Some branch
  pub is : within after ≡ left before.line branch
