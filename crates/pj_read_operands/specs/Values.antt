-- What stands below the first operand of a statement or a payload.
use Rattle.std.specs.Prelude.{List, ◌∷◌, Option, Some, None}
use Rattle.pj_grammar.specs.declared.frame.Frame.{Frame}
use Rattle.pj_grammar.specs.declared.frame.Frame.TheVariants as frames
use Rattle.pj_grammar.specs.declared.frame.Purpose.TheVariants as purposes

abbrev pub below_value : List Frame → Option (List Frame)
below_value (frames.Hole purposes.Value ∷ k) = Some k
below_value _ = None
