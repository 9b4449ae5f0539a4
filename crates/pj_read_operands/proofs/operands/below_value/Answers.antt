use Rattle.std.proofs.Common.{◌≡◌, ◌∷◌, ◌∙◌, ap, sym}
use Rattle.pj_grammar.specs.declared.frame.Frame.{Frame}
use Rattle.pj_grammar.specs.declared.frame.Frame.TheVariants as frames
use Rattle.pj_read_operands.specs.Values.{below_value}
use Rattle.pj_read_operands.proofs.operands.below_value.Goals as goal

pub returns-in-Hole : goal.returns-in-Hole
returns-in-Hole c =
    let e : c.args.stack ≡ frames.Hole c.in-Hole.purpose ∷ c.pop.new.self = c.in-Some.ensures ∙ ap (λ (f : Frame). f ∷ c.pop.new.self) c.in-Hole.is in
    c.below_hole.ensures ∙ ap below_value (sym e)
