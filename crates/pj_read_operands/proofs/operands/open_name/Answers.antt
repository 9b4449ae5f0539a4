use Rattle.std.proofs.Common.{◌≡◌, ◌∷◌, ◌∙◌, ap}
use Rattle.pj_grammar.specs.declared.frame.Frame.{Frame}
use Rattle.pj_grammar.specs.declared.frame.Frame.TheVariants as frames
use Rattle.pj_grammar.specs.declared.mode.Head.TheVariants as heads
use Rattle.pj_grammar.specs.Operands.{open_apart}
use Rattle.pj_read_operands.proofs.Moving.{moved}
use Rattle.pj_read_operands.proofs.operands.open_name.Goals as goal

pub returns-in-Hole : goal.returns-in-Hole
returns-in-Hole c =
    let e : c.args.stack ≡ frames.Hole c.in-Hole.purpose ∷ c.pop.new.self = c.in-Some.ensures ∙ ap (λ (f : Frame). f ∷ c.pop.new.self) c.in-Hole.is in
    moved (open_apart (heads.Name c.args.x)) c.open_hole.result c.args.stack _ e c.open_hole.ensures
