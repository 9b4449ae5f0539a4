use Rattle.std.proofs.Common.{◌≡◌, ◌∷◌, ◌∙◌, ap}
use Rattle.pj_grammar.specs.declared.frame.Frame.{Frame}
use Rattle.pj_grammar.specs.declared.frame.Frame.TheVariants as frames
use Rattle.pj_grammar.specs.declared.frame.Given.TheVariants as given
use Rattle.pj_grammar.specs.declared.mode.Head.TheVariants as heads
use Rattle.pj_grammar.specs.Operands.{have_type}
use Rattle.pj_read_operands.proofs.Moving.{moved}
use Rattle.pj_read_operands.proofs.calls.type_in_paths.Goals as goal

pub returns-in-Hole : goal.returns-in-Hole
returns-in-Hole c =
    let e : c.args.stack ≡ frames.Hole c.in-Hole.purpose ∷ c.pop.new.self = c.in-Some.ensures ∙ ap (λ (f : Frame). f ∷ c.pop.new.self) c.in-Hole.is in
    moved (λ k. have_type (heads.Name c.args.x) (frames.Call c.args.f (given.Paths c.args.paths) ∷ k)) c.type_in_hole.result c.args.stack _ e c.type_in_hole.ensures
