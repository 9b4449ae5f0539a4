use Rattle.std.proofs.Common.{◌≡◌, ◌∷◌, ◌∙◌, ap}
use Rattle.pj_grammar.specs.declared.frame.Frame.{Frame}
use Rattle.pj_grammar.specs.declared.frame.Frame.TheVariants as frames
use Rattle.pj_grammar.specs.Machine.{close_types}
use Rattle.pj_read_operands.proofs.Moving.{moved}
use Rattle.pj_read_operands.proofs.begin.close_types.Goals as goal

pub returns-in-Group : goal.returns-in-Group
returns-in-Group c =
    let e : c.args.stack ≡ frames.Group c.in-Group.start c.in-Group.types ∷ c.pop.new.self = c.in-Some.ensures ∙ ap (λ (f : Frame). f ∷ c.pop.new.self) c.in-Group.is in
    moved close_types c.close_group.result c.args.stack _ e c.close_group.ensures
