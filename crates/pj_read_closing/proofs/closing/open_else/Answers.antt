use Rattle.std.proofs.Common.{◌≡◌, ◌∷◌, ap, ◌∙◌}
use Rattle.pj_grammar.specs.declared.frame.Frame.{Frame}
use Rattle.pj_grammar.specs.declared.frame.Frame.TheVariants as frames
use Rattle.pj_grammar.specs.Closing.{open_else}
use Rattle.pj_read_closing.proofs.Moving.{moved}
use Rattle.pj_read_closing.proofs.closing.open_else.Goals as goal

pub returns-in-Block : goal.returns-in-Block
returns-in-Block c =
    let e : c.args.stack ≡ frames.Block c.in-Block.opener c.in-Block.lines ∷ c.pop.new.self = c.in-Some.ensures ∙ ap (λ (f : Frame). f ∷ c.pop.new.self) c.in-Block.is in
    moved open_else c.else_in.result c.args.stack _ e c.else_in.ensures
