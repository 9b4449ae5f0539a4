use Rattle.std.proofs.Common.{[], ◌≡◌, ◌∷◌, ◌∙◌, ap}
use Rattle.pj_syntax.specs.declared.expression.Path.TheVariants as paths
use Rattle.pj_grammar.specs.declared.frame.Frame.{Frame}
use Rattle.pj_grammar.specs.declared.frame.Frame.TheVariants as frames
use Rattle.pj_grammar.specs.declared.frame.Given.TheVariants as given
use Rattle.pj_grammar.specs.Machine.{quote}
use Rattle.pj_read_operands.proofs.Moving.{moved}
use Rattle.pj_read_operands.proofs.begin.quote_in.Goals as goal

pub returns-in-Hole : goal.returns-in-Hole
returns-in-Hole c =
    let e : c.args.stack ≡ frames.Hole c.in-Hole.purpose ∷ c.pop.new.self = c.in-Some.ensures ∙ ap (λ (f : Frame). f ∷ c.pop.new.self) c.in-Hole.is in
    moved (λ k. quote (frames.Call (paths.Bare c.args.f) (given.Paths []) ∷ k)) c.quote_hole.result c.args.stack _ e c.quote_hole.ensures
