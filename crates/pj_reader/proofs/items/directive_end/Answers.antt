use Rattle.std.proofs.Common.{◌≡◌, ◌∷◌, ◌∙◌, ap}
use Rattle.pj_grammar.specs.declared.frame.Frame.TheVariants as frames
use Rattle.pj_grammar.specs.Machine.{directive_end}
use Rattle.pj_reader.proofs.Moving.{moved}
use Rattle.pj_reader.proofs.items.directive_end.Goals as goal

pub returns-in-Types : goal.returns-in-Types
returns-in-Types c =
    let e : c.args.stack ≡ frames.Types c.in-Types.f c.in-Types.types ∷ c.pop.new.self = c.in-Some.ensures ∙ ap (λ f. f ∷ c.pop.new.self) c.in-Types.is in
    moved (λ k. directive_end k c.args.kind) c.directive_ends.result c.args.stack _ e c.directive_ends.ensures
