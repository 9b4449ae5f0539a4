use Rattle.std.proofs.Common.{◌≡◌, ◌∷◌, ◌∙◌, ap}
use Rattle.pj_grammar.specs.declared.frame.Frame.{Frame}
use Rattle.pj_grammar.specs.declared.frame.Frame.TheVariants as frames
use Rattle.pj_grammar.specs.Machine.{short_assign}
use Rattle.pj_read_operands.proofs.Moving.{moved}
use Rattle.pj_read_operands.proofs.begin.short_assign.Goals as goal

pub returns-in-Signature : goal.returns-in-Signature
returns-in-Signature c =
    let e : c.args.stack ≡ frames.Signature c.in-Signature.form c.in-Signature.f c.in-Signature.params ∷ c.pop.new.self = c.in-Some.ensures ∙ ap (λ (f : Frame). f ∷ c.pop.new.self) c.in-Signature.is in
    moved (λ k. short_assign k c.args.kind) c.short_in.result c.args.stack _ e c.short_in.ensures
