use Rattle.std.proofs.Common.{true, Some, ◌≡◌, ◌∷◌, ◌∙◌, ap}
use Rattle.pj_grammar.specs.declared.frame.Frame.{Frame}
use Rattle.pj_grammar.specs.declared.frame.Frame.TheVariants as frames
use Rattle.pj_grammar.specs.Operands.{begin_types}
use Rattle.pj_read_operands.proofs.Moving.{moved}
use Rattle.pj_read_operands.proofs.calls.types_from.Goals as goal

pub returns-in-Call : goal.returns-in-Call
returns-in-Call c =
    let e : c.args.stack ≡ frames.Call c.in-Call.f c.in-Call.given ∷ c.pop.new.self = c.in-Some.ensures ∙ ap (λ (f : Frame). f ∷ c.pop.new.self) c.in-Call.is in
    moved (begin_types true (Some c.args.t)) c.types_behind.result c.args.stack _ e c.types_behind.ensures
