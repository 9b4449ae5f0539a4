use Rattle.std.proofs.Common.{◌≡◌, ◌∷◌, ◌∙◌, ap}
use Rattle.pj_grammar.specs.declared.frame.Frame.{Frame}
use Rattle.pj_grammar.specs.declared.frame.Frame.TheVariants as frames
use Rattle.pj_grammar.specs.Machine.{type_argument}
use Rattle.pj_read_operands.proofs.Moving.{moved}
use Rattle.pj_read_operands.proofs.begin.type_argument.Goals as goal

pub returns-in-Call : goal.returns-in-Call
returns-in-Call c =
    let e : c.args.stack ≡ frames.Call c.in-Call.f c.in-Call.given ∷ c.pop.new.self = c.in-Some.ensures ∙ ap (λ (f : Frame). f ∷ c.pop.new.self) c.in-Call.is in
    moved (type_argument c.args.start) c.type_in_call.result c.args.stack _ e c.type_in_call.ensures
