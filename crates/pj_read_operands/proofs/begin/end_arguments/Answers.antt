use Rattle.std.proofs.Common.{◌≡◌, ◌∷◌, ◌∙◌, ap}
use Rattle.pj_grammar.specs.declared.frame.Frame.{Frame}
use Rattle.pj_grammar.specs.declared.frame.Frame.TheVariants as frames
use Rattle.pj_grammar.specs.Machine.{end_arguments}
use Rattle.pj_read_operands.proofs.Moving.{moved}
use Rattle.pj_read_operands.proofs.begin.end_arguments.Goals as goal

pub returns-in-Call : goal.returns-in-Call
returns-in-Call c =
    let e : c.args.stack ≡ frames.Call c.in-Call.f c.in-Call.given ∷ c.pop.new.self = c.in-Some.ensures ∙ ap (λ (f : Frame). f ∷ c.pop.new.self) c.in-Call.is in
    moved end_arguments c.close_call.result c.args.stack _ e c.close_call.ensures
