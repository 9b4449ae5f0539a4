use Rattle.std.proofs.Common.{◌≡◌, ◌∷◌, ◌∙◌, ap}
use Rattle.pj_grammar.specs.declared.frame.Frame.{Frame}
use Rattle.pj_grammar.specs.declared.frame.Frame.TheVariants as frames
use Rattle.pj_grammar.specs.declared.mode.Head.TheVariants as heads
use Rattle.pj_grammar.specs.Operands.{have_type}
use Rattle.pj_read_operands.proofs.Moving.{moved}
use Rattle.pj_read_operands.proofs.calls.type_of_name.Goals as goal

pub returns-in-Call : goal.returns-in-Call
returns-in-Call c =
    let e : c.args.stack ≡ frames.Call c.in-Call.f c.in-Call.given ∷ c.pop.new.self = c.in-Some.ensures ∙ ap (λ (f : Frame). f ∷ c.pop.new.self) c.in-Call.is in
    moved (have_type (heads.Name c.args.x)) c.type_in_call.result c.args.stack _ e c.type_in_call.ensures
