use Rattle.std.proofs.Common.{◌∷◌}
use Rattle.pj_grammar.specs.declared.frame.Frame.TheVariants as frames
use Rattle.pj_grammar.specs.declared.frame.Purpose.TheVariants as purposes
use Rattle.pj_grammar.specs.declared.mode.Head.TheVariants as heads
use Rattle.pj_grammar.specs.Operands.{have_assign}
use Rattle.pj_read_operands.proofs.Moving.{moved}
use Rattle.pj_read_operands.proofs.operands.assign_value.Goals as goal

pub returns-in-Call : goal.returns-in-Call
returns-in-Call c =
    moved (λ h. have_assign h (frames.Hole purposes.Value ∷ c.args.stack) c.args.start c.args.operator) c.assign_call.result c.args.head (heads.Call c.in-Call.f c.in-Call.paths) c.in-Call.is (c.assign_call.ensures c.args.start)
