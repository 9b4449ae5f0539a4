use Rattle.std.proofs.Common.{◌≡◌, Option, Some}
use Rattle.pj_grammar.specs.Frames.{State}
use Rattle.pj_read_operands.specs.Values.{below_value}
use Rattle.pj_read_operands.proofs.Assigns.{assign_at}
use Rattle.pj_read_operands.proofs.Moving.{moved}
use Rattle.pj_read_operands.proofs.operands.have_assign.Goals as goal

pub returns-in-Some : goal.returns-in-Some
returns-in-Some c =
    let e : below_value c.args.stack ≡ Some c.in-Some.below = cc in
    moved (λ (s : Option State). s) c.assign_value.result _ _ (assign_at c.args.head c.args.stack c.in-Some.below c.args.start c.args.operator e) c.assign_value.ensures
