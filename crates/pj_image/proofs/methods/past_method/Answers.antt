use Rattle.std.proofs.Common.{List}
use Rattle.std.specs.Borrow.{Bor}
use Rattle.pj_reloc.specs.declared.entry.Entry.{Entry}
use Rattle.pj_image.proofs.Walking.{method_on, method_off}
use Rattle.pj_image.proofs.methods.past_method.Goals as goal

pub returns-in_err-rest-clause-is : goal.returns-in_err-rest-clause-is
returns-in_err-rest-clause-is c = rw c.from_residual.ensures (method_off c.args.m.now c.args.next c.args.at c.args.left.now c.in_err-rest.ensures.is)

pub returns-clause-is : goal.returns-clause-is
returns-clause-is c = method_on (λ (r : Bor (List Entry)). r.now) c.args.m.now c.args.next c.args.at c.args.left.now c.in_ok-rest.rest.now c.past_mentions.result c.in_ok-rest.ensures.is (rw c.as_slice.ensures at c.past_mentions.ensures.is)
