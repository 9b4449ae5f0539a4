use Rattle.pj_plain.specs.Forms.{role_of}
use Rattle.pj_plain.proofs.Shapes.{counted}
use Rattle.pj_plain.proofs.printed_form.takes_all.Goals as goal

pub returns-in-Some-Some : goal.returns-in-Some-Some
returns-in-Some-Some c =
    counted c.args.arguments.now c.in-Some-Some.count (role_of c.args.name.now c.args.own.now) (rw c.in-Some-Some.field-0-is at c.in-Some-Some.ensures)
