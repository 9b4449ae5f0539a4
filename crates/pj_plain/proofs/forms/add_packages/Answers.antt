use Rattle.pj_plain.proofs.UsedNames.{gathered, gathers}
use Rattle.pj_plain.proofs.forms.add_packages.Goals as goal

pub loop-name-preserved : goal.loop-name-preserved
loop-name-preserved c =
    gathers c.args.used.now c.loop-name.used c.intern.new.self c.args.names.now c.loop-name.name-index c.in_ok-intern.field-0.0 c.name-item.result c.loop-name-test.true c.name-item.is c.loop-name.invariant
    (rw c.text.ensures at c.in_ok-intern.ensures.interned)

pub returns : goal.returns
returns c = gathered c.args.used.now c.loop-name.used c.args.names.now c.loop-name.name-index c.loop-name-test.false c.loop-name.invariant
