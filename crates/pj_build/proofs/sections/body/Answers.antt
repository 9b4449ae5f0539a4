use Rattle.pj_build.proofs.Kept.{kept_body}
use Rattle.pj_build.proofs.sections.body.Goals as goal

pub returns-clause-is : goal.returns-clause-is
returns-clause-is c =
    kept_body _ _ c.args.d.now c.in_ok-params.params c.new-introduced.result c.push.new.self c.in_ok-value.value
    (rw c.as_slice.ensures at c.in_ok-params.ensures.is) c.in_ok-value.ensures.grown c.in_ok-value.ensures.is c.new-introduced.ensures (rw c.new-block.ensures at c.in_ok-push.ensures.ok)
