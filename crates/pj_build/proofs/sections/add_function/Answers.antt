use Rattle.pj_build.proofs.Kept.{kept_function}
use Rattle.pj_build.proofs.sections.add_function.Goals as goal

pub returns-in_ok-push-in-Function-clause-is : goal.returns-in_ok-push-in-Function-clause-is
returns-in_ok-push-in-Function-clause-is c = λ named p.
    kept_function _ _ named _ _ _ _ c.in-Function.field-0 c.in_ok-name-in-Function.name p c.in_ok-name-in-Function.ensures.grown c.in-Function.is
    c.in_ok-name-in-Function.ensures.is c.in_ok-name-in-Function.ensures.four_bytes c.in_ok-push-in-Function.ensures.ok
