use Rattle.std.proofs.Common.{rules}
use Rattle.std.proofs.lemmas.Int.{to_z-of_z}
use Rattle.std.specs.Prelude.{FitsSigned}
use Rattle.std.specs.Int.{w64}
use Rattle.pj_build.proofs.Kept.{kept_binding}
use Rattle.pj_build.proofs.sections.add_binding.Goals as goal

pub returns-in_ok-push-in-Constant-clause-is : goal.returns-in_ok-push-in-Constant-clause-is
returns-in_ok-push-in-Constant-clause-is c = λ named p.
    let whole : FitsSigned w64 c.in-Constant.z = search rules in
    kept_binding _ _ named _ _ _ _ c.in-Constant.z c.in_ok-name-in-Constant.name p c.in_ok-name-in-Constant.ensures.grown c.in-Constant.is
    c.in_ok-name-in-Constant.ensures.is c.in_ok-name-in-Constant.ensures.four_bytes whole (rw (to_z-of_z w64 c.in-Constant.z whole) at c.in_ok-push-in-Constant.ensures.ok)
