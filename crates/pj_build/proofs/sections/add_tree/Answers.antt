use Rattle.pj_build.proofs.Kept.{kept_no_tree}
use Rattle.pj_build.proofs.sections.add_tree.Goals as goal

pub returns-in-Constant-clause-is : goal.returns-in-Constant-clause-is
returns-in-Constant-clause-is c = λ things p. kept_no_tree _ things _ _ c.in-Constant.field-0 p c.in-Constant.is
