use Rattle.pj_content.proofs.Plain.{plainly}
use Rattle.pj_content.proofs.laws.content_laws.Goals as goal

pub returns-clause-plain : goal.returns-clause-plain
returns-clause-plain c = plainly

pub returns-clause-decoded : goal.returns-clause-decoded
returns-clause-decoded c = λ name bytes i is none. plainly i is.formed none
