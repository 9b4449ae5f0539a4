use Rattle.pj_faults.proofs.CountingLaws.{first_counts}
use Rattle.pj_faults.proofs.laws.first_laws.Goals as goal

pub returns-clause-first_counts : goal.returns-clause-first_counts
returns-clause-first_counts c = first_counts
