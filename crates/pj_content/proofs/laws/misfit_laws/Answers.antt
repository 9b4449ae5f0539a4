use Rattle.pj_content.proofs.Lowest.{lowest, none_wrong, refused}
use Rattle.pj_content.proofs.Numbers.{within}
use Rattle.pj_content.proofs.laws.misfit_laws.Goals as goal

pub returns-clause-right : goal.returns-clause-right
returns-clause-right c = none_wrong

pub returns-clause-refused : goal.returns-clause-refused
returns-clause-refused c = refused

pub returns-clause-lowest : goal.returns-clause-lowest
returns-clause-lowest c = lowest

pub returns-clause-within : goal.returns-clause-within
returns-clause-within c = within
