use Rattle.pj_content.proofs.Read.{held, identity_is, no_needs, long}
use Rattle.pj_content.proofs.laws.reading_laws.Goals as goal

pub returns-clause-held : goal.returns-clause-held
returns-clause-held c = held

pub returns-clause-called : goal.returns-clause-called
returns-clause-called c = λ name bytes i is. is.called

pub returns-clause-identity : goal.returns-clause-identity
returns-clause-identity c = identity_is

pub returns-clause-needs : goal.returns-clause-needs
returns-clause-needs c = no_needs

pub returns-clause-long : goal.returns-clause-long
returns-clause-long c = long
