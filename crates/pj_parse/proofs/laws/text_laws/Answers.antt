use Rattle.pj_parse.proofs.Called.{called}
use Rattle.pj_parse.proofs.TextReadings.{never-both-law, one-fault, one-syntax}
use Rattle.pj_parse.proofs.laws.text_laws.Goals as goal

pub returns-clause-one_syntax : goal.returns-clause-one_syntax
returns-clause-one_syntax c = one-syntax

pub returns-clause-one_fault : goal.returns-clause-one_fault
returns-clause-one_fault c = one-fault

pub returns-clause-never_both : goal.returns-clause-never_both
returns-clause-never_both c = never-both-law

pub returns-clause-called : goal.returns-clause-called
returns-clause-called c = λ name bytes tree is. called is
