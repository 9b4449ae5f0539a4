use Rattle.pj_lex.proofs.Determined as laws
use Rattle.pj_lex.proofs.laws.one_reading.Goals as goal

pub returns-clause-one_list : goal.returns-clause-one_list
returns-clause-one_list c = λ before at cs tokens others d e. laws.one_list d e

pub returns-clause-one_place : goal.returns-clause-one_place
returns-clause-one_place c = λ before at cs place other d e. laws.one_place d e

pub returns-clause-never_both : goal.returns-clause-never_both
returns-clause-never_both c = λ before at cs tokens place d e. laws.never_both d e
