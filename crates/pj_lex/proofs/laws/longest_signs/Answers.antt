use Rattle.pj_lex.proofs.LongestSign as laws
use Rattle.pj_lex.proofs.laws.longest_signs.Goals as goal

pub returns-clause-longest_sign : goal.returns-clause-longest_sign
returns-clause-longest_sign c = λ cs sign other found stands. laws.longest_sign cs sign other found stands

pub returns-clause-some_sign : goal.returns-clause-some_sign
returns-clause-some_sign c = λ cs sign stands. laws.some_sign cs sign stands
