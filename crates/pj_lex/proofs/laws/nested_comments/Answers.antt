use Rattle.pj_lex.proofs.NestedLaw as laws
use Rattle.pj_lex.proofs.laws.nested_comments.Goals as goal

pub returns-clause-read : goal.returns-clause-read
returns-clause-read c = λ cs rest is. laws.nested cs rest is

pub returns-clause-closed : goal.returns-clause-closed
returns-clause-closed c = λ cs rest closes. laws.read cs rest closes
