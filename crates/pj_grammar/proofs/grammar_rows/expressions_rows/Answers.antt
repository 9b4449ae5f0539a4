-- Each row computes.
use Rattle.std.specs.Prelude.{refl}
use Rattle.pj_grammar.proofs.Computing.{computing}
use Rattle.pj_grammar.proofs.grammar_rows.expressions_rows.Goals as goal

pub returns-clause-levels : goal.returns-clause-levels
unfolding computing
returns-clause-levels c = refl

pub returns-clause-conditions : goal.returns-clause-conditions
unfolding computing
returns-clause-conditions c = refl

pub returns-clause-conditions_refused : goal.returns-clause-conditions_refused
unfolding computing
returns-clause-conditions_refused c = refl

pub returns-clause-prefixes_and_fields : goal.returns-clause-prefixes_and_fields
unfolding computing
returns-clause-prefixes_and_fields c = refl

pub returns-clause-calls : goal.returns-clause-calls
unfolding computing
returns-clause-calls c = refl

pub returns-clause-refused : goal.returns-clause-refused
unfolding computing
returns-clause-refused c = refl
