-- Each row computes.
use Rattle.std.specs.Prelude.{refl}
use Rattle.pj_grammar.proofs.Computing.{computing}
use Rattle.pj_grammar.proofs.grammar_rows.packages_rows.Goals as goal

pub returns-clause-headers : goal.returns-clause-headers
unfolding computing
returns-clause-headers c = refl

pub returns-clause-headers_refused : goal.returns-clause-headers_refused
unfolding computing
returns-clause-headers_refused c = refl

pub returns-clause-directives : goal.returns-clause-directives
unfolding computing
returns-clause-directives c = refl

pub returns-clause-directives_refused : goal.returns-clause-directives_refused
unfolding computing
returns-clause-directives_refused c = refl

pub returns-clause-own_names : goal.returns-clause-own_names
unfolding computing
returns-clause-own_names c = refl

pub returns-clause-own_names_refused : goal.returns-clause-own_names_refused
unfolding computing
returns-clause-own_names_refused c = refl
