-- Each row computes.
use Rattle.std.specs.Prelude.{refl}
use Rattle.pj_grammar.proofs.Computing.{computing}
use Rattle.pj_grammar.proofs.grammar_rows.needs_rows.Goals as goal

pub returns-clause-needs_of_parentheses : goal.returns-clause-needs_of_parentheses
unfolding computing
returns-clause-needs_of_parentheses c = refl

pub returns-clause-needs_of_places : goal.returns-clause-needs_of_places
unfolding computing
returns-clause-needs_of_places c = refl

pub returns-clause-needs_of_operators : goal.returns-clause-needs_of_operators
unfolding computing
returns-clause-needs_of_operators c = refl

pub returns-clause-needs_of_blocks : goal.returns-clause-needs_of_blocks
unfolding computing
returns-clause-needs_of_blocks c = refl
