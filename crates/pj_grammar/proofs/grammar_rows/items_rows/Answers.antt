-- Each row computes.
use Rattle.std.specs.Prelude.{refl}
use Rattle.pj_grammar.proofs.Computing.{computing}
use Rattle.pj_grammar.proofs.grammar_rows.items_rows.Goals as goal

pub returns-clause-methods : goal.returns-clause-methods
unfolding computing
returns-clause-methods c = refl

pub returns-clause-methods_refused : goal.returns-clause-methods_refused
unfolding computing
returns-clause-methods_refused c = refl

pub returns-clause-declarations : goal.returns-clause-declarations
unfolding computing
returns-clause-declarations c = refl

pub returns-clause-declarations_refused : goal.returns-clause-declarations_refused
unfolding computing
returns-clause-declarations_refused c = refl

pub returns-clause-types : goal.returns-clause-types
unfolding computing
returns-clause-types c = refl

pub returns-clause-types_refused : goal.returns-clause-types_refused
unfolding computing
returns-clause-types_refused c = refl

pub returns-clause-constants_and_uses : goal.returns-clause-constants_and_uses
unfolding computing
returns-clause-constants_and_uses c = refl

pub returns-clause-constants_and_uses_refused : goal.returns-clause-constants_and_uses_refused
unfolding computing
returns-clause-constants_and_uses_refused c = refl
