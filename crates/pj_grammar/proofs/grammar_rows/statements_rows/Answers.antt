-- Each row computes.
use Rattle.std.specs.Prelude.{refl}
use Rattle.pj_grammar.proofs.Computing.{computing}
use Rattle.pj_grammar.proofs.grammar_rows.statements_rows.Goals as goal

pub returns-clause-assignments : goal.returns-clause-assignments
unfolding computing
returns-clause-assignments c = refl

pub returns-clause-assignments_refused : goal.returns-clause-assignments_refused
unfolding computing
returns-clause-assignments_refused c = refl

pub returns-clause-jumps : goal.returns-clause-jumps
unfolding computing
returns-clause-jumps c = refl

pub returns-clause-jumps_refused : goal.returns-clause-jumps_refused
unfolding computing
returns-clause-jumps_refused c = refl

pub returns-clause-branches : goal.returns-clause-branches
unfolding computing
returns-clause-branches c = refl

pub returns-clause-branches_refused : goal.returns-clause-branches_refused
unfolding computing
returns-clause-branches_refused c = refl

pub returns-clause-loops : goal.returns-clause-loops
unfolding computing
returns-clause-loops c = refl

pub returns-clause-loops_refused : goal.returns-clause-loops_refused
unfolding computing
returns-clause-loops_refused c = refl

pub returns-clause-evaluations : goal.returns-clause-evaluations
unfolding computing
returns-clause-evaluations c = refl

pub returns-clause-evaluations_refused : goal.returns-clause-evaluations_refused
unfolding computing
returns-clause-evaluations_refused c = refl

pub returns-clause-quoted : goal.returns-clause-quoted
unfolding computing
returns-clause-quoted c = refl

pub returns-clause-quoted_refused : goal.returns-clause-quoted_refused
unfolding computing
returns-clause-quoted_refused c = refl
