-- Each row computes.
use Rattle.std.specs.Prelude.{refl}
use Rattle.pj_meaning.specs.Written.{computing}
use Rattle.pj_meaning.proofs.report_rows.Goals as goal

pub returns-clause-both_are_kept : goal.returns-clause-both_are_kept
unfolding computing
returns-clause-both_are_kept c = refl

pub returns-clause-both_are_dropped : goal.returns-clause-both_are_dropped
unfolding computing
returns-clause-both_are_dropped c = refl

pub returns-clause-each_directive_once_by_its_first_code : goal.returns-clause-each_directive_once_by_its_first_code
unfolding computing
returns-clause-each_directive_once_by_its_first_code c = refl

pub returns-clause-lines_follow_the_end_of_the_budget : goal.returns-clause-lines_follow_the_end_of_the_budget
unfolding computing
returns-clause-lines_follow_the_end_of_the_budget c = refl

pub returns-clause-nothing_follows_a_missing_image : goal.returns-clause-nothing_follows_a_missing_image
unfolding computing
returns-clause-nothing_follows_a_missing_image c = refl
