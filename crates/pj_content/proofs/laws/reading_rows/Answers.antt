-- Each row computes.
use Rattle.std.specs.Prelude.{refl}
use Rattle.pj_image.specs.File.{file_at}
use Rattle.pj_content.proofs.laws.reading_rows.Goals as goal

pub returns-clause-a_file_that_is_not_there : goal.returns-clause-a_file_that_is_not_there
returns-clause-a_file_that_is_not_there c = refl

pub returns-clause-an_empty_file : goal.returns-clause-an_empty_file
unfolding file_at
returns-clause-an_empty_file c = refl

pub returns-clause-a_package_by_its_file : goal.returns-clause-a_package_by_its_file
unfolding file_at
returns-clause-a_package_by_its_file c = refl

pub returns-clause-another_package : goal.returns-clause-another_package
returns-clause-another_package c = refl
