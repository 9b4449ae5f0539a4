-- Each row computes.
use Rattle.std.specs.Prelude.{refl}
use Rattle.std.specs.Str.{chars}
use Rattle.unicode_ident.proofs.Computing.{unicode_ident}
use Rattle.pj_words.specs.Reserved.{all_words, reserved_word}
use Rattle.pj_words.specs.Words.{is_identifier, starts_name, continues_name, is_among, is_package_name, base_names, special_names}
use Rattle.pj_words.proofs.word_rows.name_rows.Goals as goal

pub returns-clause-a_package : goal.returns-clause-a_package
unfolding chars unicode_ident all_words reserved_word is_identifier starts_name continues_name is_among is_package_name base_names special_names
returns-clause-a_package c = refl

pub returns-clause-a_small_letter_first : goal.returns-clause-a_small_letter_first
unfolding chars unicode_ident all_words reserved_word is_identifier starts_name continues_name is_among is_package_name base_names special_names
returns-clause-a_small_letter_first c = refl

pub returns-clause-the_longest_package : goal.returns-clause-the_longest_package
unfolding chars unicode_ident all_words reserved_word is_identifier starts_name continues_name is_among is_package_name base_names special_names
returns-clause-the_longest_package c = refl

pub returns-clause-a_package_too_long : goal.returns-clause-a_package_too_long
unfolding chars unicode_ident all_words reserved_word is_identifier starts_name continues_name is_among is_package_name base_names special_names
returns-clause-a_package_too_long c = refl

pub returns-clause-no_package_is_main : goal.returns-clause-no_package_is_main
unfolding chars unicode_ident all_words reserved_word is_identifier starts_name continues_name is_among is_package_name base_names special_names
returns-clause-no_package_is_main c = refl

pub returns-clause-an_operator_of_base : goal.returns-clause-an_operator_of_base
unfolding chars unicode_ident all_words reserved_word is_identifier starts_name continues_name is_among is_package_name base_names special_names
returns-clause-an_operator_of_base c = refl

pub returns-clause-another_spelling : goal.returns-clause-another_spelling
unfolding chars unicode_ident all_words reserved_word is_identifier starts_name continues_name is_among is_package_name base_names special_names
returns-clause-another_spelling c = refl

pub returns-clause-no_name_of_base : goal.returns-clause-no_name_of_base
unfolding chars unicode_ident all_words reserved_word is_identifier starts_name continues_name is_among is_package_name base_names special_names
returns-clause-no_name_of_base c = refl

pub returns-clause-a_form_of_its_own : goal.returns-clause-a_form_of_its_own
unfolding chars unicode_ident all_words reserved_word is_identifier starts_name continues_name is_among is_package_name base_names special_names
returns-clause-a_form_of_its_own c = refl
