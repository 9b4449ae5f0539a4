-- Each row computes.
use Rattle.std.specs.Prelude.{refl}
use Rattle.std.specs.Str.{chars}
use Rattle.unicode_ident.proofs.Computing.{unicode_ident}
use Rattle.pj_words.specs.Reserved.{all_words, reserved_word}
use Rattle.pj_words.specs.Words.{is_identifier, starts_name, continues_name, is_among, is_package_name, base_names, special_names}
use Rattle.pj_words.proofs.word_rows.word_rows.Goals as goal

pub returns-clause-a_letter : goal.returns-clause-a_letter
unfolding chars unicode_ident all_words reserved_word is_identifier starts_name continues_name is_among is_package_name base_names special_names
returns-clause-a_letter c = refl

pub returns-clause-an_underscore : goal.returns-clause-an_underscore
unfolding chars unicode_ident all_words reserved_word is_identifier starts_name continues_name is_among is_package_name base_names special_names
returns-clause-an_underscore c = refl

pub returns-clause-an_accented_letter : goal.returns-clause-an_accented_letter
unfolding chars unicode_ident all_words reserved_word is_identifier starts_name continues_name is_among is_package_name base_names special_names
returns-clause-an_accented_letter c = refl

pub returns-clause-a_mark_of_a_function : goal.returns-clause-a_mark_of_a_function
unfolding chars unicode_ident all_words reserved_word is_identifier starts_name continues_name is_among is_package_name base_names special_names
returns-clause-a_mark_of_a_function c = refl

pub returns-clause-a_digit_first : goal.returns-clause-a_digit_first
unfolding chars unicode_ident all_words reserved_word is_identifier starts_name continues_name is_among is_package_name base_names special_names
returns-clause-a_digit_first c = refl

pub returns-clause-nothing_at_all : goal.returns-clause-nothing_at_all
unfolding chars unicode_ident all_words reserved_word is_identifier starts_name continues_name is_among is_package_name base_names special_names
returns-clause-nothing_at_all c = refl

pub returns-clause-a_reserved_word : goal.returns-clause-a_reserved_word
unfolding chars unicode_ident all_words reserved_word is_identifier starts_name continues_name is_among is_package_name base_names special_names
returns-clause-a_reserved_word c = refl

pub returns-clause-longest : goal.returns-clause-longest
unfolding chars unicode_ident all_words reserved_word is_identifier starts_name continues_name is_among is_package_name base_names special_names
returns-clause-longest c = refl

pub returns-clause-one_byte_too_long : goal.returns-clause-one_byte_too_long
unfolding chars unicode_ident all_words reserved_word is_identifier starts_name continues_name is_among is_package_name base_names special_names
returns-clause-one_byte_too_long c = refl

pub returns-clause-three_bytes_that_start : goal.returns-clause-three_bytes_that_start
unfolding chars unicode_ident all_words reserved_word is_identifier starts_name continues_name is_among is_package_name base_names special_names
returns-clause-three_bytes_that_start c = refl

pub returns-clause-four_bytes_that_start : goal.returns-clause-four_bytes_that_start
unfolding chars unicode_ident all_words reserved_word is_identifier starts_name continues_name is_among is_package_name base_names special_names
returns-clause-four_bytes_that_start c = refl

pub returns-clause-a_mark_that_only_continues : goal.returns-clause-a_mark_that_only_continues
unfolding chars unicode_ident all_words reserved_word is_identifier starts_name continues_name is_among is_package_name base_names special_names
returns-clause-a_mark_that_only_continues c = refl

pub returns-clause-such_a_mark_behind_a_letter : goal.returns-clause-such_a_mark_behind_a_letter
unfolding chars unicode_ident all_words reserved_word is_identifier starts_name continues_name is_among is_package_name base_names special_names
returns-clause-such_a_mark_behind_a_letter c = refl
