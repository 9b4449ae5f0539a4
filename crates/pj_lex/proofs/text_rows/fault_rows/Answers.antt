-- Each row computes.
use Rattle.std.specs.Prelude.{refl}
use Rattle.std.specs.Char.{encode_utf8}
use Rattle.unicode_ident.proofs.Computing.{unicode_ident}
use Rattle.pj_words.specs.Reserved.{all_words, reserved_word}
use Rattle.pj_words.specs.Words.{continues_name, starts_name}
use Rattle.pj_lex.specs.Before.{after}
use Rattle.pj_lex.specs.Characters.{width}
use Rattle.pj_lex.specs.Comments.{past_comments, past_line}
use Rattle.pj_lex.specs.Names.{past_name}
use Rattle.pj_lex.specs.Numbers.{digits}
use Rattle.pj_lex.specs.Pieces.{next_piece}
use Rattle.pj_lex.specs.Signs.{all_signs, sign_at}
use Rattle.pj_lex.specs.Strings.{quoted}
use Rattle.pj_lex.proofs.Runs.{run, faulty}
use Rattle.pj_lex.proofs.text_rows.fault_rows.Goals as goal

pub returns-clause-one_more : goal.returns-clause-one_more
unfolding run next_piece after width past_comments past_line past_name digits quoted all_signs sign_at all_words reserved_word continues_name starts_name unicode_ident encode_utf8
returns-clause-one_more c = faulty 40 _ _ _ _ refl

pub returns-clause-no_least_integer_behind_a_name : goal.returns-clause-no_least_integer_behind_a_name
unfolding run next_piece after width past_comments past_line past_name digits quoted all_signs sign_at all_words reserved_word continues_name starts_name unicode_ident encode_utf8
returns-clause-no_least_integer_behind_a_name c = faulty 40 _ _ _ _ refl

pub returns-clause-another_escape : goal.returns-clause-another_escape
unfolding run next_piece after width past_comments past_line past_name digits quoted all_signs sign_at all_words reserved_word continues_name starts_name unicode_ident encode_utf8
returns-clause-another_escape c = faulty 40 _ _ _ _ refl

pub returns-clause-a_bare_dollar : goal.returns-clause-a_bare_dollar
unfolding run next_piece after width past_comments past_line past_name digits quoted all_signs sign_at all_words reserved_word continues_name starts_name unicode_ident encode_utf8
returns-clause-a_bare_dollar c = faulty 40 _ _ _ _ refl

pub returns-clause-an_unended_string : goal.returns-clause-an_unended_string
unfolding run next_piece after width past_comments past_line past_name digits quoted all_signs sign_at all_words reserved_word continues_name starts_name unicode_ident encode_utf8
returns-clause-an_unended_string c = faulty 40 _ _ _ _ refl

pub returns-clause-a_string_of_two_lines : goal.returns-clause-a_string_of_two_lines
unfolding run next_piece after width past_comments past_line past_name digits quoted all_signs sign_at all_words reserved_word continues_name starts_name unicode_ident encode_utf8
returns-clause-a_string_of_two_lines c = faulty 40 _ _ _ _ refl

pub returns-clause-an_unended_comment : goal.returns-clause-an_unended_comment
unfolding run next_piece after width past_comments past_line past_name digits quoted all_signs sign_at all_words reserved_word continues_name starts_name unicode_ident encode_utf8
returns-clause-an_unended_comment c = faulty 40 _ _ _ _ refl

pub returns-clause-a_comment_that_ends_once : goal.returns-clause-a_comment_that_ends_once
unfolding run next_piece after width past_comments past_line past_name digits quoted all_signs sign_at all_words reserved_word continues_name starts_name unicode_ident encode_utf8
returns-clause-a_comment_that_ends_once c = faulty 40 _ _ _ _ refl

pub returns-clause-a_longer_word_than_eval : goal.returns-clause-a_longer_word_than_eval
unfolding run next_piece after width past_comments past_line past_name digits quoted all_signs sign_at all_words reserved_word continues_name starts_name unicode_ident encode_utf8
returns-clause-a_longer_word_than_eval c = faulty 40 _ _ _ _ refl

pub returns-clause-half_a_sign : goal.returns-clause-half_a_sign
unfolding run next_piece after width past_comments past_line past_name digits quoted all_signs sign_at all_words reserved_word continues_name starts_name unicode_ident encode_utf8
returns-clause-half_a_sign c = faulty 40 _ _ _ _ refl
