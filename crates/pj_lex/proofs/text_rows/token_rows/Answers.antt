-- Each row computes.
use Rattle.std.specs.Prelude.{refl}
use Rattle.std.specs.Char.{encode_utf8}
use Rattle.unicode_ident.proofs.Computing.{unicode_ident}
use Rattle.pj_words.specs.Reserved.{all_words, reserved_word}
use Rattle.pj_words.specs.Words.{continues_name, starts_name}
use Rattle.pj_lex.specs.Before.{after}
use Rattle.pj_lex.specs.Characters.{width}
use Rattle.pj_lex.specs.Comments.{past_comments, past_line}
use Rattle.pj_lex.specs.Names.{past_name}
use Rattle.pj_lex.specs.Numbers.{digits}
use Rattle.pj_lex.specs.Pieces.{next_piece}
use Rattle.pj_lex.specs.Signs.{all_signs, sign_at}
use Rattle.pj_lex.specs.Strings.{quoted}
use Rattle.pj_lex.proofs.Runs.{run, lexed}
use Rattle.pj_lex.proofs.text_rows.token_rows.Goals as goal

pub returns-clause-nothing : goal.returns-clause-nothing
unfolding run next_piece after width past_comments past_line past_name digits quoted all_signs sign_at all_words reserved_word continues_name starts_name unicode_ident encode_utf8
returns-clause-nothing c = lexed 40 _ _ _ _ refl

pub returns-clause-a_minus_behind_a_name : goal.returns-clause-a_minus_behind_a_name
unfolding run next_piece after width past_comments past_line past_name digits quoted all_signs sign_at all_words reserved_word continues_name starts_name unicode_ident encode_utf8
returns-clause-a_minus_behind_a_name c = lexed 40 _ _ _ _ refl

pub returns-clause-a_minus_behind_a_name_and_a_blank : goal.returns-clause-a_minus_behind_a_name_and_a_blank
unfolding run next_piece after width past_comments past_line past_name digits quoted all_signs sign_at all_words reserved_word continues_name starts_name unicode_ident encode_utf8
returns-clause-a_minus_behind_a_name_and_a_blank c = lexed 40 _ _ _ _ refl

pub returns-clause-a_minus_in_parentheses : goal.returns-clause-a_minus_in_parentheses
unfolding run next_piece after width past_comments past_line past_name digits quoted all_signs sign_at all_words reserved_word continues_name starts_name unicode_ident encode_utf8
returns-clause-a_minus_in_parentheses c = lexed 40 _ _ _ _ refl

pub returns-clause-a_minus_of_an_argument : goal.returns-clause-a_minus_of_an_argument
unfolding run next_piece after width past_comments past_line past_name digits quoted all_signs sign_at all_words reserved_word continues_name starts_name unicode_ident encode_utf8
returns-clause-a_minus_of_an_argument c = lexed 40 _ _ _ _ refl

pub returns-clause-a_minus_behind_a_parenthesis : goal.returns-clause-a_minus_behind_a_parenthesis
unfolding run next_piece after width past_comments past_line past_name digits quoted all_signs sign_at all_words reserved_word continues_name starts_name unicode_ident encode_utf8
returns-clause-a_minus_behind_a_parenthesis c = lexed 40 _ _ _ _ refl

pub returns-clause-a_minus_behind_true : goal.returns-clause-a_minus_behind_true
unfolding run next_piece after width past_comments past_line past_name digits quoted all_signs sign_at all_words reserved_word continues_name starts_name unicode_ident encode_utf8
returns-clause-a_minus_behind_true c = lexed 40 _ _ _ _ refl

pub returns-clause-a_minus_behind_a_dropped_line_end : goal.returns-clause-a_minus_behind_a_dropped_line_end
unfolding run next_piece after width past_comments past_line past_name digits quoted all_signs sign_at all_words reserved_word continues_name starts_name unicode_ident encode_utf8
returns-clause-a_minus_behind_a_dropped_line_end c = lexed 40 _ _ _ _ refl

pub returns-clause-a_mark_before_equals : goal.returns-clause-a_mark_before_equals
unfolding run next_piece after width past_comments past_line past_name digits quoted all_signs sign_at all_words reserved_word continues_name starts_name unicode_ident encode_utf8
returns-clause-a_mark_before_equals c = lexed 40 _ _ _ _ refl

pub returns-clause-a_mark_of_a_name : goal.returns-clause-a_mark_of_a_name
unfolding run next_piece after width past_comments past_line past_name digits quoted all_signs sign_at all_words reserved_word continues_name starts_name unicode_ident encode_utf8
returns-clause-a_mark_of_a_name c = lexed 40 _ _ _ _ refl

pub returns-clause-an_underscore_between_digits : goal.returns-clause-an_underscore_between_digits
unfolding run next_piece after width past_comments past_line past_name digits quoted all_signs sign_at all_words reserved_word continues_name starts_name unicode_ident encode_utf8
returns-clause-an_underscore_between_digits c = lexed 40 _ _ _ _ refl

pub returns-clause-two_underscores_between_digits : goal.returns-clause-two_underscores_between_digits
unfolding run next_piece after width past_comments past_line past_name digits quoted all_signs sign_at all_words reserved_word continues_name starts_name unicode_ident encode_utf8
returns-clause-two_underscores_between_digits c = lexed 40 _ _ _ _ refl

pub returns-clause-the_greatest_integer : goal.returns-clause-the_greatest_integer
unfolding run next_piece after width past_comments past_line past_name digits quoted all_signs sign_at all_words reserved_word continues_name starts_name unicode_ident encode_utf8
returns-clause-the_greatest_integer c = lexed 40 _ _ _ _ refl

pub returns-clause-the_least_integer : goal.returns-clause-the_least_integer
unfolding run next_piece after width past_comments past_line past_name digits quoted all_signs sign_at all_words reserved_word continues_name starts_name unicode_ident encode_utf8
returns-clause-the_least_integer c = lexed 40 _ _ _ _ refl

pub returns-clause-escapes : goal.returns-clause-escapes
unfolding run next_piece after width past_comments past_line past_name digits quoted all_signs sign_at all_words reserved_word continues_name starts_name unicode_ident encode_utf8
returns-clause-escapes c = lexed 40 _ _ _ _ refl

pub returns-clause-a_comment_in_a_comment : goal.returns-clause-a_comment_in_a_comment
unfolding run next_piece after width past_comments past_line past_name digits quoted all_signs sign_at all_words reserved_word continues_name starts_name unicode_ident encode_utf8
returns-clause-a_comment_in_a_comment c = lexed 40 _ _ _ _ refl

pub returns-clause-a_comment_with_a_line_end_inside : goal.returns-clause-a_comment_with_a_line_end_inside
unfolding run next_piece after width past_comments past_line past_name digits quoted all_signs sign_at all_words reserved_word continues_name starts_name unicode_ident encode_utf8
returns-clause-a_comment_with_a_line_end_inside c = lexed 40 _ _ _ _ refl

pub returns-clause-a_comment_to_the_lines_end : goal.returns-clause-a_comment_to_the_lines_end
unfolding run next_piece after width past_comments past_line past_name digits quoted all_signs sign_at all_words reserved_word continues_name starts_name unicode_ident encode_utf8
returns-clause-a_comment_to_the_lines_end c = lexed 40 _ _ _ _ refl
