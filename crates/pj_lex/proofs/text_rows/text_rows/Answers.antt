-- Each row computes.
use Rattle.std.specs.Prelude.{refl}
use Rattle.std.specs.Char.{encode_utf8}
use Rattle.unicode_ident.proofs.Computing.{unicode_ident}
use Rattle.pj_words.specs.Reserved.{all_words, reserved_word}
use Rattle.pj_words.specs.Words.{continues_name, starts_name}
use Rattle.pj_lex.specs.Before.{after}
use Rattle.pj_lex.specs.Characters.{width}
use Rattle.pj_lex.specs.Comments.{past_comments, past_line}
use Rattle.pj_lex.specs.Names.{past_name}
use Rattle.pj_lex.specs.Numbers.{digits}
use Rattle.pj_lex.specs.Pieces.{next_piece}
use Rattle.pj_lex.specs.Signs.{all_signs, sign_at}
use Rattle.pj_lex.specs.Strings.{quoted}
use Rattle.pj_lex.proofs.Runs.{run, lexed}
use Rattle.pj_lex.proofs.text_rows.text_rows.Goals as goal

pub returns-clause-eval_as_a_whole : goal.returns-clause-eval_as_a_whole
unfolding run next_piece after width past_comments past_line past_name digits quoted all_signs sign_at all_words reserved_word continues_name starts_name unicode_ident encode_utf8
returns-clause-eval_as_a_whole c = lexed 40 _ _ _ _ refl

pub returns-clause-an_operator_of_base : goal.returns-clause-an_operator_of_base
unfolding run next_piece after width past_comments past_line past_name digits quoted all_signs sign_at all_words reserved_word continues_name starts_name unicode_ident encode_utf8
returns-clause-an_operator_of_base c = lexed 40 _ _ _ _ refl

pub returns-clause-a_minus_behind_an_operator_of_base : goal.returns-clause-a_minus_behind_an_operator_of_base
unfolding run next_piece after width past_comments past_line past_name digits quoted all_signs sign_at all_words reserved_word continues_name starts_name unicode_ident encode_utf8
returns-clause-a_minus_behind_an_operator_of_base c = lexed 40 _ _ _ _ refl

pub returns-clause-a_minus_in_place_of_an_operator : goal.returns-clause-a_minus_in_place_of_an_operator
unfolding run next_piece after width past_comments past_line past_name digits quoted all_signs sign_at all_words reserved_word continues_name starts_name unicode_ident encode_utf8
returns-clause-a_minus_in_place_of_an_operator c = lexed 40 _ _ _ _ refl

pub returns-clause-a_loop : goal.returns-clause-a_loop
unfolding run next_piece after width past_comments past_line past_name digits quoted all_signs sign_at all_words reserved_word continues_name starts_name unicode_ident encode_utf8
returns-clause-a_loop c = lexed 40 _ _ _ _ refl

pub returns-clause-no_loop : goal.returns-clause-no_loop
unfolding run next_piece after width past_comments past_line past_name digits quoted all_signs sign_at all_words reserved_word continues_name starts_name unicode_ident encode_utf8
returns-clause-no_loop c = lexed 40 _ _ _ _ refl

pub returns-clause-line_ends_in_parentheses : goal.returns-clause-line_ends_in_parentheses
unfolding run next_piece after width past_comments past_line past_name digits quoted all_signs sign_at all_words reserved_word continues_name starts_name unicode_ident encode_utf8
returns-clause-line_ends_in_parentheses c = lexed 40 _ _ _ _ refl

pub returns-clause-a_line_end_behind_parentheses : goal.returns-clause-a_line_end_behind_parentheses
unfolding run next_piece after width past_comments past_line past_name digits quoted all_signs sign_at all_words reserved_word continues_name starts_name unicode_ident encode_utf8
returns-clause-a_line_end_behind_parentheses c = lexed 40 _ _ _ _ refl

pub returns-clause-parentheses_are_never_below_none : goal.returns-clause-parentheses_are_never_below_none
unfolding run next_piece after width past_comments past_line past_name digits quoted all_signs sign_at all_words reserved_word continues_name starts_name unicode_ident encode_utf8
returns-clause-parentheses_are_never_below_none c = lexed 40 _ _ _ _ refl

pub returns-clause-a_line_end_behind_a_comma : goal.returns-clause-a_line_end_behind_a_comma
unfolding run next_piece after width past_comments past_line past_name digits quoted all_signs sign_at all_words reserved_word continues_name starts_name unicode_ident encode_utf8
returns-clause-a_line_end_behind_a_comma c = lexed 40 _ _ _ _ refl

pub returns-clause-a_line_end_behind_an_operator_of_base : goal.returns-clause-a_line_end_behind_an_operator_of_base
unfolding run next_piece after width past_comments past_line past_name digits quoted all_signs sign_at all_words reserved_word continues_name starts_name unicode_ident encode_utf8
returns-clause-a_line_end_behind_an_operator_of_base c = lexed 40 _ _ _ _ refl

pub returns-clause-the_same : goal.returns-clause-the_same
unfolding run next_piece after width past_comments past_line past_name digits quoted all_signs sign_at all_words reserved_word continues_name starts_name unicode_ident encode_utf8
returns-clause-the_same c = lexed 40 _ _ _ _ refl

pub returns-clause-not_the_same : goal.returns-clause-not_the_same
unfolding run next_piece after width past_comments past_line past_name digits quoted all_signs sign_at all_words reserved_word continues_name starts_name unicode_ident encode_utf8
returns-clause-not_the_same c = lexed 40 _ _ _ _ refl

pub returns-clause-below : goal.returns-clause-below
unfolding run next_piece after width past_comments past_line past_name digits quoted all_signs sign_at all_words reserved_word continues_name starts_name unicode_ident encode_utf8
returns-clause-below c = lexed 40 _ _ _ _ refl

pub returns-clause-two_colons : goal.returns-clause-two_colons
unfolding run next_piece after width past_comments past_line past_name digits quoted all_signs sign_at all_words reserved_word continues_name starts_name unicode_ident encode_utf8
returns-clause-two_colons c = lexed 40 _ _ _ _ refl

pub returns-clause-a_letter_of_two_bytes : goal.returns-clause-a_letter_of_two_bytes
unfolding run next_piece after width past_comments past_line past_name digits quoted all_signs sign_at all_words reserved_word continues_name starts_name unicode_ident encode_utf8
returns-clause-a_letter_of_two_bytes c = lexed 40 _ _ _ _ refl

pub returns-clause-a_sign_of_two_bytes : goal.returns-clause-a_sign_of_two_bytes
unfolding run next_piece after width past_comments past_line past_name digits quoted all_signs sign_at all_words reserved_word continues_name starts_name unicode_ident encode_utf8
returns-clause-a_sign_of_two_bytes c = lexed 40 _ _ _ _ refl
