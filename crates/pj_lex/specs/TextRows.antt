-- Rows on texts: their tokens, or the place from which they go on with no piece.
use Rattle.std.specs.Prelude.{ℕ, pos, negsuc, true, false, List, [], ◌∷◌, codes}
use Rattle.pj_words.specs.declared.word.Word.TheVariants as words
use Rattle.pj_lex.specs.declared.sign.Sign.TheVariants as signs
use Rattle.pj_lex.specs.declared.token.TokenKind.{TokenKind}
use Rattle.pj_lex.specs.declared.token.TokenKind.TheVariants as kinds
use Rattle.pj_lex.specs.declared.token.Token.{Token}
use Rattle.pj_lex.specs.Before.{start}
use Rattle.pj_lex.specs.Lexed.{Faulty, Lexed}

-- a token with its span, directly behind the one before it, and one behind blank space, a comment or a dropped line end
abbrev joined : TokenKind → ℕ → ℕ → Token
joined kind from to = record { what = kind; start = from; end = to; blank = false }

abbrev apart : TokenKind → ℕ → ℕ → Token
apart kind from to = record { what = kind; start = from; end = to; blank = true }

abbrev Reads : List ℕ → List Token → Type 0
Reads text tokens = Lexed start 0 text tokens

abbrev Stops : List ℕ → ℕ → Type 0
Stops text place = Faulty start 0 text place

abbrev pub nothing : Type 0
nothing = Reads ([]) (joined kinds.Eof 0 0 ∷ [])

abbrev pub a_minus_behind_a_name : Type 0
a_minus_behind_a_name = Reads (codes "x-1") (joined (kinds.Name (codes "x")) 0 1 ∷ joined (kinds.Sign signs.Minus) 1 2 ∷ joined (kinds.Integer (pos 1)) 2 3 ∷ joined kinds.Eof 3 3 ∷ [])

abbrev pub a_minus_behind_a_name_and_a_blank : Type 0
a_minus_behind_a_name_and_a_blank = Reads (codes "x -1") (joined (kinds.Name (codes "x")) 0 1 ∷ apart (kinds.Sign signs.Minus) 2 3 ∷ joined (kinds.Integer (pos 1)) 3 4 ∷ joined kinds.Eof 4 4 ∷ [])

abbrev pub a_minus_in_parentheses : Type 0
a_minus_in_parentheses = Reads (codes "(-1)") (joined (kinds.Sign signs.LeftParen) 0 1 ∷ joined (kinds.Integer (negsuc 0)) 1 3 ∷ joined (kinds.Sign signs.RightParen) 3 4 ∷ joined kinds.Eof 4 4 ∷ [])

abbrev pub a_minus_of_an_argument : Type 0
a_minus_of_an_argument = Reads (codes "f(-1)") (joined (kinds.Name (codes "f")) 0 1 ∷ joined (kinds.Sign signs.LeftParen) 1 2 ∷ joined (kinds.Integer (negsuc 0)) 2 4 ∷ joined (kinds.Sign signs.RightParen) 4 5 ∷ joined kinds.Eof 5 5 ∷ [])

abbrev pub a_minus_behind_a_parenthesis : Type 0
a_minus_behind_a_parenthesis = Reads (codes ")-1") (joined (kinds.Sign signs.RightParen) 0 1 ∷ joined (kinds.Sign signs.Minus) 1 2 ∷ joined (kinds.Integer (pos 1)) 2 3 ∷ joined kinds.Eof 3 3 ∷ [])

abbrev pub a_minus_behind_true : Type 0
a_minus_behind_true = Reads (codes "true-1") (joined (kinds.Reserved words.True) 0 4 ∷ joined (kinds.Sign signs.Minus) 4 5 ∷ joined (kinds.Integer (pos 1)) 5 6 ∷ joined kinds.Eof 6 6 ∷ [])

-- `a=\n-1`
abbrev pub a_minus_behind_a_dropped_line_end : Type 0
a_minus_behind_a_dropped_line_end = Reads (97 ∷ 61 ∷ 10 ∷ 45 ∷ 49 ∷ []) (joined (kinds.Name (codes "a")) 0 1 ∷ joined (kinds.Sign signs.Assign) 1 2 ∷ apart (kinds.Integer (negsuc 0)) 3 5 ∷ joined kinds.Eof 5 5 ∷ [])

abbrev pub a_mark_before_equals : Type 0
a_mark_before_equals = Reads (codes "a!=b") (joined (kinds.Name (codes "a")) 0 1 ∷ joined (kinds.Sign signs.NotEqual) 1 3 ∷ joined (kinds.Name (codes "b")) 3 4 ∷ joined kinds.Eof 4 4 ∷ [])

abbrev pub a_mark_of_a_name : Type 0
a_mark_of_a_name = Reads (codes "a! = b") (joined (kinds.Name (codes "a!")) 0 2 ∷ apart (kinds.Sign signs.Assign) 3 4 ∷ apart (kinds.Name (codes "b")) 5 6 ∷ joined kinds.Eof 6 6 ∷ [])

abbrev pub an_underscore_between_digits : Type 0
an_underscore_between_digits = Reads (codes "1_000") (joined (kinds.Integer (pos 1000)) 0 5 ∷ joined kinds.Eof 5 5 ∷ [])

abbrev pub two_underscores_between_digits : Type 0
two_underscores_between_digits = Reads (codes "1__0") (joined (kinds.Integer (pos 1)) 0 1 ∷ joined (kinds.Name (codes "__0")) 1 4 ∷ joined kinds.Eof 4 4 ∷ [])

abbrev pub the_greatest_integer : Type 0
the_greatest_integer = Reads (codes "9223372036854775807") (joined (kinds.Integer (pos 9223372036854775807)) 0 19 ∷ joined kinds.Eof 19 19 ∷ [])

abbrev pub one_more : Type 0
one_more = Stops (codes "9223372036854775808") 0

abbrev pub the_least_integer : Type 0
the_least_integer = Reads (codes "-9223372036854775808") (joined (kinds.Integer (negsuc 9223372036854775807)) 0 20 ∷ joined kinds.Eof 20 20 ∷ [])

abbrev pub no_least_integer_behind_a_name : Type 0
no_least_integer_behind_a_name = Stops (codes "x-9223372036854775808") 2

-- `"a\tb\$"`
abbrev pub escapes : Type 0
escapes = Reads (34 ∷ 97 ∷ 92 ∷ 116 ∷ 98 ∷ 92 ∷ 36 ∷ 34 ∷ []) (joined (kinds.Str (97 ∷ 9 ∷ 98 ∷ 36 ∷ [])) 0 8 ∷ joined kinds.Eof 8 8 ∷ [])

-- `"\q"`
abbrev pub another_escape : Type 0
another_escape = Stops (34 ∷ 92 ∷ 113 ∷ 34 ∷ []) 0

-- `"$"`
abbrev pub a_bare_dollar : Type 0
a_bare_dollar = Stops (34 ∷ 36 ∷ 34 ∷ []) 0

-- `x "abc`
abbrev pub an_unended_string : Type 0
an_unended_string = Stops (120 ∷ 32 ∷ 34 ∷ 97 ∷ 98 ∷ 99 ∷ []) 2

-- `"a\nb"`
abbrev pub a_string_of_two_lines : Type 0
a_string_of_two_lines = Stops (34 ∷ 97 ∷ 10 ∷ 98 ∷ 34 ∷ []) 0

abbrev pub a_comment_in_a_comment : Type 0
a_comment_in_a_comment = Reads (codes "#= #= =# =#") (apart kinds.Eof 11 11 ∷ [])

abbrev pub an_unended_comment : Type 0
an_unended_comment = Stops (codes "#= unended") 0

abbrev pub a_comment_that_ends_once : Type 0
a_comment_that_ends_once = Stops (codes "x #= #= =#") 2

-- `#=\n=#x`
abbrev pub a_comment_with_a_line_end_inside : Type 0
a_comment_with_a_line_end_inside = Reads (35 ∷ 61 ∷ 10 ∷ 61 ∷ 35 ∷ 120 ∷ []) (apart (kinds.Name (codes "x")) 5 6 ∷ joined kinds.Eof 6 6 ∷ [])

-- `x # c\ny`
abbrev pub a_comment_to_the_lines_end : Type 0
a_comment_to_the_lines_end = Reads (120 ∷ 32 ∷ 35 ∷ 32 ∷ 99 ∷ 10 ∷ 121 ∷ []) (joined (kinds.Name (codes "x")) 0 1 ∷ apart kinds.Separator 5 6 ∷ joined (kinds.Name (codes "y")) 6 7 ∷ joined kinds.Eof 7 7 ∷ [])

abbrev pub eval_as_a_whole : Type 0
eval_as_a_whole = Reads (codes "@eval") (joined kinds.AtEval 0 5 ∷ joined kinds.Eof 5 5 ∷ [])

abbrev pub a_longer_word_than_eval : Type 0
a_longer_word_than_eval = Stops (codes "@evalx") 0

abbrev pub an_operator_of_base : Type 0
an_operator_of_base = Reads (codes "Base.:+") (joined (kinds.Name (codes "Base")) 0 4 ∷ joined (kinds.Sign signs.Dot) 4 5 ∷ joined (kinds.Sign signs.Colon) 5 6 ∷ joined (kinds.Sign signs.Plus) 6 7 ∷ joined kinds.Eof 7 7 ∷ [])

abbrev pub a_minus_behind_an_operator_of_base : Type 0
a_minus_behind_an_operator_of_base = Reads (codes "Base.:+-1") (joined (kinds.Name (codes "Base")) 0 4 ∷ joined (kinds.Sign signs.Dot) 4 5 ∷ joined (kinds.Sign signs.Colon) 5 6 ∷ joined (kinds.Sign signs.Plus) 6 7 ∷ joined (kinds.Sign signs.Minus) 7 8 ∷ joined (kinds.Integer (pos 1)) 8 9 ∷ joined kinds.Eof 9 9 ∷ [])

abbrev pub a_minus_in_place_of_an_operator : Type 0
a_minus_in_place_of_an_operator = Reads (codes "Base.:-1") (joined (kinds.Name (codes "Base")) 0 4 ∷ joined (kinds.Sign signs.Dot) 4 5 ∷ joined (kinds.Sign signs.Colon) 5 6 ∷ joined (kinds.Integer (negsuc 0)) 6 8 ∷ joined kinds.Eof 8 8 ∷ [])

abbrev pub a_loop : Type 0
a_loop = Reads (codes "for i in -1:3") (joined (kinds.Reserved words.For) 0 3 ∷ apart (kinds.Name (codes "i")) 4 5 ∷ apart (kinds.Name (codes "in")) 6 8 ∷ apart (kinds.Integer (negsuc 0)) 9 11 ∷ joined (kinds.Sign signs.Colon) 11 12 ∷ joined (kinds.Integer (pos 3)) 12 13 ∷ joined kinds.Eof 13 13 ∷ [])

abbrev pub no_loop : Type 0
no_loop = Reads (codes "i in -1") (joined (kinds.Name (codes "i")) 0 1 ∷ apart (kinds.Name (codes "in")) 2 4 ∷ apart (kinds.Sign signs.Minus) 5 6 ∷ joined (kinds.Integer (pos 1)) 6 7 ∷ joined kinds.Eof 7 7 ∷ [])

-- `(\n1\n)`
abbrev pub line_ends_in_parentheses : Type 0
line_ends_in_parentheses = Reads (40 ∷ 10 ∷ 49 ∷ 10 ∷ 41 ∷ []) (joined (kinds.Sign signs.LeftParen) 0 1 ∷ apart (kinds.Integer (pos 1)) 2 3 ∷ apart (kinds.Sign signs.RightParen) 4 5 ∷ joined kinds.Eof 5 5 ∷ [])

-- `()\n`
abbrev pub a_line_end_behind_parentheses : Type 0
a_line_end_behind_parentheses = Reads (40 ∷ 41 ∷ 10 ∷ []) (joined (kinds.Sign signs.LeftParen) 0 1 ∷ joined (kinds.Sign signs.RightParen) 1 2 ∷ joined kinds.Separator 2 3 ∷ joined kinds.Eof 3 3 ∷ [])

-- `)(\n)\n`
abbrev pub parentheses_are_never_below_none : Type 0
parentheses_are_never_below_none = Reads (41 ∷ 40 ∷ 10 ∷ 41 ∷ 10 ∷ []) (joined (kinds.Sign signs.RightParen) 0 1 ∷ joined (kinds.Sign signs.LeftParen) 1 2 ∷ apart (kinds.Sign signs.RightParen) 3 4 ∷ joined kinds.Separator 4 5 ∷ joined kinds.Eof 5 5 ∷ [])

-- `,\n`
abbrev pub a_line_end_behind_a_comma : Type 0
a_line_end_behind_a_comma = Reads (44 ∷ 10 ∷ []) (joined (kinds.Sign signs.Comma) 0 1 ∷ apart kinds.Eof 2 2 ∷ [])

-- `Base.:+\n`
abbrev pub a_line_end_behind_an_operator_of_base : Type 0
a_line_end_behind_an_operator_of_base = Reads (66 ∷ 97 ∷ 115 ∷ 101 ∷ 46 ∷ 58 ∷ 43 ∷ 10 ∷ []) (joined (kinds.Name (codes "Base")) 0 4 ∷ joined (kinds.Sign signs.Dot) 4 5 ∷ joined (kinds.Sign signs.Colon) 5 6 ∷ joined (kinds.Sign signs.Plus) 6 7 ∷ apart kinds.Eof 8 8 ∷ [])

abbrev pub the_same : Type 0
the_same = Reads (codes "===") (joined (kinds.Sign signs.Same) 0 3 ∷ joined kinds.Eof 3 3 ∷ [])

abbrev pub not_the_same : Type 0
not_the_same = Reads (codes "!==") (joined (kinds.Sign signs.NotSame) 0 3 ∷ joined kinds.Eof 3 3 ∷ [])

abbrev pub below : Type 0
below = Reads (codes "a<:b") (joined (kinds.Name (codes "a")) 0 1 ∷ joined (kinds.Sign signs.Below) 1 3 ∷ joined (kinds.Name (codes "b")) 3 4 ∷ joined kinds.Eof 4 4 ∷ [])

abbrev pub two_colons : Type 0
two_colons = Reads (codes "a::b") (joined (kinds.Name (codes "a")) 0 1 ∷ joined (kinds.Sign signs.DoubleColon) 1 3 ∷ joined (kinds.Name (codes "b")) 3 4 ∷ joined kinds.Eof 4 4 ∷ [])

-- `é`
abbrev pub a_letter_of_two_bytes : Type 0
a_letter_of_two_bytes = Reads (233 ∷ []) (joined (kinds.Name (195 ∷ 169 ∷ [])) 0 2 ∷ joined kinds.Eof 2 2 ∷ [])

-- `x÷y`
abbrev pub a_sign_of_two_bytes : Type 0
a_sign_of_two_bytes = Reads (120 ∷ 247 ∷ 121 ∷ []) (joined (kinds.Name (codes "x")) 0 1 ∷ joined (kinds.Sign signs.Quotient) 1 3 ∷ joined (kinds.Name (codes "y")) 3 4 ∷ joined kinds.Eof 4 4 ∷ [])

abbrev pub half_a_sign : Type 0
half_a_sign = Stops (codes "a&b") 1
