-- Rows on words.
use Rattle.std.specs.Prelude.{◌≡◌, ◌∷◌, [], codes, true, false, replicate}
use Rattle.pj_words.specs.Words.{is_identifier, is_package_name, is_base_name, is_special}

abbrev pub a_letter : Type 0
a_letter = is_identifier (codes "x") ≡ true

abbrev pub an_underscore : Type 0
an_underscore = is_identifier (codes "_") ≡ true

-- é
abbrev pub an_accented_letter : Type 0
an_accented_letter = is_identifier (0xC3 ∷ 0xA9 ∷ []) ≡ true

abbrev pub a_mark_of_a_function : Type 0
a_mark_of_a_function = is_identifier (codes "a!") ≡ true

abbrev pub a_digit_first : Type 0
a_digit_first = is_identifier (codes "1x") ≡ false

abbrev pub nothing_at_all : Type 0
nothing_at_all = is_identifier [] ≡ false

abbrev pub a_reserved_word : Type 0
a_reserved_word = is_identifier (codes "end") ≡ false

abbrev pub longest : Type 0
longest = is_identifier (replicate 255 97) ≡ true

abbrev pub one_byte_too_long : Type 0
one_byte_too_long = is_identifier (replicate 256 97) ≡ false

-- U+3042, a letter of Hiragana
abbrev pub three_bytes_that_start : Type 0
three_bytes_that_start = is_identifier (0xE3 ∷ 0x81 ∷ 0x82 ∷ []) ≡ true

-- U+10000, a letter of Linear B
abbrev pub four_bytes_that_start : Type 0
four_bytes_that_start = is_identifier (0xF0 ∷ 0x90 ∷ 0x80 ∷ 0x80 ∷ []) ≡ true

-- U+0301, an accent that combines with the letter before it
abbrev pub a_mark_that_only_continues : Type 0
a_mark_that_only_continues = is_identifier (0xCC ∷ 0x81 ∷ []) ≡ false

abbrev pub such_a_mark_behind_a_letter : Type 0
such_a_mark_behind_a_letter = is_identifier (97 ∷ 0xCC ∷ 0x81 ∷ []) ≡ true

abbrev pub a_package : Type 0
a_package = is_package_name (codes "A_1b") ≡ true

abbrev pub a_small_letter_first : Type 0
a_small_letter_first = is_package_name (codes "aB") ≡ false

abbrev pub the_longest_package : Type 0
the_longest_package = is_package_name (replicate 64 65) ≡ true

abbrev pub a_package_too_long : Type 0
a_package_too_long = is_package_name (replicate 65 65) ≡ false

abbrev pub no_package_is_main : Type 0
no_package_is_main = is_package_name (codes "Main") ≡ false

abbrev pub an_operator_of_base : Type 0
an_operator_of_base = is_base_name (codes "<=") ≡ true

abbrev pub another_spelling : Type 0
another_spelling = is_base_name (codes "Int") ≡ true

abbrev pub no_name_of_base : Type 0
no_name_of_base = is_base_name (codes "twice") ≡ false

abbrev pub a_form_of_its_own : Type 0
a_form_of_its_own = is_special (codes "eval") ≡ true
