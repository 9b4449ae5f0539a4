-- The piece that stands at the front of a text.
use Rattle.std.specs.Prelude.{ℕ, ℤ, Bool, false, not, List, [], ◌∷◌, ◌+◌, ◌-◌, ◌==◌, ◌&&◌, ◌||◌, Option, Some, None, codes, encode_utf8_all, length, nat_le, nat_lt, take, if◌then◌else◌}
use Rattle.std.specs.Str.{bytes_eq}
use Rattle.pj_words.specs.declared.word.Word.{Word}
use Rattle.pj_words.specs.Words.{longest_name, starts_name}
use Rattle.pj_words.specs.Reserved.{reserved_word}
use Rattle.pj_lex.specs.declared.sign.Sign.{Sign}
use Rattle.pj_lex.specs.declared.token.TokenKind.{TokenKind}
use Rattle.pj_lex.specs.declared.token.TokenKind.TheVariants as kinds
use Rattle.pj_lex.specs.declared.token.Before.{Before}
use Rattle.pj_lex.specs.declared.piece.Piece.{Piece}
use Rattle.pj_lex.specs.Characters.{first_is, is_blank, is_digit, up_to, width}
use Rattle.pj_lex.specs.Comments.{past_comments, past_line}
use Rattle.pj_lex.specs.Names.{past_name}
use Rattle.pj_lex.specs.Numbers.{digits, negative, positive}
use Rattle.pj_lex.specs.Signs.{sign_at, sign_text}
use Rattle.pj_lex.specs.Strings.{quoted}

-- so many characters of blank space, a comment or a dropped line end
abbrev pub passed : ℕ → Piece
passed size = record { what = None; size = size }

-- so many characters that are a token
abbrev pub is_token : TokenKind → ℕ → Piece
is_token kind size = record { what = Some kind; size = size }

-- a line end is dropped within parentheses, and where the line goes on
abbrev pub line_end : Before → Piece
line_end before = if before.line_goes_on || nat_lt 0 before.parentheses then passed 1 else is_token kinds.Separator 1

-- behind `#=`: a comment to the `=#` that closes it
abbrev pub long_comment : List ℕ → Option (List ℕ) → Option Piece
long_comment cs (Some rest) = Some (passed (2 + up_to cs rest))
long_comment cs None = None

-- behind `#`: a comment
abbrev pub comment : List ℕ → Option Piece
comment [] = Some (passed 1)
comment (c ∷ cs) = if c == 61 then long_comment cs (past_comments 1 cs) else Some (passed (1 + up_to (c ∷ cs) (past_line (c ∷ cs))))

-- behind `"`: a string
abbrev pub string : List ℕ → Option (List ℕ × List ℕ) → Option Piece
string cs (Some found) = Some (is_token (kinds.Str found.0) (1 + up_to cs found.1))
string cs None = None

-- behind the first digit, or behind the minus: an integer
abbrev pub integer : List ℕ → Option (ℤ × List ℕ) → Option Piece
integer cs (Some found) = Some (is_token (kinds.Integer found.0) (1 + up_to cs found.1))
integer cs None = None

abbrev pub named_by : List ℕ → Option Word → TokenKind
named_by text (Some word) = kinds.Reserved word
named_by text None = kinds.Name text

-- A word, with the text from its first character on, and what follows it: a reserved one or a name, of 255 bytes at most.
abbrev pub word : List ℕ → List ℕ → Option Piece
word all behind =
    let name = take (up_to all behind) all in
    let text = encode_utf8_all name in
    if nat_le (width name) longest_name then Some (is_token (named_by text (reserved_word text)) (up_to all behind)) else None

-- behind `@`: the word `eval`, as a whole
abbrev pub at_eval : List ℕ → Option Piece
at_eval cs = if bytes_eq (take (up_to cs (past_name cs)) cs) (codes "eval") then Some (is_token kinds.AtEval (1 + up_to cs (past_name cs))) else None

abbrev pub signed : Option Sign → Option Piece
signed (Some sign) = Some (is_token (kinds.Sign sign) (length (sign_text sign)))
signed None = None

-- a `-`, which is 45, belongs to the number behind it where no operand ends before it
abbrev pub is_minus_of_literal : Before → ℕ → List ℕ → Bool
is_minus_of_literal before c cs = (c == 45) && not before.operand && first_is is_digit cs

-- the piece at the front where that is a number, a word or a sign
abbrev pub plain_piece : Before → ℕ → List ℕ → Option Piece
plain_piece before c cs =
    if is_digit c then integer cs (positive (digits (c - 48) cs))
    else if is_minus_of_literal before c cs then integer cs (negative (digits 0 cs))
    else if starts_name c then word (c ∷ cs) (past_name cs)
    else signed (sign_at (c ∷ cs))

-- The piece at the front, if there is one. The characters are a line end, `;`, `#`, `"` and `@`.
unfoldable pub next_piece : Before → List ℕ → Option Piece
next_piece before [] = None
next_piece before (c ∷ cs) =
    if is_blank c then Some (passed 1)
    else if c == 10 then Some (line_end before)
    else if c == 59 then Some (is_token kinds.Separator 1)
    else if c == 35 then comment cs
    else if c == 34 then string cs (quoted [] false cs)
    else if c == 64 then at_eval cs
    else plain_piece before c cs
