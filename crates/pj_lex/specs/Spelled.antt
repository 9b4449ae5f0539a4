-- The texts of tokens stand in their spans.
use Rattle.std.specs.Prelude.{◌≡◌, ⊤, List, ℕ, true, encode_utf8_all, slice_range}
use Rattle.pj_words.specs.Reserved.{word_text}
use Rattle.pj_words.specs.Words.{is_identifier}
use Rattle.pj_lex.specs.declared.token.TokenKind.{TokenKind}
use Rattle.pj_lex.specs.declared.token.TokenKind.TheVariants as kinds
use Rattle.pj_lex.specs.declared.token.Token.{Token}
use Rattle.pj_lex.specs.Signs.{sign_text}

-- these bytes are the text of a name, which is an identifier, or of a reserved word or a sign
abbrev pub Spells : List ℕ → TokenKind → Type 0
Spells bytes (kinds.Name text) = (bytes ≡ text) × (is_identifier text ≡ true)
Spells bytes (kinds.Reserved word) = bytes ≡ word_text word
Spells bytes (kinds.Sign sign) = bytes ≡ encode_utf8_all (sign_text sign)
Spells bytes _ = ⊤

-- they stand in a token's span
abbrev pub IsSpelled : List ℕ → Token → Type 0
IsSpelled bytes token = Spells (slice_range bytes token.start token.end) token.what
