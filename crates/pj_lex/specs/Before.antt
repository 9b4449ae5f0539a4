-- What of the text before a place decides how it goes on there.
use Rattle.std.specs.Prelude.{ℕ, ◌+◌, ◌-◌, Bool, true, false, not, Option, Some, None, codes, ◌&&◌, ◌||◌, if◌then◌else◌}
use Rattle.std.specs.Str.{bytes_eq}
use Rattle.pj_words.specs.declared.word.Word.{Word}
use Rattle.pj_words.specs.declared.word.Word.TheVariants as words
use Rattle.pj_lex.specs.declared.sign.Sign.{Sign}
use Rattle.pj_lex.specs.declared.sign.Sign.TheVariants as signs
use Rattle.pj_lex.specs.declared.token.TokenKind.{TokenKind}
use Rattle.pj_lex.specs.declared.token.TokenKind.TheVariants as kinds
use Rattle.pj_lex.specs.declared.token.Before.{Before}
use Rattle.pj_lex.specs.declared.token.LoopHead.{LoopHead}
use Rattle.pj_lex.specs.declared.token.LoopHead.TheVariants as loops
use Rattle.pj_lex.specs.declared.token.BaseHead.{BaseHead}
use Rattle.pj_lex.specs.declared.token.BaseHead.TheVariants as bases
use Rattle.pj_lex.specs.Signs.{is_operator}

-- the beginning of a text
abbrev pub start : Before
start = record { parentheses = 0; operand = false; line_goes_on = false; blank = false; loop_head = loops.Outside; base_head = bases.Outside }

-- how many parentheses are open: a `)` without its `(` closes none
abbrev pub parentheses_after : ℕ → TokenKind → ℕ
parentheses_after n (kinds.Sign signs.LeftParen) = n + 1
parentheses_after n (kinds.Sign signs.RightParen) = n - 1
parentheses_after n _ = n

-- a line goes on behind each sign but `)`
abbrev pub line_goes_on : TokenKind → Bool
line_goes_on (kinds.Sign signs.RightParen) = false
line_goes_on (kinds.Sign _) = true
line_goes_on _ = false

abbrev pub is_value : Word → Bool
is_value words.True = true
is_value words.False = true
is_value words.Nothing = true
is_value _ = false

abbrev pub is_variable : LoopHead → Bool
is_variable loops.Variable = true
is_variable _ = false

abbrev pub is_colon : BaseHead → Bool
is_colon bases.Colon = true
is_colon _ = false

abbrev pub is_closing : Sign → Bool
is_closing signs.RightParen = true
is_closing _ = false

-- The token ends an operand: a name, but not the `in` of `for NAME in`; a literal; `)`; or the operator of `Base.:OP`.
abbrev pub ends_operand : LoopHead → BaseHead → TokenKind → Bool
ends_operand loop_head base_head (kinds.Name text) = not (is_variable loop_head && bytes_eq text (codes "in"))
ends_operand loop_head base_head (kinds.Integer value) = true
ends_operand loop_head base_head (kinds.Str value) = true
ends_operand loop_head base_head (kinds.Reserved word) = is_value word
ends_operand loop_head base_head (kinds.Sign sign) = is_closing sign || (is_colon base_head && is_operator sign)
ends_operand loop_head base_head _ = false

abbrev pub loop_head_after : LoopHead → TokenKind → LoopHead
loop_head_after loop_head (kinds.Reserved words.For) = loops.For
loop_head_after loops.For (kinds.Name text) = loops.Variable
loop_head_after _ _ = loops.Outside

abbrev pub base_head_after : BaseHead → TokenKind → BaseHead
base_head_after base_head (kinds.Name text) = if bytes_eq text (codes "Base") then bases.Base else bases.Outside
base_head_after bases.Base (kinds.Sign signs.Dot) = bases.Dot
base_head_after bases.Dot (kinds.Sign signs.Colon) = bases.Colon
base_head_after _ _ = bases.Outside

-- behind a token
unfoldable pub after : Before → TokenKind → Before
after before kind = record {
  parentheses = parentheses_after before.parentheses kind;
  operand = ends_operand before.loop_head before.base_head kind;
  line_goes_on = line_goes_on kind;
  blank = false;
  loop_head = loop_head_after before.loop_head kind;
  base_head = base_head_after before.base_head kind;
}

-- behind blank space, a comment or a dropped line end
abbrev pub behind_blank : Before → Before
behind_blank before = record before { blank = true }

-- behind a piece: a token, or None for one of these
abbrev pub behind : Before → Option TokenKind → Before
behind before (Some kind) = after before kind
behind before None = behind_blank before
