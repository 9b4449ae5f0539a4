-- What may follow an expression.
use Rattle.std.specs.Prelude.{Bool, true, false}
use Rattle.pj_lex.specs.declared.token.TokenKind.{TokenKind}
use Rattle.pj_grammar.specs.declared.level.Level.{Level}
use Rattle.pj_grammar.specs.declared.level.Level.TheVariants as levels
use Rattle.pj_grammar.specs.Levels.{fits, left_of}
use Rattle.pj_grammar.specs.Operands.{Next, assignment, dot, infix_, next, other, paren, question, type}

-- what may follow an expression of a level, so that the whole of it is an operand there
abbrev pub follows_next : Level → Next → Bool
follows_next l dot = fits levels.Postfix l
follows_next l paren = false
follows_next l (infix_ m s) = fits (left_of m) l
follows_next l question = fits levels.Disjunction l
follows_next l (assignment o) = false
follows_next l type = false
follows_next l other = true

abbrev pub follows : Level → TokenKind → Bool
follows l kind = follows_next l (next kind)
