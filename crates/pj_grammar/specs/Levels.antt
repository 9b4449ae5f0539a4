-- How tightly operators bind.
use Rattle.std.specs.Prelude.{ℕ, Bool, true, false, List, Option, Some, None, codes, nat_le}
use Rattle.pj_lex.specs.declared.sign.Sign.{Sign}
use Rattle.pj_lex.specs.declared.sign.Sign.TheVariants as signs
use Rattle.pj_lex.specs.Signs.{sign_text}
use Rattle.pj_grammar.specs.declared.level.Level.{Level}
use Rattle.pj_grammar.specs.declared.level.Level.TheVariants as levels

-- the levels in their order, the loosest first
abbrev pub rank : Level → ℕ
rank levels.Conditional = 0
rank levels.Disjunction = 1
rank levels.Conjunction = 2
rank levels.Comparison = 3
rank levels.Sum = 4
rank levels.Product = 5
rank levels.Unary = 6
rank levels.Postfix = 7
rank levels.Primary = 8
rank levels.Callee = 9
rank levels.Named = 10
rank levels.Bare = 11

-- whether what is read at the second level may stand where the first is wanted
abbrev pub fits : Level → Level → Bool
fits wanted found = nat_le (rank wanted) (rank found)

-- the level of a binary operator's expressions
abbrev pub level_of : Sign → Option Level
level_of signs.Or = Some levels.Disjunction
level_of signs.And = Some levels.Conjunction
level_of signs.Same = Some levels.Comparison
level_of signs.NotSame = Some levels.Comparison
level_of signs.Equal = Some levels.Comparison
level_of signs.NotEqual = Some levels.Comparison
level_of signs.Less = Some levels.Comparison
level_of signs.LessOrEqual = Some levels.Comparison
level_of signs.Greater = Some levels.Comparison
level_of signs.GreaterOrEqual = Some levels.Comparison
level_of signs.Plus = Some levels.Sum
level_of signs.Minus = Some levels.Sum
level_of signs.Times = Some levels.Product
level_of signs.Quotient = Some levels.Product
level_of signs.Remainder = Some levels.Product
level_of _ = None

-- The level of the left and of the right operand of such an operator. Sums and products go to the left, `&&` and `||` to the
-- right, and no comparison has one for an operand.
abbrev pub left_of : Level → Level
left_of levels.Disjunction = levels.Conjunction
left_of levels.Conjunction = levels.Comparison
left_of levels.Comparison = levels.Sum
left_of l = l

abbrev pub right_of : Level → Level
right_of levels.Comparison = levels.Sum
right_of levels.Sum = levels.Product
right_of levels.Product = levels.Unary
right_of l = l

abbrev pub is_prefix : Sign → Bool
is_prefix signs.Minus = true
is_prefix signs.Not = true
is_prefix _ = false

-- the name of an operator's function
abbrev pub operator_text : Sign → List ℕ
operator_text signs.Quotient = codes "div"
operator_text signs.Remainder = codes "rem"
operator_text s = sign_text s
