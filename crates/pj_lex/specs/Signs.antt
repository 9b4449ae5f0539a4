-- The operators and other signs.
use Rattle.std.specs.Prelude.{ℕ, Bool, true, false, nat_eq, List, [], ◌∷◌, Option, codes, find}
use Rattle.std.specs.List.{starts_with}
use Rattle.pj_lex.specs.declared.sign.Sign.{Sign}
use Rattle.pj_lex.specs.declared.sign.Sign.TheVariants as signs

-- the characters of a sign
abbrev pub sign_text : Sign → List ℕ
sign_text signs.Same = codes "==="
sign_text signs.NotSame = codes "!=="
sign_text signs.AddAssign = codes "+="
sign_text signs.SubtractAssign = codes "-="
sign_text signs.MultiplyAssign = codes "*="
sign_text signs.Equal = codes "=="
sign_text signs.NotEqual = codes "!="
sign_text signs.LessOrEqual = codes "<="
sign_text signs.GreaterOrEqual = codes ">="
sign_text signs.And = codes "&&"
sign_text signs.Or = codes "||"
sign_text signs.DoubleColon = codes "::"
sign_text signs.Below = codes "<:"
sign_text signs.Comma = codes ","
sign_text signs.Assign = codes "="
sign_text signs.Plus = codes "+"
sign_text signs.Minus = codes "-"
sign_text signs.Times = codes "*"
sign_text signs.Quotient = 0xF7 ∷ []
sign_text signs.Remainder = codes "%"
sign_text signs.Less = codes "<"
sign_text signs.Greater = codes ">"
sign_text signs.Question = codes "?"
sign_text signs.Colon = codes ":"
sign_text signs.LeftParen = codes "("
sign_text signs.RightParen = codes ")"
sign_text signs.Dot = codes "."
sign_text signs.Not = codes "!"

-- each sign, longer ones first
unfoldable pub all_signs : List Sign
all_signs =
    signs.Same ∷ signs.NotSame ∷ signs.AddAssign ∷ signs.SubtractAssign ∷ signs.MultiplyAssign ∷ signs.Equal ∷ signs.NotEqual ∷
    signs.LessOrEqual ∷ signs.GreaterOrEqual ∷ signs.And ∷ signs.Or ∷ signs.DoubleColon ∷ signs.Below ∷ signs.Comma ∷
    signs.Assign ∷ signs.Plus ∷ signs.Minus ∷ signs.Times ∷ signs.Quotient ∷ signs.Remainder ∷ signs.Less ∷
    signs.Greater ∷ signs.Question ∷ signs.Colon ∷ signs.LeftParen ∷ signs.RightParen ∷ signs.Dot ∷ signs.Not ∷ []

-- the longest sign at the front
unfoldable pub sign_at : List ℕ → Option Sign
sign_at characters = find (λ sign. starts_with nat_eq characters (sign_text sign)) all_signs

-- a sign that can stand behind `Base.:`
abbrev pub is_operator : Sign → Bool
is_operator signs.Plus = true
is_operator signs.Minus = true
is_operator signs.Times = true
is_operator signs.Quotient = true
is_operator signs.Remainder = true
is_operator signs.Equal = true
is_operator signs.NotEqual = true
is_operator signs.Less = true
is_operator signs.LessOrEqual = true
is_operator signs.Greater = true
is_operator signs.GreaterOrEqual = true
is_operator signs.Not = true
is_operator _ = false
