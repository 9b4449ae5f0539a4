-- The grammar of names and expressions, over the tokens that a form has.
use Rattle.std.specs.Prelude.{◌≡◌, ℕ, Bool, true, false, not, List, [], ◌∷◌, ◌++◌, Some, codes}
use Rattle.pj_lex.specs.declared.sign.Sign.{Sign}
use Rattle.pj_lex.specs.declared.sign.Sign.TheVariants as signs
use Rattle.pj_lex.specs.declared.token.TokenKind.{TokenKind}
use Rattle.pj_lex.specs.declared.token.TokenKind.TheVariants as kinds
use Rattle.pj_lex.specs.declared.token.Token.{Token}
use Rattle.pj_lex.specs.Signs.{is_operator}
use Rattle.pj_syntax.specs.declared.expression.Path.{Path}
use Rattle.pj_syntax.specs.declared.expression.Path.TheVariants as paths
use Rattle.pj_syntax.specs.declared.expression.Expr.{Expr}
use Rattle.pj_grammar.specs.declared.level.Level.{Level}
use Rattle.pj_grammar.specs.declared.level.Level.TheVariants as levels
use Rattle.pj_grammar.specs.declared.node.Node.{Node}
use Rattle.pj_grammar.specs.declared.node.Arguments.{Arguments}
use Rattle.pj_grammar.specs.Levels.{fits, is_prefix, left_of, level_of, operator_text, right_of}
use Rattle.pj_grammar.specs.Makers.{argument_before, call_of, conditional_of, field_of, group_of, infix_of, lacks, leaf, literal_of, name_of, no_arguments, prefix_of}
use Rattle.pj_grammar.specs.Modules.{Modules, is_module}
use Rattle.pj_grammar.specs.Tokens.{Place, name, sign, spot, token}

-- the operator of `Base.:OP`, as a path
abbrev pub base_path : Place → Place → Sign → Path
base_path p q s = paths.Of (spot p (codes "Base")) (record { text = operator_text s; at = q.start })

-- the name of a type, or of a function that isn't an operator: NAME | MOD "." NAME
pub data Named (modules : Modules) : List Token → Path → Type 0 where
  bare : (p : Place) (x : List ℕ) → Named modules (name p x ∷ []) (paths.Bare (spot p x))
  of_module : (p q r : Place) (m x : List ℕ) → is_module modules m ≡ true
      → Named modules (name p m ∷ sign q signs.Dot ∷ name r x ∷ []) (paths.Of (spot p m) (spot r x))

-- the name of a function: also "Base" "." ":" OP
pub data Callee (modules : Modules) : List Token → Path → Type 0 where
  named : {ts : List Token} {f : Path} → Named modules ts f → Callee modules ts f
  operator : (p q r o : Place) (s : Sign) → is_operator s ≡ true
      → Callee modules (name p (codes "Base") ∷ sign q signs.Dot ∷ sign r signs.Colon ∷ sign o s ∷ []) (base_path p o s)

-- A module's name before a dot is read as the module. So a single token that is one has no fields.
abbrev pub has_fields : Modules → List Token → Bool
has_fields modules [] = true
has_fields modules (t ∷ []) = elim t.what [ kinds.Name x ↦ not (is_module modules x) | kinds.Integer n ↦ true | kinds.Str s ↦ true | kinds.Reserved w ↦ true | kinds.Sign s ↦ true | kinds.AtEval ↦ true | kinds.Separator ↦ true | kinds.Eof ↦ true ]
has_fields modules (_ ∷ _ ∷ _) = true

-- An expression of a level. What is read at a tighter level is one of each looser level too. The levels of operators and of
-- their operands are those of `level_of`, `left_of` and `right_of`.
mutual
  pub data Reads (modules : Modules) : Level → List Token → Node → Type 0 where
    tighter : {l found : Level} {ts : List Token} {e : Node} → fits l found ≡ true → Reads modules found ts e → Reads modules l ts e
    conditional : {cs ts us : List Token} {c a b : Node} (p q : Place) → Reads modules levels.Disjunction cs c → Reads modules levels.Conditional ts a
        → Reads modules levels.Conditional us b
        → Reads modules levels.Conditional (cs ++ sign p signs.Question ∷ (ts ++ sign q signs.Colon ∷ us)) (conditional_of c a b)
    infix_ : {l : Level} {ts us : List Token} {a b : Node} (p : Place) (s : Sign) → level_of s ≡ Some l → Reads modules (left_of l) ts a
        → Reads modules (right_of l) us b → Reads modules l (ts ++ sign p s ∷ us) (infix_of a (record { sign = s; at = p.start }) b)
    prefix : {ts : List Token} {e : Node} (p : Place) (s : Sign) → is_prefix s ≡ true → Reads modules levels.Unary ts e
        → Reads modules levels.Unary (sign p s ∷ ts) (prefix_of (record { sign = s; at = p.start }) e)
    field : {ts : List Token} {e : Node} (p q : Place) (x : List ℕ) → has_fields modules ts ≡ true → Reads modules levels.Postfix ts e
        → Reads modules levels.Postfix (ts ++ sign p signs.Dot ∷ name q x ∷ []) (field_of e (spot q x))
    literal : {tree : Expr} (p : Place) (kind : TokenKind) → literal_of kind ≡ Some tree
        → Reads modules levels.Primary (token p kind ∷ []) (leaf p.start tree)
    read : {ts : List Token} {f : Path} → Callee modules ts f → Reads modules levels.Primary ts (name_of f)
    call : {ts us : List Token} {f : Path} {es : Arguments} (p : Place) → p.blank ≡ false → Callee modules ts f → Given modules us es
        → lacks f es ≡ false → Reads modules levels.Primary (ts ++ sign p signs.LeftParen ∷ us) (call_of f es)
    group : {ts : List Token} {e : Node} (p q : Place) → Reads modules levels.Conditional ts e
        → Reads modules levels.Primary (sign p signs.LeftParen ∷ (ts ++ sign q signs.RightParen ∷ [])) (group_of p.start e)

  -- arguments with their end: [ expr { "," expr } [ "," ] ] ")"
  pub data Given (modules : Modules) : List Token → Arguments → Type 0 where
    ended : (p : Place) → Given modules (sign p signs.RightParen ∷ []) no_arguments
    last : {ts : List Token} {e : Node} (p : Place) → Reads modules levels.Conditional ts e
        → Given modules (ts ++ sign p signs.RightParen ∷ []) (argument_before e no_arguments)
    more : {ts us : List Token} {e : Node} {es : Arguments} (p : Place) → Reads modules levels.Conditional ts e → Given modules us es
        → Given modules (ts ++ sign p signs.Comma ∷ us) (argument_before e es)
