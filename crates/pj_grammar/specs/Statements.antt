-- The grammar of statements, of definitions of methods, and of what `@eval` evaluates.
use Rattle.std.specs.Prelude.{◌≡◌, ℕ, Bool, true, false, not, ◌&&◌, ◌||◌, List, [], ◌∷◌, ◌++◌, Option, Some, None, codes}
use Rattle.std.specs.Str.{bytes_eq}
use Rattle.pj_words.specs.declared.word.Word.TheVariants as words
use Rattle.pj_lex.specs.declared.sign.Sign.{Sign}
use Rattle.pj_lex.specs.declared.sign.Sign.TheVariants as signs
use Rattle.pj_lex.specs.declared.token.TokenKind.{TokenKind}
use Rattle.pj_lex.specs.declared.token.TokenKind.TheVariants as kinds
use Rattle.pj_lex.specs.declared.token.Token.{Token}
use Rattle.pj_syntax.specs.declared.expression.Spot.{Spot}
use Rattle.pj_syntax.specs.declared.expression.Path.{Path}
use Rattle.pj_syntax.specs.declared.expression.Path.TheVariants as paths
use Rattle.pj_syntax.specs.declared.statement.Param.{Param}
use Rattle.pj_grammar.specs.declared.level.Level.TheVariants as levels
use Rattle.pj_grammar.specs.declared.level.Operator.{Operator}
use Rattle.pj_grammar.specs.declared.node.Node.{Node}
use Rattle.pj_grammar.specs.declared.node.Line.{Line}
use Rattle.pj_grammar.specs.declared.node.Lines.{Lines}
use Rattle.pj_grammar.specs.declared.frame.Target.{Target}
use Rattle.pj_grammar.specs.declared.frame.Target.TheVariants as targets
use Rattle.pj_grammar.specs.Expressions.{Callee, Named, Reads}
use Rattle.pj_grammar.specs.Makers.{Evaluated, Method, assign_of, bare_return, break_of, continue_of, eval_of, field_of, for_of, if_of, line_before, method_evaluated, method_of, name_of, no_lines, one_line, return_of, set_evaluated, short_method, value_evaluated, value_of, while_of}
use Rattle.pj_grammar.specs.Modules.{Modules, is_module}
use Rattle.pj_grammar.specs.Tokens.{Place, name, separator, sign, spot, token, word}

-- Parameters and fields.

-- the end of a parameter or field: a type, if any
pub data Typed (modules : Modules) : List Token → Option Path → Type 0 where
  untyped : Typed modules [] None
  typed : {ts : List Token} {t : Path} (p : Place) → Named modules ts t → Typed modules (sign p signs.DoubleColon ∷ ts) (Some t)

-- param = NAME [ "::" tname ] | "::" tname
pub data Parameter (modules : Modules) : List Token → Param → Type 0 where
  with_name : {ts : List Token} {t : Option Path} (p : Place) (x : List ℕ) → Typed modules ts t
      → Parameter modules (name p x ∷ ts) (record { at = p.start; name = Some (spot p x); declared = t })
  without : {ts : List Token} {t : Path} (p : Place) → Named modules ts t
      → Parameter modules (sign p signs.DoubleColon ∷ ts) (record { at = p.start; name = None; declared = Some t })

-- parameters with their end: [ param { "," param } [ "," ] ] ")"
pub data Parameters (modules : Modules) : List Token → List Param → Type 0 where
  no_more : (p : Place) → Parameters modules (sign p signs.RightParen ∷ []) []
  last_one : {ts : List Token} {x : Param} (p : Place) → Parameter modules ts x → Parameters modules (ts ++ sign p signs.RightParen ∷ []) (x ∷ [])
  also : {ts us : List Token} {x : Param} {xs : List Param} (p : Place) → Parameter modules ts x → Parameters modules us xs
      → Parameters modules (ts ++ sign p signs.Comma ∷ us) (x ∷ xs)

-- What can be assigned: NAME { "." NAME } | MOD "." NAME "." NAME { "." NAME }. What has the field stands before the last dot.
pub data Holder (modules : Modules) : List Token → Node → Type 0 where
  a_name : (p : Place) (x : List ℕ) → is_module modules x ≡ false → Holder modules (name p x ∷ []) (name_of (paths.Bare (spot p x)))
  a_member : (p q r : Place) (m x : List ℕ) → is_module modules m ≡ true
      → Holder modules (name p m ∷ sign q signs.Dot ∷ name r x ∷ []) (name_of (paths.Of (spot p m) (spot r x)))
  a_field : {ts : List Token} {e : Node} (p q : Place) (x : List ℕ) → Holder modules ts e
      → Holder modules (ts ++ sign p signs.Dot ∷ name q x ∷ []) (field_of e (spot q x))

pub data Assigned (modules : Modules) : List Token → Target → Type 0 where
  to_name : (p : Place) (x : List ℕ) → Assigned modules (name p x ∷ []) (targets.Local (spot p x))
  to_field : {ts : List Token} {e : Node} (p q : Place) (x : List ℕ) → Holder modules ts e
      → Assigned modules (ts ++ sign p signs.Dot ∷ name q x ∷ []) (targets.Field e (spot q x))

-- the signs of assignments, each with the operator that it applies before
abbrev pub assigning : Sign → Option (Option Sign)
assigning signs.Assign = Some None
assigning signs.AddAssign = Some (Some signs.Plus)
assigning signs.SubtractAssign = Some (Some signs.Minus)
assigning signs.MultiplyAssign = Some (Some signs.Times)
assigning _ = None

abbrev pub operator_at : ℕ → Option Sign → Option Operator
operator_at at None = None
operator_at at (Some s) = Some (record { sign = s; at = at })

abbrev pub is_paren : TokenKind → Bool
is_paren (kinds.Sign signs.LeftParen) = true
is_paren _ = false

-- whether tokens begin with a `(` that stands directly behind what is before it
abbrev pub opens_directly : List Token → Bool
opens_directly [] = false
opens_directly (t ∷ _) = is_paren t.what && not t.blank

-- Behind `@eval` a module's name is read as the module of what follows it, but before a dot, before a `(` that stands directly
-- behind it, before a separator and at the text's end.
abbrev pub names_module : Modules → TokenKind → Bool
names_module modules (kinds.Name x) = is_module modules x
names_module modules _ = false

abbrev pub is_dot : TokenKind → Bool
is_dot (kinds.Sign signs.Dot) = true
is_dot _ = false

abbrev pub begins_with_module : Modules → List Token → Bool
begins_with_module modules [] = false
begins_with_module modules (t ∷ []) = names_module modules t.what
begins_with_module modules (t ∷ next ∷ _) = names_module modules t.what && not (is_dot next.what || opens_directly (next ∷ []))

-- `@eval` of a name alone
abbrev pub eval_name : Spot → Line
eval_name x = eval_of None (value_evaluated (name_of (paths.Bare x)))

-- `in` or `=`, before the bounds of a loop
abbrev pub begins_bounds : TokenKind → Bool
begins_bounds (kinds.Name x) = bytes_eq x (codes "in")
begins_bounds (kinds.Sign signs.Assign) = true
begins_bounds _ = false

mutual
  -- stmt, but for `@eval` of a module's name alone
  pub data Statement (modules : Modules) : List Token → Line → Type 0 where
    value : {ts : List Token} {e : Node} → Reads modules levels.Conditional ts e → Statement modules ts (value_of e)
    assign : {ts us : List Token} {target : Target} {e : Node} {o : Option Sign} (p : Place) (s : Sign) → Assigned modules ts target
        → assigning s ≡ Some o → Reads modules levels.Conditional us e
        → Statement modules (ts ++ sign p s ∷ us) (assign_of target (operator_at p.start o) e)
    global : {us : List Token} {e : Node} {o : Option Sign} (p q r : Place) (x : List ℕ) (s : Sign) → assigning s ≡ Some o
        → Reads modules levels.Conditional us e
        → Statement modules (word p words.Global ∷ name q x ∷ sign r s ∷ us) (assign_of (targets.Global p.start (spot q x)) (operator_at r.start o) e)
    return_nothing : (p : Place) → Statement modules (word p words.Return ∷ []) (bare_return p.start)
    return_value : {ts : List Token} {e : Node} (p : Place) → Reads modules levels.Conditional ts e
        → Statement modules (word p words.Return ∷ ts) (return_of p.start e)
    break : (p : Place) → Statement modules (word p words.Break ∷ []) (break_of p.start)
    «continue» : (p : Place) → Statement modules (word p words.Continue ∷ []) (continue_of p.start)
    eval : {ts : List Token} {y : Evaluated} (p : Place) → begins_with_module modules ts ≡ false → Payload modules ts y
        → Statement modules (token p kinds.AtEval ∷ ts) (eval_of None y)
    eval_in : {ts : List Token} {y : Evaluated} (p q : Place) (m : List ℕ) → is_module modules m ≡ true → opens_directly ts ≡ false
        → Payload modules ts y → Statement modules (token p kinds.AtEval ∷ name q m ∷ ts) (eval_of (Some (spot q m)) y)
    eval_quoted : {ts : List Token} {y : Evaluated} (p q r o c d : Place) → Payload modules ts y
        → Statement modules (name p (codes "eval") ∷ sign q signs.LeftParen ∷ sign r signs.Colon ∷ sign o signs.LeftParen ∷ (ts ++ sign c signs.RightParen ∷ sign d signs.RightParen ∷ [])) (eval_of None y)
    if_ : {ts us vs : List Token} {c : Node} {a b : Lines} (p q : Place) → Reads modules levels.Conditional ts c → Block modules us a
        → Otherwise modules vs b → Statement modules (word p words.If ∷ (ts ++ separator q ∷ (us ++ vs))) (if_of c a b)
    while : {ts us : List Token} {c : Node} {b : Lines} (p q r : Place) → Reads modules levels.Conditional ts c → Block modules us b
        → Statement modules (word p words.While ∷ (ts ++ separator q ∷ (us ++ word r words.End ∷ []))) (while_of c b)
    for : {ts us vs : List Token} {a b : Node} {body : Lines} (p q c e r : Place) (i : Token) (x : List ℕ) → begins_bounds i.what ≡ true
        → Reads modules levels.Sum ts a → Reads modules levels.Sum us b → Block modules vs body
        → Statement modules (word p words.For ∷ name q x ∷ i ∷ (ts ++ sign c signs.Colon ∷ (us ++ separator e ∷ (vs ++ word r words.End ∷ [])))) (for_of (spot q x) a b body)

  -- what follows the statements of a branch: { "elseif" expr seps block } [ "else" block ] "end"
  pub data Otherwise (modules : Modules) : List Token → Lines → Type 0 where
    end : (p : Place) → Otherwise modules (word p words.End ∷ []) no_lines
    else : {us : List Token} {b : Lines} (p q : Place) → Block modules us b → Otherwise modules (word p words.Else ∷ (us ++ word q words.End ∷ [])) b
    else_if : {ts us vs : List Token} {c : Node} {a b : Lines} (p q : Place) → Reads modules levels.Conditional ts c → Block modules us a
        → Otherwise modules vs b → Otherwise modules (word p words.ElseIf ∷ (ts ++ separator q ∷ (us ++ vs))) (one_line (if_of c a b))

  -- statements with separators between them, and before and behind
  pub data Block (modules : Modules) : List Token → Lines → Type 0 where
    none : Block modules [] no_lines
    skip : {ts : List Token} {b : Lines} (p : Place) → Block modules ts b → Block modules (separator p ∷ ts) b
    last_line : {ts : List Token} {s : Line} → Statement modules ts s → Block modules ts (one_line s)
    then_lines : {ts us : List Token} {s : Line} {b : Lines} (p : Place) → Statement modules ts s → Block modules us b
        → Block modules (ts ++ separator p ∷ us) (line_before s b)
    then_after_name : {us : List Token} {b : Lines} (p q r : Place) (m : List ℕ) → is_module modules m ≡ true → Block modules us b
        → Block modules (token p kinds.AtEval ∷ name q m ∷ separator r ∷ us) (line_before (eval_name (spot q m)) b)

  -- what `@eval` evaluates: a definition, NAME "=" expr, or an expression
  pub data Payload (modules : Modules) : List Token → Evaluated → Type 0 where
    definition : {ts : List Token} {f : Method} → Defines modules ts f → Payload modules ts (method_evaluated f)
    set : {ts : List Token} {e : Node} (p q : Place) (x : List ℕ) → Reads modules levels.Conditional ts e
        → Payload modules (name p x ∷ sign q signs.Assign ∷ ts) (set_evaluated (spot p x) e)
    only : {ts : List Token} {e : Node} → Reads modules levels.Conditional ts e → Payload modules ts (value_evaluated e)

  -- a method: fname "(" params ")" "=" expr | "function" fname "(" params ")" block "end"
  pub data Defines (modules : Modules) : List Token → Method → Type 0 where
    short : {ts us vs : List Token} {f : Path} {params : List Param} {e : Node} (p q : Place) → Callee modules ts f → p.blank ≡ false
        → Parameters modules us params → Reads modules levels.Conditional vs e
        → Defines modules (ts ++ sign p signs.LeftParen ∷ (us ++ sign q signs.Assign ∷ vs)) (short_method f params e)
    long : {ts us vs : List Token} {f : Path} {params : List Param} {b : Lines} (p q r : Place) → Callee modules ts f → q.blank ≡ false
        → Parameters modules us params → Block modules vs b
        → Defines modules (word p words.Function ∷ (ts ++ sign q signs.LeftParen ∷ (us ++ (vs ++ word r words.End ∷ [])))) (method_of f params b)
