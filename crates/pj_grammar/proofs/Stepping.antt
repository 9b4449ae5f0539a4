-- Single steps of the machine over operands.
use Rattle.std.proofs.Common.{◌≡◌, ℕ, Bool, true, false, List, [], ◌∷◌, Some, refl, ap, ◌∙◌}
use Rattle.pj_lex.specs.declared.sign.Sign.{Sign}
use Rattle.pj_lex.specs.declared.sign.Sign.TheVariants as signs
use Rattle.pj_lex.specs.declared.token.TokenKind.{TokenKind}
use Rattle.pj_lex.specs.declared.token.TokenKind.TheVariants as kinds
use Rattle.pj_lex.specs.declared.token.Token.{Token}
use Rattle.pj_syntax.specs.declared.expression.Spot.{Spot}
use Rattle.pj_syntax.specs.declared.expression.Path.{Path}
use Rattle.pj_syntax.specs.declared.expression.Expr.{Expr}
use Rattle.pj_grammar.specs.declared.level.Level.{Level}
use Rattle.pj_grammar.specs.declared.level.Level.TheVariants as levels
use Rattle.pj_grammar.specs.declared.node.Node.{Node}
use Rattle.pj_grammar.specs.declared.frame.Frame.{Frame}
use Rattle.pj_grammar.specs.declared.frame.Frame.TheVariants as frames
use Rattle.pj_grammar.specs.declared.frame.Given.{Given}
use Rattle.pj_grammar.specs.declared.frame.Given.TheVariants as given
use Rattle.pj_grammar.specs.declared.mode.Head.{Head}
use Rattle.pj_grammar.specs.declared.mode.Head.TheVariants as heads
use Rattle.pj_grammar.specs.declared.mode.Mode.TheVariants as modes
use Rattle.pj_grammar.specs.Follows.{follows}
use Rattle.pj_grammar.specs.Frames.{admits, at, give, head_path, is_value, node, settle}
use Rattle.pj_grammar.specs.Levels.{fits, is_prefix, left_of, level_of}
use Rattle.pj_grammar.specs.Machine.{opens_types, operand, operand_literal, run, step}
use Rattle.pj_grammar.specs.Makers.{field_of, group_of, leaf, literal_of}
use Rattle.pj_grammar.specs.Modules.{Modules}
use Rattle.pj_grammar.specs.Operands.{close_call, have_next, infix_, next_infix, next_sign, open_call}
use Rattle.pj_grammar.specs.Tokens.{Place, name, place, sign, spot, token}
use Rattle.pj_grammar.proofs.Follow.{Pending, over}
use Rattle.pj_grammar.proofs.Levels.{Splits, absurd-of, settles-not, splits-conditional}
use Rattle.pj_grammar.proofs.Reading.{module_name, state}

operand-literal : (k : List Frame) (p : Place) (kind : TokenKind) (e : Expr) → literal_of kind ≡ Some e → operand k p kind ≡ at (modes.Have (heads.Plain (leaf p.start e))) k
operand-literal k p (kinds.Name x) e h = cc
operand-literal k p (kinds.Sign s) e h = cc
operand-literal k p (kinds.Integer n) e h = ap (operand_literal k p.start) h
operand-literal k p (kinds.Str s) e h = ap (operand_literal k p.start) h
operand-literal k p (kinds.Reserved w) e h = ap (operand_literal k p.start) h
operand-literal k p kinds.AtEval e h = cc
operand-literal k p kinds.Separator e h = cc
operand-literal k p kinds.Eof e h = cc

pub step-literal : (modules : Modules) (k : List Frame) (p : Place) (kind : TokenKind) (e : Expr) → literal_of kind ≡ Some e
    → step modules (state modes.Want k) (token p kind) ≡ at (modes.Have (heads.Plain (leaf p.start e))) k
unfolding step
step-literal modules k p kind e h = operand-literal k p kind e h

pub step-prefix : (modules : Modules) (k : List Frame) (p : Place) (s : Sign) → is_prefix s ≡ true
    → step modules (state modes.Want k) (sign p s) ≡ at modes.Want (frames.Prefix (record { sign = s; at = p.start }) ∷ k)
unfolding step
step-prefix modules k p signs.Same h = absurd-of h
step-prefix modules k p signs.NotSame h = absurd-of h
step-prefix modules k p signs.AddAssign h = absurd-of h
step-prefix modules k p signs.SubtractAssign h = absurd-of h
step-prefix modules k p signs.MultiplyAssign h = absurd-of h
step-prefix modules k p signs.Equal h = absurd-of h
step-prefix modules k p signs.NotEqual h = absurd-of h
step-prefix modules k p signs.LessOrEqual h = absurd-of h
step-prefix modules k p signs.GreaterOrEqual h = absurd-of h
step-prefix modules k p signs.And h = absurd-of h
step-prefix modules k p signs.Or h = absurd-of h
step-prefix modules k p signs.DoubleColon h = absurd-of h
step-prefix modules k p signs.Below h = absurd-of h
step-prefix modules k p signs.Comma h = absurd-of h
step-prefix modules k p signs.Assign h = absurd-of h
step-prefix modules k p signs.Plus h = absurd-of h
step-prefix modules k p signs.Minus h = refl
step-prefix modules k p signs.Times h = absurd-of h
step-prefix modules k p signs.Quotient h = absurd-of h
step-prefix modules k p signs.Remainder h = absurd-of h
step-prefix modules k p signs.Less h = absurd-of h
step-prefix modules k p signs.Greater h = absurd-of h
step-prefix modules k p signs.Question h = absurd-of h
step-prefix modules k p signs.Colon h = absurd-of h
step-prefix modules k p signs.LeftParen h = absurd-of h
step-prefix modules k p signs.RightParen h = absurd-of h
step-prefix modules k p signs.Dot h = absurd-of h
step-prefix modules k p signs.Not h = refl

pub step-group : (modules : Modules) (k : List Frame) (p : Place)
    → step modules (state modes.Want k) (sign p signs.LeftParen) ≡ at modes.Want (frames.Group p.start (opens_types k) ∷ k)
unfolding step
step-group modules k p = refl

pub step-group-end : (modules : Modules) (k : List Frame) (at' : ℕ) (types : Bool) (h : Head) (q : Place) → is_value h ≡ true
    → step modules (state (modes.Have h) (frames.Group at' types ∷ k)) (sign q signs.RightParen) ≡ at (modes.Have (heads.Plain (group_of at' (node h)))) k
unfolding step settle
step-group-end modules k at' types h q value = rw value refl

-- a field's name behind an operand that is no module's
abbrev pub placed : Head → Bool
placed (heads.Name x) = true
placed (heads.Member m x) = true
placed (heads.Place e x) = true
placed _ = false

pub step-dot : (modules : Modules) (k : List Frame) (h : Head) (p : Place) → module_name modules h ≡ false → is_value h ≡ true → admits k levels.Postfix ≡ true
    → step modules (state (modes.Have h) k) (sign p signs.Dot) ≡ at (modes.Field (node h) (placed h)) k
unfolding step
step-dot modules k (heads.Name x) p m value adm = rw m (rw adm refl)
step-dot modules k (heads.Member n x) p m value adm = rw adm refl
step-dot modules k (heads.Operator n x) p m value adm = rw adm refl
step-dot modules k (heads.Place e x) p m value adm = rw adm refl
step-dot modules k (heads.Call f ps) p m value adm = rw value (rw adm refl)
step-dot modules k (heads.Plain e) p m value adm = rw adm refl

abbrev pub fielded : Bool → Node → Spot → Head
fielded true e x = heads.Place e x
fielded false e x = heads.Plain (field_of e x)

pub fielded-node : (b : Bool) (e : Node) (x : Spot) → node (fielded b e x) ≡ field_of e x
fielded-node true e x = refl
fielded-node false e x = refl

pub fielded-value : (b : Bool) (e : Node) (x : Spot) → is_value (fielded b e x) ≡ true
fielded-value true e x = refl
fielded-value false e x = refl

pub fielded-module : (modules : Modules) (b : Bool) (e : Node) (x : Spot) → module_name modules (fielded b e x) ≡ false
fielded-module modules true e x = refl
fielded-module modules false e x = refl

pub step-field : (modules : Modules) (k : List Frame) (b : Bool) (e : Node) (q : Place) (x : List ℕ)
    → step modules (state (modes.Field e b) k) (name q x) ≡ at (modes.Have (fielded b e (spot q x))) k
unfolding step
step-field modules k true e q x = refl
step-field modules k false e q x = refl

-- `?` and `:`
pub step-question : (modules : Modules) (k : List Frame) (h : Head) (p : Place) → is_value h ≡ true → admits k levels.Conditional ≡ true
    → step modules (state (modes.Have h) k) (sign p signs.Question) ≡ at modes.Want (frames.Then (node h) ∷ k)
unfolding step
step-question modules k h p value adm = rw value (rw (settles-not splits-conditional k h adm) (rw adm refl))

pub step-colon : (modules : Modules) (k : List Frame) (c : Node) (h : Head) (p : Place) → is_value h ≡ true
    → step modules (state (modes.Have h) (frames.Then c ∷ k)) (sign p signs.Colon) ≡ at modes.Want (frames.Else c (node h) ∷ k)
unfolding step settle
step-colon modules k c h p value = rw value refl

-- a binary operator
next-infix : (s : Sign) (l : Level) → level_of s ≡ Some l → next_sign s ≡ infix_ l s
next-infix signs.Same l h = ap (next_infix signs.Same) h
next-infix signs.NotSame l h = ap (next_infix signs.NotSame) h
next-infix signs.AddAssign l h = cc
next-infix signs.SubtractAssign l h = cc
next-infix signs.MultiplyAssign l h = cc
next-infix signs.Equal l h = ap (next_infix signs.Equal) h
next-infix signs.NotEqual l h = ap (next_infix signs.NotEqual) h
next-infix signs.LessOrEqual l h = ap (next_infix signs.LessOrEqual) h
next-infix signs.GreaterOrEqual l h = ap (next_infix signs.GreaterOrEqual) h
next-infix signs.And l h = ap (next_infix signs.And) h
next-infix signs.Or l h = ap (next_infix signs.Or) h
next-infix signs.DoubleColon l h = cc
next-infix signs.Below l h = cc
next-infix signs.Comma l h = cc
next-infix signs.Assign l h = cc
next-infix signs.Plus l h = ap (next_infix signs.Plus) h
next-infix signs.Minus l h = ap (next_infix signs.Minus) h
next-infix signs.Times l h = ap (next_infix signs.Times) h
next-infix signs.Quotient l h = ap (next_infix signs.Quotient) h
next-infix signs.Remainder l h = ap (next_infix signs.Remainder) h
next-infix signs.Less l h = ap (next_infix signs.Less) h
next-infix signs.Greater l h = ap (next_infix signs.Greater) h
next-infix signs.Question l h = cc
next-infix signs.Colon l h = cc
next-infix signs.LeftParen l h = cc
next-infix signs.RightParen l h = cc
next-infix signs.Dot l h = cc
next-infix signs.Not l h = cc

pub step-infix : (modules : Modules) (k : List Frame) (h : Head) (p : Place) (s : Sign) (l : Level) → level_of s ≡ Some l → Splits (left_of l) l
    → is_value h ≡ true → admits k l ≡ true
    → step modules (state (modes.Have h) k) (sign p s) ≡ at modes.Want (frames.Infix l (node h) (record { sign = s; at = p.start }) ∷ k)
unfolding step
step-infix modules k h p s l is splits value adm =
    ap (have_next modules h k p (kinds.Sign s)) (next-infix s l is)
    ∙ rw value (rw (settles-not splits k h adm) (rw adm refl))

pub follows-infix : (s : Sign) (l : Level) → level_of s ≡ Some l → fits (left_of l) (left_of l) ≡ true → follows (left_of l) (kinds.Sign s) ≡ true
follows-infix s l is fit = rw (next-infix s l is) fit

-- a call begins
opens : (f : Path) (k : List Frame) → admits k levels.Primary ≡ true → open_call f k ≡ at modes.Arguments (frames.Call f (given.Paths []) ∷ k)
opens f [] adm = absurd-of adm
opens f (frames.Prefix o ∷ k) adm = refl
opens f (frames.Infix m a o ∷ k) adm = rw adm refl
opens f (frames.Then c ∷ k) adm = refl
opens f (frames.Else c b ∷ k) adm = refl
opens f (frames.Group q types ∷ k) adm = refl
opens f (frames.Call g es ∷ k) adm = refl
opens f (frames.Signature form g ps ∷ k) adm = absurd-of adm
opens f (frames.TypeOf x q ∷ k) adm = absurd-of adm
opens f (frames.Parent header ∷ k) adm = absurd-of adm
opens f (frames.Fields mutable x parent fs ∷ k) adm = absurd-of adm
opens f (frames.DirectiveFun ∷ k) adm = absurd-of adm
opens f (frames.Types g ts ∷ k) adm = absurd-of adm
opens f (frames.Hole purpose ∷ k) adm = rw adm refl
opens f (frames.Block o ss ∷ k) adm = absurd-of adm
opens f (frames.Branch c ss ∷ k) adm = absurd-of adm
opens f (frames.Payload m quoted ∷ k) adm = absurd-of adm
opens f (frames.Items root is ∷ k) adm = absurd-of adm
opens f (frames.FunctionName ∷ k) adm = absurd-of adm

pub step-call : (modules : Modules) (k : List Frame) (h : Head) (f : Path) (p : Place) → head_path h ≡ Some f → p.blank ≡ false → admits k levels.Primary ≡ true
    → step modules (state (modes.Have h) k) (sign p signs.LeftParen) ≡ at modes.Arguments (frames.Call f (given.Paths []) ∷ k)
unfolding step
step-call modules k h f p path blank adm = rw blank (rw path (opens f k adm))

-- arguments
pub step-comma : (modules : Modules) (k : List Frame) (f : Path) (g : Given) (h : Head) (p : Place) → is_value h ≡ true
    → step modules (state (modes.Have h) (frames.Call f g ∷ k)) (sign p signs.Comma) ≡ at modes.Arguments (frames.Call f (give g h) ∷ k)
unfolding step settle
step-comma modules k f g h p value = rw value refl

pub step-call-end : (modules : Modules) (k : List Frame) (f : Path) (g : Given) (h : Head) (p : Place) → is_value h ≡ true
    → step modules (state (modes.Have h) (frames.Call f g ∷ k)) (sign p signs.RightParen) ≡ close_call f (give g h) k
unfolding step settle
step-call-end modules k f g h p value = rw value refl

pub step-no-argument : (modules : Modules) (k : List Frame) (f : Path) (g : Given) (p : Place)
    → step modules (state modes.Arguments (frames.Call f g ∷ k)) (sign p signs.RightParen) ≡ close_call f g k
unfolding step
step-no-argument modules k f g p = refl

-- what may follow makes an operand of what is pending
pub runs-over : (modules : Modules) (f : Frame) (l : Level) (made : Head → Node) → Pending f l made → fits levels.Postfix l ≡ false
    → (k : List Frame) → admits k l ≡ true → (h : Head) → is_value h ≡ true → (t : Token) (r : List Token) → follows l t.what ≡ true
    → run modules (t ∷ r) (at (modes.Have h) (f ∷ k)) ≡ run modules (t ∷ r) (at (modes.Have (heads.Plain (made h))) k)
unfolding run step
runs-over modules f l made pending low k adm h value t r q = ap (run modules r) (over modules f l made pending low k adm h value (place t) t.what q)
