-- Steps over operands and operators keep what has been read: an operand begins, an operator goes on from one.
use Rattle.std.proofs.Common.{◌≡◌, Bool, true, false, List, [], ◌∷◌, ◌++◌, Option, Some, refl, sym, subst, ap, ◌∙◌}
use Rattle.std.proofs.lemmas.List.{append_assoc}
use Rattle.pj_words.specs.declared.word.Word.TheVariants as words
use Rattle.pj_lex.specs.declared.sign.Sign.{Sign}
use Rattle.pj_lex.specs.declared.sign.Sign.TheVariants as signs
use Rattle.pj_lex.specs.declared.token.Token.{Token}
use Rattle.pj_lex.specs.declared.token.TokenKind.{TokenKind}
use Rattle.pj_lex.specs.declared.token.TokenKind.TheVariants as kinds
use Rattle.pj_grammar.specs.declared.level.Level.{Level}
use Rattle.pj_grammar.specs.declared.level.Level.TheVariants as levels
use Rattle.pj_grammar.specs.declared.frame.Frame.{Frame}
use Rattle.pj_grammar.specs.declared.frame.Frame.TheVariants as frames
use Rattle.pj_grammar.specs.declared.frame.Purpose.TheVariants as purposes
use Rattle.pj_grammar.specs.declared.mode.Head.{Head}
use Rattle.pj_grammar.specs.declared.mode.Mode.TheVariants as modes
use Rattle.pj_grammar.specs.Expressions.{literal, tighter}
use Rattle.pj_grammar.specs.Frames.{Settled, State, admits, at, guarded, is_value, settle}
use Rattle.pj_grammar.specs.Levels.{fits, is_prefix, left_of, level_of, right_of}
use Rattle.pj_grammar.specs.Machine.{close_types, operand, operand_sign}
use Rattle.pj_grammar.specs.Modules.{Modules}
use Rattle.pj_grammar.specs.Operands.{ask, extend}
use Rattle.pj_grammar.specs.Texts.{Kind}
use Rattle.pj_grammar.specs.Tokens.{Place, sign, token}
use Rattle.pj_grammar.proofs.Begun.{Begun, Opens, Under, group_begun, infix_begun, prefix_begun, then_begun, under}
use Rattle.pj_grammar.proofs.Holding.{operand-path, operand-reads, operand-type}
use Rattle.pj_grammar.proofs.Levels.{Binary, absurd-of, admits-tighter, and, binary, comparison, or, product, sum}
use Rattle.pj_grammar.proofs.Settling.{Over, opens-more, settles}
use Rattle.pj_grammar.proofs.Standing.{Operand, Stands, a_name, an_expression, bare_at, has_operand, over_frames, wants_operand}

pub high-right : (l : Level) → Binary l → fits (right_of l) levels.Unary ≡ true
high-right _ or = refl
high-right _ and = refl
high-right _ comparison = refl
high-right _ sum = refl
high-right _ product = refl

pub high-left : (l : Level) → Binary l → fits (left_of l) levels.Unary ≡ true
high-left _ or = refl
high-left _ and = refl
high-left _ comparison = refl
high-left _ sum = refl
high-left _ product = refl

low-left : (l : Level) → Binary l → fits (left_of l) levels.Postfix ≡ true
low-left _ or = refl
low-left _ and = refl
low-left _ comparison = refl
low-left _ sum = refl
low-left _ product = refl

-- where an operand is wanted, one as tight as a prefix is taken, and what stands there may begin in any way
pub wants-unary : (k : List Frame) → wants_operand k ≡ true → admits k levels.Unary ≡ true
wants-unary (frames.Hole purposes.Value ∷ k) h = absurd-of h
wants-unary k h = h

pub wants-opens : (modules : Modules) (k : List Frame) (ts : List Token) → wants_operand k ≡ true → Opens modules k ts
wants-opens modules (frames.Hole purposes.Value ∷ k) ts h = absurd-of h
wants-opens modules (frames.Payload m quoted ∷ k) ts h = absurd-of h
wants-opens modules k ts h = λ more. refl

-- a condition that the machine asks for
pub guard-stands : (modules : Modules) (kind : Kind) (b : Bool) (s : Option State) (ts : List Token) → (b ≡ true → Stands modules kind s ts)
    → Stands modules kind (guarded b s) ts
guard-stands modules kind true s ts f = f refl
guard-stands modules kind false s ts f = tt

pub stands-text : (modules : Modules) (kind : Kind) (s : Option State) (a b : List Token) → a ≡ b → Stands modules kind s a → Stands modules kind s b
stands-text modules kind s a b e h = subst (λ t. Stands modules kind s t) e h

-- one more frame, whose tokens are an operand's and one more
pub frame-stands : (modules : Modules) (kind : Kind) (f : Frame) (low : Level) (s : Settled) (text : List Token) (t : Token) (o : Over modules kind low s text)
    → Begun modules kind f s.frames (o.mine ++ t ∷ []) → wants_operand (f ∷ s.frames) ≡ true
    → Stands modules kind (at modes.Want (f ∷ s.frames)) (text ++ t ∷ [])
frame-stands modules kind f low s text t o begun wants =
    stands-text modules kind (at modes.Want (f ∷ s.frames)) (o.before ++ (o.mine ++ t ∷ [])) (text ++ t ∷ [])
    (sym (append_assoc o.before o.mine (t ∷ [])) ∙ ap (λ x. x ++ t ∷ []) o.is)
    (bare_at wants (under o.under (opens-more modules s.frames o.mine (t ∷ []) _ o.opens refl) begun))

-- a binary operator; `?`
pub extend-stands : (modules : Modules) (kind : Kind) (l : Level) (p : Place) (s : Sign) (settled : Settled) (text : List Token) → level_of s ≡ Some l
    → Over modules kind (left_of l) settled text → Stands modules kind (extend l s p.start settled) (text ++ sign p s ∷ [])
extend-stands modules kind l p s settled text is o =
    guard-stands modules kind (admits settled.frames l) _ (text ++ sign p s ∷ [])
    (λ adm. frame-stands modules kind _ (left_of l) settled text (sign p s) o (infix_begun p s is adm o.reads) (high-right l (binary s l is)))

pub ask-stands : (modules : Modules) (kind : Kind) (p : Place) (settled : Settled) (text : List Token)
    → Over modules kind levels.Disjunction settled text → Stands modules kind (ask settled) (text ++ sign p signs.Question ∷ [])
ask-stands modules kind p settled text o =
    guard-stands modules kind (admits settled.frames levels.Conditional) _ (text ++ sign p signs.Question ∷ [])
    (λ adm. frame-stands modules kind _ levels.Disjunction settled text (sign p signs.Question) o (then_begun p adm o.reads) refl)

-- A binary operator, and `?`, behind an operand over frames.
pub infix-stands : (modules : Modules) (kind : Kind) (h : Head) (k : List Frame) (before ts : List Token) (l : Level) (p : Place) (s : Sign)
    → Under modules kind k before → Opens modules k ts → Operand modules h k ts → is_value h ≡ true → level_of s ≡ Some l
    → Stands modules kind (extend l s p.start (settle (left_of l) h k)) (before ++ ts ++ sign p s ∷ [])
infix-stands modules kind h k before ts l p s u o d v is =
    extend-stands modules kind l p s _ (before ++ ts) is
    (settles (left_of l) levels.Postfix (high-left l (binary s l is)) h k before ts u o (operand-path d) (operand-type d) (operand-reads d v) (low-left l (binary s l is)) (λ a. a))

pub question-stands : (modules : Modules) (kind : Kind) (h : Head) (k : List Frame) (before ts : List Token) (p : Place)
    → Under modules kind k before → Opens modules k ts → Operand modules h k ts → is_value h ≡ true
    → Stands modules kind (ask (settle levels.Disjunction h k)) (before ++ ts ++ sign p signs.Question ∷ [])
question-stands modules kind h k before ts p u o d v =
    ask-stands modules kind p _ (before ++ ts) (settles levels.Disjunction levels.Postfix refl h k before ts u o (operand-path d) (operand-type d) (operand-reads d v) refl (λ a. a))

-- An operand begins. Where `)` stands, the types of a directive may end.
pub operand-stands : (modules : Modules) (kind : Kind) (k : List Frame) (before : List Token) (p : Place) (what : TokenKind) → Under modules kind k before
    → admits k levels.Unary ≡ true → Opens modules k (token p what ∷ [])
    → ((q : Place) → Stands modules kind (close_types k) (before ++ sign q signs.RightParen ∷ []))
    → Stands modules kind (operand k p what) (before ++ token p what ∷ [])
operand-stands modules kind k before p (kinds.Name x) u adm o types = over_frames u o (has_operand (a_name p x))
operand-stands modules kind k before p (kinds.Integer n) u adm o types =
    over_frames u o (has_operand (an_expression (admits-tighter k levels.Unary levels.Postfix adm refl) refl (tighter refl (literal p (kinds.Integer n) refl))))
operand-stands modules kind k before p (kinds.Str s) u adm o types =
    over_frames u o (has_operand (an_expression (admits-tighter k levels.Unary levels.Postfix adm refl) refl (tighter refl (literal p (kinds.Str s) refl))))
operand-stands modules kind k before p (kinds.Reserved words.True) u adm o types =
    over_frames u o (has_operand (an_expression (admits-tighter k levels.Unary levels.Postfix adm refl) refl (tighter refl (literal p (kinds.Reserved words.True) refl))))
operand-stands modules kind k before p (kinds.Reserved words.False) u adm o types =
    over_frames u o (has_operand (an_expression (admits-tighter k levels.Unary levels.Postfix adm refl) refl (tighter refl (literal p (kinds.Reserved words.False) refl))))
operand-stands modules kind k before p (kinds.Reserved words.Nothing) u adm o types =
    over_frames u o (has_operand (an_expression (admits-tighter k levels.Unary levels.Postfix adm refl) refl (tighter refl (literal p (kinds.Reserved words.Nothing) refl))))
operand-stands modules kind k before p (kinds.Reserved w) u adm o types = tt
operand-stands modules kind k before p kinds.AtEval u adm o types = tt
operand-stands modules kind k before p kinds.Separator u adm o types = tt
operand-stands modules kind k before p kinds.Eof u adm o types = tt
operand-stands modules kind k before p (kinds.Sign s) u adm o types = by-sign s o
  where
    by-prefix : (s : Sign) → Opens modules k (sign p s ∷ [])
        → Stands modules kind (guarded (is_prefix s) (at modes.Want (frames.Prefix (record { sign = s; at = p.start }) ∷ k))) (before ++ sign p s ∷ [])
    by-prefix s o = guard-stands modules kind (is_prefix s) _ _ (λ is. bare_at refl (under u o (prefix_begun p s is adm)))

    by-sign : (s : Sign) → Opens modules k (sign p s ∷ []) → Stands modules kind (operand_sign k p.start s) (before ++ sign p s ∷ [])
    by-sign signs.LeftParen o = bare_at refl (under u o (group_begun p (admits-tighter k levels.Unary levels.Postfix adm refl) refl))
    by-sign signs.RightParen o = types p
    by-sign s o = by-prefix s o
