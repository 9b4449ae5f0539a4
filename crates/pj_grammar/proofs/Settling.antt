-- Operators that end leave their operand explained, as one operand over fewer frames.
use Rattle.std.proofs.Common.{◌≡◌, Bool, true, false, List, [], ◌∷◌, ◌++◌, if◌then◌else◌, Some, None, refl, sym, subst, ap, ◌∙◌}
use Rattle.std.proofs.lemmas.List.{append_assoc}
use Rattle.pj_lex.specs.declared.sign.Sign.TheVariants as signs
use Rattle.pj_lex.specs.declared.token.Token.{Token}
use Rattle.pj_syntax.specs.declared.expression.Path.{Path}
use Rattle.pj_grammar.specs.declared.level.Level.{Level}
use Rattle.pj_grammar.specs.declared.level.Level.TheVariants as levels
use Rattle.pj_grammar.specs.declared.frame.Frame.{Frame}
use Rattle.pj_grammar.specs.declared.frame.Frame.TheVariants as frames
use Rattle.pj_grammar.specs.declared.mode.Head.{Head}
use Rattle.pj_grammar.specs.declared.mode.Head.TheVariants as heads
use Rattle.pj_grammar.specs.Expressions.{Callee, Named, Reads, conditional, infix_, prefix, tighter}
use Rattle.pj_grammar.specs.Frames.{Settled, admits, head_path, node, settle, wants}
use Rattle.pj_grammar.specs.Levels.{fits, right_of}
use Rattle.pj_grammar.specs.Makers.{conditional_of, infix_of, prefix_of}
use Rattle.pj_grammar.specs.Modules.{Modules}
use Rattle.pj_grammar.specs.Operands.{type_path}
use Rattle.pj_grammar.specs.Texts.{Kind}
use Rattle.pj_grammar.specs.Tokens.{sign}
use Rattle.pj_grammar.proofs.Levels.{Binary, and, binary, comparison, or, product, sum}
use Rattle.pj_grammar.proofs.Begun.{Opens, Under, else_begun, infix_begun, opens, prefix_begun, under}

pub opens-more : (modules : Modules) (k : List Frame) (ts us vs : List Token) → Opens modules k ts → ts ++ us ≡ vs → Opens modules k vs
opens-more modules k ts us vs o e = λ more.
    subst (λ x. opens modules k x ≡ true) (sym (append_assoc ts us more) ∙ ap (λ x. x ++ more) e) (o (us ++ more))

-- An operand over frames, which have read this text together. It stands at a level, and where the
-- top frame wants an operand it is one for it. Where it is a path, it was read as one.
pub record Over (modules : Modules) (kind : Kind) (low : Level) (s : Settled) (text : List Token) : Type 0 where
  pub before : List Token
  pub mine : List Token
  pub is : before ++ mine ≡ text
  pub under : Under modules kind s.frames before
  pub opens : Opens modules s.frames mine
  pub path : (f : Path) → head_path s.head ≡ Some f → Callee modules mine f
  pub type : (f : Path) → type_path s.head ≡ Some f → Named modules mine f
  pub reads : Reads modules low mine (node s.head)
  pub wanted : admits s.frames levels.Postfix ≡ true → Reads modules (wants s.frames) mine (node s.head)

abbrev over-text : {modules : Modules} {kind : Kind} {low : Level} {s : Settled} {a b : List Token} → Over modules kind low s a → a ≡ b
    → Over modules kind low s b
over-text {modules} {kind} {low} {s} o e = subst (λ t. Over modules kind low s t) e o

-- the text of a frame and of what follows
pub with-sign : (before ts us : List Token) (t : Token) → before ++ (ts ++ t ∷ us) ≡ before ++ (ts ++ t ∷ []) ++ us
with-sign before ts us t = sym (append_assoc before (ts ++ t ∷ []) us ∙ ap (λ x. before ++ x) (append_assoc ts (t ∷ []) us))

pub with-signs : (cs ts us : List Token) (c t : Token) → (cs ++ c ∷ (ts ++ t ∷ [])) ++ us ≡ cs ++ c ∷ (ts ++ t ∷ us)
with-signs cs ts us c t = append_assoc cs (c ∷ (ts ++ t ∷ [])) us ∙ ap (λ x. cs ++ c ∷ x) (append_assoc ts (t ∷ []) us)

stays : {modules : Modules} {kind : Kind} {low found : Level} {h : Head} {k : List Frame} {before ts : List Token} → Under modules kind k before
    → Opens modules k ts → ((f : Path) → head_path h ≡ Some f → Callee modules ts f) → ((f : Path) → type_path h ≡ Some f → Named modules ts f) → Reads modules found ts (node h) → fits low found ≡ true → (admits k levels.Postfix ≡ true → fits (wants k) found ≡ true)
    → Over modules kind low (record { head = h; frames = k }) (before ++ ts)
stays {before} {ts} u o c n d p q = record { before = before; mine = ts; is = refl; under = u; opens = o; path = c; type = n; reads = tighter p d; wanted = λ a. tighter (q a) d }

-- the operands of operators are looser than fields
high-right : (l : Level) → Binary l → fits (right_of l) levels.Postfix ≡ true
high-right _ or = refl
high-right _ and = refl
high-right _ comparison = refl
high-right _ sum = refl
high-right _ product = refl

no-path : {A : Type 0} {g : Path} → None ≡ Some g → A
no-path z = cc

choose : (P : Settled → Type 0) (b : Bool) (x y : Settled) → (b ≡ true → P x) → P y → P (if b then x else y)
choose P true x y f e = f refl
choose P false x y f e = e

pub settles : {modules : Modules} {kind : Kind} (low found : Level) → fits low levels.Unary ≡ true → (h : Head) (k : List Frame) (before ts : List Token)
    → Under modules kind k before → Opens modules k ts → ((f : Path) → head_path h ≡ Some f → Callee modules ts f) → ((f : Path) → type_path h ≡ Some f → Named modules ts f) → Reads modules found ts (node h) → fits low found ≡ true → (admits k levels.Postfix ≡ true → fits (wants k) found ≡ true)
    → Over modules kind low (settle low h k) (before ++ ts)
unfolding settle
settles low found high h [] before ts u o path type d p q = stays u o path type d p q
settles {modules} {kind} low found high h (frames.Prefix op ∷ k) before ts (under {before = b} u opened (prefix_begun at s is adm)) o path type d p q =
    over-text
    (settles low levels.Unary high (heads.Plain (prefix_of op (node h))) k b (sign at s ∷ ts) u (opens-more modules k (sign at s ∷ []) ts (sign at s ∷ ts) opened refl) (λ g z. no-path z) (λ g z. no-path z) (prefix at s is (tighter (q refl) d)) high (λ a. adm))
    (sym (append_assoc b (sign at s ∷ []) ts))
settles {modules} {kind} low found high h (frames.Infix m a op ∷ k) before ts (under {before = b} u opened (infix_begun {ts = left} at s is adm e)) o path type d p q =
    choose (λ x. Over modules kind low x (b ++ (left ++ sign at s ∷ []) ++ ts)) (fits low m) _ _
    (λ fit. over-text
    (settles low m high (heads.Plain (infix_of a op (node h))) k b (left ++ sign at s ∷ ts) u (opens-more modules k _ ts _ opened (append_assoc left (sign at s ∷ []) ts)) (λ g z. no-path z) (λ g z. no-path z) (infix_ at s is e (tighter (q (high-right m (binary s m is))) d)) fit (λ a. adm))
    (with-sign b left ts (sign at s)))
    (stays (under u opened (infix_begun at s is adm e)) o path type d p q)
settles {modules} {kind} low found high h (frames.Else c a ∷ k) before ts (under {before = b} u opened (else_begun {ts = cs} {us = us} at to adm e f)) o path type d p q =
    choose (λ x. Over modules kind low x (b ++ (cs ++ sign at signs.Question ∷ (us ++ sign to signs.Colon ∷ [])) ++ ts)) (fits low levels.Conditional) _ _
    (λ fit. over-text
    (settles low levels.Conditional high (heads.Plain (conditional_of c a (node h))) k b (cs ++ sign at signs.Question ∷ (us ++ sign to signs.Colon ∷ ts)) u
    (opens-more modules k _ ts _ opened (with-signs cs us ts (sign at signs.Question) (sign to signs.Colon))) (λ g z. no-path z) (λ g z. no-path z) (conditional at to e f (tighter (q refl) d)) fit (λ a. adm))
    (sym (append_assoc b _ ts ∙ ap (λ x. b ++ x) (with-signs cs us ts (sign at signs.Question) (sign to signs.Colon)))))
    (stays (under u opened (else_begun at to adm e f)) o path type d p q)
settles low found high h (frames.Then c ∷ k) before ts u o path type d p q = stays u o path type d p q
settles low found high h (frames.Group a types ∷ k) before ts u o path type d p q = stays u o path type d p q
settles low found high h (frames.Call f g ∷ k) before ts u o path type d p q = stays u o path type d p q
settles low found high h (frames.Signature form f ps ∷ k) before ts u o path type d p q = stays u o path type d p q
settles low found high h (frames.TypeOf x a ∷ k) before ts u o path type d p q = stays u o path type d p q
settles low found high h (frames.FunctionName ∷ k) before ts u o path type d p q = stays u o path type d p q
settles low found high h (frames.Parent header ∷ k) before ts u o path type d p q = stays u o path type d p q
settles low found high h (frames.Fields mutable x parent fs ∷ k) before ts u o path type d p q = stays u o path type d p q
settles low found high h (frames.DirectiveFun ∷ k) before ts u o path type d p q = stays u o path type d p q
settles low found high h (frames.Types f types ∷ k) before ts u o path type d p q = stays u o path type d p q
settles low found high h (frames.Hole purpose ∷ k) before ts u o path type d p q = stays u o path type d p q
settles low found high h (frames.Block opener ss ∷ k) before ts u o path type d p q = stays u o path type d p q
settles low found high h (frames.Branch c ss ∷ k) before ts u o path type d p q = stays u o path type d p q
settles low found high h (frames.Payload m quoted ∷ k) before ts u o path type d p q = stays u o path type d p q
settles low found high h (frames.Items root is ∷ k) before ts u o path type d p q = stays u o path type d p q
