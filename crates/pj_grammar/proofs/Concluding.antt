-- The end of an expression keeps what has been read, whatever it stands in.
use Rattle.pj_grammar.proofs.Begun.{Opens, Under, call_begun, under}
use Rattle.pj_grammar.proofs.Calling.{close-stands, comma-stands, last-argument}
use Rattle.pj_grammar.proofs.Directing.{and-first, and-second, begin-types-stands, text-eq}
use Rattle.pj_grammar.proofs.Ending.{lines-open}
use Rattle.pj_grammar.proofs.Finishing.{colon-stands, group-stands}
use Rattle.pj_grammar.proofs.Follow.{over}
use Rattle.pj_grammar.proofs.Heading.{items-lines}
use Rattle.pj_grammar.proofs.Holding.{operand-path, operand-reads, operand-type}
use Rattle.pj_grammar.proofs.Levels.{absurd-of}
use Rattle.pj_grammar.proofs.Lining.{if-stands}
use Rattle.pj_grammar.proofs.Operating.{guard-stands, stands-text}
use Rattle.pj_grammar.proofs.Purposing.{purpose-stands}
use Rattle.pj_grammar.proofs.Settling.{Over, opens-more, settles}
use Rattle.pj_grammar.proofs.Signing.{below-value, may-end-behind}
use Rattle.pj_grammar.proofs.Standing.{Operand, Stands, a_call, a_member, a_name, a_place, an_expression, an_operator, has_abstract, has_mutable, over_frames}
use Rattle.pj_grammar.specs.Expressions.{Callee, Named, Reads}
use Rattle.pj_grammar.specs.Frames.{Settled, admits, at, give, head_path, is_value, node, purpose_level, settle, takes_items, wants}
use Rattle.pj_grammar.specs.Levels.{fits}
use Rattle.pj_grammar.specs.Modules.{Modules}
use Rattle.pj_grammar.specs.Operands.{after_argument, after_group, begin_type, close_call, finish, finish_at, have_first, have_value, is_type_word, type_path}
use Rattle.pj_grammar.specs.Texts.{Kind}
use Rattle.pj_grammar.specs.Tokens.{Place, name, sign, spot, token, word}
use Rattle.pj_grammar.specs.declared.frame.Frame.{Frame}
use Rattle.pj_grammar.specs.declared.frame.Given.{Given}
use Rattle.pj_grammar.specs.declared.frame.Purpose.{Purpose}
use Rattle.pj_grammar.specs.declared.mode.Head.{Head}
use Rattle.pj_grammar.specs.declared.node.Node.{Node}
use Rattle.pj_lex.specs.declared.sign.Sign.{Sign}
use Rattle.pj_lex.specs.declared.token.Token.{Token}
use Rattle.pj_lex.specs.declared.token.TokenKind.{TokenKind}
use Rattle.pj_syntax.specs.declared.expression.Path.{Path}
use Rattle.pj_words.specs.declared.word.Word.{Word}
use Rattle.std.proofs.Common.{Bool, List, None, Some, [], ap, codes, refl, sym, true, ℕ, ◌++◌, ◌∙◌, ◌∷◌, ◌≡◌}
use Rattle.std.proofs.lemmas.List.{append_assoc}
use Rattle.pj_grammar.specs.declared.frame.Frame.TheVariants as frames
use Rattle.pj_grammar.specs.declared.mode.Head.TheVariants as heads
use Rattle.pj_lex.specs.declared.token.TokenKind.TheVariants as kinds
use Rattle.pj_grammar.specs.declared.level.Level.TheVariants as levels
use Rattle.pj_grammar.specs.declared.mode.Mode.TheVariants as modes
use Rattle.pj_grammar.specs.declared.frame.Purpose.TheVariants as purposes
use Rattle.pj_lex.specs.declared.sign.Sign.TheVariants as signs
use Rattle.pj_words.specs.declared.word.Word.TheVariants as words

pub purpose-admits : (purpose : Purpose) → fits (purpose_level purpose) levels.Postfix ≡ true
purpose-admits purposes.Value = refl
purpose-admits (purposes.Assign target o) = refl
purpose-admits (purposes.Return a) = refl
purpose-admits purposes.If = refl
purpose-admits purposes.While = refl
purpose-admits (purposes.From x) = refl
purpose-admits (purposes.To x a) = refl
purpose-admits (purposes.Const x) = refl
purpose-admits (purposes.Short f ps) = refl

-- a call ends behind an argument
call-ends : (modules : Modules) (kind : Kind) (f : Path) (g : Given) (h : Head) (k : List Frame) (before mine : List Token) (p : Place)
    → Under modules kind (frames.Call f g ∷ k) before → ((x : Path) → head_path h ≡ Some x → Callee modules mine x) → Reads modules levels.Conditional mine (node h)
    → Stands modules kind (close_call f (give g h) k) (before ++ mine ++ sign p signs.RightParen ∷ [])
call-ends modules kind f g h k _ mine p (under {before = b} u o (call_begun {ts = ts} us adm s list)) c d =
    stands-text modules kind (close_call f (give g h) k) (b ++ (ts ++ (us ++ (mine ++ sign p signs.RightParen ∷ [])))) (b ++ (ts ++ us) ++ mine ++ sign p signs.RightParen ∷ []) (simp append_assoc)
    (close-stands modules kind f (give g h) k b ts (us ++ (mine ++ sign p signs.RightParen ∷ [])) u
    (opens-more modules k (ts ++ us) (mine ++ sign p signs.RightParen ∷ []) (ts ++ (us ++ (mine ++ sign p signs.RightParen ∷ []))) o (append_assoc ts us _))
    adm s (last-argument us g h p list d) (may-end-behind modules us mine f g h list c p))

argument-stands : (modules : Modules) (kind : Kind) (f : Path) (g : Given) (h : Head) (k : List Frame) (before mine : List Token) (p : Place) (what : TokenKind)
    → Under modules kind (frames.Call f g ∷ k) before → ((x : Path) → head_path h ≡ Some x → Callee modules mine x) → Reads modules levels.Conditional mine (node h)
    → Stands modules kind (after_argument f (give g h) k what) (before ++ mine ++ token p what ∷ [])
argument-stands modules kind f g h k before mine p what u c d = by-kind what
  where
    by-sign : (s : Sign) → Stands modules kind (after_argument f (give g h) k (kinds.Sign s)) (before ++ mine ++ sign p s ∷ [])
    by-sign signs.Comma = comma-stands modules kind f g h k before mine p u c d
    by-sign signs.RightParen = call-ends modules kind f g h k before mine p u c d
    by-sign s = tt

    by-kind : (what : TokenKind) → Stands modules kind (after_argument f (give g h) k what) (before ++ mine ++ token p what ∷ [])
    by-kind (kinds.Sign s) = by-sign s
    by-kind what = tt

in-group : (modules : Modules) (kind : Kind) (a : ℕ) (types : Bool) (h : Head) (k : List Frame) (before mine : List Token) (p : Place) (what : TokenKind)
    → Under modules kind (frames.Group a types ∷ k) before → ((x : Path) → type_path h ≡ Some x → Named modules mine x) → Reads modules levels.Conditional mine (node h)
    → Stands modules kind (after_group a types h k what) (before ++ mine ++ token p what ∷ [])
in-group modules kind a types h k before mine p what u c d = by-kind what
  where
    by-sign : (s : Sign) → Stands modules kind (after_group a types h k (kinds.Sign s)) (before ++ mine ++ sign p s ∷ [])
    by-sign signs.RightParen = group-stands modules kind a types h k before mine p u d
    by-sign signs.Comma = begin-types-stands modules kind a types (type_path h) k before mine p u c
    by-sign s = tt

    by-kind : (what : TokenKind) → Stands modules kind (after_group a types h k what) (before ++ mine ++ token p what ∷ [])
    by-kind (kinds.Sign s) = by-sign s
    by-kind what = tt

in-condition : (modules : Modules) (kind : Kind) (c : Node) (h : Head) (k : List Frame) (before mine : List Token) (p : Place) (what : TokenKind)
    → Under modules kind (frames.Then c ∷ k) before → Reads modules levels.Conditional mine (node h)
    → Stands modules kind (finish_at h (frames.Then c ∷ k) what) (before ++ mine ++ token p what ∷ [])
in-condition modules kind c h k before mine p what u d = by-kind what
  where
    by-sign : (s : Sign) → Stands modules kind (finish_at h (frames.Then c ∷ k) (kinds.Sign s)) (before ++ mine ++ sign p s ∷ [])
    by-sign signs.Colon = colon-stands modules kind c h k before mine p u d
    by-sign s = tt

    by-kind : (what : TokenKind) → Stands modules kind (finish_at h (frames.Then c ∷ k) what) (before ++ mine ++ token p what ∷ [])
    by-kind (kinds.Sign s) = by-sign s
    by-kind what = tt

finish-at-stands : (modules : Modules) (kind : Kind) (h : Head) (k : List Frame) (before mine : List Token) (p : Place) (what : TokenKind)
    → Under modules kind k before → Opens modules k mine → ((f : Path) → head_path h ≡ Some f → Callee modules mine f)
    → ((f : Path) → type_path h ≡ Some f → Named modules mine f) → Reads modules levels.Conditional mine (node h)
    → (admits k levels.Postfix ≡ true → Reads modules (wants k) mine (node h))
    → Stands modules kind (finish_at h k what) (before ++ mine ++ token p what ∷ [])
finish-at-stands modules kind h (frames.Then c ∷ k) before mine p what u o path typed d wanted = in-condition modules kind c h k before mine p what u d
finish-at-stands modules kind h (frames.Group a types ∷ k) before mine p what u o path typed d wanted = in-group modules kind a types h k before mine p what u typed d
finish-at-stands modules kind h (frames.Call f g ∷ k) before mine p what u o path typed d wanted = argument-stands modules kind f g h k before mine p what u path d
finish-at-stands modules kind h (frames.Hole purpose ∷ k) before mine p what u o path typed d wanted =
    purpose-stands modules kind purpose (node h) k before mine p what u o (wanted (purpose-admits purpose))
finish-at-stands modules kind h k before mine p what u o path typed d wanted = tt

pub finish-stands : (modules : Modules) (kind : Kind) (s : Settled) (before : List Token) (p : Place) (what : TokenKind) → Over modules kind levels.Conditional s before
    → Stands modules kind (finish s what) (before ++ token p what ∷ [])
finish-stands modules kind s before p what o =
    stands-text modules kind (finish s what) (o.before ++ o.mine ++ token p what ∷ []) (before ++ token p what ∷ []) (ap (λ l. l ++ token p what ∷ []) o.is)
    (finish-at-stands modules kind s.head s.frames o.before o.mine p what o.under o.opens o.path o.type o.reads o.wanted)

-- behind an operand
pub value-stands : (modules : Modules) (kind : Kind) (h : Head) (k : List Frame) (before ts : List Token) (p : Place) (what : TokenKind)
    → Under modules kind k before → Opens modules k ts → Operand modules h k ts
    → Stands modules kind (have_value h k what) (before ++ ts ++ token p what ∷ [])
value-stands modules kind h k before ts p what u o d =
    if-stands modules kind (is_value h) (finish (settle levels.Conditional h k) what) None (before ++ ts ++ token p what ∷ [])
    (λ v. finish-stands modules kind (settle levels.Conditional h k) (before ++ ts) p what
    (settles levels.Conditional levels.Postfix refl h k before ts u o (operand-path d) (operand-type d) (operand-reads d v) refl (λ a. a)))
    (λ _. tt)

-- `abstract type` and `mutable struct`
type-word-stands : (modules : Modules) (kind : Kind) (h : Head) (k over : List Frame) (before ts : List Token) (p : Place) (what : TokenKind)
    → Under modules kind k before → Operand modules h over ts → is_type_word h what ≡ true
    → Stands modules kind (begin_type what k) (before ++ ts ++ token p what ∷ [])
type-word-stands modules kind _ k over before _ p what u (a_name q x) is = by-kind what is
  where
    by-word : (w : Word) → is_type_word (heads.Name (spot q x)) (kinds.Reserved w) ≡ true → Stands modules kind (begin_type (kinds.Reserved w) k) (before ++ name q x ∷ [] ++ word p w ∷ [])
    by-word words.Struct h =
        guard-stands modules kind (takes_items k) (at (modes.StructName true) k) (before ++ name q x ∷ [] ++ word p words.Struct ∷ []) (λ takes.
        stands-text modules kind (at (modes.StructName true) k) (before ++ name q (codes "mutable") ∷ word p words.Struct ∷ []) (before ++ name q x ∷ [] ++ word p words.Struct ∷ [])
        (ap (λ l. before ++ name q l ∷ word p words.Struct ∷ []) (sym (text-eq x (codes "mutable") h)) ∙ simp append_assoc refl)
        (over_frames u (lines-open modules k (name q (codes "mutable") ∷ word p words.Struct ∷ []) (items-lines k takes)) (has_mutable q p takes)))
    by-word w h = absurd-of h

    by-kind : (what : TokenKind) → is_type_word (heads.Name (spot q x)) what ≡ true → Stands modules kind (begin_type what k) (before ++ name q x ∷ [] ++ token p what ∷ [])
    by-kind (kinds.Name y) h =
        guard-stands modules kind (takes_items k) (at modes.AbstractName k) (before ++ name q x ∷ [] ++ name p y ∷ []) (λ takes.
        stands-text modules kind (at modes.AbstractName k) (before ++ name q (codes "abstract") ∷ name p (codes "type") ∷ []) (before ++ name q x ∷ [] ++ name p y ∷ [])
        (ap (λ l. before ++ name q l ∷ name p (codes "type") ∷ []) (sym (text-eq x (codes "abstract") (and-first _ _ h)))
        ∙ ap (λ l. before ++ name q x ∷ name p l ∷ []) (sym (text-eq y (codes "type") (and-second _ _ h))) ∙ simp append_assoc refl)
        (over_frames u (lines-open modules k (name q (codes "abstract") ∷ name p (codes "type") ∷ []) (items-lines k takes)) (has_abstract q p takes)))
    by-kind (kinds.Reserved w) h = by-word w h
    by-kind what h = absurd-of h
type-word-stands modules kind _ k over before _ p what u (a_member q r s m x known adm) is = absurd-of is
type-word-stands modules kind _ k over before _ p what u (an_operator q r s o x known adm) is = absurd-of is
type-word-stands modules kind _ k over before _ p what u (a_place q r x d adm) is = absurd-of is
type-word-stands modules kind _ k over before _ p what u (a_call adm s args params lone) is = absurd-of is
type-word-stands modules kind _ k over before _ p what u (an_expression adm fields d) is = absurd-of is

pub first-stands : (modules : Modules) (kind : Kind) (h : Head) (k : List Frame) (before ts : List Token) (p : Place) (what : TokenKind)
    → Under modules kind (frames.Hole purposes.Value ∷ k) before → Opens modules (frames.Hole purposes.Value ∷ k) ts → Operand modules h (frames.Hole purposes.Value ∷ k) ts
    → Stands modules kind (have_first h k what) (before ++ ts ++ token p what ∷ [])
first-stands modules kind h k before ts p what u o d =
    if-stands modules kind (is_type_word h what) (begin_type what k) (have_value h (frames.Hole purposes.Value ∷ k) what) (before ++ ts ++ token p what ∷ [])
    (λ is. type-word-stands modules kind h k (frames.Hole purposes.Value ∷ k) before ts p what (below-value u).under d is)
    (λ _. value-stands modules kind h (frames.Hole purposes.Value ∷ k) before ts p what u o d)
