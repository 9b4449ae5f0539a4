-- What follows a statement or an item, and what begins one, keep what has been read.
use Rattle.pj_grammar.proofs.Begun.{Opens, Under, an_if, asks, at_value, block_begun, eval_begun, function_begun, hole_begun, items_begun, repeats, takes_value, then_blank, then_gap, then_item, then_line, under}
use Rattle.pj_grammar.proofs.Blocking.{Ended, ending-stands, item-ended, line-ended, list-ended}
use Rattle.pj_grammar.proofs.Ending.{lines-open, statement-closes}
use Rattle.pj_grammar.proofs.Levels.{absurd-of}
use Rattle.pj_grammar.proofs.Operating.{guard-stands, operand-stands, stands-text}
use Rattle.pj_grammar.proofs.Settling.{opens-more}
use Rattle.pj_grammar.proofs.Standing.{Standing, Stands, bare_at, before_end, before_ends, entry_closed, has_const, has_for, has_global, has_return, has_struct, line_closed, no_names, over_frames, wants_use}
use Rattle.pj_grammar.specs.Closing.{after_end, after_end_at, after_line, closed_line}
use Rattle.pj_grammar.specs.Frames.{State, at, takes_definition, takes_items, takes_lines, takes_uses}
use Rattle.pj_grammar.specs.Machine.{line, line_word, operand}
use Rattle.pj_grammar.specs.Makers.{Entry, entry_after, line_after}
use Rattle.pj_grammar.specs.Modules.{Modules}
use Rattle.pj_grammar.specs.Statements.{Statement, break, «continue»}
use Rattle.pj_grammar.specs.Texts.{Item, Kind}
use Rattle.pj_grammar.specs.Tokens.{Place, separator, sign, token, word}
use Rattle.pj_grammar.specs.declared.frame.Frame.{Frame}
use Rattle.pj_grammar.specs.declared.frame.Opener.{Opener}
use Rattle.pj_grammar.specs.declared.frame.Root.{Root}
use Rattle.pj_grammar.specs.declared.mode.Mode.{Mode}
use Rattle.pj_grammar.specs.declared.node.Entries.{Entries}
use Rattle.pj_grammar.specs.declared.node.Line.{Line}
use Rattle.pj_grammar.specs.declared.node.Lines.{Lines}
use Rattle.pj_lex.specs.declared.token.Token.{Token}
use Rattle.pj_lex.specs.declared.token.TokenKind.{TokenKind}
use Rattle.pj_words.specs.declared.word.Word.{Word}
use Rattle.std.proofs.Common.{Bool, List, None, Option, Some, [], false, if◌then◌else◌, refl, subst, sym, true, ◌++◌, ◌∷◌, ◌≡◌}
use Rattle.std.proofs.lemmas.List.{append_assoc}
use Rattle.pj_grammar.specs.declared.frame.Frame.TheVariants as frames
use Rattle.pj_lex.specs.declared.token.TokenKind.TheVariants as kinds
use Rattle.pj_grammar.specs.declared.mode.Mode.TheVariants as modes
use Rattle.pj_grammar.specs.declared.frame.Purpose.TheVariants as purposes
use Rattle.pj_lex.specs.declared.sign.Sign.TheVariants as signs
use Rattle.pj_words.specs.declared.word.Word.TheVariants as words

-- conditions
pub if-stands : (modules : Modules) (kind : Kind) (b : Bool) (s t : Option State) (ts : List Token) → (b ≡ true → Stands modules kind s ts)
    → (b ≡ false → Stands modules kind t ts) → Stands modules kind (if b then s else t) ts
if-stands modules kind true s t ts f g = f refl
if-stands modules kind false s t ts f g = g refl

-- a separator behind a statement or an item
line-separated : (modules : Modules) (kind : Kind) (o : Opener) (ss : Lines) (s : Line) (k : List Frame) (before mine : List Token) (p : Place)
    → Under modules kind (frames.Block o ss ∷ k) before → Statement modules mine s
    → Stands modules kind (at modes.Line (frames.Block o (line_after ss s) ∷ k)) (before ++ mine ++ separator p ∷ [])
line-separated modules kind o ss s k _ mine p (under {before = b} u opened (block_begun {ts = ts} {us = us} head lines)) d =
    stands-text modules kind (at modes.Line (frames.Block o (line_after ss s) ∷ k)) (b ++ (ts ++ (us ++ (mine ++ separator p ∷ []))))
    ((b ++ (ts ++ us)) ++ mine ++ separator p ∷ []) (simp append_assoc)
    (bare_at refl (under u (opens-more modules k (ts ++ us) (mine ++ separator p ∷ []) (ts ++ (us ++ (mine ++ separator p ∷ []))) opened (append_assoc ts us _))
    (block_begun head (then_line p lines d))))

item-separated : (modules : Modules) (kind : Kind) (root : Root) (is : Entries) (i : Entry) (k : List Frame) (before mine : List Token) (p : Place)
    → Under modules kind (frames.Items root is ∷ k) before → Item modules kind mine i
    → Stands modules kind (at modes.Line (frames.Items root (entry_after is i) ∷ k)) (before ++ mine ++ separator p ∷ [])
item-separated modules kind root is i k _ mine p (under {before = b} u opened (items_begun {ts = ts} {us = us} head list)) d =
    stands-text modules kind (at modes.Line (frames.Items root (entry_after is i) ∷ [])) (b ++ (ts ++ (us ++ (mine ++ separator p ∷ []))))
    ((b ++ (ts ++ us)) ++ mine ++ separator p ∷ []) (simp append_assoc)
    (bare_at refl (under u (λ more. refl) (items_begun head (then_item p list d))))

-- a separator more
pub blank-stands : (modules : Modules) (kind : Kind) (k : List Frame) (before : List Token) (p : Place) → takes_lines k ≡ true → Under modules kind k before
    → Stands modules kind (at modes.Line k) (before ++ separator p ∷ [])
blank-stands modules kind (frames.Block o ss ∷ k) _ p takes (under {before = b} u opened (block_begun {ts = ts} {us = us} head lines)) =
    stands-text modules kind (at modes.Line (frames.Block o ss ∷ k)) (b ++ (ts ++ (us ++ separator p ∷ [])))
    ((b ++ (ts ++ us)) ++ separator p ∷ []) (simp append_assoc)
    (bare_at refl (under u (opens-more modules k (ts ++ us) (separator p ∷ []) (ts ++ (us ++ separator p ∷ [])) opened (append_assoc ts us _))
    (block_begun head (then_blank p lines))))
blank-stands modules kind (frames.Items root is ∷ k) _ p takes (under {before = b} u opened (items_begun {ts = ts} {us = us} head list)) =
    stands-text modules kind (at modes.Line (frames.Items root is ∷ [])) (b ++ (ts ++ (us ++ separator p ∷ [])))
    ((b ++ (ts ++ us)) ++ separator p ∷ []) (simp append_assoc)
    (bare_at refl (under u (λ more. refl) (items_begun head (then_gap p list))))
blank-stands modules kind k before p takes u = absurd-of takes

after-ended : (modules : Modules) (kind : Kind) (k : List Frame) (text : List Token) (p : Place) (what : TokenKind) → Ended modules kind k text
    → Stands modules kind (at modes.Line k) (text ++ separator p ∷ []) → Stands modules kind (after_line k what) (text ++ token p what ∷ [])
after-ended modules kind k text p kinds.Separator e s = s
after-ended modules kind k text p what e s = ending-stands modules kind k text p what e

-- what follows a statement or an item
pub closed-stands : (modules : Modules) (kind : Kind) (k : List Frame) (text : List Token) (p : Place) (what : TokenKind) → Standing modules kind modes.Closed k text
    → Stands modules kind (after_line k what) (text ++ token p what ∷ [])
closed-stands modules kind k text p what (bare_at stands u) = absurd-of stands
closed-stands modules kind k _ p what (over_frames u o mine) = elim mine [ ]
closed-stands modules kind _ _ p what (line_closed {o = o} {ss = ss} {s = s} {k = k} {before = before} {ts = ts} u d) =
    after-ended modules kind (frames.Block o (line_after ss s) ∷ k) (before ++ ts) p what (line-ended u d) (line-separated modules kind o ss s k before ts p u d)
closed-stands modules kind _ _ p what (entry_closed {root = root} {is = is} {i = i} {k = k} {before = before} {ts = ts} u d) =
    after-ended modules kind (frames.Items root (entry_after is i) ∷ k) (before ++ ts) p what (item-ended u d) (item-separated modules kind root is i k before ts p u d)

-- `)` behind what `eval(:(` evaluates
pub payload-end-stands : (modules : Modules) (kind : Kind) (s : Line) (k : List Frame) (text : List Token) (p : Place) → Standing modules kind (modes.PayloadEnd s) k text
    → Stands modules kind (at (modes.EvalEnd s) k) (text ++ sign p signs.RightParen ∷ [])
payload-end-stands modules kind s k text p (bare_at stands u) = absurd-of stands
payload-end-stands modules kind s k _ p (over_frames {before = before} u o (before_ends {ts = ts} takes d)) =
    stands-text modules kind (at (modes.EvalEnd s) k) (before ++ (ts ++ sign p signs.RightParen ∷ [])) (before ++ ts ++ sign p signs.RightParen ∷ []) (simp append_assoc)
    (over_frames u (lines-open modules k (ts ++ sign p signs.RightParen ∷ []) takes)
    (before_end takes (λ e. subst (λ l. Statement modules l s) (sym (append_assoc ts (sign p signs.RightParen ∷ []) (sign e signs.RightParen ∷ []))) (d p e))))

pub eval-end-stands : (modules : Modules) (kind : Kind) (s : Line) (k : List Frame) (text : List Token) (p : Place) → Standing modules kind (modes.EvalEnd s) k text
    → Stands modules kind (closed_line s k) (text ++ sign p signs.RightParen ∷ [])
eval-end-stands modules kind s k text p (bare_at stands u) = absurd-of stands
eval-end-stands modules kind s k _ p (over_frames {before = before} u o (before_end {ts = ts} takes d)) =
    stands-text modules kind (closed_line s k) (before ++ (ts ++ sign p signs.RightParen ∷ [])) (before ++ ts ++ sign p signs.RightParen ∷ []) (simp append_assoc)
    (statement-closes modules kind s k before (ts ++ sign p signs.RightParen ∷ []) takes u (d p))

-- what follows where an expression has ended a statement or a payload
end-mode : (modules : Modules) (kind : Kind) (mode : Mode) (k : List Frame) (text : List Token) (p : Place) (what : TokenKind) → Standing modules kind mode k text
    → Stands modules kind (after_end_at mode k what) (text ++ token p what ∷ [])
end-mode modules kind modes.Closed k text p what s = closed-stands modules kind k text p what s
end-mode modules kind (modes.PayloadEnd l) k text p (kinds.Sign signs.RightParen) s = payload-end-stands modules kind l k text p s
end-mode modules kind mode k text p what s = tt

pub end-stands : (modules : Modules) (kind : Kind) (s : Option State) (text : List Token) (p : Place) (what : TokenKind) → Stands modules kind s text
    → Stands modules kind (after_end s what) (text ++ token p what ∷ [])
end-stands modules kind None text p what s = tt
end-stands modules kind (Some s) text p what d = end-mode modules kind s.mode s.frames text p what d

-- An operand begins a statement or a payload.
pub items-define : (k : List Frame) → takes_items k ≡ true → takes_definition k ≡ true
items-define (frames.Items root is ∷ k) h = refl
items-define k h = absurd-of h

pub lines-value : (k : List Frame) → takes_lines k ≡ true → takes_value k ≡ true
lines-value (frames.Block o ss ∷ k) h = refl
lines-value (frames.Items root is ∷ k) h = refl
lines-value k h = absurd-of h

pub value-opens : (modules : Modules) (k : List Frame) (ts : List Token) → takes_value k ≡ true → Opens modules k ts → Opens modules (frames.Hole purposes.Value ∷ k) ts
value-opens modules (frames.Payload m quoted ∷ k) ts h o = o
value-opens modules (frames.Block b ss ∷ k) ts h o = o
value-opens modules (frames.Items root is ∷ k) ts h o = o
value-opens modules k ts h o = absurd-of h

pub opens-value : (modules : Modules) (k : List Frame) (ts : List Token) → takes_value k ≡ true → Opens modules (frames.Hole purposes.Value ∷ k) ts → Opens modules k ts
opens-value modules (frames.Payload m quoted ∷ k) ts h o = o
opens-value modules (frames.Block b ss ∷ k) ts h o = o
opens-value modules (frames.Items root is ∷ k) ts h o = o
opens-value modules k ts h o = absurd-of h

pub value-begins : (modules : Modules) (kind : Kind) (k : List Frame) (before : List Token) (p : Place) (what : TokenKind) → takes_value k ≡ true
    → Under modules kind k before → Opens modules k (token p what ∷ [])
    → Stands modules kind (operand (frames.Hole purposes.Value ∷ k) p what) (before ++ token p what ∷ [])
value-begins modules kind k before p what takes u o =
    operand-stands modules kind (frames.Hole purposes.Value ∷ k) before p what (at_value takes u) refl (value-opens modules k (token p what ∷ []) takes o) (λ q. tt)

-- a statement or an item begins
word-begins : (modules : Modules) (kind : Kind) (k : List Frame) (before : List Token) (p : Place) (w : Word) → takes_lines k ≡ true
    → Under modules kind k before → Stands modules kind (line_word k p w) (before ++ word p w ∷ [])
word-begins modules kind k before p words.If takes u = bare_at refl (under u (lines-open modules k (word p words.If ∷ []) takes) (hole_begun (asks (an_if p takes))))
word-begins modules kind k before p words.While takes u = bare_at refl (under u (lines-open modules k (word p words.While ∷ []) takes) (hole_begun (repeats p takes)))
word-begins modules kind k before p words.For takes u = over_frames u (lines-open modules k (word p words.For ∷ []) takes) (has_for p takes)
word-begins modules kind k before p words.Break takes u = statement-closes modules kind _ k before _ takes u (break p)
word-begins modules kind k before p words.Continue takes u = statement-closes modules kind _ k before _ takes u («continue» p)
word-begins modules kind k before p words.Return takes u = over_frames u (lines-open modules k (word p words.Return ∷ []) takes) (has_return p takes)
word-begins modules kind k before p words.Global takes u = over_frames u (lines-open modules k (word p words.Global ∷ []) takes) (has_global p takes)
word-begins modules kind k before p words.Struct takes u =
    guard-stands modules kind (takes_items k) _ _ (λ h. over_frames u (lines-open modules k (word p words.Struct ∷ []) takes) (has_struct p h))
word-begins modules kind k before p words.Function takes u =
    guard-stands modules kind (takes_items k) _ _ (λ h. bare_at refl (under u (lines-open modules k (word p words.Function ∷ []) takes) (function_begun p (items-define k h))))
word-begins modules kind k before p words.Const takes u =
    guard-stands modules kind (takes_items k) _ _ (λ h. over_frames u (lines-open modules k (word p words.Const ∷ []) takes) (has_const p h))
word-begins modules kind k before p words.Using takes u =
    guard-stands modules kind (takes_uses k) _ _ (λ h. over_frames u (lines-open modules k (word p words.Using ∷ []) takes) (wants_use p h no_names))
word-begins modules kind k before p words.True takes u = value-begins modules kind k before p (kinds.Reserved words.True) (lines-value k takes) u (lines-open modules k (word p words.True ∷ []) takes)
word-begins modules kind k before p words.False takes u = value-begins modules kind k before p (kinds.Reserved words.False) (lines-value k takes) u (lines-open modules k (word p words.False ∷ []) takes)
word-begins modules kind k before p words.Nothing takes u = value-begins modules kind k before p (kinds.Reserved words.Nothing) (lines-value k takes) u (lines-open modules k (word p words.Nothing ∷ []) takes)
word-begins modules kind k before p w takes u = ending-stands modules kind k before p (kinds.Reserved w) (list-ended takes u)

pub line-stands : (modules : Modules) (kind : Kind) (k : List Frame) (before : List Token) (p : Place) (what : TokenKind) → takes_lines k ≡ true
    → Under modules kind k before → Stands modules kind (line k p what) (before ++ token p what ∷ [])
line-stands modules kind k before p (kinds.Reserved w) takes u = word-begins modules kind k before p w takes u
line-stands modules kind k before p kinds.AtEval takes u = bare_at refl (under u (lines-open modules k (token p kinds.AtEval ∷ []) takes) (eval_begun p takes))
line-stands modules kind k before p kinds.Separator takes u = blank-stands modules kind k before p takes u
line-stands modules kind k before p kinds.Eof takes u = ending-stands modules kind k before p kinds.Eof (list-ended takes u)
line-stands modules kind k before p what takes u = value-begins modules kind k before p what (lines-value k takes) u (lines-open modules k (token p what ∷ []) takes)
