-- Statements, items and what `@eval` evaluates end, and keep what has been read.
use Rattle.pj_grammar.proofs.Begun.{IfBegun, Opens, Under, an_else_if, an_if, branch_begun, eval_begun, eval_in_begun, quoted_begun, takes_value, under}
use Rattle.pj_grammar.proofs.Levels.{absurd-of}
use Rattle.pj_grammar.proofs.Operating.{stands-text}
use Rattle.pj_grammar.proofs.Standing.{Stands, before_ends, entry_closed, line_closed, over_frames}
use Rattle.pj_grammar.specs.Closing.{closed_entry, closed_evaluated, closed_line, closed_method, closed_value}
use Rattle.pj_grammar.specs.Expressions.{Reads}
use Rattle.pj_grammar.specs.Frames.{at, takes_items, takes_lines}
use Rattle.pj_grammar.specs.Makers.{Entry, Evaluated, Method, eval_of, if_of, method_defined, one_line, value_of}
use Rattle.pj_grammar.specs.Modules.{Modules}
use Rattle.pj_grammar.specs.Statements.{Block, Defines, Otherwise, Payload, Statement, begins_with_module, definition, else_if, eval, eval_in, eval_quoted, if_, only, opens_directly, value}
use Rattle.pj_grammar.specs.Texts.{Item, Kind, method, run}
use Rattle.pj_grammar.specs.Tokens.{Place, name, separator, sign, spot, token, word}
use Rattle.pj_grammar.specs.declared.frame.Frame.{Frame}
use Rattle.pj_grammar.specs.declared.node.Line.{Line}
use Rattle.pj_grammar.specs.declared.node.Lines.{Lines}
use Rattle.pj_grammar.specs.declared.node.Node.{Node}
use Rattle.pj_lex.specs.declared.token.Token.{Token}
use Rattle.std.proofs.Common.{Bool, List, None, Some, [], codes, false, not, refl, subst, true, ◌++◌, ◌∷◌, ◌≡◌}
use Rattle.std.proofs.lemmas.List.{append-nil, append_assoc}
use Rattle.pj_grammar.specs.declared.frame.Frame.TheVariants as frames
use Rattle.pj_lex.specs.declared.token.TokenKind.TheVariants as kinds
use Rattle.pj_grammar.specs.declared.level.Level.TheVariants as levels
use Rattle.pj_grammar.specs.declared.mode.Mode.TheVariants as modes
use Rattle.pj_lex.specs.declared.sign.Sign.TheVariants as signs
use Rattle.pj_words.specs.declared.word.Word.TheVariants as words

pub lines-open : (modules : Modules) (k : List Frame) (ts : List Token) → takes_lines k ≡ true → Opens modules k ts
lines-open modules (frames.Block o ss ∷ k) ts h = λ more. refl
lines-open modules (frames.Items root is ∷ k) ts h = λ more. refl
lines-open modules k ts h = absurd-of h

-- a statement ends
pub statement-closes : (modules : Modules) (kind : Kind) (s : Line) (k : List Frame) (before ts : List Token) → takes_lines k ≡ true
    → Under modules kind k before → Statement modules ts s → Stands modules kind (closed_line s k) (before ++ ts)
unfolding closed_line
statement-closes modules kind s (frames.Block o ss ∷ k) before ts takes u d = line_closed u d
statement-closes modules kind s (frames.Items root is ∷ k) before ts takes u d = entry_closed u (run d)
statement-closes modules kind s k before ts takes u d = absurd-of takes

-- an item ends
pub entry-closes : (modules : Modules) (kind : Kind) (i : Entry) (k : List Frame) (before ts : List Token) → Under modules kind k before
    → (takes_items k ≡ true → Item modules kind ts i) → Stands modules kind (closed_entry i k) (before ++ ts)
entry-closes modules kind i (frames.Items root is ∷ k) before ts u d = entry_closed u (d refl)
entry-closes modules kind i k before ts u d = tt

-- an `if` ends, and those before its `elseif`
pub if-closes : (modules : Modules) (kind : Kind) (c : Node) (a b : Lines) (k : List Frame) (before ts us vs : List Token) (w : Token) (q : Place)
    → Under modules kind k before → IfBegun k w → Reads modules levels.Conditional ts c → Block modules us a → Otherwise modules vs b
    → Stands modules kind (closed_line (if_of c a b) k) (before ++ w ∷ (ts ++ separator q ∷ (us ++ vs)))
unfolding closed_line
if-closes modules kind c a b (frames.Branch e ss ∷ k) _ ts us vs _ q (under {before = r} u o (branch_begun {ts = cs} {us = ls} {w = w} s i d f)) (an_else_if p) g h l =
    stands-text modules kind (closed_line (if_of e ss (one_line (if_of c a b))) k) (r ++ w ∷ (cs ++ separator s ∷ (ls ++ word p words.ElseIf ∷ (ts ++ separator q ∷ (us ++ vs)))))
    ((r ++ w ∷ (cs ++ separator s ∷ ls)) ++ word p words.ElseIf ∷ (ts ++ separator q ∷ (us ++ vs)))
    (simp append_assoc)
    (if-closes modules kind e ss (one_line (if_of c a b)) k r cs ls _ w s u i d f (else_if p q g h l))
if-closes modules kind c a b k before ts us vs _ q u (an_if p takes) d e f = statement-closes modules kind _ k before _ takes u (if_ p q d e f)

-- what `@eval` evaluates ends
pub not-true : (b : Bool) → not b ≡ true → b ≡ false
not-true true h = cc
not-true false h = refl

pub evaluated-closes : (modules : Modules) (kind : Kind) (y : Evaluated) (k : List Frame) (before ts : List Token) → Under modules kind k before
    → Opens modules k ts → Payload modules ts y → Stands modules kind (closed_evaluated y k) (before ++ ts)
evaluated-closes modules kind y (frames.Payload m quoted ∷ k) _ ts (under {before = b} u o (eval_begun p takes)) opened d =
    stands-text modules kind (closed_line (eval_of None y) k) (b ++ token p kinds.AtEval ∷ ts) ((b ++ token p kinds.AtEval ∷ []) ++ ts) (simp append_assoc)
    (statement-closes modules kind _ k b _ takes u (eval p (subst (λ l. begins_with_module modules l ≡ false) (append-nil ts) (not-true _ (opened []))) d))
evaluated-closes modules kind y (frames.Payload m quoted ∷ k) _ ts (under {before = b} u o (eval_in_begun p q x takes is)) opened d =
    stands-text modules kind (closed_line (eval_of (Some (spot q x)) y) k) (b ++ token p kinds.AtEval ∷ name q x ∷ ts) ((b ++ token p kinds.AtEval ∷ name q x ∷ []) ++ ts) (simp append_assoc)
    (statement-closes modules kind _ k b _ takes u (eval_in p q x is (subst (λ l. opens_directly l ≡ false) (append-nil ts) (not-true _ (opened []))) d))
evaluated-closes modules kind y (frames.Payload m quoted ∷ k) _ ts (under {before = b} u o (quoted_begun p q r s takes)) opened d =
    stands-text modules kind (at (modes.PayloadEnd (eval_of None y)) k)
    (b ++ name p (codes "eval") ∷ sign q signs.LeftParen ∷ sign r signs.Colon ∷ sign s signs.LeftParen ∷ ts)
    ((b ++ name p (codes "eval") ∷ sign q signs.LeftParen ∷ sign r signs.Colon ∷ sign s signs.LeftParen ∷ []) ++ ts) (simp append_assoc)
    (over_frames u (lines-open modules k (name p (codes "eval") ∷ sign q signs.LeftParen ∷ sign r signs.Colon ∷ sign s signs.LeftParen ∷ ts) takes) (before_ends takes (λ c e. eval_quoted p q r s c e d)))
evaluated-closes modules kind y k before ts u opened d = tt

-- a method, a value and an assignment end
pub method-closes : (modules : Modules) (kind : Kind) (f : Method) (k : List Frame) (before ts : List Token) → Under modules kind k before
    → Opens modules k ts → Defines modules ts f → Stands modules kind (closed_method f k) (before ++ ts)
method-closes modules kind f (frames.Payload m quoted ∷ k) before ts u o d = evaluated-closes modules kind _ _ before ts u o (definition d)
method-closes modules kind f k before ts u o d = entry-closes modules kind (method_defined f) k before ts u (λ _. method d)

pub value-closes : (modules : Modules) (kind : Kind) (e : Node) (k : List Frame) (before ts : List Token) → takes_value k ≡ true → Under modules kind k before
    → Opens modules k ts → Reads modules levels.Conditional ts e → Stands modules kind (closed_value e k) (before ++ ts)
value-closes modules kind e (frames.Payload m quoted ∷ k) before ts takes u o d = evaluated-closes modules kind _ _ before ts u o (only d)
value-closes modules kind e k before ts takes u o d = statement-closes modules kind (value_of e) k before ts takes u (value d)
