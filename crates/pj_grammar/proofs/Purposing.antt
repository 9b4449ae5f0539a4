-- An expression ends, and what it was for keeps what has been read.
use Rattle.pj_grammar.proofs.Begun.{AssignBegun, Opened, Opens, Under, asks, assign_begun, assigns, at_value, binds, block_begun, defines, for_opened, from, global_begun, hole_begun, if_opened, no_line, repeats, returns, sets_const, short_begun, to, under, while_opened}
use Rattle.pj_grammar.proofs.Ending.{entry-closes, evaluated-closes, lines-open, method-closes, statement-closes, value-closes}
use Rattle.pj_grammar.proofs.Levels.{absurd-of}
use Rattle.pj_grammar.proofs.Lining.{end-stands, opens-value}
use Rattle.pj_grammar.proofs.Operating.{stands-text}
use Rattle.pj_grammar.proofs.Settling.{opens-more}
use Rattle.pj_grammar.proofs.Standing.{Stands, bare_at}
use Rattle.pj_grammar.specs.Closing.{after_end, closed_entry, closed_evaluated, closed_line, closed_method, closed_set, closed_value}
use Rattle.pj_grammar.specs.Expressions.{Reads}
use Rattle.pj_grammar.specs.Frames.{State, at, purpose_level, takes_lines}
use Rattle.pj_grammar.specs.Makers.{assign_of, const_of, no_lines, return_of, set_evaluated, short_method}
use Rattle.pj_grammar.specs.Modules.{Modules}
use Rattle.pj_grammar.specs.Operands.{after_purpose}
use Rattle.pj_grammar.specs.Statements.{Statement, assign, assigning, global, operator_at, return_value, set, short}
use Rattle.pj_grammar.specs.Texts.{Kind, const}
use Rattle.pj_grammar.specs.Tokens.{Place, name, separator, sign, spot, token, word}
use Rattle.pj_grammar.specs.declared.frame.Frame.{Frame}
use Rattle.pj_grammar.specs.declared.frame.Opener.{Opener}
use Rattle.pj_grammar.specs.declared.frame.Purpose.{Purpose}
use Rattle.pj_grammar.specs.declared.frame.Target.{Target}
use Rattle.pj_grammar.specs.declared.level.Operator.{Operator}
use Rattle.pj_grammar.specs.declared.node.Line.{Line}
use Rattle.pj_grammar.specs.declared.node.Node.{Node}
use Rattle.pj_lex.specs.declared.sign.Sign.{Sign}
use Rattle.pj_lex.specs.declared.token.Token.{Token}
use Rattle.pj_lex.specs.declared.token.TokenKind.{TokenKind}
use Rattle.std.proofs.Common.{List, Option, Some, [], ap, refl, subst, sym, true, ◌++◌, ◌∙◌, ◌∷◌, ◌≡◌}
use Rattle.std.proofs.lemmas.List.{append-nil, append_assoc}
use Rattle.pj_grammar.specs.declared.frame.Frame.TheVariants as frames
use Rattle.pj_lex.specs.declared.token.TokenKind.TheVariants as kinds
use Rattle.pj_grammar.specs.declared.level.Level.TheVariants as levels
use Rattle.pj_grammar.specs.declared.mode.Mode.TheVariants as modes
use Rattle.pj_grammar.specs.declared.frame.Opener.TheVariants as openers
use Rattle.pj_grammar.specs.declared.frame.Purpose.TheVariants as purposes
use Rattle.pj_lex.specs.declared.sign.Sign.TheVariants as signs
use Rattle.pj_grammar.specs.declared.frame.Target.TheVariants as targets
use Rattle.pj_words.specs.declared.word.Word.TheVariants as words

set-line : (target : Target) (o : Option Operator) (e : Node) (k : List Frame) → takes_lines k ≡ true → closed_set target o e k ≡ closed_line (assign_of target o e) k
set-line (targets.Local x) o e (frames.Block b ss ∷ k) h = refl
set-line (targets.Local x) o e (frames.Items root is ∷ k) h = refl
set-line (targets.Local x) o e k h = absurd-of h
set-line (targets.Field a f) o e k h = refl
set-line (targets.Global a x) o e k h = refl

-- a statement ends behind its expression
statement-ends : (modules : Modules) (kind : Kind) (s : Option State) (l : Line) (k : List Frame) (before ts us mine : List Token) (p : Place) (what : TokenKind) → takes_lines k ≡ true
    → Under modules kind k before → s ≡ closed_line l k → Statement modules us l → us ≡ ts ++ mine
    → Stands modules kind (after_end s what) ((before ++ ts) ++ mine ++ token p what ∷ [])
statement-ends modules kind s l k before ts us mine p what takes u is d e =
    end-stands modules kind s ((before ++ ts) ++ mine) p what
    (subst (λ x. Stands modules kind x ((before ++ ts) ++ mine)) (sym is)
    (stands-text modules kind (closed_line l k) (before ++ us) ((before ++ ts) ++ mine) (ap (λ x. before ++ x) e ∙ sym (append_assoc before ts mine))
    (statement-closes modules kind l k before us takes u d)))

assign-ends : (modules : Modules) (kind : Kind) (target : Target) (o : Option Sign) (e : Node) (k : List Frame) (before ts mine : List Token) (q p : Place) (s : Sign) (what : TokenKind)
    → takes_lines k ≡ true → Under modules kind k before → AssignBegun modules target ts → assigning s ≡ Some o → Reads modules levels.Conditional mine e
    → Stands modules kind (after_end (closed_set target (operator_at q.start o) e k) what) ((before ++ (ts ++ sign q s ∷ [])) ++ mine ++ token p what ∷ [])
assign-ends modules kind target o e k before ts mine q p s what takes u (assign_begun a) is d =
    statement-ends modules kind (closed_set target (operator_at q.start o) e k) (assign_of target (operator_at q.start o) e) k before (ts ++ sign q s ∷ []) (ts ++ sign q s ∷ mine) mine p what
    takes u (set-line target (operator_at q.start o) e k takes) (assign q s a is d) (sym (append_assoc ts (sign q s ∷ []) mine))
assign-ends modules kind _ o e k before _ mine q p s what takes u (global_begun g r x) is d =
    statement-ends modules kind (closed_line (assign_of (targets.Global g.start (spot r x)) (operator_at q.start o) e) k) (assign_of (targets.Global g.start (spot r x)) (operator_at q.start o) e) k before
    (word g words.Global ∷ name r x ∷ sign q s ∷ []) (word g words.Global ∷ name r x ∷ sign q s ∷ mine) mine p what
    takes u refl (global g r q x s is d) refl

-- the head of a block ends with a separator
block-opens : (modules : Modules) (kind : Kind) (o : Opener) (k : List Frame) (before ts us mine : List Token) (p : Place) → Under modules kind k before
    → Opens modules k ts → Opened modules o k us → us ≡ ts ++ (mine ++ separator p ∷ [])
    → Stands modules kind (at modes.Line (frames.Block o no_lines ∷ k)) ((before ++ ts) ++ mine ++ separator p ∷ [])
block-opens modules kind o k before ts us mine p u opened d e =
    stands-text modules kind (at modes.Line (frames.Block o no_lines ∷ k)) (before ++ (us ++ [])) ((before ++ ts) ++ mine ++ separator p ∷ [])
    (ap (λ x. before ++ x) (append-nil us ∙ e) ∙ sym (append_assoc before ts (mine ++ separator p ∷ [])) ∙ sym (append_assoc (before ++ ts) mine (separator p ∷ [])))
    (bare_at refl (under u (opens-more modules k ts (mine ++ separator p ∷ []) (us ++ []) opened (sym (append-nil us ∙ e))) (block_begun d no_line)))

pub purpose-stands : (modules : Modules) (kind : Kind) (purpose : Purpose) (e : Node) (k : List Frame) (before mine : List Token) (p : Place) (what : TokenKind)
    → Under modules kind (frames.Hole purpose ∷ k) before → Opens modules (frames.Hole purpose ∷ k) mine → Reads modules (purpose_level purpose) mine e
    → Stands modules kind (after_purpose purpose e k what) (before ++ mine ++ token p what ∷ [])
purpose-stands modules kind _ e k before mine p what (at_value takes u) o d =
    end-stands modules kind (closed_value e k) (before ++ mine) p what (value-closes modules kind e k before mine takes u (opens-value modules k mine takes o) d)
purpose-stands modules kind _ e k _ mine p what (under {before = b} u opened (hole_begun (assigns {ts = ts} {target = target} {o = o} q s takes a is))) _ d =
    assign-ends modules kind target o e k b ts mine q p s what takes u a is d
purpose-stands modules kind _ e _ _ mine p what (under {before = b} u opened (hole_begun (binds {m = m} {quoted = quoted} {k = k} q r x))) _ d =
    end-stands modules kind (closed_evaluated (set_evaluated (spot q x) e) (frames.Payload m quoted ∷ k)) ((b ++ name q x ∷ sign r signs.Assign ∷ []) ++ mine) p what
    (stands-text modules kind (closed_evaluated (set_evaluated (spot q x) e) (frames.Payload m quoted ∷ k)) (b ++ name q x ∷ sign r signs.Assign ∷ mine) ((b ++ name q x ∷ sign r signs.Assign ∷ []) ++ mine) (simp append_assoc)
    (evaluated-closes modules kind _ _ b _ u (opens-more modules (frames.Payload m quoted ∷ k) (name q x ∷ sign r signs.Assign ∷ []) mine (name q x ∷ sign r signs.Assign ∷ mine) opened refl) (set q r x d)))
purpose-stands modules kind _ e k _ mine p what (under {before = b} u opened (hole_begun (returns q takes))) _ d =
    statement-ends modules kind (closed_line (return_of q.start e) k) (return_of q.start e) k b (word q words.Return ∷ []) (word q words.Return ∷ mine) mine p what takes u refl (return_value q d) refl
purpose-stands modules kind _ e k _ mine p what (under {before = b} u opened (hole_begun (asks {w = w} i))) _ d = by-kind what
  where
    by-kind : (what : TokenKind) → Stands modules kind (after_purpose purposes.If e k what) ((b ++ w ∷ []) ++ mine ++ token p what ∷ [])
    by-kind kinds.Separator = block-opens modules kind (openers.If e) k b (w ∷ []) (w ∷ (mine ++ separator p ∷ [])) mine p u opened (if_opened p i d) refl
    by-kind what = tt
purpose-stands modules kind _ e k _ mine p what (under {before = b} u opened (hole_begun (repeats q takes))) _ d = by-kind what
  where
    by-kind : (what : TokenKind) → Stands modules kind (after_purpose purposes.While e k what) ((b ++ word q words.While ∷ []) ++ mine ++ token p what ∷ [])
    by-kind kinds.Separator = block-opens modules kind (openers.While e) k b (word q words.While ∷ []) (word q words.While ∷ (mine ++ separator p ∷ [])) mine p u opened (while_opened q p takes d) refl
    by-kind what = tt
purpose-stands modules kind _ e k _ mine p what (under {before = b} u opened (hole_begun (from q r i x takes is))) _ d = by-kind what
  where
    by-sign : (s : Sign) → Stands modules kind (after_purpose (purposes.From (spot r x)) e k (kinds.Sign s)) ((b ++ word q words.For ∷ name r x ∷ i ∷ []) ++ mine ++ sign p s ∷ [])
    by-sign signs.Colon =
        stands-text modules kind (at modes.Want (frames.Hole (purposes.To (spot r x) e) ∷ k)) (b ++ word q words.For ∷ name r x ∷ i ∷ (mine ++ sign p signs.Colon ∷ []))
        ((b ++ word q words.For ∷ name r x ∷ i ∷ []) ++ mine ++ sign p signs.Colon ∷ []) (simp append_assoc)
        (bare_at refl (under u (lines-open modules k (word q words.For ∷ name r x ∷ i ∷ (mine ++ sign p signs.Colon ∷ [])) takes) (hole_begun (to q r p i x takes is d))))
    by-sign s = tt

    by-kind : (what : TokenKind) → Stands modules kind (after_purpose (purposes.From (spot r x)) e k what) ((b ++ word q words.For ∷ name r x ∷ i ∷ []) ++ mine ++ token p what ∷ [])
    by-kind (kinds.Sign s) = by-sign s
    by-kind what = tt
purpose-stands modules kind _ e k _ mine p what (under {before = b} u opened (hole_begun (to {ts = ts} {a = a} q r c i x takes is first))) _ d = by-kind what
  where
    by-kind : (what : TokenKind) → Stands modules kind (after_purpose (purposes.To (spot r x) a) e k what)
        ((b ++ word q words.For ∷ name r x ∷ i ∷ (ts ++ sign c signs.Colon ∷ [])) ++ mine ++ token p what ∷ [])
    by-kind kinds.Separator =
        block-opens modules kind (openers.For (spot r x) a e) k b (word q words.For ∷ name r x ∷ i ∷ (ts ++ sign c signs.Colon ∷ []))
        (word q words.For ∷ name r x ∷ i ∷ (ts ++ sign c signs.Colon ∷ (mine ++ separator p ∷ []))) mine p u opened (for_opened q r c p i x takes is first d) (simp append_assoc)
    by-kind what = tt
purpose-stands modules kind _ e k _ mine p what (under {before = b} u opened (hole_begun (sets_const q r s x takes))) _ d =
    end-stands modules kind (closed_entry (const_of (spot r x) e) k) ((b ++ word q words.Const ∷ name r x ∷ sign s signs.Assign ∷ []) ++ mine) p what
    (stands-text modules kind (closed_entry (const_of (spot r x) e) k) (b ++ word q words.Const ∷ name r x ∷ sign s signs.Assign ∷ mine)
    ((b ++ word q words.Const ∷ name r x ∷ sign s signs.Assign ∷ []) ++ mine) (simp append_assoc)
    (entry-closes modules kind (const_of (spot r x) e) k b _ u (λ _. const q r s x d)))
purpose-stands modules kind _ e k _ mine p what (under {before = b} u opened (hole_begun (defines {us = us} {f = f} {ps = ps} q takes (short_begun {ts = ts} s callee direct) params))) _ d =
    end-stands modules kind (closed_method (short_method f ps e) k) ((b ++ ((ts ++ sign s signs.LeftParen ∷ []) ++ (us ++ sign q signs.Assign ∷ []))) ++ mine) p what
    (stands-text modules kind (closed_method (short_method f ps e) k) (b ++ (ts ++ sign s signs.LeftParen ∷ (us ++ sign q signs.Assign ∷ mine)))
    ((b ++ ((ts ++ sign s signs.LeftParen ∷ []) ++ (us ++ sign q signs.Assign ∷ []))) ++ mine) (simp append_assoc)
    (method-closes modules kind _ k b _ u
    (opens-more modules k ((ts ++ sign s signs.LeftParen ∷ []) ++ (us ++ sign q signs.Assign ∷ [])) mine (ts ++ sign s signs.LeftParen ∷ (us ++ sign q signs.Assign ∷ mine)) opened (simp append_assoc))
    (short s q callee direct params d)))
