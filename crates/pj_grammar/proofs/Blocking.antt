-- The end of a block, and of the items of a text, behind what has been read of them.
use Rattle.pj_grammar.proofs.Begun.{Opened, Opens, RootBegun, Under, an_else_if, asks, block_begun, branch_begun, else_opened, for_opened, function_opened, hole_begun, if_opened, items_begun, long_begun, no_line, nothing, package_begun, script_begun, under, while_opened}
use Rattle.pj_grammar.proofs.Ending.{if-closes, method-closes, statement-closes}
use Rattle.pj_grammar.proofs.Levels.{absurd-of}
use Rattle.pj_grammar.proofs.Listing.{items-end, items-last, lines-end, lines-last}
use Rattle.pj_grammar.proofs.Operating.{stands-text}
use Rattle.pj_grammar.proofs.Settling.{opens-more}
use Rattle.pj_grammar.proofs.Standing.{Stands, bare_at, package_ended, text_ended}
use Rattle.pj_grammar.specs.Closing.{accept_script, close_block, closed_line, closed_method, ending, open_else, open_else_if}
use Rattle.pj_grammar.specs.Frames.{at, takes_lines}
use Rattle.pj_grammar.specs.Makers.{Entry, entry_after, for_of, if_of, line_after, method_of, no_lines, while_of}
use Rattle.pj_grammar.specs.Modules.{Modules}
use Rattle.pj_grammar.specs.Statements.{Block, Statement, else, end, for, long, while}
use Rattle.pj_grammar.specs.Texts.{Ends, Item, Items, Kind, is_script, package_ends, text_ends, «package»}
use Rattle.pj_grammar.specs.Tokens.{Place, name, separator, sign, spot, token, word}
use Rattle.pj_grammar.specs.declared.frame.Frame.{Frame}
use Rattle.pj_grammar.specs.declared.frame.Opener.{Opener}
use Rattle.pj_grammar.specs.declared.frame.Root.{Root}
use Rattle.pj_grammar.specs.declared.node.Entries.{Entries}
use Rattle.pj_grammar.specs.declared.node.Line.{Line}
use Rattle.pj_grammar.specs.declared.node.Lines.{Lines}
use Rattle.pj_lex.specs.declared.token.Token.{Token}
use Rattle.pj_lex.specs.declared.token.TokenKind.{TokenKind}
use Rattle.pj_words.specs.declared.word.Word.{Word}
use Rattle.std.proofs.Common.{List, [], refl, subst, sym, true, ◌++◌, ◌∷◌, ◌≡◌}
use Rattle.std.proofs.lemmas.List.{append-nil, append_assoc}
use Rattle.pj_grammar.specs.declared.frame.Frame.TheVariants as frames
use Rattle.pj_lex.specs.declared.token.TokenKind.TheVariants as kinds
use Rattle.pj_grammar.specs.declared.mode.Mode.TheVariants as modes
use Rattle.pj_grammar.specs.declared.frame.Opener.TheVariants as openers
use Rattle.pj_grammar.specs.declared.frame.Purpose.TheVariants as purposes
use Rattle.pj_grammar.specs.declared.frame.Root.TheVariants as roots
use Rattle.pj_lex.specs.declared.sign.Sign.TheVariants as signs
use Rattle.pj_words.specs.declared.word.Word.TheVariants as words

-- a block whose last statement has ended, if it has one; the items of a text, whatever ends them
pub data Ended (modules : Modules) (kind : Kind) : List Frame → List Token → Type 0 where
  block_ended : {o : Opener} {ss : Lines} {k : List Frame} {before ts us : List Token} → Under modules kind k before → Opens modules k (ts ++ us)
      → Opened modules o k ts → Block modules us ss → Ended modules kind (frames.Block o ss ∷ k) (before ++ (ts ++ us))
  items_ended : {root : Root} {is : Entries} {ts : List Token} (us : List Token) → RootBegun root kind ts
      → ((es : List Token) → Ends kind es → Items modules kind (us ++ es) is) → Ended modules kind (frames.Items root is ∷ []) (ts ++ us)

-- nothing has been read below all frames
pub bottom : {modules : Modules} {kind : Kind} {before : List Token} → Under modules kind [] before → before ≡ []
bottom nothing = refl

pub list-ended : {modules : Modules} {kind : Kind} {k : List Frame} {before : List Token} → takes_lines k ≡ true → Under modules kind k before
    → Ended modules kind k before
list-ended {k = frames.Block o ss ∷ k} takes (under u opened (block_begun head lines)) = block_ended u opened head (lines-end lines)
list-ended {modules} {kind} {k = frames.Items root is ∷ k} takes (under u opened (items_begun {ts = ts} {us = us} head list)) =
    subst (λ l. Ended modules kind (frames.Items root is ∷ []) (l ++ (ts ++ us))) (sym (bottom u)) (items_ended us head (λ es ends. items-end list ends))
list-ended takes u = absurd-of takes

pub line-ended : {modules : Modules} {kind : Kind} {o : Opener} {ss : Lines} {k : List Frame} {before mine : List Token} {s : Line}
    → Under modules kind (frames.Block o ss ∷ k) before → Statement modules mine s → Ended modules kind (frames.Block o (line_after ss s) ∷ k) (before ++ mine)
line-ended {modules} {kind} {o} {ss} {k} {mine = mine} {s = s} (under {before = b} u opened (block_begun {ts = ts} {us = us} head lines)) d =
    subst (λ l. Ended modules kind (frames.Block o (line_after ss s) ∷ k) l) (simp append_assoc)
    (block_ended {before = b} {ts = ts} {us = us ++ mine} u (opens-more modules k (ts ++ us) mine (ts ++ (us ++ mine)) opened (append_assoc ts us mine)) head (lines-last lines d))

pub item-ended : {modules : Modules} {kind : Kind} {root : Root} {is : Entries} {k : List Frame} {before mine : List Token} {i : Entry}
    → Under modules kind (frames.Items root is ∷ k) before → Item modules kind mine i → Ended modules kind (frames.Items root (entry_after is i) ∷ k) (before ++ mine)
item-ended {modules} {kind} {root} {is} {k} {mine = mine} {i = i} (under u opened (items_begun {ts = ts} {us = us} head list)) d =
    subst (λ l. Ended modules kind (frames.Items root (entry_after is i) ∷ []) (l ++ (ts ++ us) ++ mine)) (sym (bottom u))
    (subst (λ l. Ended modules kind (frames.Items root (entry_after is i) ∷ []) l) (sym (append_assoc ts us mine))
    (items_ended {ts = ts} (us ++ mine) head (λ es ends. items-last list d ends)))

-- `end`
block-ends : (modules : Modules) (kind : Kind) (o : Opener) (ss : Lines) (k : List Frame) (before ts us : List Token) (p : Place) → Under modules kind k before
    → Opens modules k (ts ++ us) → Opened modules o k ts → Block modules us ss
    → Stands modules kind (close_block (frames.Block o ss ∷ k)) (before ++ (ts ++ us) ++ word p words.End ∷ [])
block-ends modules kind _ ss k before _ us p u opened (if_opened {ts = cs} {c = c} {w = w} q i d) body =
    stands-text modules kind (closed_line (if_of c ss no_lines) k) (before ++ w ∷ (cs ++ separator q ∷ (us ++ word p words.End ∷ [])))
    (before ++ ((w ∷ (cs ++ separator q ∷ [])) ++ us) ++ word p words.End ∷ []) (simp append_assoc)
    (if-closes modules kind c ss no_lines k before cs us _ w q u i d body (end p))
block-ends modules kind _ ss k before _ us p u opened (else_opened {ts = cs} {us = ls} {c = c} {b = b} {w = w} q r i d first) body =
    stands-text modules kind (closed_line (if_of c b ss) k) (before ++ w ∷ (cs ++ separator q ∷ (ls ++ (word r words.Else ∷ (us ++ word p words.End ∷ [])))))
    (before ++ ((w ∷ (cs ++ separator q ∷ (ls ++ word r words.Else ∷ []))) ++ us) ++ word p words.End ∷ []) (simp append_assoc)
    (if-closes modules kind c b ss k before cs ls _ w q u i d first (else r p body))
block-ends modules kind _ ss k before _ us p u opened (while_opened {ts = cs} {c = c} q r takes d) body =
    stands-text modules kind (closed_line (while_of c ss) k) (before ++ word q words.While ∷ (cs ++ separator r ∷ (us ++ word p words.End ∷ [])))
    (before ++ ((word q words.While ∷ (cs ++ separator r ∷ [])) ++ us) ++ word p words.End ∷ []) (simp append_assoc)
    (statement-closes modules kind _ k before _ takes u (while q r p d body))
block-ends modules kind _ ss k before _ us p u opened (for_opened {ts = cs} {us = ds} {a = a} {b = b} q r c e i x takes is d f) body =
    stands-text modules kind (closed_line (for_of (spot r x) a b ss) k)
    (before ++ word q words.For ∷ name r x ∷ i ∷ (cs ++ sign c signs.Colon ∷ (ds ++ separator e ∷ (us ++ word p words.End ∷ []))))
    (before ++ ((word q words.For ∷ name r x ∷ i ∷ (cs ++ sign c signs.Colon ∷ (ds ++ separator e ∷ []))) ++ us) ++ word p words.End ∷ []) (simp append_assoc)
    (statement-closes modules kind _ k before _ takes u (for q r c e p i x is d f body))
block-ends modules kind _ ss k before _ us p u opened (function_opened {us = ps} {f = f} {ps = params} takes (long_begun {ts = ts} q r callee direct) ends) body =
    stands-text modules kind (closed_method (method_of f params ss) k)
    (before ++ word q words.Function ∷ (ts ++ sign r signs.LeftParen ∷ (ps ++ (us ++ word p words.End ∷ []))))
    (before ++ (((word q words.Function ∷ (ts ++ sign r signs.LeftParen ∷ [])) ++ ps) ++ us) ++ word p words.End ∷ []) (simp append_assoc)
    (method-closes modules kind _ k before _ u
    (opens-more modules k (((word q words.Function ∷ (ts ++ sign r signs.LeftParen ∷ [])) ++ ps) ++ us) (word p words.End ∷ [])
    (word q words.Function ∷ (ts ++ sign r signs.LeftParen ∷ (ps ++ (us ++ word p words.End ∷ [])))) opened (simp append_assoc))
    (long q r p callee direct ends body))

-- `else` and `elseif`
else-opens : (modules : Modules) (kind : Kind) (o : Opener) (ss : Lines) (k : List Frame) (before ts us : List Token) (p : Place) → Under modules kind k before
    → Opens modules k (ts ++ us) → Opened modules o k ts → Block modules us ss
    → Stands modules kind (open_else (frames.Block o ss ∷ k)) (before ++ (ts ++ us) ++ word p words.Else ∷ [])
else-opens modules kind _ ss k before _ us p u opened (if_opened {ts = cs} {c = c} {w = w} q i d) body =
    stands-text modules kind (at modes.Line (frames.Block (openers.Else c ss) no_lines ∷ k))
    (before ++ ((w ∷ (cs ++ separator q ∷ (us ++ word p words.Else ∷ []))) ++ []))
    (before ++ ((w ∷ (cs ++ separator q ∷ [])) ++ us) ++ word p words.Else ∷ []) (simp (append_assoc, append-nil))
    (bare_at refl (under u
    (opens-more modules k ((w ∷ (cs ++ separator q ∷ [])) ++ us) (word p words.Else ∷ []) ((w ∷ (cs ++ separator q ∷ (us ++ word p words.Else ∷ []))) ++ []) opened (simp (append_assoc, append-nil)))
    (block_begun (else_opened q p i d body) no_line)))
else-opens modules kind _ ss k before _ us p u opened (else_opened q r i d first) body = tt
else-opens modules kind _ ss k before _ us p u opened (while_opened q r takes d) body = tt
else-opens modules kind _ ss k before _ us p u opened (for_opened q r c e i x takes is d f) body = tt
else-opens modules kind _ ss k before _ us p u opened (function_opened takes begun ends) body = tt

else-if-opens : (modules : Modules) (kind : Kind) (o : Opener) (ss : Lines) (k : List Frame) (before ts us : List Token) (p : Place) → Under modules kind k before
    → Opens modules k (ts ++ us) → Opened modules o k ts → Block modules us ss
    → Stands modules kind (open_else_if (frames.Block o ss ∷ k)) (before ++ (ts ++ us) ++ word p words.ElseIf ∷ [])
else-if-opens modules kind _ ss k before _ us p u opened (if_opened {ts = cs} {c = c} {w = w} q i d) body =
    stands-text modules kind (at modes.Want (frames.Hole purposes.If ∷ frames.Branch c ss ∷ k))
    ((before ++ (w ∷ (cs ++ separator q ∷ us))) ++ word p words.ElseIf ∷ [])
    (before ++ ((w ∷ (cs ++ separator q ∷ [])) ++ us) ++ word p words.ElseIf ∷ []) (simp append_assoc)
    (bare_at refl (under (under u
    (subst (λ l. Opens modules k l) (append_assoc (w ∷ cs) (separator q ∷ []) us) opened)
    (branch_begun q i d body)) (λ more. refl) (hole_begun (asks (an_else_if p)))))
else-if-opens modules kind _ ss k before _ us p u opened (else_opened q r i d first) body = tt
else-if-opens modules kind _ ss k before _ us p u opened (while_opened q r takes d) body = tt
else-if-opens modules kind _ ss k before _ us p u opened (for_opened q r c e i x takes is d f) body = tt
else-if-opens modules kind _ ss k before _ us p u opened (function_opened takes begun ends) body = tt

-- the end of a package, and of a script
package-ends : (modules : Modules) (kind : Kind) (root : Root) (is : Entries) (ts us : List Token) (p : Place) → RootBegun root kind ts
    → ((es : List Token) → Ends kind es → Items modules kind (us ++ es) is)
    → Stands modules kind (close_block (frames.Items root is ∷ [])) ((ts ++ us) ++ word p words.End ∷ [])
package-ends modules _ _ is _ us p script_begun list = tt
package-ends modules _ _ is _ us p (package_begun {ts = ts} {us = vs} {names = names} q r s x seps used) list =
    stands-text modules _ (at modes.PackageEnd (frames.Items (roots.Package (spot r x) names) is ∷ []))
    ((ts ++ word q words.Module ∷ name r x ∷ separator s ∷ vs) ++ (us ++ word p words.End ∷ []))
    (((ts ++ word q words.Module ∷ name r x ∷ separator s ∷ vs) ++ us) ++ word p words.End ∷ []) (simp append_assoc)
    (package_ended (package_begun q r s x seps used)
    (record {
      ends = λ ws between e. subst (λ l. Items modules «package» l is) (sym (append_assoc us (word p words.End ∷ []) (ws ++ token e kinds.Eof ∷ [])))
          (list (word p words.End ∷ (ws ++ token e kinds.Eof ∷ [])) (package_ends p e between));
    }))

script-ends : (modules : Modules) (kind : Kind) (root : Root) (is : Entries) (ts us : List Token) (p : Place) → RootBegun root kind ts
    → ((es : List Token) → Ends kind es → Items modules kind (us ++ es) is)
    → Stands modules kind (accept_script (frames.Items root is ∷ [])) ((ts ++ us) ++ token p kinds.Eof ∷ [])
script-ends modules _ _ is _ us p script_begun list = text_ended refl (is_script (list (token p kinds.Eof ∷ []) (text_ends p)))
script-ends modules _ _ is _ us p (package_begun q r s x seps used) list = tt

-- What ends a list of statements or items.
pub ending-stands : (modules : Modules) (kind : Kind) (k : List Frame) (text : List Token) (p : Place) (what : TokenKind) → Ended modules kind k text
    → Stands modules kind (ending k what) (text ++ token p what ∷ [])
ending-stands modules kind _ _ p what (block_ended {o = o} {ss = ss} {k = k} {before = before} {ts = ts} {us = us} u opened head body) = by-kind what
  where
    by-word : (w : Word) → Stands modules kind (ending (frames.Block o ss ∷ k) (kinds.Reserved w)) (before ++ (ts ++ us) ++ word p w ∷ [])
    by-word words.End = block-ends modules kind o ss k before ts us p u opened head body
    by-word words.Else = else-opens modules kind o ss k before ts us p u opened head body
    by-word words.ElseIf = else-if-opens modules kind o ss k before ts us p u opened head body
    by-word w = tt

    by-kind : (what : TokenKind) → Stands modules kind (ending (frames.Block o ss ∷ k) what) (before ++ (ts ++ us) ++ token p what ∷ [])
    by-kind (kinds.Reserved w) = by-word w
    by-kind what = tt
ending-stands modules kind _ _ p what (items_ended {root = root} {is = is} {ts = ts} us head list) = by-kind what
  where
    by-word : (w : Word) → Stands modules kind (ending (frames.Items root is ∷ []) (kinds.Reserved w)) ((ts ++ us) ++ word p w ∷ [])
    by-word words.End = package-ends modules kind root is ts us p head list
    by-word w = tt

    by-kind : (what : TokenKind) → Stands modules kind (ending (frames.Items root is ∷ []) what) ((ts ++ us) ++ token p what ∷ [])
    by-kind (kinds.Reserved w) = by-word w
    by-kind kinds.Eof = script-ends modules kind root is ts us p head list
    by-kind what = tt
