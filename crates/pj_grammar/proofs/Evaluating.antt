-- What `@eval` evaluates begins, with or without a module, and keeps what has been read.
use Rattle.pj_grammar.proofs.Begun.{Opens, Under, at_value, block_begun, call_begun, eval_begun, eval_in_begun, function_begun, items_begun, no_paths, package_begun, script_begun, short_begun, then_module, then_name, under}
use Rattle.pj_grammar.proofs.Blocking.{bottom}
use Rattle.pj_grammar.proofs.Directing.{and-first, and-second}
use Rattle.pj_grammar.proofs.Ending.{lines-open, not-true}
use Rattle.pj_grammar.proofs.Levels.{absurd-of}
use Rattle.pj_grammar.proofs.Lining.{if-stands, value-begins}
use Rattle.pj_grammar.proofs.Listing.{items-name}
use Rattle.pj_grammar.proofs.Operating.{stands-text}
use Rattle.pj_grammar.proofs.Settling.{opens-more}
use Rattle.pj_grammar.proofs.Standing.{Stands, bare_at, eval_named, has_module, over_frames, text_ended}
use Rattle.pj_grammar.specs.Closing.{accept_script, after_end, closed_line}
use Rattle.pj_grammar.specs.Expressions.{bare, named}
use Rattle.pj_grammar.specs.Frames.{at, settle, takes_lines}
use Rattle.pj_grammar.specs.Machine.{eval_name_then, is_end, operand, payload, reads_name, takes_module}
use Rattle.pj_grammar.specs.Makers.{entry_after, line_after, run_of}
use Rattle.pj_grammar.specs.Modules.{Modules, is_module}
use Rattle.pj_grammar.specs.Operands.{have, have_dot, have_paren}
use Rattle.pj_grammar.specs.Statements.{begins_with_module, eval_name, is_dot, is_paren, names_module, opens_directly}
use Rattle.pj_grammar.specs.Texts.{Kind, is_script, script}
use Rattle.pj_grammar.specs.Tokens.{Place, name, separator, sign, spot, token, word}
use Rattle.pj_grammar.specs.declared.frame.Frame.{Frame}
use Rattle.pj_grammar.specs.declared.frame.Opener.{Opener}
use Rattle.pj_grammar.specs.declared.frame.Root.{Root}
use Rattle.pj_grammar.specs.declared.node.Entries.{Entries}
use Rattle.pj_grammar.specs.declared.node.Lines.{Lines}
use Rattle.pj_lex.specs.declared.sign.Sign.{Sign}
use Rattle.pj_lex.specs.declared.token.Token.{Token}
use Rattle.pj_lex.specs.declared.token.TokenKind.{TokenKind}
use Rattle.pj_syntax.specs.declared.expression.Spot.{Spot}
use Rattle.pj_words.specs.declared.word.Word.{Word}
use Rattle.std.proofs.Common.{Bool, List, None, Option, Some, [], ap, false, not, refl, sym, true, ℕ, ◌&&◌, ◌++◌, ◌||◌, ◌∙◌, ◌∷◌, ◌≡◌}
use Rattle.std.proofs.lemmas.List.{append_assoc}
use Rattle.pj_grammar.specs.declared.frame.Frame.TheVariants as frames
use Rattle.pj_grammar.specs.declared.mode.Head.TheVariants as heads
use Rattle.pj_lex.specs.declared.token.TokenKind.TheVariants as kinds
use Rattle.pj_grammar.specs.declared.mode.Mode.TheVariants as modes
use Rattle.pj_grammar.specs.declared.frame.Purpose.TheVariants as purposes
use Rattle.pj_grammar.specs.declared.frame.Root.TheVariants as roots
use Rattle.pj_lex.specs.declared.sign.Sign.TheVariants as signs
use Rattle.pj_words.specs.declared.word.Word.TheVariants as words

-- what is no module's name may stand behind `@eval`
opens-fresh : (modules : Modules) (k : List Frame) (p : Place) (what : TokenKind) → names_module modules what ≡ false
    → Opens modules (frames.Payload None false ∷ k) (token p what ∷ [])
opens-fresh modules k p what h = λ rest. by-rest rest
  where
    by-rest : (rest : List Token) → not (begins_with_module modules (token p what ∷ rest)) ≡ true
    by-rest [] = ap not h
    by-rest (t ∷ ts) = ap (λ b. not (b && not (is_dot t.what || opens_directly (t ∷ [])))) h

payload-opens : (modules : Modules) (m : Option Spot) (quoted : Bool) (k : List Frame) (p : Place) (what : TokenKind)
    → (takes_module (frames.Payload m quoted ∷ k) ≡ false → Opens modules (frames.Payload m quoted ∷ k) (token p what ∷ []))
    → (takes_module (frames.Payload m quoted ∷ k) ≡ true → names_module modules what ≡ false)
    → Opens modules (frames.Payload m quoted ∷ k) (token p what ∷ [])
payload-opens modules None false k p what f g = opens-fresh modules k p what (g refl)
payload-opens modules None true k p what f g = f refl
payload-opens modules (Some x) quoted k p what f g = f refl

not-both : (a b : Bool) → (a && b) ≡ false → a ≡ true → b ≡ false
not-both true b h e = h
not-both false b h e = absurd-of e

-- what is evaluated begins
pub payload-stands : (modules : Modules) (kind : Kind) (m : Option Spot) (quoted : Bool) (k : List Frame) (before : List Token) (p : Place) (what : TokenKind)
    → Under modules kind (frames.Payload m quoted ∷ k) before
    → (takes_module (frames.Payload m quoted ∷ k) ≡ false → Opens modules (frames.Payload m quoted ∷ k) (token p what ∷ []))
    → Stands modules kind (payload modules (frames.Payload m quoted ∷ k) p what) (before ++ token p what ∷ [])
payload-stands modules kind m quoted k before p what u open-behind = by-kind what open-behind
  where
    value : (what : TokenKind) → Opens modules (frames.Payload m quoted ∷ k) (token p what ∷ [])
        → Stands modules kind (operand (frames.Hole purposes.Value ∷ frames.Payload m quoted ∷ k) p what) (before ++ token p what ∷ [])
    value what o = value-begins modules kind (frames.Payload m quoted ∷ k) before p what refl u o

    by-word : (w : Word) → (takes_module (frames.Payload m quoted ∷ k) ≡ false → Opens modules (frames.Payload m quoted ∷ k) (word p w ∷ []))
        → Stands modules kind (payload modules (frames.Payload m quoted ∷ k) p (kinds.Reserved w)) (before ++ word p w ∷ [])
    by-word words.Function o = bare_at refl (under u (payload-opens modules m quoted k p (kinds.Reserved words.Function) o (λ _. refl)) (function_begun p refl))
    by-word w o = value (kinds.Reserved w) (payload-opens modules m quoted k p (kinds.Reserved w) o (λ _. refl))

    by-kind : (what : TokenKind) → (takes_module (frames.Payload m quoted ∷ k) ≡ false → Opens modules (frames.Payload m quoted ∷ k) (token p what ∷ []))
        → Stands modules kind (payload modules (frames.Payload m quoted ∷ k) p what) (before ++ token p what ∷ [])
    by-kind (kinds.Reserved w) o = by-word w o
    by-kind (kinds.Name x) o =
        if-stands modules kind (takes_module (frames.Payload m quoted ∷ k) && is_module modules x) _ _ _
        (λ h. eval_named p x (and-first _ _ h) (and-second _ _ h) u)
        (λ h. value (kinds.Name x) (payload-opens modules m quoted k p (kinds.Name x) o (λ e. not-both _ _ h e)))
    by-kind what o = value what (payload-opens modules m quoted k p what o (λ _. refl))

-- `@eval` of a module's name alone ends
line-of-name : (modules : Modules) (kind : Kind) (o : Opener) (ss : Lines) (k : List Frame) (before : List Token) (p q r : Place) (m : List ℕ) → is_module modules m ≡ true
    → Under modules kind (frames.Block o ss ∷ k) before
    → Stands modules kind (at modes.Line (frames.Block o (line_after ss (eval_name (spot q m))) ∷ k)) (before ++ token p kinds.AtEval ∷ name q m ∷ separator r ∷ [])
line-of-name modules kind o ss k _ p q r m known (under {before = b} u opened (block_begun {ts = ts} {us = us} first lines)) =
    stands-text modules kind (at modes.Line (frames.Block o (line_after ss (eval_name (spot q m))) ∷ k)) (b ++ (ts ++ (us ++ token p kinds.AtEval ∷ name q m ∷ separator r ∷ [])))
    ((b ++ (ts ++ us)) ++ token p kinds.AtEval ∷ name q m ∷ separator r ∷ []) (simp append_assoc)
    (bare_at refl (under u
    (opens-more modules k (ts ++ us) (token p kinds.AtEval ∷ name q m ∷ separator r ∷ []) (ts ++ (us ++ token p kinds.AtEval ∷ name q m ∷ separator r ∷ [])) opened (append_assoc ts us _))
    (block_begun first (then_name p q r m known lines))))

item-of-name : (modules : Modules) (kind : Kind) (root : Root) (is : Entries) (k : List Frame) (before : List Token) (p q r : Place) (m : List ℕ) → is_module modules m ≡ true
    → Under modules kind (frames.Items root is ∷ k) before
    → Stands modules kind (at modes.Line (frames.Items root (entry_after is (run_of (eval_name (spot q m)))) ∷ k)) (before ++ token p kinds.AtEval ∷ name q m ∷ separator r ∷ [])
item-of-name modules kind root is k _ p q r m known (under {before = b} u opened (items_begun {ts = ts} {us = us} first list)) =
    stands-text modules kind (at modes.Line (frames.Items root (entry_after is (run_of (eval_name (spot q m)))) ∷ [])) (b ++ (ts ++ (us ++ token p kinds.AtEval ∷ name q m ∷ separator r ∷ [])))
    ((b ++ (ts ++ us)) ++ token p kinds.AtEval ∷ name q m ∷ separator r ∷ []) (simp append_assoc)
    (bare_at refl (under u (λ rest. refl) (items_begun first (then_module p q r m known list))))

name-ends-text : (modules : Modules) (kind : Kind) (root : Root) (is : Entries) (k : List Frame) (before : List Token) (p q r : Place) (m : List ℕ) → is_module modules m ≡ true
    → Under modules kind (frames.Items root is ∷ k) before
    → Stands modules kind (accept_script (frames.Items root (entry_after is (run_of (eval_name (spot q m)))) ∷ k)) (before ++ token p kinds.AtEval ∷ name q m ∷ token r kinds.Eof ∷ [])
name-ends-text modules kind _ is k _ p q r m known (under {before = b} u opened (items_begun {us = us} script_begun list)) =
    stands-text modules script (at modes.Accepted (frames.Items roots.Script (entry_after is (run_of (eval_name (spot q m)))) ∷ []))
    (us ++ token p kinds.AtEval ∷ name q m ∷ token r kinds.Eof ∷ []) ((b ++ us) ++ token p kinds.AtEval ∷ name q m ∷ token r kinds.Eof ∷ [])
    (ap (λ l. (l ++ us) ++ token p kinds.AtEval ∷ name q m ∷ token r kinds.Eof ∷ []) (sym (bottom u)))
    (text_ended refl (is_script (items-name p q r m known list)))
name-ends-text modules kind _ is k _ p q r m known (under u opened (items_begun (package_begun s t v x seps used) list)) = tt

-- what follows a module's name behind `@eval`: the name is read before these
name-separated : (modules : Modules) (kind : Kind) (k : List Frame) (before : List Token) (p q r : Place) (m : List ℕ) → is_module modules m ≡ true → takes_lines k ≡ true
    → Under modules kind k before
    → Stands modules kind (after_end (closed_line (eval_name (spot q m)) k) kinds.Separator) (before ++ token p kinds.AtEval ∷ name q m ∷ separator r ∷ [])
unfolding closed_line
name-separated modules kind (frames.Block o ss ∷ k) before p q r m known takes u = line-of-name modules kind o ss k before p q r m known u
name-separated modules kind (frames.Items root is ∷ k) before p q r m known takes u = item-of-name modules kind root is k before p q r m known u
name-separated modules kind k before p q r m known takes u = absurd-of takes

name-ended : (modules : Modules) (kind : Kind) (k : List Frame) (before : List Token) (p q r : Place) (m : List ℕ) → is_module modules m ≡ true → takes_lines k ≡ true
    → Under modules kind k before
    → Stands modules kind (after_end (closed_line (eval_name (spot q m)) k) kinds.Eof) (before ++ token p kinds.AtEval ∷ name q m ∷ token r kinds.Eof ∷ [])
unfolding closed_line
name-ended modules kind (frames.Block o ss ∷ k) before p q r m known takes u = tt
name-ended modules kind (frames.Items root is ∷ k) before p q r m known takes u = name-ends-text modules kind root is k before p q r m known u
name-ended modules kind k before p q r m known takes u = absurd-of takes

-- the frames and their text, behind `@eval` of a module's name
dot-opens : (modules : Modules) (k : List Frame) (q r : Place) (m : List ℕ) → Opens modules (frames.Payload None false ∷ k) (name q m ∷ sign r signs.Dot ∷ [])
dot-opens modules k q r m = λ rest. by-bool (is_module modules m)
  where
    by-bool : (b : Bool) → not (b && false) ≡ true
    by-bool true = refl
    by-bool false = refl

paren-opens : (modules : Modules) (k : List Frame) (q r : Place) (m : List ℕ) → r.blank ≡ false → Opens modules (frames.Payload None false ∷ k) (name q m ∷ sign r signs.LeftParen ∷ [])
paren-opens modules k q r m direct = λ rest. by-bool (is_module modules m) r.blank direct
  where
    by-bool : (b c : Bool) → c ≡ false → not (b && not (not c)) ≡ true
    by-bool true true h = absurd-of (sym h)
    by-bool false true h = refl
    by-bool true false h = refl
    by-bool false false h = refl

module-dot : (modules : Modules) (kind : Kind) (k : List Frame) (before : List Token) (p q : Place) (m : List ℕ) → is_module modules m ≡ true
    → Under modules kind (frames.Payload None false ∷ k) before
    → Stands modules kind (have_dot modules (heads.Name (spot p m)) (frames.Hole purposes.Value ∷ frames.Payload None false ∷ k)) (before ++ name p m ∷ sign q signs.Dot ∷ [])
module-dot modules kind k before p q m known u =
    if-stands modules kind (is_module modules m) _ _ _
    (λ h. over_frames (at_value refl u) (dot-opens modules k p q m) (has_module p q m known refl))
    (λ h. absurd-of (sym h ∙ known))

module-paren : (modules : Modules) (kind : Kind) (k : List Frame) (before : List Token) (p q : Place) (m : List ℕ) → q.blank ≡ false
    → Under modules kind (frames.Payload None false ∷ k) before
    → Stands modules kind (have_paren (heads.Name (spot p m)) (frames.Hole purposes.Value ∷ frames.Payload None false ∷ k) q.blank) (before ++ name p m ∷ sign q signs.LeftParen ∷ [])
module-paren modules kind k before p q m direct u = by-blank q.blank direct
  where
    by-blank : (b : Bool) → b ≡ false → Stands modules kind (have_paren (heads.Name (spot p m)) (frames.Hole purposes.Value ∷ frames.Payload None false ∷ k) b) (before ++ name p m ∷ sign q signs.LeftParen ∷ [])
    by-blank true h = absurd-of (sym h)
    by-blank false h = bare_at refl (under (at_value refl u) (paren-opens modules k p q m direct) (call_begun [] refl (short_begun q (named (bare p m)) direct) no_paths))

or-third : (a b c : Bool) → (a || b || c) ≡ false → c ≡ false
or-third true b c h = absurd-of (sym h)
or-third false true c h = absurd-of (sym h)
or-third false false c h = h

-- what follows a module's name behind `@eval`
pub eval-name-stands : (modules : Modules) (kind : Kind) (k : List Frame) (before : List Token) (p q : Place) (m : List ℕ) (what : TokenKind) → takes_module k ≡ true
    → is_module modules m ≡ true → Under modules kind k before
    → Stands modules kind (eval_name_then modules (spot p m) k q what) (before ++ name p m ∷ [] ++ token q what ∷ [])
unfolding settle
eval-name-stands modules kind (frames.Payload None false ∷ k) _ p q m what takes known (under {before = b} u o (eval_begun r lines)) =
    if-stands modules kind (reads_name q what) _ _ _ (by-kind what)
    (λ h. stands-text modules kind (payload modules (frames.Payload (Some (spot p m)) false ∷ k) q what) ((b ++ token r kinds.AtEval ∷ name p m ∷ []) ++ token q what ∷ [])
    ((b ++ token r kinds.AtEval ∷ []) ++ name p m ∷ [] ++ token q what ∷ []) (simp append_assoc)
    (payload-stands modules kind (Some (spot p m)) false k (b ++ token r kinds.AtEval ∷ name p m ∷ []) q what
    (under u (lines-open modules k (token r kinds.AtEval ∷ name p m ∷ []) lines) (eval_in_begun r p m lines known))
    (λ _ rest. ap not (or-third (is_end what) (is_dot what) (is_paren what && not q.blank) h))))
  where
    v : Under modules kind (frames.Payload None false ∷ k) (b ++ token r kinds.AtEval ∷ [])
    v = under u o (eval_begun r lines)

    by-sign : (s : Sign) → reads_name q (kinds.Sign s) ≡ true
        → Stands modules kind (have modules (heads.Name (spot p m)) (frames.Hole purposes.Value ∷ frames.Payload None false ∷ k) q (kinds.Sign s)) ((b ++ token r kinds.AtEval ∷ []) ++ name p m ∷ [] ++ sign q s ∷ [])
    by-sign signs.Dot h =
        stands-text modules kind (have_dot modules (heads.Name (spot p m)) (frames.Hole purposes.Value ∷ frames.Payload None false ∷ k)) ((b ++ token r kinds.AtEval ∷ []) ++ name p m ∷ sign q signs.Dot ∷ [])
        ((b ++ token r kinds.AtEval ∷ []) ++ name p m ∷ [] ++ sign q signs.Dot ∷ []) (simp append_assoc)
        (module-dot modules kind k (b ++ token r kinds.AtEval ∷ []) p q m known v)
    by-sign signs.LeftParen h =
        stands-text modules kind (have_paren (heads.Name (spot p m)) (frames.Hole purposes.Value ∷ frames.Payload None false ∷ k) q.blank) ((b ++ token r kinds.AtEval ∷ []) ++ name p m ∷ sign q signs.LeftParen ∷ [])
        ((b ++ token r kinds.AtEval ∷ []) ++ name p m ∷ [] ++ sign q signs.LeftParen ∷ []) (simp append_assoc)
        (module-paren modules kind k (b ++ token r kinds.AtEval ∷ []) p q m (not-true q.blank h) v)
    by-sign s h = absurd-of h

    by-kind : (what : TokenKind) → reads_name q what ≡ true
        → Stands modules kind (have modules (heads.Name (spot p m)) (frames.Hole purposes.Value ∷ frames.Payload None false ∷ k) q what) ((b ++ token r kinds.AtEval ∷ []) ++ name p m ∷ [] ++ token q what ∷ [])
    by-kind kinds.Separator h =
        stands-text modules kind (after_end (closed_line (eval_name (spot p m)) k) kinds.Separator) (b ++ token r kinds.AtEval ∷ name p m ∷ separator q ∷ [])
        ((b ++ token r kinds.AtEval ∷ []) ++ name p m ∷ [] ++ separator q ∷ []) (simp append_assoc)
        (name-separated modules kind k b r p q m known lines u)
    by-kind kinds.Eof h =
        stands-text modules kind (after_end (closed_line (eval_name (spot p m)) k) kinds.Eof) (b ++ token r kinds.AtEval ∷ name p m ∷ token q kinds.Eof ∷ [])
        ((b ++ token r kinds.AtEval ∷ []) ++ name p m ∷ [] ++ token q kinds.Eof ∷ []) (simp append_assoc)
        (name-ended modules kind k b r p q m known lines u)
    by-kind (kinds.Sign s) h = by-sign s h
    by-kind what h = absurd-of h
eval-name-stands modules kind k before p q m what takes known u = absurd-of takes
