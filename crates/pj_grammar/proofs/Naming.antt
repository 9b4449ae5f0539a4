-- Names behind `using` and `function` keep what has been read.
use Rattle.pj_grammar.proofs.Begun.{ItemsBegun, Opens, Under, UsesBegun, function_begun, items_begun, no_item, package_begun, script_begun, then_gap, then_item, then_module, then_space, then_use, under}
use Rattle.pj_grammar.proofs.Ending.{entry-closes, lines-open}
use Rattle.pj_grammar.proofs.Heading.{items-lines}
use Rattle.pj_grammar.proofs.Levels.{absurd-of}
use Rattle.pj_grammar.proofs.Lining.{end-stands}
use Rattle.pj_grammar.proofs.Listing.{names-comma, names-end, separators-more}
use Rattle.pj_grammar.proofs.Operating.{guard-stands, stands-text}
use Rattle.pj_grammar.proofs.Standing.{NamesBegun, Operand, Stands, a_call, a_member, a_name, a_place, an_expression, an_operator, bare_at, has_declared, has_use, over_frames, wants_use}
use Rattle.pj_grammar.specs.Closing.{closed_entry}
use Rattle.pj_grammar.specs.Frames.{State, at, guarded, takes_definition, takes_items, takes_lines, takes_uses}
use Rattle.pj_grammar.specs.Machine.{after_declared, after_use, end_uses, expect_name}
use Rattle.pj_grammar.specs.Makers.{declared, entry_after, no_entries, run_of, using_of}
use Rattle.pj_grammar.specs.Modules.{Modules}
use Rattle.pj_grammar.specs.Operands.{after_function}
use Rattle.pj_grammar.specs.Statements.{eval_name}
use Rattle.pj_grammar.specs.Texts.{Item, Kind, Names, Separators, a_separator, declaration, no_separator, script, using, «package»}
use Rattle.pj_grammar.specs.Tokens.{Place, name, separator, sign, spot, token, word}
use Rattle.pj_grammar.specs.declared.frame.Frame.{Frame}
use Rattle.pj_grammar.specs.declared.mode.Head.{Head}
use Rattle.pj_grammar.specs.declared.node.Entries.{Entries}
use Rattle.pj_lex.specs.declared.sign.Sign.{Sign}
use Rattle.pj_lex.specs.declared.token.Token.{Token}
use Rattle.pj_lex.specs.declared.token.TokenKind.{TokenKind}
use Rattle.pj_syntax.specs.declared.expression.Spot.{Spot}
use Rattle.pj_syntax.specs.declared.item.Item.{Item as Tree}
use Rattle.pj_words.specs.declared.word.Word.{Word}
use Rattle.std.proofs.Common.{List, Option, [], refl, subst, sym, true, ℕ, ◌++◌, ◌∷◌, ◌≡◌}
use Rattle.std.proofs.lemmas.List.{append-nil, append_assoc}
use Rattle.pj_grammar.specs.declared.frame.Frame.TheVariants as frames
use Rattle.pj_grammar.specs.declared.mode.Head.TheVariants as heads
use Rattle.pj_lex.specs.declared.token.TokenKind.TheVariants as kinds
use Rattle.pj_grammar.specs.declared.mode.Mode.TheVariants as modes
use Rattle.pj_grammar.specs.declared.frame.Root.TheVariants as roots
use Rattle.pj_lex.specs.declared.sign.Sign.TheVariants as signs
use Rattle.pj_words.specs.declared.word.Word.TheVariants as words

-- the text is that of a script
script-of : {modules : Modules} {kind : Kind} {is : Entries} {k : List Frame} {before : List Token} → Under modules kind (frames.Items roots.Script is ∷ k) before → kind ≡ script
script-of (under u o (items_begun script_begun list)) = refl

-- a package has separators alone before it uses modules
record Gaps (ts : List Token) (is : Entries) : Type 0 where
  none : is ≡ no_entries
  used : {us : List Token} {names : List Spot} → UsesBegun us names → UsesBegun (us ++ ts) names

no-uses {ℓ} : {A : Type ℓ} (x : Spot) (names : List Spot) (k : List Frame) (trees : List Tree) (t : Tree) (n : ℕ)
    → takes_uses (frames.Items (roots.Package x names) (record { trees = trees ++ t ∷ []; nesting = n }) ∷ k) ≡ true → A
no-uses x names k [] t n h = absurd-of h
no-uses x names k (y ∷ trees) t n h = absurd-of h

gaps : {modules : Modules} {kind : Kind} (x : Spot) (names : List Spot) (k : List Frame) {ts : List Token} {is : Entries} → ItemsBegun modules kind ts is
    → takes_uses (frames.Items (roots.Package x names) is ∷ k) ≡ true → Gaps ts is
unfolding entry_after
gaps x names k no_item h = record { none = refl; used = λ {us} {names} b. subst (λ l. UsesBegun l names) (sym (append-nil us)) b }
gaps x names k (then_gap {ts = ts} p b) h =
    let g = gaps x names k b h in
    record { none = g.none; used = λ {us} {names} c. subst (λ l. UsesBegun l names) (append_assoc us ts (separator p ∷ [])) (then_space p (g.used c)) }
gaps x names k (then_item {is = is} {i = i} p b d) h = no-uses x names k is.trees i.tree 0 h
gaps x names k (then_module {is = is} p q r m known b) h = no-uses x names k is.trees (run_of (eval_name (spot q m))).tree 0 h

-- a run `using` ends
uses-lines : (k : List Frame) → takes_uses k ≡ true → takes_lines k ≡ true
uses-lines (frames.Items root is ∷ k) h = refl
uses-lines k h = absurd-of h

package-uses : (modules : Modules) (kind : Kind) (x : Spot) (names found : List Spot) (is : Entries) (k : List Frame) (before ts : List Token) (p q : Place)
    → takes_uses (frames.Items (roots.Package x names) is ∷ k) ≡ true → Under modules kind (frames.Items (roots.Package x names) is ∷ k) before → Names ts found
    → Stands modules kind (at modes.Line (frames.Items (roots.Package x (names ++ found)) is ∷ k)) (before ++ (word p words.Using ∷ ts) ++ separator q ∷ [])
package-uses modules kind x names found is k _ ts p q takes (under {before = b} u o (items_begun {us = us} (package_begun {ts = hs} {us = vs} r s t n seps used) list)) d =
    let g = gaps x names [] list takes in
    stands-text modules «package» (at modes.Line (frames.Items (roots.Package x (names ++ found)) is ∷ []))
    (b ++ ((hs ++ word r words.Module ∷ name s n ∷ separator t ∷ ((vs ++ us) ++ word p words.Using ∷ (ts ++ separator q ∷ []))) ++ []))
    ((b ++ ((hs ++ word r words.Module ∷ name s n ∷ separator t ∷ vs) ++ us)) ++ (word p words.Using ∷ ts) ++ separator q ∷ []) (simp (append_assoc, append-nil))
    (bare_at refl (under u (λ more. refl) (items_begun (package_begun r s t n seps (then_use p q (g.used used) d))
    (subst (λ l. ItemsBegun modules «package» [] l) (sym g.none) no_item))))

pub uses-end : (modules : Modules) (kind : Kind) (found : List Spot) (k : List Frame) (before ts : List Token) (p q : Place) (what : TokenKind)
    → takes_uses k ≡ true → Under modules kind k before → Names ts found
    → Stands modules kind (end_uses found k what) (before ++ (word p words.Using ∷ ts) ++ token q what ∷ [])
uses-end modules kind found (frames.Items roots.Script is ∷ k) before ts p q what takes u d =
    end-stands modules kind (closed_entry (using_of found) (frames.Items roots.Script is ∷ k)) (before ++ word p words.Using ∷ ts) q what
    (entry-closes modules kind (using_of found) (frames.Items roots.Script is ∷ k) before (word p words.Using ∷ ts) u
    (λ _. subst (λ l. Item modules l (word p words.Using ∷ ts) (using_of found)) (sym (script-of u)) (using p d)))
uses-end modules kind found (frames.Items (roots.Package x names) is ∷ k) before ts p q kinds.Separator takes u d = package-uses modules kind x names found is k before ts p q takes u d
uses-end modules kind found (frames.Items (roots.Package x names) is ∷ k) before ts p q what takes u d = tt
uses-end modules kind found k before ts p q what takes u d = absurd-of takes

pub use-stands : (modules : Modules) (kind : Kind) (found : List Spot) (k : List Frame) (before ts : List Token) (p q : Place) (what : TokenKind)
    → takes_uses k ≡ true → Under modules kind k before → Names ts found
    → Stands modules kind (after_use found k what) (before ++ (word p words.Using ∷ ts) ++ token q what ∷ [])
use-stands modules kind found k before ts p q what takes u d = by-kind what
  where
    by-sign : (s : Sign) → Stands modules kind (after_use found k (kinds.Sign s)) (before ++ (word p words.Using ∷ ts) ++ sign q s ∷ [])
    by-sign signs.Comma =
        stands-text modules kind (at (modes.UsingName found) k) (before ++ word p words.Using ∷ (ts ++ sign q signs.Comma ∷ []))
        (before ++ (word p words.Using ∷ ts) ++ sign q signs.Comma ∷ []) (simp append_assoc)
        (over_frames u (lines-open modules k (word p words.Using ∷ (ts ++ sign q signs.Comma ∷ [])) (uses-lines k takes)) (wants_use p takes (names-comma q d)))
    by-sign s = uses-end modules kind found k before ts p q (kinds.Sign s) takes u d

    by-kind : (what : TokenKind) → Stands modules kind (after_use found k what) (before ++ (word p words.Using ∷ ts) ++ token q what ∷ [])
    by-kind (kinds.Sign s) = by-sign s
    by-kind what = uses-end modules kind found k before ts p q what takes u d

-- a name behind `using`
pub use-named : (modules : Modules) (kind : Kind) (found : List Spot) (k : List Frame) (before ts : List Token) (p q : Place) (what : TokenKind)
    → takes_uses k ≡ true → Under modules kind k before → NamesBegun ts found
    → Stands modules kind (expect_name (λ x. modes.UsingMore (found ++ x ∷ [])) k q what) (before ++ (word p words.Using ∷ ts) ++ token q what ∷ [])
use-named modules kind found k before ts p q (kinds.Name x) takes u d =
    stands-text modules kind (at (modes.UsingMore (found ++ spot q x ∷ [])) k) (before ++ word p words.Using ∷ (ts ++ name q x ∷ []))
    (before ++ (word p words.Using ∷ ts) ++ name q x ∷ []) (simp append_assoc)
    (over_frames u (lines-open modules k (word p words.Using ∷ (ts ++ name q x ∷ [])) (uses-lines k takes)) (has_use p takes (names-end q x d)))
use-named modules kind found k before ts p q what takes u d = tt

-- a declaration goes on, behind its name and separators
pub declared-stands : (modules : Modules) (kind : Kind) (k : List Frame) (before ts : List Token) (p q r : Place) (x : List ℕ) (what : TokenKind)
    → takes_items k ≡ true → Under modules kind k before → Separators ts
    → Stands modules kind (after_declared (spot q x) k what) (before ++ (word p words.Function ∷ name q x ∷ ts) ++ token r what ∷ [])
declared-stands modules kind k before ts p q r x what takes u d = by-kind what
  where
    by-word : (w : Word) → Stands modules kind (after_declared (spot q x) k (kinds.Reserved w)) (before ++ (word p words.Function ∷ name q x ∷ ts) ++ word r w ∷ [])
    by-word words.End =
        stands-text modules kind (closed_entry (declared (spot q x)) k) (before ++ word p words.Function ∷ name q x ∷ (ts ++ word r words.End ∷ []))
        (before ++ (word p words.Function ∷ name q x ∷ ts) ++ word r words.End ∷ []) (simp append_assoc)
        (entry-closes modules kind (declared (spot q x)) k before _ u (λ _. declaration p q r x d))
    by-word w = tt

    by-kind : (what : TokenKind) → Stands modules kind (after_declared (spot q x) k what) (before ++ (word p words.Function ∷ name q x ∷ ts) ++ token r what ∷ [])
    by-kind (kinds.Reserved w) = by-word w
    by-kind kinds.Separator =
        stands-text modules kind (at (modes.Declared (spot q x)) k) (before ++ word p words.Function ∷ name q x ∷ (ts ++ separator r ∷ []))
        (before ++ (word p words.Function ∷ name q x ∷ ts) ++ separator r ∷ []) (simp append_assoc)
        (over_frames u (lines-open modules k (word p words.Function ∷ name q x ∷ (ts ++ separator r ∷ [])) (items-lines k takes)) (has_declared p q x takes (separators-more r d)))
    by-kind what = tt

-- `function NAME`
function-under : {modules : Modules} {kind : Kind} {k : List Frame} {before : List Token} → Under modules kind (frames.FunctionName ∷ k) before
    → (rest : List Token) (s : Option State)
    → ((b : List Token) (p : Place) → takes_definition k ≡ true → Under modules kind k b → Opens modules k (word p words.Function ∷ []) → Stands modules kind s (b ++ word p words.Function ∷ rest))
    → Stands modules kind s (before ++ rest)
function-under {modules} {kind} {k} (under {before = b} u o (function_begun p takes)) rest s f =
    stands-text modules kind s (b ++ word p words.Function ∷ rest) ((b ++ word p words.Function ∷ []) ++ rest) (simp append_assoc) (f b p takes u o)

pub function-named : (modules : Modules) (kind : Kind) (h : Head) (k : List Frame) (before ts : List Token) (p : Place) (what : TokenKind)
    → Under modules kind (frames.FunctionName ∷ k) before → Operand modules h (frames.FunctionName ∷ k) ts
    → Stands modules kind (after_function h k what) (before ++ ts ++ token p what ∷ [])
function-named modules kind _ k before _ p what u (a_name q x) = by-kind what
  where
    by-word : (w : Word) → Stands modules kind (after_function (heads.Name (spot q x)) k (kinds.Reserved w)) (before ++ name q x ∷ [] ++ word p w ∷ [])
    by-word words.End =
        stands-text modules kind (closed_entry (declared (spot q x)) k) (before ++ name q x ∷ word p words.End ∷ []) (before ++ name q x ∷ [] ++ word p words.End ∷ []) (simp append_assoc)
        (function-under u (name q x ∷ word p words.End ∷ []) (closed_entry (declared (spot q x)) k)
        (λ b r takes v o. entry-closes modules kind (declared (spot q x)) k b _ v (λ _. declaration r q p x no_separator)))
    by-word w = tt

    by-kind : (what : TokenKind) → Stands modules kind (after_function (heads.Name (spot q x)) k what) (before ++ name q x ∷ [] ++ token p what ∷ [])
    by-kind (kinds.Reserved w) = by-word w
    by-kind kinds.Separator =
        stands-text modules kind (guarded (takes_items k) (at (modes.Declared (spot q x)) k)) (before ++ name q x ∷ separator p ∷ []) (before ++ name q x ∷ [] ++ separator p ∷ []) (simp append_assoc)
        (function-under u (name q x ∷ separator p ∷ []) (guarded (takes_items k) (at (modes.Declared (spot q x)) k))
        (λ b r takes v o. guard-stands modules kind (takes_items k) _ _
        (λ h. over_frames v (lines-open modules k (word r words.Function ∷ name q x ∷ separator p ∷ []) (items-lines k h)) (has_declared r q x h (a_separator p no_separator)))))
    by-kind what = tt
function-named modules kind _ k before _ p what u (a_member q r s m x is adm) = tt
function-named modules kind _ k before _ p what u (an_operator q r s o x is adm) = tt
function-named modules kind _ k before _ p what u (a_place q r x d adm) = tt
function-named modules kind _ k before _ p what u (a_call adm s given params lone) = tt
function-named modules kind _ k before _ p what u (an_expression adm fields d) = tt
