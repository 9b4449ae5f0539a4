-- The steps of a call's arguments, of names behind dots, of the fixed forms, and of a package's head and end keep what has been read.
use Rattle.pj_grammar.proofs.Begun.{Opens, RootBegun, ShortBegun, Under, assigns, call_begun, defines, global_begun, hole_begun, items_begun, no_item, no_use, nothing, only_type, package_begun, returns, short_begun, under}
use Rattle.pj_grammar.proofs.Calling.{close-stands, no-argument}
use Rattle.pj_grammar.proofs.Directing.{and-first, and-second, callee-bare, no-path, text-eq}
use Rattle.pj_grammar.proofs.Dotting.{field-stands, place-stands}
use Rattle.pj_grammar.proofs.Ending.{lines-open, statement-closes}
use Rattle.pj_grammar.proofs.Lining.{end-stands, if-stands}
use Rattle.pj_grammar.proofs.Listing.{close-uses, separators-more}
use Rattle.pj_grammar.proofs.Operating.{guard-stands, operand-stands, stands-text}
use Rattle.pj_grammar.proofs.Settling.{opens-more}
use Rattle.pj_grammar.proofs.Signing.{below-value, may-end, typed-call}
use Rattle.pj_grammar.proofs.Standing.{Ending, Mine, Stands, a_member, an_operator, at_package, at_package_name, bare_at, before_open, field_of_place, field_of_value, has_base, has_module, has_operand, over_frames, package_ended, text_ended}
use Rattle.pj_grammar.specs.Closing.{after_end, closed_line}
use Rattle.pj_grammar.specs.Frames.{State, admits, at, takes_definition, takes_lines}
use Rattle.pj_grammar.specs.Levels.{operator_text}
use Rattle.pj_grammar.specs.Machine.{after_return, argument, base_operator, ends_line, expect_name, expect_sign, field_name, global_assign, member_name, operand, package_end, package_named, package_start, quote, set_global, short_assign, type_argument}
use Rattle.pj_grammar.specs.Makers.{bare_return, field_of, no_entries}
use Rattle.pj_grammar.specs.Modules.{Modules}
use Rattle.pj_grammar.specs.Operands.{close_call}
use Rattle.pj_grammar.specs.Statements.{Parameters, assigning, operator_at, return_nothing}
use Rattle.pj_grammar.specs.Texts.{IsText, Items, Kind, PackageRest, Separators, a_separator, has_items, is_package, no_separator, «package»}
use Rattle.pj_grammar.specs.Tokens.{Place, name, separator, sign, spot, token, word}
use Rattle.pj_grammar.specs.declared.frame.Frame.{Frame}
use Rattle.pj_grammar.specs.declared.frame.Given.{Given}
use Rattle.pj_grammar.specs.declared.mode.Mode.{Mode}
use Rattle.pj_grammar.specs.declared.node.Entries.{Entries}
use Rattle.pj_grammar.specs.declared.node.Node.{Node}
use Rattle.pj_lex.specs.Signs.{is_operator}
use Rattle.pj_lex.specs.declared.sign.Sign.{Sign}
use Rattle.pj_lex.specs.declared.token.Token.{Token}
use Rattle.pj_lex.specs.declared.token.TokenKind.{TokenKind}
use Rattle.pj_syntax.specs.declared.expression.Path.{Path}
use Rattle.pj_syntax.specs.declared.expression.Spot.{Spot}
use Rattle.pj_syntax.specs.declared.statement.Param.{Param}
use Rattle.pj_words.specs.declared.word.Word.{Word}
use Rattle.std.proofs.Common.{List, None, Option, Some, [], ap, codes, false, refl, subst, sym, true, ℕ, ◌&&◌, ◌++◌, ◌∙◌, ◌∷◌, ◌≡◌}
use Rattle.std.proofs.lemmas.List.{append-nil, append_assoc}
use Rattle.std.specs.Str.{bytes_eq}
use Rattle.pj_grammar.specs.declared.frame.Form.TheVariants as forms
use Rattle.pj_grammar.specs.declared.frame.Frame.TheVariants as frames
use Rattle.pj_grammar.specs.declared.frame.Given.TheVariants as given
use Rattle.pj_grammar.specs.declared.mode.Head.TheVariants as heads
use Rattle.pj_lex.specs.declared.token.TokenKind.TheVariants as kinds
use Rattle.pj_grammar.specs.declared.level.Level.TheVariants as levels
use Rattle.pj_grammar.specs.declared.mode.Mode.TheVariants as modes
use Rattle.pj_grammar.specs.declared.mode.Parsed.TheVariants as parsed
use Rattle.pj_syntax.specs.declared.expression.Path.TheVariants as paths
use Rattle.pj_grammar.specs.declared.frame.Purpose.TheVariants as purposes
use Rattle.pj_grammar.specs.declared.frame.Root.TheVariants as roots
use Rattle.pj_lex.specs.declared.sign.Sign.TheVariants as signs
use Rattle.pj_grammar.specs.declared.frame.Target.TheVariants as targets
use Rattle.pj_words.specs.declared.word.Word.TheVariants as words

-- arguments end at once
arguments-end : (modules : Modules) (kind : Kind) (f : Path) (g : Given) (k : List Frame) (before : List Token) (p : Place) → Under modules kind (frames.Call f g ∷ k) before
    → Stands modules kind (close_call f g k) (before ++ sign p signs.RightParen ∷ [])
arguments-end modules kind f g k _ p (under {before = b} u o (call_begun {ts = ts} us adm s list)) =
    stands-text modules kind (close_call f g k) (b ++ (ts ++ (us ++ sign p signs.RightParen ∷ []))) (b ++ (ts ++ us) ++ sign p signs.RightParen ∷ []) (simp append_assoc)
    (close-stands modules kind f g k b ts (us ++ sign p signs.RightParen ∷ []) u
    (opens-more modules k (ts ++ us) (sign p signs.RightParen ∷ []) (ts ++ (us ++ sign p signs.RightParen ∷ [])) o (append_assoc ts us (sign p signs.RightParen ∷ [])))
    adm s (no-argument us g p list) (may-end modules us f g list p))

-- `:` behind `eval(`
quote-stands : (modules : Modules) (kind : Kind) (f : Spot) (k : List Frame) (before : List Token) (p : Place)
    → Under modules kind (frames.Call (paths.Bare f) (given.Paths []) ∷ frames.Hole purposes.Value ∷ k) before
    → Stands modules kind (quote (frames.Call (paths.Bare f) (given.Paths []) ∷ frames.Hole purposes.Value ∷ k)) (before ++ sign p signs.Colon ∷ [])
quote-stands modules kind f k _ p (under {before = b} u o (call_begun us adm (short_begun {ts = cs} q callee direct) list)) =
    guard-stands modules kind (bytes_eq f.text (codes "eval") && takes_lines k) (at modes.EvalOpen k) ((b ++ ((cs ++ sign q signs.LeftParen ∷ []) ++ us)) ++ sign p signs.Colon ∷ [])
    (λ both.
    let takes = and-second (bytes_eq f.text (codes "eval")) (takes_lines k) both in
    let at' = callee-bare callee f refl (codes "eval") (text-eq f.text (codes "eval") (and-first (bytes_eq f.text (codes "eval")) (takes_lines k) both)) in
    stands-text modules kind (at modes.EvalOpen k) (b ++ name at'.place (codes "eval") ∷ sign q signs.LeftParen ∷ sign p signs.Colon ∷ [])
    ((b ++ ((cs ++ sign q signs.LeftParen ∷ []) ++ us)) ++ sign p signs.Colon ∷ [])
    (simp append_assoc refl ∙ ap (λ l. b ++ ((l ++ sign q signs.LeftParen ∷ []) ++ []) ++ sign p signs.Colon ∷ []) (sym at'.is)
    ∙ ap (λ l. b ++ ((cs ++ sign q signs.LeftParen ∷ []) ++ l) ++ sign p signs.Colon ∷ []) (sym (no-path [] list refl)))
    (over_frames (below-value u).under (lines-open modules k (name at'.place (codes "eval") ∷ sign q signs.LeftParen ∷ sign p signs.Colon ∷ []) takes) (before_open at'.place q p takes)))

quote-behind : (modules : Modules) (kind : Kind) (k : List Frame) (before : List Token) (p : Place) → Under modules kind k before
    → Stands modules kind (quote k) (before ++ sign p signs.Colon ∷ [])
quote-behind modules kind (frames.Call (paths.Bare f) (given.Paths []) ∷ frames.Hole purposes.Value ∷ k) before p u = quote-stands modules kind f k before p u
quote-behind modules kind k before p u = tt

-- `::` as an argument begins
type-argument-stands : (modules : Modules) (kind : Kind) (k : List Frame) (before : List Token) (p : Place) → Under modules kind k before
    → Stands modules kind (type_argument p.start k) (before ++ sign p signs.DoubleColon ∷ [])
type-argument-stands modules kind (frames.Call f (given.Paths ps) ∷ frames.Hole purposes.Value ∷ k) before p u =
    typed-call modules kind None p.start f ps k before (sign p signs.DoubleColon ∷ []) u (only_type p)
type-argument-stands modules kind k before p u = tt

-- an argument begins, or the arguments end
pub argument-begins : (modules : Modules) (kind : Kind) (f : Path) (g : Given) (k : List Frame) (before : List Token) (p : Place) (what : TokenKind)
    → Under modules kind (frames.Call f g ∷ k) before → Stands modules kind (argument (frames.Call f g ∷ k) p what) (before ++ token p what ∷ [])
argument-begins modules kind f g k before p what u = by-kind what
  where
    otherwise : (what : TokenKind) → Stands modules kind (operand (frames.Call f g ∷ k) p what) (before ++ token p what ∷ [])
    otherwise what = operand-stands modules kind (frames.Call f g ∷ k) before p what u refl (λ rest. refl) (λ q. tt)

    by-sign : (s : Sign) → Stands modules kind (argument (frames.Call f g ∷ k) p (kinds.Sign s)) (before ++ sign p s ∷ [])
    by-sign signs.RightParen = arguments-end modules kind f g k before p u
    by-sign signs.DoubleColon = type-argument-stands modules kind (frames.Call f g ∷ k) before p u
    by-sign signs.Colon = quote-behind modules kind (frames.Call f g ∷ k) before p u
    by-sign s = otherwise (kinds.Sign s)

    by-kind : (what : TokenKind) → Stands modules kind (argument (frames.Call f g ∷ k) p what) (before ++ token p what ∷ [])
    by-kind (kinds.Sign s) = by-sign s
    by-kind what = otherwise what

-- names behind dots
pub place-named : (modules : Modules) (kind : Kind) (e : Node) (k : List Frame) (before mine : List Token) (p : Place) (what : TokenKind) → Under modules kind k before
    → Opens modules k mine → Mine modules (modes.Field e true) k mine → Stands modules kind (field_name e true k p what) (before ++ mine ++ token p what ∷ [])
place-named modules kind e k before _ q (kinds.Name x) u o (field_of_place {ts = ts} p adm d) =
    stands-text modules kind (at (modes.Have (heads.Place e (spot q x))) k) (before ++ (ts ++ sign p signs.Dot ∷ name q x ∷ [])) (before ++ (ts ++ sign p signs.Dot ∷ []) ++ name q x ∷ []) (simp append_assoc)
    (place-stands modules kind e k before ts p q x u o adm d)
place-named modules kind e k before mine q what u o d = tt

pub field-named : (modules : Modules) (kind : Kind) (e : Node) (k : List Frame) (before mine : List Token) (p : Place) (what : TokenKind) → Under modules kind k before
    → Opens modules k mine → Mine modules (modes.Field e false) k mine → Stands modules kind (field_name e false k p what) (before ++ mine ++ token p what ∷ [])
field-named modules kind e k before _ q (kinds.Name x) u o (field_of_value {ts = ts} p adm fields d) =
    stands-text modules kind (at (modes.Have (heads.Plain (field_of e (spot q x)))) k) (before ++ (ts ++ sign p signs.Dot ∷ name q x ∷ [])) (before ++ (ts ++ sign p signs.Dot ∷ []) ++ name q x ∷ []) (simp append_assoc)
    (field-stands modules kind e k before ts p q x u o adm fields d)
field-named modules kind e k before mine q what u o d = tt

base-colon : (modules : Modules) (kind : Kind) (m : List ℕ) (k : List Frame) (before : List Token) (p q r : Place) → Under modules kind k before
    → Opens modules k (name p m ∷ sign q signs.Dot ∷ []) → Stands modules kind (member_name (spot p m) k r (kinds.Sign signs.Colon)) (before ++ name p m ∷ sign q signs.Dot ∷ sign r signs.Colon ∷ [])
base-colon modules kind m k before p q r u o =
    guard-stands modules kind (bytes_eq m (codes "Base") && admits k levels.Callee) (at (modes.BaseOperator (spot p m)) k) (before ++ name p m ∷ sign q signs.Dot ∷ sign r signs.Colon ∷ [])
    (λ both.
    let same : codes "Base" ≡ m = sym (text-eq m (codes "Base") (and-first (bytes_eq m (codes "Base")) (admits k levels.Callee) both)) in
    subst (λ l. Stands modules kind (at (modes.BaseOperator (spot p l)) k) (before ++ name p l ∷ sign q signs.Dot ∷ sign r signs.Colon ∷ [])) same
    (over_frames u (opens-more modules k (name p (codes "Base") ∷ sign q signs.Dot ∷ []) (sign r signs.Colon ∷ []) (name p (codes "Base") ∷ sign q signs.Dot ∷ sign r signs.Colon ∷ [])
    (subst (λ l. Opens modules k (name p l ∷ sign q signs.Dot ∷ [])) (sym same) o) refl)
    (has_base p q r (and-second (bytes_eq m (codes "Base")) (admits k levels.Callee) both))))

pub member-stands : (modules : Modules) (kind : Kind) (m : Spot) (k : List Frame) (before mine : List Token) (p : Place) (what : TokenKind) → Under modules kind k before
    → Opens modules k mine → Mine modules (modes.Member m) k mine → Stands modules kind (member_name m k p what) (before ++ mine ++ token p what ∷ [])
member-stands modules kind _ k before _ r what u o (has_module p q m known adm) = by-kind what
  where
    by-sign : (s : Sign) → Stands modules kind (member_name (spot p m) k r (kinds.Sign s)) (before ++ name p m ∷ sign q signs.Dot ∷ [] ++ sign r s ∷ [])
    by-sign signs.Colon =
        stands-text modules kind (member_name (spot p m) k r (kinds.Sign signs.Colon)) (before ++ name p m ∷ sign q signs.Dot ∷ sign r signs.Colon ∷ []) (before ++ name p m ∷ sign q signs.Dot ∷ [] ++ sign r signs.Colon ∷ []) (simp append_assoc)
        (base-colon modules kind m k before p q r u o)
    by-sign s = tt

    by-kind : (what : TokenKind) → Stands modules kind (member_name (spot p m) k r what) (before ++ name p m ∷ sign q signs.Dot ∷ [] ++ token r what ∷ [])
    by-kind (kinds.Name x) =
        stands-text modules kind (at (modes.Have (heads.Member (spot p m) (spot r x))) k) (before ++ name p m ∷ sign q signs.Dot ∷ name r x ∷ []) (before ++ name p m ∷ sign q signs.Dot ∷ [] ++ name r x ∷ []) (simp append_assoc)
        (over_frames u (opens-more modules k (name p m ∷ sign q signs.Dot ∷ []) (name r x ∷ []) (name p m ∷ sign q signs.Dot ∷ name r x ∷ []) o refl) (has_operand (a_member p q r m x known adm)))
    by-kind (kinds.Sign s) = by-sign s
    by-kind what = tt

pub base-stands : (modules : Modules) (kind : Kind) (m : Spot) (k : List Frame) (before mine : List Token) (p : Place) (what : TokenKind) → Under modules kind k before
    → Opens modules k mine → Mine modules (modes.BaseOperator m) k mine → Stands modules kind (base_operator m k p what) (before ++ mine ++ token p what ∷ [])
base-stands modules kind _ k before _ t (kinds.Sign s) u o (has_base p q r adm) =
    guard-stands modules kind (is_operator s) (at (modes.Have (heads.Operator (spot p (codes "Base")) (record { text = operator_text s; at = t.start }))) k)
    (before ++ name p (codes "Base") ∷ sign q signs.Dot ∷ sign r signs.Colon ∷ [] ++ sign t s ∷ [])
    (λ is. stands-text modules kind (at (modes.Have (heads.Operator (spot p (codes "Base")) (record { text = operator_text s; at = t.start }))) k)
    (before ++ name p (codes "Base") ∷ sign q signs.Dot ∷ sign r signs.Colon ∷ sign t s ∷ []) (before ++ name p (codes "Base") ∷ sign q signs.Dot ∷ sign r signs.Colon ∷ [] ++ sign t s ∷ []) (simp append_assoc)
    (over_frames u (opens-more modules k (name p (codes "Base") ∷ sign q signs.Dot ∷ sign r signs.Colon ∷ []) (sign t s ∷ []) (name p (codes "Base") ∷ sign q signs.Dot ∷ sign r signs.Colon ∷ sign t s ∷ []) o refl)
    (has_operand (an_operator p q r t s is adm))))
base-stands modules kind m k before mine t what u o d = tt

-- the fixed forms of statements
pub return-stands : (modules : Modules) (kind : Kind) (k : List Frame) (before : List Token) (q p : Place) (what : TokenKind) → takes_lines k ≡ true → Under modules kind k before
    → Stands modules kind (after_return q.start k p what) (before ++ word q words.Return ∷ [] ++ token p what ∷ [])
return-stands modules kind k before q p what takes u =
    if-stands modules kind (ends_line what) (after_end (closed_line (bare_return q.start) k) what) (operand (frames.Hole (purposes.Return q.start) ∷ k) p what) (before ++ word q words.Return ∷ [] ++ token p what ∷ [])
    (λ _. end-stands modules kind (closed_line (bare_return q.start) k) (before ++ word q words.Return ∷ []) p what (statement-closes modules kind (bare_return q.start) k before (word q words.Return ∷ []) takes u (return_nothing q)))
    (λ _. operand-stands modules kind (frames.Hole (purposes.Return q.start) ∷ k) (before ++ word q words.Return ∷ []) p what
    (under u (lines-open modules k (word q words.Return ∷ []) takes) (hole_begun (returns q takes))) refl (λ rest. refl) (λ r. tt))

pub global-stands : (modules : Modules) (kind : Kind) (k : List Frame) (before : List Token) (q r p : Place) (x : List ℕ) (what : TokenKind) → takes_lines k ≡ true → Under modules kind k before
    → Stands modules kind (global_assign q.start (spot r x) k p what) (before ++ word q words.Global ∷ name r x ∷ [] ++ token p what ∷ [])
global-stands modules kind k before q r p x (kinds.Sign s) takes u = by-assigning (assigning s) refl
  where
    by-assigning : (o : Option (Option Sign)) → assigning s ≡ o → Stands modules kind (set_global q.start (spot r x) k p.start o) (before ++ word q words.Global ∷ name r x ∷ [] ++ sign p s ∷ [])
    by-assigning None e = tt
    by-assigning (Some o) e =
        stands-text modules kind (at modes.Want (frames.Hole (purposes.Assign (targets.Global q.start (spot r x)) (operator_at p.start o)) ∷ k)) (before ++ ((word q words.Global ∷ name r x ∷ []) ++ sign p s ∷ []))
        (before ++ word q words.Global ∷ name r x ∷ [] ++ sign p s ∷ []) (simp append_assoc)
        (bare_at refl (under u (lines-open modules k ((word q words.Global ∷ name r x ∷ []) ++ sign p s ∷ []) takes) (hole_begun (assigns p s takes (global_begun q r x) e))))
global-stands modules kind k before q r p x what takes u = tt

pub short-stands : (modules : Modules) (kind : Kind) (f : Path) (ps : List Param) (k : List Frame) (before ts us : List Token) (p : Place) (what : TokenKind)
    → takes_definition k ≡ true → Under modules kind k before → Opens modules k (ts ++ us) → ShortBegun modules f ts → Parameters modules us ps
    → Stands modules kind (short_assign (frames.Signature forms.Short f ps ∷ k) what) (before ++ (ts ++ us) ++ token p what ∷ [])
short-stands modules kind f ps k before ts us p what takes u o s params = by-kind what
  where
    by-sign : (b : Sign) → Stands modules kind (short_assign (frames.Signature forms.Short f ps ∷ k) (kinds.Sign b)) (before ++ (ts ++ us) ++ sign p b ∷ [])
    by-sign signs.Assign =
        stands-text modules kind (at modes.Want (frames.Hole (purposes.Short f ps) ∷ k)) (before ++ (ts ++ (us ++ sign p signs.Assign ∷ []))) (before ++ (ts ++ us) ++ sign p signs.Assign ∷ []) (simp append_assoc)
        (bare_at refl (under u (opens-more modules k (ts ++ us) (sign p signs.Assign ∷ []) (ts ++ (us ++ sign p signs.Assign ∷ [])) o (append_assoc ts us (sign p signs.Assign ∷ []))) (hole_begun (defines p takes s params))))
    by-sign b = tt

    by-kind : (what : TokenKind) → Stands modules kind (short_assign (frames.Signature forms.Short f ps ∷ k) what) (before ++ (ts ++ us) ++ token p what ∷ [])
    by-kind (kinds.Sign b) = by-sign b
    by-kind what = tt

-- a sign that a mode wants
pub colon-wanted : (modules : Modules) (kind : Kind) (s : Option State) (ts : List Token) (p : Place) (what : TokenKind) → Stands modules kind s (ts ++ sign p signs.Colon ∷ [])
    → Stands modules kind (expect_sign signs.Colon what s) (ts ++ token p what ∷ [])
colon-wanted modules kind s ts p (kinds.Sign signs.Colon) d = d
colon-wanted modules kind s ts p what d = tt

pub open-wanted : (modules : Modules) (kind : Kind) (s : Option State) (ts : List Token) (p : Place) (what : TokenKind) → Stands modules kind s (ts ++ sign p signs.LeftParen ∷ [])
    → Stands modules kind (expect_sign signs.LeftParen what s) (ts ++ token p what ∷ [])
open-wanted modules kind s ts p (kinds.Sign signs.LeftParen) d = d
open-wanted modules kind s ts p what d = tt

pub close-wanted : (modules : Modules) (kind : Kind) (s : Option State) (ts : List Token) (p : Place) (what : TokenKind) → Stands modules kind s (ts ++ sign p signs.RightParen ∷ [])
    → Stands modules kind (expect_sign signs.RightParen what s) (ts ++ token p what ∷ [])
close-wanted modules kind s ts p (kinds.Sign signs.RightParen) d = d
close-wanted modules kind s ts p what d = tt

pub assign-wanted : (modules : Modules) (kind : Kind) (s : Option State) (ts : List Token) (p : Place) (what : TokenKind) → Stands modules kind s (ts ++ sign p signs.Assign ∷ [])
    → Stands modules kind (expect_sign signs.Assign what s) (ts ++ token p what ∷ [])
assign-wanted modules kind s ts p (kinds.Sign signs.Assign) d = d
assign-wanted modules kind s ts p what d = tt

-- a name that a mode wants
pub name-wanted : (modules : Modules) (kind : Kind) (mode : Spot → Mode) (k : List Frame) (ts : List Token) (p : Place) (what : TokenKind)
    → ((x : List ℕ) → Stands modules kind (at (mode (spot p x)) k) (ts ++ name p x ∷ [])) → Stands modules kind (expect_name mode k p what) (ts ++ token p what ∷ [])
name-wanted modules kind mode k ts p (kinds.Name x) d = d x
name-wanted modules kind mode k ts p what d = tt

-- the head of a package, and the end of one
pub package-begins : (modules : Modules) (kind : Kind) (ts : List Token) (p : Place) (what : TokenKind) → kind ≡ «package» → Separators ts
    → Stands modules kind (package_start [] what) (ts ++ token p what ∷ [])
package-begins modules kind ts p what is d = by-kind what
  where
    by-word : (w : Word) → Stands modules kind (package_start [] (kinds.Reserved w)) (ts ++ word p w ∷ [])
    by-word words.Module = at_package_name p is d
    by-word w = tt

    by-kind : (what : TokenKind) → Stands modules kind (package_start [] what) (ts ++ token p what ∷ [])
    by-kind (kinds.Reserved w) = by-word w
    by-kind kinds.Separator = at_package is (separators-more p d)
    by-kind what = tt

package-root : {kind : Kind} {ts : List Token} (p q r : Place) (x : List ℕ) → kind ≡ «package» → Separators ts
    → RootBegun (roots.Package (spot q x) []) kind (ts ++ word p words.Module ∷ name q x ∷ separator r ∷ [])
package-root {ts = ts} p q r x is d = subst (λ l. RootBegun (roots.Package (spot q x) []) l (ts ++ word p words.Module ∷ name q x ∷ separator r ∷ [])) (sym is) (package_begun p q r x d no_use)

pub package-opens : (modules : Modules) (kind : Kind) (ts : List Token) (p q r : Place) (x : List ℕ) (what : TokenKind) → kind ≡ «package» → Separators ts
    → Stands modules kind (package_named (spot q x) what) (ts ++ word p words.Module ∷ name q x ∷ [] ++ token r what ∷ [])
package-opens modules kind ts p q r x kinds.Separator is d =
    stands-text modules kind (at modes.Line (frames.Items (roots.Package (spot q x) []) no_entries ∷ [])) ([] ++ ((ts ++ word p words.Module ∷ name q x ∷ separator r ∷ []) ++ []))
    (ts ++ word p words.Module ∷ name q x ∷ [] ++ separator r ∷ []) (simp (append_assoc, append-nil))
    (bare_at refl (under nothing (λ rest. refl) (items_begun (package-root p q r x is d) no_item)))
package-opens modules kind ts p q r x what is d = tt

package-accepts : (modules : Modules) (kind : Kind) (x : Spot) (names : List Spot) (is : Entries) (ts us : List Token) (p : Place) → RootBegun (roots.Package x names) kind ts → Ending modules us is
    → Stands modules kind (at modes.Accepted (frames.Items (roots.Package x names) is ∷ [])) ((ts ++ us) ++ token p kinds.Eof ∷ [])
package-accepts modules _ _ names is _ us p (package_begun {ts = ts} {us = vs} q r s x seps used) e =
    text_ended refl (subst (λ l. IsText modules «package» l (parsed.Package (record { name = spot r x; uses = names; items = is.trees })) is.nesting) (simp append_assoc)
    (is_package {ts = ts} {us = vs ++ (us ++ token p kinds.Eof ∷ [])} q r s x seps
    (subst (λ l. PackageRest modules (vs ++ (us ++ token p kinds.Eof ∷ [])) l is) (append-nil names) (close-uses used (has_items (e.ends [] no_separator p))))))

pub package-ended-stands : (modules : Modules) (kind : Kind) (x : Spot) (names : List Spot) (is : Entries) (ts us : List Token) (p : Place) (what : TokenKind)
    → RootBegun (roots.Package x names) kind ts → Ending modules us is
    → Stands modules kind (package_end (frames.Items (roots.Package x names) is ∷ []) what) ((ts ++ us) ++ token p what ∷ [])
package-ended-stands modules kind x names is ts us p kinds.Separator root e =
    stands-text modules kind (at modes.PackageEnd (frames.Items (roots.Package x names) is ∷ [])) (ts ++ (us ++ separator p ∷ [])) ((ts ++ us) ++ separator p ∷ []) (simp append_assoc)
    (package_ended root (record { ends = λ vs seps q. subst (λ l. Items modules «package» l is) (sym (append_assoc us (separator p ∷ []) (vs ++ token q kinds.Eof ∷ []))) (e.ends (separator p ∷ vs) (a_separator p seps) q) }))
package-ended-stands modules kind x names is ts us p kinds.Eof root e = package-accepts modules kind x names is ts us p root e
package-ended-stands modules kind x names is ts us p what root e = tt
