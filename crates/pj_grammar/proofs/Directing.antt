-- Directives keep what has been read, also where their types begin as a group.
use Rattle.pj_grammar.proofs.Begun.{DirectiveBegun, PathsBegun, TypesBegun, Under, call_begun, directive_begun, directive_function, group_begun, items_begun, no_paths, no_type, package_begun, short_begun, then_path, then_type, types_begun, under}
use Rattle.pj_grammar.proofs.Ending.{entry-closes, lines-open}
use Rattle.pj_grammar.proofs.Levels.{absurd-of}
use Rattle.pj_grammar.proofs.Listing.{last-type-ends, types-end}
use Rattle.pj_grammar.proofs.Operating.{stands-text}
use Rattle.pj_grammar.proofs.Signing.{below-value}
use Rattle.pj_grammar.proofs.Standing.{Mine, Stands, a_name, bare_at, before_types, has_operand, over_frames, types_closed}
use Rattle.pj_grammar.specs.Closing.{closed_entry}
use Rattle.pj_grammar.specs.Expressions.{Callee, Named, bare, named, of_module, operator}
use Rattle.pj_grammar.specs.Frames.{at, takes_directives, takes_lines}
use Rattle.pj_grammar.specs.Machine.{close_types, opens_types}
use Rattle.pj_grammar.specs.Makers.{Entry, directive_of}
use Rattle.pj_grammar.specs.Modules.{Modules}
use Rattle.pj_grammar.specs.Operands.{after_type, begin_types}
use Rattle.pj_grammar.specs.Texts.{Item, Kind, Types, directive, no_types, «package»}
use Rattle.pj_grammar.specs.Tokens.{Place, name, sign, token}
use Rattle.pj_grammar.specs.declared.frame.Frame.{Frame}
use Rattle.pj_lex.specs.declared.sign.Sign.{Sign}
use Rattle.pj_lex.specs.declared.token.Token.{Token}
use Rattle.pj_lex.specs.declared.token.TokenKind.{TokenKind}
use Rattle.pj_syntax.specs.declared.expression.Path.{Path}
use Rattle.pj_syntax.specs.declared.expression.Spot.{Spot}
use Rattle.std.proofs.Common.{Bool, List, Option, Some, [], ap, codes, false, refl, subst, sym, true, ℕ, ◌&&◌, ◌++◌, ◌∙◌, ◌∷◌, ◌≡◌}
use Rattle.std.proofs.lemmas.List.{append-nil, append_assoc}
use Rattle.std.proofs.lemmas.Slice.Eq.{bytes_eq-Decides}
use Rattle.std.specs.Str.{bytes_eq}
use Rattle.pj_grammar.specs.declared.frame.Frame.TheVariants as frames
use Rattle.pj_grammar.specs.declared.frame.Given.TheVariants as given
use Rattle.pj_lex.specs.declared.token.TokenKind.TheVariants as kinds
use Rattle.pj_grammar.specs.declared.mode.Mode.TheVariants as modes
use Rattle.pj_syntax.specs.declared.expression.Path.TheVariants as paths
use Rattle.pj_grammar.specs.declared.frame.Purpose.TheVariants as purposes
use Rattle.pj_grammar.specs.declared.frame.Root.TheVariants as roots
use Rattle.pj_lex.specs.declared.sign.Sign.TheVariants as signs

pub text-eq : (a b : List ℕ) → bytes_eq a b ≡ true → a ≡ b
text-eq a b h = (bytes_eq-Decides a b).0 h

pub and-first : (a b : Bool) → (a && b) ≡ true → a ≡ true
and-first true b h = refl
and-first false b h = absurd-of h

pub and-second : (a b : Bool) → (a && b) ≡ true → b ≡ true
and-second true b h = h
and-second false b h = absurd-of h

pub directives-lines : (k : List Frame) → takes_directives k ≡ true → takes_lines k ≡ true
directives-lines (frames.Items root is ∷ k) h = refl
directives-lines k h = absurd-of h

package-of : {modules : Modules} {kind : Kind} (k : List Frame) {before : List Token} → takes_directives k ≡ true → Under modules kind k before → kind ≡ «package»
package-of (frames.Items roots.Script is ∷ k) h u = absurd-of h
package-of (frames.Items (roots.Package x names) is ∷ k) h (under u o (items_begun (package_begun p q r y seps used) list)) = refl
package-of k h u = absurd-of h

-- a name alone
pub record BareAt (ts : List Token) (t : List ℕ) : Type 0 where
  pub place : Place
  pub is : ts ≡ name place t ∷ []

same-text : {a b : Spot} → paths.Bare a ≡ paths.Bare b → a.text ≡ b.text
same-text h = cc

pub callee-bare : {modules : Modules} {ts : List Token} {f : Path} → Callee modules ts f → (x : Spot) → f ≡ paths.Bare x → (t : List ℕ) → x.text ≡ t → BareAt ts t
callee-bare (named (bare p y)) x is t e = record { place = p; is = ap (λ l. name p l ∷ []) (same-text is ∙ e) }
callee-bare (named (of_module p q r m y known)) x is t e = cc
callee-bare (operator p q r o s known) x is t e = cc

-- one argument that is a name
not-empty {ℓ} : {A : Type ℓ} (xs : List Path) (f : Path) → xs ++ f ∷ [] ≡ [] → A
not-empty [] f h = cc
not-empty (x ∷ xs) f h = cc

pub no-path : {modules : Modules} {ts : List Token} (ps : List Path) → PathsBegun modules ts ps → ps ≡ [] → ts ≡ []
no-path _ no_paths e = refl
no-path ps (then_path {ps = before} {f = f} p b c is) e = not-empty before f (sym is ∙ e)

record OnePath (modules : Modules) (ts : List Token) (g : Path) : Type 0 where
  mine : List Token
  comma : Place
  is : ts ≡ mine ++ sign comma signs.Comma ∷ []
  callee : Callee modules mine g

same-head : {a b : Path} {xs ys : List Path} → a ∷ xs ≡ b ∷ ys → a ≡ b
same-head h = cc

one-path : {modules : Modules} {ts : List Token} (g : Path) (ps : List Path) → PathsBegun modules ts ps → ps ≡ g ∷ [] → OnePath modules ts g
one-path g _ no_paths e = cc
one-path {modules} g ps (then_path {ts = ts} {us = us} {ps = before} {f = f} p b c is) e = by-before before b (sym is ∙ e)
  where
    by-before : (before : List Path) → PathsBegun modules ts before → before ++ f ∷ [] ≡ g ∷ [] → OnePath modules (ts ++ (us ++ sign p signs.Comma ∷ [])) g
    by-before [] b h =
        record { mine = us; comma = p; is = ap (λ l. l ++ (us ++ sign p signs.Comma ∷ [])) (no-path [] b refl); callee = subst (λ x. Callee modules us x) (same-head h) c }
    by-before (x ∷ []) b h = cc
    by-before (x ∷ y ∷ xs) b h = cc

-- a directive up to its types
record Directed (modules : Modules) (kind : Kind) (k : List Frame) (g : Path) (text : List Token) : Type 0 where
  before : List Token
  mine : List Token
  is : before ++ mine ≡ text
  under : Under modules kind k before
  takes : takes_directives k ≡ true
  directive : DirectiveBegun modules g mine

call-directed : (modules : Modules) (kind : Kind) (f g : Path) (k : List Frame) (before : List Token) (p : Place)
    → Under modules kind (frames.Call f (given.Paths (g ∷ [])) ∷ frames.Hole purposes.Value ∷ k) before
    → opens_types (frames.Call f (given.Paths (g ∷ [])) ∷ frames.Hole purposes.Value ∷ k) ≡ true → Directed modules kind k g (before ++ sign p signs.LeftParen ∷ [])
call-directed modules kind (paths.Of m x) g k before p u h = absurd-of h
call-directed modules kind (paths.Bare x) g k _ p (under {before = b} u o (call_begun us adm (short_begun {ts = cs} q callee direct) list)) h =
    let first = one-path g (g ∷ []) list refl in
    let at' = callee-bare callee x refl (codes "precompile") (text-eq x.text (codes "precompile") (and-first _ _ h)) in
    record {
      before = b;
      mine = name at'.place (codes "precompile") ∷ sign q signs.LeftParen ∷ (first.mine ++ sign first.comma signs.Comma ∷ sign p signs.LeftParen ∷ []);
      is = simp append_assoc refl ∙ ap (λ l. b ++ ((name at'.place (codes "precompile") ∷ sign q signs.LeftParen ∷ []) ++ l) ++ sign p signs.LeftParen ∷ []) (sym first.is) ∙ ap (λ l. b ++ ((l ++ sign q signs.LeftParen ∷ []) ++ us) ++ sign p signs.LeftParen ∷ []) (sym at'.is);
      under = (below-value u).under;
      takes = and-second _ _ h;
      directive = directive_begun at'.place q first.comma p first.callee;
    }

directed : (modules : Modules) (kind : Kind) (a : ℕ) (f g : Path) (k : List Frame) (before : List Token)
    → Under modules kind (frames.Group a true ∷ frames.Call f (given.Paths (g ∷ [])) ∷ frames.Hole purposes.Value ∷ k) before → Directed modules kind k g before
directed modules kind _ f g k _ (under {before = b} u o (group_begun p adm is)) = call-directed modules kind f g k b p u is

-- no types
pub close-types-stands : (modules : Modules) (kind : Kind) (k : List Frame) (before : List Token) (q : Place) → Under modules kind k before
    → Stands modules kind (close_types k) (before ++ sign q signs.RightParen ∷ [])
close-types-stands modules kind (frames.Group a true ∷ frames.Call f (given.Paths (g ∷ [])) ∷ frames.Hole purposes.Value ∷ k) before q u =
    let d = directed modules kind a f g k before u in
    stands-text modules kind (at modes.DirectiveEnd (frames.Types g [] ∷ k)) (d.before ++ (d.mine ++ sign q signs.RightParen ∷ [])) (before ++ sign q signs.RightParen ∷ [])
    (sym (append_assoc d.before d.mine (sign q signs.RightParen ∷ [])) ∙ ap (λ l. l ++ sign q signs.RightParen ∷ []) d.is)
    (types_closed d.takes d.under d.directive (no_types q))
close-types-stands modules kind k before q u = tt

-- the first type, which a group began with
pub begin-types-stands : (modules : Modules) (kind : Kind) (a : ℕ) (types : Bool) (t : Option Path) (k : List Frame) (before mine : List Token) (p : Place)
    → Under modules kind (frames.Group a types ∷ k) before → ((x : Path) → t ≡ Some x → Named modules mine x)
    → Stands modules kind (begin_types types t k) (before ++ mine ++ sign p signs.Comma ∷ [])
begin-types-stands modules kind a true (Some t) (frames.Call f (given.Paths (g ∷ [])) ∷ frames.Hole purposes.Value ∷ k) before mine p u e =
    let d = directed modules kind a f g k before u in
    stands-text modules kind (at modes.Types (frames.Types g (t ∷ []) ∷ k)) (d.before ++ (d.mine ++ (mine ++ sign p signs.Comma ∷ []))) (before ++ mine ++ sign p signs.Comma ∷ [])
    (simp append_assoc refl ∙ ap (λ l. l ++ mine ++ sign p signs.Comma ∷ []) d.is)
    (bare_at refl (under d.under (lines-open modules k (d.mine ++ (mine ++ sign p signs.Comma ∷ [])) (directives-lines k d.takes)) (types_begun d.takes d.directive (then_type p no_type (e t refl) refl))))
begin-types-stands modules kind a types t k before mine p u e = tt

-- the function of a directive, and the `(` behind it
pub directive-named : (modules : Modules) (kind : Kind) (f : Path) (k : List Frame) (before mine : List Token) (p : Place) → Under modules kind (frames.DirectiveFun ∷ k) before
    → Callee modules mine f → Stands modules kind (at (modes.TypesOpen f) k) (before ++ mine ++ sign p signs.Comma ∷ [])
directive-named modules kind f k _ mine p (under {before = b} u o (directive_function q r takes)) c =
    stands-text modules kind (at (modes.TypesOpen f) k) (b ++ name q (codes "precompile") ∷ sign r signs.LeftParen ∷ (mine ++ sign p signs.Comma ∷ []))
    ((b ++ name q (codes "precompile") ∷ sign r signs.LeftParen ∷ []) ++ mine ++ sign p signs.Comma ∷ []) (simp append_assoc)
    (over_frames u (lines-open modules k (name q (codes "precompile") ∷ sign r signs.LeftParen ∷ (mine ++ sign p signs.Comma ∷ [])) (directives-lines k takes)) (before_types q r p takes c))

pub types-open : (modules : Modules) (kind : Kind) (f : Path) (k : List Frame) (before mine : List Token) (p : Place) → Under modules kind k before
    → Mine modules (modes.TypesOpen f) k mine → Stands modules kind (at modes.Types (frames.Types f [] ∷ k)) (before ++ mine ++ sign p signs.LeftParen ∷ [])
types-open modules kind f k before _ p u (before_types {ts = ts} q r c takes callee) =
    stands-text modules kind (at modes.Types (frames.Types f [] ∷ k)) (before ++ ((name q (codes "precompile") ∷ sign r signs.LeftParen ∷ (ts ++ sign c signs.Comma ∷ sign p signs.LeftParen ∷ [])) ++ []))
    (before ++ (name q (codes "precompile") ∷ sign r signs.LeftParen ∷ (ts ++ sign c signs.Comma ∷ [])) ++ sign p signs.LeftParen ∷ []) (simp (append_assoc, append-nil))
    (bare_at refl (under u (lines-open modules k ((name q (codes "precompile") ∷ sign r signs.LeftParen ∷ (ts ++ sign c signs.Comma ∷ sign p signs.LeftParen ∷ [])) ++ []) (directives-lines k takes))
    (types_begun takes (directive_begun q r c p callee) no_type)))

-- a type begins, or the types end
pub types-stands : (modules : Modules) (kind : Kind) (f : Path) (list : List Path) (k : List Frame) (before : List Token) (p : Place) (what : TokenKind)
    → Under modules kind (frames.Types f list ∷ k) before → Stands modules kind (Rattle.pj_grammar.specs.Machine.types (frames.Types f list ∷ k) p what) (before ++ token p what ∷ [])
types-stands modules kind f list k _ p what (under {before = b} u o (types_begun {ts = ts} {us = us} takes d read)) = by-kind what
  where
    by-sign : (s : Sign) → Stands modules kind (Rattle.pj_grammar.specs.Machine.types (frames.Types f list ∷ k) p (kinds.Sign s)) (b ++ (ts ++ us) ++ sign p s ∷ [])
    by-sign signs.RightParen =
        stands-text modules kind (at modes.DirectiveEnd (frames.Types f list ∷ k)) (b ++ (ts ++ (us ++ sign p signs.RightParen ∷ []))) (b ++ (ts ++ us) ++ sign p signs.RightParen ∷ []) (simp append_assoc)
        (types_closed takes u d (types-end p read))
    by-sign s = tt

    by-kind : (what : TokenKind) → Stands modules kind (Rattle.pj_grammar.specs.Machine.types (frames.Types f list ∷ k) p what) (b ++ (ts ++ us) ++ token p what ∷ [])
    by-kind (kinds.Sign s) = by-sign s
    by-kind (kinds.Name x) = over_frames (under u o (types_begun takes d read)) (λ more. refl) (has_operand (a_name p x))
    by-kind what = tt

-- a type has been read
pub after-type-stands : (modules : Modules) (kind : Kind) (f t : Path) (list : List Path) (k : List Frame) (before mine : List Token) (p : Place) (what : TokenKind)
    → Under modules kind (frames.Types f list ∷ k) before → Named modules mine t
    → Stands modules kind (after_type f list t k what) (before ++ mine ++ token p what ∷ [])
after-type-stands modules kind f t list k _ mine p what (under {before = b} u o (types_begun {ts = ts} {us = us} takes d read)) e = by-kind what
  where
    by-end : (list : List Path) → TypesBegun modules us list → Stands modules kind (after_type f list t k (kinds.Sign signs.RightParen)) (b ++ (ts ++ us) ++ mine ++ sign p signs.RightParen ∷ [])
    by-end [] read = tt
    by-end (x ∷ list) read =
        stands-text modules kind (at modes.DirectiveEnd (frames.Types f (x ∷ list ++ t ∷ []) ∷ k)) (b ++ (ts ++ (us ++ (mine ++ sign p signs.RightParen ∷ []))))
        (b ++ (ts ++ us) ++ mine ++ sign p signs.RightParen ∷ []) (simp append_assoc)
        (types_closed takes u d (last-type-ends p read e))

    by-sign : (s : Sign) → Stands modules kind (after_type f list t k (kinds.Sign s)) (b ++ (ts ++ us) ++ mine ++ sign p s ∷ [])
    by-sign signs.Comma =
        stands-text modules kind (at modes.Types (frames.Types f (list ++ t ∷ []) ∷ k)) (b ++ (ts ++ (us ++ (mine ++ sign p signs.Comma ∷ [])))) (b ++ (ts ++ us) ++ mine ++ sign p signs.Comma ∷ []) (simp append_assoc)
        (bare_at refl (under u (lines-open modules k (ts ++ (us ++ (mine ++ sign p signs.Comma ∷ []))) (directives-lines k takes)) (types_begun takes d (then_type p read e refl))))
    by-sign signs.RightParen = by-end list read
    by-sign s = none list
      where
        none : (list : List Path) → Stands modules kind (after_type f list t k (kinds.Sign s)) (b ++ (ts ++ us) ++ mine ++ sign p s ∷ [])
        none [] = tt
        none (x ∷ xs) = tt

    by-kind : (what : TokenKind) → Stands modules kind (after_type f list t k what) (b ++ (ts ++ us) ++ mine ++ token p what ∷ [])
    by-kind (kinds.Sign s) = by-sign s
    by-kind what = none list
      where
        none : (list : List Path) → Stands modules kind (after_type f list t k what) (b ++ (ts ++ us) ++ mine ++ token p what ∷ [])
        none [] = tt
        none (x ∷ xs) = tt

-- a directive ends
package-item : {modules : Modules} {kind : Kind} {ts : List Token} {i : Entry} → kind ≡ «package» → Item modules «package» ts i → Item modules kind ts i
package-item {modules} {ts = ts} {i = i} e d = subst (λ l. Item modules l ts i) (sym e) d

pub directive-ends : (modules : Modules) (kind : Kind) (f : Path) (list : List Path) (k : List Frame) (before ts us : List Token) (p : Place) → takes_directives k ≡ true
    → Under modules kind k before → DirectiveBegun modules f ts → Types modules us list
    → Stands modules kind (closed_entry (directive_of f list) k) (before ++ (ts ++ us) ++ sign p signs.RightParen ∷ [])
directive-ends modules kind f list k before _ us p takes u (directive_begun {ts = ts} q r c o callee) d =
    stands-text modules kind (closed_entry (directive_of f list) k)
    (before ++ name q (codes "precompile") ∷ sign r signs.LeftParen ∷ (ts ++ sign c signs.Comma ∷ sign o signs.LeftParen ∷ (us ++ sign p signs.RightParen ∷ [])))
    (before ++ ((name q (codes "precompile") ∷ sign r signs.LeftParen ∷ (ts ++ sign c signs.Comma ∷ sign o signs.LeftParen ∷ [])) ++ us) ++ sign p signs.RightParen ∷ []) (simp append_assoc)
    (entry-closes modules kind (directive_of f list) k before _ u (λ _. package-item (package-of k takes u) (directive q r c o p callee d)))
