-- One syntax tree or one fault: each part of a reading is determined.
use Rattle.std.proofs.Common.{◌≡◌, ℕ, ◌≤◌, List, Option, Some, None, slice_get, refl, sym, ap, subst, length, ◌∙◌}
use Rattle.std.specs.Str.{IsUtf8, IsValidUpTo, chars}
use Rattle.std.proofs.lemmas.Str.{utf8_valid_len-IsValidUpTo}
use Rattle.std.proofs.Math.Seq.{take-length}
use Rattle.pj_lex.specs.declared.fault.SyntaxKind.{SyntaxKind}
use Rattle.pj_lex.specs.declared.fault.SyntaxKind.TheVariants as faults
use Rattle.pj_lex.specs.declared.token.Token.{Token}
use Rattle.pj_lex.specs.Before.{start}
use Rattle.pj_lex.specs.Lexed.{Faulty, IsTokens}
use Rattle.pj_lex.proofs.Determined.{never_both, one_list, one_place}
use Rattle.pj_grammar.specs.declared.mode.Parsed.{Parsed}
use Rattle.pj_grammar.specs.Modules.{Modules, modules_of}
use Rattle.pj_grammar.specs.Texts.{IsText, Kind}
use Rattle.pj_grammar.specs.Theorems.{Complete, IsDeepFault, IsGrammarFault}
use Rattle.pj_grammar.proofs.Determined.{one-tree}
use Rattle.pj_grammar.proofs.Whole.{whole}
use Rattle.pj_parse.specs.Laws.{NeverBoth, OneFault, OneSyntax}
use Rattle.pj_parse.specs.Scoped.{scope_fault}
use Rattle.pj_parse.specs.Texts.{IsFault, IsSyntax, Stands, deep_kind, most_nesting, no_utf8, no_token, no_text, too_deep, out_of_scope}
use Rattle.pj_parse.proofs.Fronts.{deep-stop, grammar-stop, never-both, no-stop, one-stop}

each-text : Complete
each-text modules kind ts tree nesting d = whole refl d

same-tokens : {bytes : List ℕ} {ts us : List Token} → IsTokens bytes ts → IsTokens bytes us → ts ≡ us
same-tokens a b = one_list a.1 b.1

-- What follows the tokens, which are the same for all readings of a text.
record Of (kind : Kind) (own : List ℕ) (tokens : List Token) (syntax : Parsed) : Type 0 where
  nesting : ℕ
  is : IsText (modules_of own tokens) kind tokens syntax nesting
  within : nesting ≤ most_nesting
  scoped : scope_fault own (modules_of own tokens) syntax ≡ None

moved : {kind : Kind} {own bytes : List ℕ} {syntax : Parsed} (ts : List Token) → IsTokens bytes ts → IsSyntax kind own bytes syntax → Of kind own ts syntax
moved {kind} {own} {syntax = syntax} ts now s =
    subst (λ us. Of kind own us syntax) (same-tokens s.spelled now) (record { nesting = s.nesting; is = s.is; within = s.within; scoped = s.scoped })

tree-of : {kind : Kind} {own : List ℕ} {ts : List Token} {a b : Parsed} {n m : ℕ} → IsText (modules_of own ts) kind ts a n → IsText (modules_of own ts) kind ts b m → a ≡ b
tree-of {kind} {own} {ts} {a} {b} {n} {m} p q = (one-tree each-text _ kind ts a b n m p q).0

pub one-syntax : OneSyntax
one-syntax kind own bytes a b p q =
    let there = moved p.tokens p.spelled q in
    tree-of p.is there.is

-- What is wrong with a text that has these tokens.
data Late (kind : Kind) (own : List ℕ) (ts : List Token) : ℕ → SyntaxKind → Type 0 where
  ends_early : {place : ℕ} (i : ℕ) → IsGrammarFault (modules_of own ts) kind most_nesting ts i → Stands ts i place → Late kind own ts place faults.Grammar
  nests_deep : {place : ℕ} (i : ℕ) → IsDeepFault (modules_of own ts) kind most_nesting ts i → (s : Stands ts i place) → Late kind own ts place (deep_kind s.0.what)
  breaks : {place : ℕ} {what : SyntaxKind} (nesting : ℕ) (syntax : Parsed) → IsText (modules_of own ts) kind ts syntax nesting → nesting ≤ most_nesting
      → scope_fault own (modules_of own ts) syntax ≡ Some (place, what) → Late kind own ts place what

abbrev Same : ℕ → ℕ → SyntaxKind → SyntaxKind → Type 0
Same p q a b = (p ≡ q) × (a ≡ b)

one-token : {t u : Token} → Some t ≡ Some u → t ≡ u
one-token h = cc

stands-once : (ts : List Token) (i j : ℕ) {p q : ℕ} → i ≡ j → Stands ts i p → Stands ts j q → p ≡ q
stands-once ts i j same (t, is, at) (u, found, there) =
    sym at ∙ ap (λ x. x.start) (one-token (sym is ∙ ap (slice_get ts) same ∙ found)) ∙ there

deep-once : (ts : List Token) (i j : ℕ) {p q : ℕ} → i ≡ j → (s : Stands ts i p) (u : Stands ts j q) → deep_kind s.0.what ≡ deep_kind u.0.what
deep-once ts i j same (t, is, at) (u, found, there) = ap (λ x. deep_kind x.what) (one-token (sym is ∙ ap (slice_get ts) same ∙ found))

abbrev pair : ℕ → SyntaxKind → ℕ × SyntaxKind
pair p a = (p, a)

both : {p q : ℕ} {a b : SyntaxKind} → Some (pair p a) ≡ Some (pair q b) → Same p q a b
both {p} {q} {a} {b} h = let inner : pair p a ≡ pair q b = cc in (ap (λ r. r.0) inner, ap (λ r. r.1) inner)

same-breaks : (own : List ℕ) (modules : Modules) {p q : ℕ} {a b : SyntaxKind} {x y : Parsed} → x ≡ y → scope_fault own modules x ≡ Some (p, a) → scope_fault own modules y ≡ Some (q, b)
    → Same p q a b
same-breaks own modules same f g = both (sym f ∙ ap (scope_fault own modules) same ∙ g)

one-late : {kind : Kind} {own : List ℕ} (ts : List Token) {p q : ℕ} {a b : SyntaxKind} → Late kind own ts p a → Late kind own ts q b → Same p q a b
one-late ts (ends_early i f s) (ends_early j g u) = (stands-once ts i j (one-stop ts i j (grammar-stop ts i f) (grammar-stop ts j g)) s u, refl)
one-late ts (ends_early i f s) (nests_deep j g u) = absurd (never-both ts i j f g)
one-late ts (ends_early i f s) (breaks n x is low h) = absurd (no-stop ts i is low (grammar-stop ts i f))
one-late ts (nests_deep i f s) (ends_early j g u) = absurd (never-both ts j i g f)
one-late ts (nests_deep i f s) (nests_deep j g u) = let same = one-stop ts i j (deep-stop ts i f) (deep-stop ts j g) in (stands-once ts i j same s u, deep-once ts i j same s u)
one-late ts (nests_deep i f s) (breaks n x is low h) = absurd (no-stop ts i is low (deep-stop ts i f))
one-late ts (breaks n x is low h) (ends_early j g u) = absurd (no-stop ts j is low (grammar-stop ts j g))
one-late ts (breaks n x is low h) (nests_deep j g u) = absurd (no-stop ts j is low (deep-stop ts j g))
one-late {kind} {own} ts (breaks n x is low h) (breaks m y other few g) = same-breaks own (modules_of own ts) (tree-of is other) h g

some-none : {r : ℕ × SyntaxKind} → Some r ≡ None → ⊥
some-none h = cc

-- no fault of a text that is read
sound-late : {kind : Kind} {own : List ℕ} (ts : List Token) {p : ℕ} {a : SyntaxKind} {syntax : Parsed} → Of kind own ts syntax → Late kind own ts p a → ⊥
sound-late ts s (ends_early i f u) = no-stop ts i s.is s.within (grammar-stop ts i f)
sound-late ts s (nests_deep i f u) = no-stop ts i s.is s.within (deep-stop ts i f)
sound-late {kind} {own} ts s (breaks n x is low h) = some-none (sym h ∙ ap (scope_fault own (modules_of own ts)) (tree-of is s.is) ∙ s.scoped)

-- Faults by what comes first: no UTF-8, no token, or what follows on tokens.
data View (kind : Kind) (own bytes : List ℕ) : ℕ → SyntaxKind → Type 0 where
  bad_bytes : {place : ℕ} → IsValidUpTo bytes place → View kind own bytes place faults.Utf8
  bad_piece : {place : ℕ} → IsUtf8 bytes → Faulty start 0 (chars bytes) place → View kind own bytes place faults.Token
  bad_text : {place : ℕ} {what : SyntaxKind} (ts : List Token) → IsTokens bytes ts → Late kind own ts place what → View kind own bytes place what

view : {kind : Kind} {own bytes : List ℕ} {p : ℕ} {a : SyntaxKind} → IsFault kind own bytes p a → View kind own bytes p a
view (no_utf8 h) = bad_bytes h
view (no_token h f) = bad_piece h f
view (no_text i ts is f s) = bad_text ts is (ends_early i f s)
view (too_deep i ts is f s) = bad_text ts is (nests_deep i f s)
view (out_of_scope n ts x spelled is low h) = bad_text ts spelled (breaks n x is low h)

not-utf8 : {bytes : List ℕ} {p : ℕ} → IsValidUpTo bytes p → IsUtf8 bytes → ⊥
not-utf8 {bytes} v h = v.longest (length bytes) v.short (subst IsUtf8 (sym (take-length bytes)) h)

at-tokens : {kind : Kind} {own : List ℕ} {ts us : List Token} {p : ℕ} {a : SyntaxKind} → ts ≡ us → Late kind own ts p a → Late kind own us p a
at-tokens {kind} {own} {p = p} {a} same f = subst (λ xs. Late kind own xs p a) same f

one-view : {kind : Kind} {own bytes : List ℕ} {p q : ℕ} {a b : SyntaxKind} → View kind own bytes p a → View kind own bytes q b → Same p q a b
one-view {bytes = bytes} {p} {q} (bad_bytes v) (bad_bytes w) = (sym (utf8_valid_len-IsValidUpTo bytes p v) ∙ utf8_valid_len-IsValidUpTo bytes q w, refl)
one-view (bad_bytes v) (bad_piece h f) = absurd (not-utf8 v h)
one-view (bad_bytes v) (bad_text ts is f) = absurd (not-utf8 v is.0)
one-view (bad_piece h f) (bad_bytes v) = absurd (not-utf8 v h)
one-view (bad_piece h f) (bad_piece i g) = (one_place f g, refl)
one-view (bad_piece h f) (bad_text ts is g) = absurd (never_both is.1 f)
one-view (bad_text ts is f) (bad_bytes v) = absurd (not-utf8 v is.0)
one-view (bad_text ts is f) (bad_piece h g) = absurd (never_both is.1 g)
one-view (bad_text ts is f) (bad_text us other g) = one-late ts f (at-tokens (same-tokens other is) g)

pub one-fault : OneFault
one-fault kind own bytes p q a b f g = one-view (view f) (view g)

no-view : {kind : Kind} {own bytes : List ℕ} {p : ℕ} {a : SyntaxKind} {syntax : Parsed} → IsSyntax kind own bytes syntax → View kind own bytes p a → ⊥
no-view s (bad_bytes v) = not-utf8 v s.spelled.0
no-view s (bad_piece h f) = never_both s.spelled.1 f
no-view s (bad_text ts is f) = sound-late ts (moved ts is s) f

pub never-both-law : NeverBoth
never-both-law kind own bytes a p b s f = no-view s (view f)
