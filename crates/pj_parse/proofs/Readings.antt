-- From the tokens of a text, the machine's answer and the rules of scopes to what the text is, or what is wrong with it.
use Rattle.std.proofs.Common.{◌≡◌, ℕ, ◌≤◌, ◌∷◌, List, Option, Some, None, refl, sym, ap, subst, ◌∙◌, arith, append_assoc, Bool, true, false, [], ◌++◌, Result, Ok, Err, IfOk, IfErr}
use Rattle.std.proofs.lemmas.Option.{none-some}
use Rattle.pj_lex.specs.declared.fault.SyntaxFault.{SyntaxFault}
use Rattle.pj_lex.specs.declared.fault.SyntaxFault.TheVariants.{Syntax, NoMemory}
use Rattle.pj_lex.specs.declared.fault.SyntaxKind.{SyntaxKind}
use Rattle.pj_lex.specs.declared.fault.SyntaxKind.TheVariants as faults
use Rattle.pj_lex.specs.declared.token.Token.{Token}
use Rattle.pj_lex.specs.declared.token.TokenKind.{TokenKind}
use Rattle.pj_lex.specs.declared.token.TokenKind.TheVariants as kinds
use Rattle.pj_lex.specs.declared.token.Before.{Before as Before'}
use Rattle.pj_lex.specs.Lexed.{Lexed}
use Rattle.pj_syntax.specs.declared.item.Package.{Package}
use Rattle.pj_syntax.specs.declared.item.Script.{Script}
use Rattle.pj_grammar.specs.declared.mode.Parsed.TheVariants as parsed
use Rattle.pj_grammar.specs.Machine.{accepted}
use Rattle.pj_grammar.specs.Texts.{IsText}
use Rattle.pj_grammar.specs.Theorems.{reached, with_base}
use Rattle.pj_grammar.proofs.Closed.{ends-accepted}
use Rattle.pj_lex.specs.Lexed.{IsTokens}
use Rattle.pj_lex.specs.Lexed as lexed
use Rattle.pj_grammar.specs.declared.mode.Parsed.{Parsed}
use Rattle.pj_grammar.specs.Modules.{Modules, modules_of, names_used, outside}
use Rattle.std.specs.Prelude.{codes}
use Rattle.pj_grammar.specs.Texts.{Kind, script, «package»}
use Rattle.pj_tree.specs.declared.item.ScriptTree.{ScriptTree}
use Rattle.pj_tree.specs.declared.item.PackageTree.{PackageTree}
use Rattle.pj_parse.specs.Texts.{IsPackage, IsScript}
use Rattle.pj_parse.proofs.Scripts.{no-fault, no-package-fault}
use Rattle.pj_grammar.specs.Theorems.{Complete, Completion, DeepFaults, GrammarFaults, NeedIsNesting, Sound}
use Rattle.pj_grammar.proofs.Faulting.{deep-faults, grammar-faults}
use Rattle.pj_grammar.proofs.Leading.{completion}
use Rattle.pj_grammar.proofs.Nesting.{need-nesting}
use Rattle.pj_grammar.proofs.Rising.{monotone}
use Rattle.pj_grammar.proofs.Sounding.{sound}
use Rattle.pj_grammar.proofs.Whole.{whole}
use Rattle.pj_parse.specs.Scoped.{scope_fault}
use Rattle.pj_parse.specs.Texts.{IsFault, IsSyntax, Stands, deep_kind, no_utf8, no_token, no_text, too_deep, out_of_scope}
use Rattle.pj_parse.specs.Answers.{HasBase, OutOfScope, Refuses, Stops, told}
use Rattle.pj_reader.specs.Read.{Accepts, Before, IsEndless, IsTooDeep, ends_text}
use Rattle.pj_reader.specs.Read as read
use Rattle.pj_reader.specs.declared.fault.ReadFault.{ReadFault}
use Rattle.pj_reader.specs.declared.fault.ReadFault.TheVariants as unread

-- the laws of the grammar

each-text : Complete
each-text modules kind ts tree nesting d = whole refl d

nests : NeedIsNesting
nests s tree nesting = need-nesting s.mode s.frames tree nesting

told-grammar : GrammarFaults
told-grammar = grammar-faults each-text (completion sound)

told-deep : DeepFaults
told-deep = deep-faults each-text (completion sound) monotone nests

-- the kind of a fault of nesting, by the token

deep-kind : (t : TokenKind) → ends_text t ≡ false → deep_kind t ≡ faults.Deep
deep-kind kinds.Eof e = absurd (cc)
deep-kind _ e = refl

early-kind : (t : TokenKind) → ends_text t ≡ true → deep_kind t ≡ faults.Grammar
early-kind kinds.Eof e = refl
early-kind _ e = absurd (cc)

-- tokens of a text have an end

ended : {before : Before'} {at : ℕ} {cs : List ℕ} {ts : List Token} → Lexed before at cs ts → (front : List Token) × (t : Token) × (ts ≡ front ++ t ∷ []) × (t.what ≡ kinds.Eof)
ended lexed.ended = ([], _, refl, refl)
ended (lexed.goes_on {before} {at} {cs} {piece} {tokens} e l) =
    let (front, t, is, end) = ended l in
    let more = lexed.added before at (lexed.past at piece.size cs) piece.what in
    (more ++ front, t, ap (λ r. more ++ r) is ∙ sym (append_assoc more front (t ∷ [])), end)

-- a script is no package

pub no-package-read : (modules : Modules) (ts : List Token) (p : Package) (n : ℕ) → IsText modules script ts (parsed.Package p) n → ⊥
no-package-read modules ts p n h = elim h [ ]

pub no-script-read : (modules : Modules) (ts : List Token) (s : Script) (n : ℕ) → IsText modules «package» ts (parsed.Script s) n → ⊥
no-script-read modules ts s n h = elim h [ ]

pub script-alone : (modules : Modules) (ts : List Token) (p : Package) → HasBase modules → Accepts modules script ts (parsed.Package p) → ⊥
script-alone modules ts p (others', same) a =
    no-package-read (with_base others') ts p a.nesting (sound others' script ts (parsed.Package p) a.nesting (subst (λ m. accepted (reached m script ts) ≡ Some (parsed.Package p, a.nesting)) same a.is))

pub package-alone : (modules : Modules) (ts : List Token) (s : Script) → HasBase modules → Accepts modules «package» ts (parsed.Script s) → ⊥
package-alone modules ts s (others', same) a =
    no-script-read (with_base others') ts s a.nesting (sound others' «package» ts (parsed.Script s) a.nesting (subst (λ m. accepted (reached m «package» ts) ≡ Some (parsed.Script s, a.nesting)) same a.is))

-- the modules of a text, beside `Base`
abbrev others : List ℕ → List Token → Modules
others own ts = own ∷ names_used outside ts

-- a fault of its bytes or its pieces
pub lex-refuses : (kind : Kind) (own bytes : List ℕ) (e : SyntaxFault) → lexed.IsFault bytes e → Refuses kind own bytes e
lex-refuses kind own bytes (Syntax place faults.Utf8) h = no_utf8 h
lex-refuses kind own bytes (Syntax place faults.Token) h = no_token h.0 h.1
lex-refuses kind own bytes (Syntax place faults.Grammar) h = elim h [ ]
lex-refuses kind own bytes (Syntax place faults.Deep) h = elim h [ ]
lex-refuses kind own bytes (Syntax place faults.Many) h = elim h [ ]
lex-refuses kind own bytes (Syntax place faults.ModuleName) h = elim h [ ]
lex-refuses kind own bytes (Syntax place faults.Twice) h = elim h [ ]
lex-refuses kind own bytes (Syntax place faults.LoopName) h = elim h [ ]
lex-refuses kind own bytes (Syntax place faults.GlobalLocal) h = elim h [ ]
lex-refuses kind own bytes (Syntax place faults.Outside) h = elim h [ ]
lex-refuses kind own bytes (Syntax place faults.Reserved) h = elim h [ ]
lex-refuses kind own bytes (Syntax place faults.Unbuilt) h = elim h [ ]
lex-refuses kind own bytes NoMemory h = tt

module _ (kind : Kind) (own bytes : List ℕ) (ts : List Token) (spelled : IsTokens bytes ts) where
  -- a fault of its tokens
  stands : {i place : ℕ} → Before (modules_of own ts) kind ts i place → Stands ts i place
  stands b = (b.token, b.is, b.starts)

  is-deep : {i place : ℕ} {last : Bool} → (d : IsTooDeep (modules_of own ts) kind ts i place last) → IsFault kind own bytes place (deep_kind d.before.token.what)
  unfolding stands
  is-deep {i} {place} d =
      too_deep i ts spelled (told-deep (others own ts) kind 128 i ts d.before.state d.state d.before.reaches d.before.within (omega arith) d.reaches d.deeper) (stands d.before)

  has-end : IsEndless (modules_of own ts) kind ts → ⊥
  has-end d =
      let (front, t, is, end) = ended spelled.1 in
      let found = ends-accepted (others own ts) kind front t d.state end (ap (reached (modules_of own ts) kind) (sym is) ∙ d.reaches) in
      none-some found.0 (sym d.open_yet ∙ found.1)

  by-fault : (f : ReadFault) → read.IsFault (modules_of own ts) kind ts f → Refuses kind own bytes (told f)
  by-fault (unread.Grammar i place) h =
      no_text i ts spelled (told-grammar (others own ts) kind 128 i ts h.before.state h.before.reaches h.before.within h.none) (stands h.before)
  by-fault (unread.Deep i place) h = subst (IsFault kind own bytes place) (deep-kind h.before.token.what h.behind) (is-deep h)
  by-fault (unread.Early i place) h = subst (IsFault kind own bytes place) (early-kind h.before.token.what h.behind) (is-deep h)
  by-fault unread.Endless h = absurd (has-end h)
  by-fault unread.NoMemory h = tt

  pub read-refuses : (e : SyntaxFault) (modules : Modules) → modules ≡ modules_of own ts → Stops modules kind ts e → Refuses kind own bytes e
  read-refuses e modules same s =
      subst (Refuses kind own bytes) (sym s.tells) (by-fault s.fault (subst (λ m. read.IsFault m kind ts s.fault) same s.is))

  -- a fault of its names
  by-scopes : (syntax : Parsed) (e : SyntaxFault) → Accepts (modules_of own ts) kind ts syntax → OutOfScope (scope_fault own (modules_of own ts) syntax) e → Refuses kind own bytes e
  by-scopes syntax (Syntax place what) a h = out_of_scope a.nesting ts syntax spelled (sound (others own ts) kind ts syntax a.nesting a.is) a.within h
  by-scopes syntax NoMemory a h = tt

  pub scopes-refuse : (syntax : Parsed) (e : SyntaxFault) (modules : Modules) → modules ≡ modules_of own ts → Accepts modules kind ts syntax → OutOfScope (scope_fault own modules syntax) e
      → Refuses kind own bytes e
  scopes-refuse syntax e modules same a h =
      by-scopes syntax e (subst (λ m. Accepts m kind ts syntax) same a) (subst (λ m. OutOfScope (scope_fault own m syntax) e) same h)

  -- no fault
  of-syntax : (syntax : Parsed) → Accepts (modules_of own ts) kind ts syntax → scope_fault own (modules_of own ts) syntax ≡ None → IsSyntax kind own bytes syntax
  of-syntax syntax a none = record {
    tokens = ts;
    nesting = a.nesting;
    spelled = spelled;
    is = sound (others own ts) kind ts syntax a.nesting a.is;
    within = a.within;
    scoped = none;
  }

  pub is-syntax : (syntax : Parsed) (modules : Modules) → modules ≡ modules_of own ts → Accepts modules kind ts syntax → scope_fault own modules syntax ≡ None → IsSyntax kind own bytes syntax
  is-syntax syntax modules same a none =
      of-syntax syntax (subst (λ m. Accepts m kind ts syntax) same a) (subst (λ m. scope_fault own m syntax ≡ None) same none)

  -- what is kept is the syntax tree of the text
  pub kept-syntax : {X : Type 0} (wrap : X → Parsed) (read : X) (result : Result X SyntaxFault) (modules : Modules) → modules ≡ modules_of own ts → Accepts modules kind ts (wrap read)
      → IfOk result (λ s. (s ≡ read) × (scope_fault own modules (wrap read) ≡ None)) → IfOk result (λ s. IsSyntax kind own bytes (wrap s))
  kept-syntax wrap read (Ok s) modules same a (is, none) = subst (λ x. IsSyntax kind own bytes (wrap x)) (sym is) (is-syntax (wrap read) modules same a none)
  kept-syntax wrap read (Err e) modules same a h = tt

  pub kept-refuse : {X : Type 0} (wrap : X → Parsed) (read : X) (result : Result X SyntaxFault) (modules : Modules) → modules ≡ modules_of own ts → Accepts modules kind ts (wrap read)
      → IfErr result (OutOfScope (scope_fault own modules (wrap read))) → IfErr result (Refuses kind own bytes)
  kept-refuse wrap read (Ok s) modules same a h = tt
  kept-refuse wrap read (Err e) modules same a h = scopes-refuse (wrap read) e modules same a h

-- where there is a fault of the text there is no tree

pub no-script : {bytes : List ℕ} (e : SyntaxFault) → Refuses script (codes "Main") bytes e → lexed.IsSyntax e → (other : ScriptTree) → ¬ (IsScript bytes other)
no-script (Syntax place what) refuses is other h = no-fault h refuses
no-script NoMemory refuses is other h = elim is [ ]

pub no-package : {name bytes : List ℕ} (e : SyntaxFault) → Refuses «package» name bytes e → lexed.IsSyntax e → (other : PackageTree) → ¬ (IsPackage name bytes other)
no-package (Syntax place what) refuses is other h = no-package-fault h refuses
no-package NoMemory refuses is other h = elim is [ ]
