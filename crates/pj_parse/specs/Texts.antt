-- Which texts are scripts and packages of the language, with their trees; and what is wrong with a text that is none.
use Rattle.std.specs.Prelude.{◌≡◌, ℕ, ◌≤◌, List, Option, Some, None, codes, slice_get}
use Rattle.std.specs.Str.{IsUtf8, IsValidUpTo, chars}
use Rattle.pj_lex.specs.declared.fault.SyntaxKind.{SyntaxKind}
use Rattle.pj_lex.specs.declared.fault.SyntaxKind.TheVariants as faults
use Rattle.pj_lex.specs.declared.token.Token.{Token}
use Rattle.pj_lex.specs.declared.token.TokenKind.{TokenKind}
use Rattle.pj_lex.specs.declared.token.TokenKind.TheVariants as kinds
use Rattle.pj_lex.specs.Before.{start}
use Rattle.pj_lex.specs.Lexed.{Faulty, IsTokens}
use Rattle.pj_grammar.specs.declared.mode.Parsed.{Parsed}
use Rattle.pj_grammar.specs.Modules.{Modules, modules_of}
use Rattle.pj_grammar.specs.Texts.{IsText, Kind}
use Rattle.pj_grammar.specs.Theorems.{IsDeepFault, IsGrammarFault}
use Rattle.pj_grammar.specs.Texts.{script, «package»}
use Rattle.pj_grammar.specs.declared.mode.Parsed.TheVariants as parsed
use Rattle.pj_syntax.specs.declared.item.Script.{Script}
use Rattle.pj_syntax.specs.declared.item.Package.{Package}
use Rattle.pj_tree.specs.declared.item.ScriptTree.{ScriptTree}
use Rattle.pj_tree.specs.declared.item.PackageTree.{PackageTree}
use Rattle.pj_scopes.specs.Resolved.{package_tree}
use Rattle.pj_scopes.specs.Resolved.{script as script_tree}
use Rattle.pj_parse.specs.Scoped.{scope_fault}

-- how deep a text nests at most
abbrev pub most_nesting : ℕ
most_nesting = 128

-- the place of a token, by its number
abbrev pub Stands : List Token → ℕ → ℕ → Type 0
Stands tokens i place = (t : Token) × (slice_get tokens i ≡ Some t) × (t.start ≡ place)

-- Only texts that nest too deep begin with the tokens up to and with this one. Where that is the text's end, the text has ended too
-- early: with more tokens it needn't nest too deep.
abbrev pub deep_kind : TokenKind → SyntaxKind
deep_kind kinds.Eof = faults.Grammar
deep_kind kind = faults.Deep

-- The text is of the grammar, and this is what it says, before scopes are asked. Its own name is that of its module.
pub record IsSyntax (kind : Kind) (own bytes : List ℕ) (syntax : Parsed) : Type 0 where
  pub tokens : List Token
  pub nesting : ℕ
  pub spelled : IsTokens bytes tokens
  pub is : IsText (modules_of own tokens) kind tokens syntax nesting
  pub within : nesting ≤ most_nesting
  pub scoped : scope_fault own (modules_of own tokens) syntax ≡ None

-- What is wrong with a text, and at which byte: the first of these that applies. Its bytes stop being UTF-8; it goes on with no
-- token; no text of the grammar begins with the tokens up to and with this one, or only texts that nest too deep; or its names break
-- a rule of scopes.
pub data IsFault (kind : Kind) (own bytes : List ℕ) : ℕ → SyntaxKind → Type 0 where
  no_utf8 : {place : ℕ} → IsValidUpTo bytes place → IsFault kind own bytes place faults.Utf8
  no_token : {place : ℕ} → IsUtf8 bytes → Faulty start 0 (chars bytes) place → IsFault kind own bytes place faults.Token
  no_text : {place : ℕ} (i : ℕ) (tokens : List Token) → IsTokens bytes tokens → IsGrammarFault (modules_of own tokens) kind most_nesting tokens i
      → Stands tokens i place → IsFault kind own bytes place faults.Grammar
  too_deep : {place : ℕ} (i : ℕ) (tokens : List Token) → IsTokens bytes tokens → IsDeepFault (modules_of own tokens) kind most_nesting tokens i
      → (s : Stands tokens i place) → IsFault kind own bytes place (deep_kind s.0.what)
  out_of_scope : {place : ℕ} {what : SyntaxKind} (nesting : ℕ) (tokens : List Token) (syntax : Parsed) → IsTokens bytes tokens
      → IsText (modules_of own tokens) kind tokens syntax nesting → nesting ≤ most_nesting
      → scope_fault own (modules_of own tokens) syntax ≡ Some (place, what) → IsFault kind own bytes place what

-- the text is a script with this tree
abbrev pub IsScript : List ℕ → ScriptTree → Type 0
IsScript bytes tree = (s : Script) × IsSyntax script (codes "Main") bytes (parsed.Script s) × (script_tree s ≡ tree)

-- the text is the package of this name, with this tree
abbrev pub IsPackage : List ℕ → List ℕ → PackageTree → Type 0
IsPackage name bytes tree = (p : Package) × IsSyntax «package» name bytes (parsed.Package p) × (package_tree p ≡ tree)

-- what is wrong with a script, and with the package of a name
abbrev pub IsScriptFault : List ℕ → ℕ → SyntaxKind → Type 0
IsScriptFault bytes place what = IsFault script (codes "Main") bytes place what

abbrev pub IsPackageFault : List ℕ → List ℕ → ℕ → SyntaxKind → Type 0
IsPackageFault name bytes place what = IsFault «package» name bytes place what
