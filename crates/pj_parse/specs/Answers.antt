-- What the answers of reading say.
use Rattle.std.specs.Prelude.{◌≡◌, ℕ, List, Option, Some}
use Rattle.pj_lex.specs.declared.fault.SyntaxFault.{SyntaxFault}
use Rattle.pj_lex.specs.declared.fault.SyntaxFault.TheVariants.{Syntax, NoMemory}
use Rattle.pj_lex.specs.declared.fault.SyntaxKind.{SyntaxKind}
use Rattle.pj_lex.specs.declared.fault.SyntaxKind.TheVariants as faults
use Rattle.pj_lex.specs.declared.token.Token.{Token}
use Rattle.pj_grammar.specs.Modules.{Modules}
use Rattle.pj_grammar.specs.Texts.{Kind}
use Rattle.pj_grammar.specs.Theorems.{with_base}
use Rattle.pj_parse.specs.Texts.{IsFault}
use Rattle.pj_reader.specs.declared.fault.ReadFault.{ReadFault}
use Rattle.pj_reader.specs.declared.fault.ReadFault.TheVariants as unread
use Rattle.pj_reader.specs.Read as read

-- a fault of the text, and no want of memory, is what is wrong with it
abbrev pub Refuses : Kind → List ℕ → List ℕ → SyntaxFault → Type 0
Refuses kind own bytes (Syntax place what) = IsFault kind own bytes place what
Refuses kind own bytes NoMemory = Unit {0}

-- the fault that the rules of scopes tell
abbrev pub OutOfScope : Option (ℕ × SyntaxKind) → SyntaxFault → Type 0
OutOfScope told (Syntax place what) = told ≡ Some (place, what)
OutOfScope told NoMemory = Unit {0}

-- A fault of tokens as one of their text. A text that nests too deep only where it ends has ended too early. The tokens of a text have
-- an end.
abbrev pub told : ReadFault → SyntaxFault
told (unread.Grammar i place) = Syntax place faults.Grammar
told (unread.Deep i place) = Syntax place faults.Deep
told (unread.Early i place) = Syntax place faults.Grammar
told unread.Endless = Syntax 0 faults.Grammar
told unread.NoMemory = NoMemory

-- the fault of tokens that are no text, told as one of their text
pub record Stops (modules : Modules) (kind : Kind) (tokens : List Token) (e : SyntaxFault) : Type 0 where
  pub fault : ReadFault
  pub is : read.IsFault modules kind tokens fault
  pub tells : e ≡ told fault

-- `Base` is a module of each text, before others
abbrev pub HasBase : Modules → Type 0
HasBase modules = (others : Modules) × (modules ≡ with_base others)
