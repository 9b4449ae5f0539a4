-- What a reader answers.
use Rattle.std.specs.Prelude.{◌≡◌, ℕ, ◌≤◌, suc, Bool, true, false, List, Option, Some, None, ◌++◌, take, slice_get}
use Rattle.pj_lex.specs.declared.token.Token.{Token}
use Rattle.pj_lex.specs.declared.token.TokenKind.{TokenKind}
use Rattle.pj_lex.specs.declared.token.TokenKind.TheVariants as kinds
use Rattle.pj_grammar.specs.declared.mode.Mode.{Mode}
use Rattle.pj_grammar.specs.declared.mode.Mode.TheVariants as modes
use Rattle.pj_grammar.specs.declared.mode.Parsed.{Parsed}
use Rattle.pj_grammar.specs.Frames.{State}
use Rattle.pj_grammar.specs.Machine.{accepted, step}
use Rattle.pj_grammar.specs.Modules.{Modules}
use Rattle.pj_grammar.specs.Need.{need}
use Rattle.pj_grammar.specs.Texts.{Kind, script, «package»}
use Rattle.pj_grammar.specs.Theorems.{reached}
use Rattle.pj_reader.specs.declared.fault.ReadFault.{ReadFault}
use Rattle.pj_reader.specs.declared.fault.ReadFault.TheVariants as faults
use Rattle.pj_reader.specs.declared.fault.TextKind.{TextKind}
use Rattle.pj_reader.specs.declared.fault.TextKind.TheVariants as texts

abbrev pub kind_of : TextKind → Kind
kind_of texts.Script = script
kind_of texts.Package = «package»

-- how deep a text may nest
abbrev pub limit : ℕ
limit = 128

-- the token behind a text
abbrev pub ends_text : TokenKind → Bool
ends_text kinds.Eof = true
ends_text _ = false

abbrev pub is_accepted : Mode → Bool
is_accepted modes.Accepted = true
is_accepted _ = false

-- The machine accepts the tokens with a tree, which nests no deeper than a text may.
pub record Accepts (modules : Modules) (kind : Kind) (tokens : List Token) (tree : Parsed) : Type 0 where
  pub nesting : ℕ
  pub is : accepted (reached modules kind tokens) ≡ Some (tree, nesting)
  pub within : nesting ≤ limit

-- The token of this number begins at this place, and those before it lead to a state that needs no more than a text may nest.
pub record Before (modules : Modules) (kind : Kind) (tokens : List Token) (i place : ℕ) : Type 0 where
  pub token : Token
  pub is : slice_get tokens i ≡ Some token
  pub starts : token.start ≡ place
  pub state : State
  pub reaches : reached modules kind (take i tokens) ≡ Some state
  pub within : need state ≤ limit

-- It has no answer to this token.
pub record IsRefused (modules : Modules) (kind : Kind) (tokens : List Token) (i place : ℕ) : Type 0 where
  pub before : Before modules kind tokens i place
  pub none : reached modules kind (take (suc i) tokens) ≡ None

-- It has one that needs more. The token may be the one behind the text.
pub record IsTooDeep (modules : Modules) (kind : Kind) (tokens : List Token) (i place : ℕ) (last : Bool) : Type 0 where
  pub before : Before modules kind tokens i place
  pub behind : ends_text before.token.what ≡ last
  pub state : State
  pub reaches : reached modules kind (take (suc i) tokens) ≡ Some state
  pub deeper : suc limit ≤ need state

-- All tokens lead to a state in which no text has ended.
pub record IsEndless (modules : Modules) (kind : Kind) (tokens : List Token) : Type 0 where
  pub state : State
  pub reaches : reached modules kind tokens ≡ Some state
  pub open_yet : accepted (Some state) ≡ None

abbrev pub IsFault : Modules → Kind → List Token → ReadFault → Type 0
IsFault modules kind tokens (faults.Grammar i place) = IsRefused modules kind tokens i place
IsFault modules kind tokens (faults.Deep i place) = IsTooDeep modules kind tokens i place false
IsFault modules kind tokens (faults.Early i place) = IsTooDeep modules kind tokens i place true
IsFault modules kind tokens faults.Endless = IsEndless modules kind tokens
IsFault modules kind tokens faults.NoMemory = Unit {0}

-- What is told of one token more.
pub record GoesOn (modules : Modules) (s : State) (t : Token) (next : State) : Type 0 where
  pub is : step modules s t ≡ Some next
  pub within : need next ≤ limit

pub record IsNextRefused (modules : Modules) (s : State) (t : Token) (number i place : ℕ) : Type 0 where
  pub numbered : i ≡ number
  pub starts : place ≡ t.start
  pub is : step modules s t ≡ None

pub record IsNextDeep (modules : Modules) (s : State) (t : Token) (number i place : ℕ) (last : Bool) : Type 0 where
  pub numbered : i ≡ number
  pub starts : place ≡ t.start
  pub behind : ends_text t.what ≡ last
  pub next : State
  pub is : step modules s t ≡ Some next
  pub deeper : suc limit ≤ need next

abbrev pub IsNextFault : Modules → State → Token → ℕ → ReadFault → Type 0
IsNextFault modules s t number (faults.Grammar i place) = IsNextRefused modules s t number i place
IsNextFault modules s t number (faults.Deep i place) = IsNextDeep modules s t number i place false
IsNextFault modules s t number (faults.Early i place) = IsNextDeep modules s t number i place true
IsNextFault modules s t number faults.Endless = ⊥
IsNextFault modules s t number faults.NoMemory = Unit {0}

-- the fault at a token that makes a text nest too deep
abbrev pub deep_fault : Bool → ℕ → ℕ → ReadFault
deep_fault true i place = faults.Early i place
deep_fault false i place = faults.Deep i place

-- Where a reader stands in the midst of the tokens, of which the rest is still to be read.
pub record Progress (modules : Modules) (kind : Kind) (tokens rest : List Token) (s : State) : Type 0 where
  pub done : List Token
  pub split : done ++ rest ≡ tokens
  pub ran : reached modules kind done ≡ Some s
  pub within : need s ≤ limit
