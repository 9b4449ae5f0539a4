-- What holds of the grammar and its machine.
use Rattle.std.specs.Prelude.{◌≡◌, ℕ, ◌≤◌, max, suc, true, List, [], ◌∷◌, ◌++◌, Option, Some, None, codes, take}
use Rattle.pj_lex.specs.declared.token.Token.{Token}
use Rattle.pj_lex.specs.declared.token.TokenKind.TheVariants as kinds
use Rattle.pj_grammar.specs.declared.mode.Parsed.{Parsed}
use Rattle.pj_grammar.specs.declared.level.Level.{Level}
use Rattle.pj_grammar.specs.declared.node.Node.{Node}
use Rattle.pj_grammar.specs.declared.frame.Frame.{Frame}
use Rattle.pj_grammar.specs.declared.mode.Head.{Head}
use Rattle.pj_grammar.specs.declared.mode.Mode.TheVariants as modes
use Rattle.pj_grammar.specs.declared.node.Line.{Line}
use Rattle.pj_grammar.specs.Closing.{closed_line}
use Rattle.pj_grammar.specs.Expressions.{Reads}
use Rattle.pj_grammar.specs.Follows.{follows}
use Rattle.pj_grammar.specs.Frames.{State, admits, at, is_value, node, takes_lines}
use Rattle.pj_grammar.specs.Machine.{accepted, ends_line, run, start}
use Rattle.pj_grammar.specs.Modules.{Modules}
use Rattle.pj_grammar.specs.Need.{need}
use Rattle.pj_grammar.specs.Statements.{Statement}
use Rattle.pj_grammar.specs.Texts.{IsText, Kind}

-- `Base` is a module of every text
abbrev pub with_base : Modules → Modules
with_base modules = codes "Base" ∷ modules

-- a text of the grammar that begins with these tokens, and nests at most so deep
pub record Viable (modules : Modules) (kind : Kind) (limit : ℕ) (tokens : List Token) : Type 0 where
  pub more : List Token
  pub tree : Parsed
  pub nesting : ℕ
  pub is : IsText modules kind (tokens ++ more) tree nesting
  pub within : nesting ≤ limit

-- a text of the grammar that begins with these tokens
pub record Begins (modules : Modules) (kind : Kind) (tokens : List Token) : Type 0 where
  pub more : List Token
  pub tree : Parsed
  pub nesting : ℕ
  pub is : IsText modules kind (tokens ++ more) tree nesting

-- The first token after the longest viable prefix has this number, and no text begins with the tokens up to and with it.
abbrev pub IsGrammarFault : Modules → Kind → ℕ → List Token → ℕ → Type 0
IsGrammarFault modules kind limit tokens i =
    Viable modules kind limit (take i tokens) × (Begins modules kind (take (suc i) tokens) → ⊥)

-- The same, and only texts that nest deeper begin so.
abbrev pub IsDeepFault : Modules → Kind → ℕ → List Token → ℕ → Type 0
IsDeepFault modules kind limit tokens i =
    Viable modules kind limit (take i tokens) × Begins modules kind (take (suc i) tokens) × (Viable modules kind limit (take (suc i) tokens) → ⊥)

-- where the machine stands behind tokens
abbrev pub reached : Modules → Kind → List Token → Option State
reached modules kind tokens = run modules tokens (Some (start kind))

-- The machine reads these tokens as an operand of a level, wherever frames take one, before each token that may follow.
pub record ReadAs (modules : Modules) (frames : List Frame) (level : Level) (tokens : List Token) (e : Node) : Type 0 where
  pub head : Head
  pub is : node head ≡ e
  pub value : is_value head ≡ true
  pub runs : (t : Token) (rest : List Token) → follows level t.what ≡ true
      → run modules (tokens ++ t ∷ rest) (at modes.Want frames) ≡ run modules (t ∷ rest) (at (modes.Have head) frames)

-- It reads so each expression of the grammar. This is the part of `Complete` that speaks of expressions.
abbrev pub CompleteExpressions : Type 0
CompleteExpressions = (modules : Modules) (level : Level) (tokens : List Token) (e : Node) → Reads (with_base modules) level tokens e
    → (frames : List Frame) → admits frames level ≡ true → ReadAs (with_base modules) frames level tokens e

-- It reads each statement of the grammar where statements stand, before each token that ends one. This is the part of `Complete`
-- that speaks of statements, blocks, definitions in them and what they evaluate.
abbrev pub CompleteStatements : Type 0
CompleteStatements = (modules : Modules) (tokens : List Token) (s : Line) → Statement (with_base modules) tokens s
    → (frames : List Frame) → takes_lines frames ≡ true → (t : Token) (rest : List Token) → ends_line t.what ≡ true
    → run (with_base modules) (tokens ++ t ∷ rest) (at modes.Line frames) ≡ run (with_base modules) (t ∷ rest) (closed_line s frames)

-- The machine accepts every text of the grammar, with its tree.
abbrev pub Complete : Type 0
Complete = (modules : Modules) (kind : Kind) (tokens : List Token) (tree : Parsed) (nesting : ℕ)
    → IsText (with_base modules) kind tokens tree nesting → accepted (reached (with_base modules) kind tokens) ≡ Some (tree, nesting)

-- What the machine accepts is a text of the grammar.
abbrev pub Sound : Type 0
Sound = (modules : Modules) (kind : Kind) (tokens : List Token) (tree : Parsed) (nesting : ℕ)
    → accepted (reached (with_base modules) kind tokens) ≡ Some (tree, nesting) → IsText (with_base modules) kind tokens tree nesting

-- A text has one tree.
abbrev pub OneTree : Type 0
OneTree = (modules : Modules) (kind : Kind) (tokens : List Token) (tree other : Parsed) (nesting other_nesting : ℕ)
    → IsText (with_base modules) kind tokens tree nesting → IsText (with_base modules) kind tokens other other_nesting
    → (tree ≡ other) × (nesting ≡ other_nesting)

-- Where the machine has no answer, no text of the grammar begins so.
abbrev pub NoneBegins : Type 0
NoneBegins = (modules : Modules) (kind : Kind) (tokens : List Token) → reached (with_base modules) kind tokens ≡ None
    → Begins (with_base modules) kind tokens → ⊥

-- Each state that is reached has a text that goes on from it, and that nests no deeper than the state needs.
abbrev pub Completion : Type 0
Completion = (modules : Modules) (kind : Kind) (tokens : List Token) (s : State) → reached (with_base modules) kind tokens ≡ Some s
    → Viable (with_base modules) kind (need s) tokens

-- Behind more tokens a state needs no less, and where it has read a text it needs what that nests.
abbrev pub Monotone : Type 0
Monotone = (modules : Modules) (kind : Kind) (tokens more : List Token) (s t : State) → reached (with_base modules) kind tokens ≡ Some s
    → run (with_base modules) more (Some s) ≡ Some t → need s ≤ need t

-- tokens that lead on from a state to a text that the machine accepts, and that nests at most so deep
pub record Leads (modules : Modules) (limit : ℕ) (s : Option State) : Type 0 where
  pub more : List Token
  pub tree : Parsed
  pub nesting : ℕ
  pub is : accepted (run modules more s) ≡ Some (tree, nesting)
  pub within : nesting ≤ limit

-- The machine is never stuck: from each state that is reached tokens lead on to a text that it accepts, and that nests no deeper than
-- the state needs. With `Sound` this is `Completion`.
abbrev pub LeadsOn : Type 0
LeadsOn = (modules : Modules) (kind : Kind) (tokens : List Token) (s : State) → reached modules kind tokens ≡ Some s
    → Leads modules (need s) (Some s)

-- Where a state needs more than a limit, no text within the limit begins so. With `Completion` this gives `DeepFaults`.
abbrev pub NoneWithin : Type 0
NoneWithin = (modules : Modules) (kind : Kind) (limit : ℕ) (tokens : List Token) (s : State) → reached (with_base modules) kind tokens ≡ Some s
    → 8 ≤ limit → suc limit ≤ need s → Viable (with_base modules) kind limit tokens → ⊥

abbrev pub NeedIsNesting : Type 0
NeedIsNesting = (s : State) (tree : Parsed) (nesting : ℕ) → accepted (Some s) ≡ Some (tree, nesting) → need s ≡ max 8 nesting

-- So the machine and what its states need tell the faults: where a state needs no more than the limit and the next token has no
-- answer, or one that needs more.
abbrev pub GrammarFaults : Type 0
GrammarFaults = (modules : Modules) (kind : Kind) (limit i : ℕ) (tokens : List Token) (s : State)
    → reached (with_base modules) kind (take i tokens) ≡ Some s → need s ≤ limit → reached (with_base modules) kind (take (suc i) tokens) ≡ None
    → IsGrammarFault (with_base modules) kind limit tokens i

abbrev pub DeepFaults : Type 0
DeepFaults = (modules : Modules) (kind : Kind) (limit i : ℕ) (tokens : List Token) (s t : State)
    → reached (with_base modules) kind (take i tokens) ≡ Some s → need s ≤ limit → 8 ≤ limit
    → reached (with_base modules) kind (take (suc i) tokens) ≡ Some t → suc limit ≤ need t
    → IsDeepFault (with_base modules) kind limit tokens i

-- Where the machine has an answer behind the text's end, it has accepted: so a list of tokens that ends so and has no fault is a text.
abbrev pub EndsAccepted : Type 0
EndsAccepted = (modules : Modules) (kind : Kind) (tokens : List Token) (t : Token) (s : State) → t.what ≡ kinds.Eof
    → reached (with_base modules) kind (tokens ++ t ∷ []) ≡ Some s → (read : Parsed × ℕ) × (accepted (Some s) ≡ Some read)
