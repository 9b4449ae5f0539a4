-- What has been read where a frame is begun: the tokens of each frame, over the frames below it.
-- `Under k ts`: the frames `k` have read the tokens `ts`, up to what is read next. It has one part for each frame, `Begun f k ts`,
-- with the tokens of that frame alone, what it needs of the frames below, and how it lists what it has read so far (`..Begun`,
-- each with the sign behind it). Nothing of the text behind is asked for, but what `Opens` says: what follows `@eval`, with or without
-- a module, begins so that it is read as it was. That is kept with the first frame that has tokens there.
use Rattle.std.proofs.Common.{◌≡◌, ℕ, Bool, true, false, not, List, [], ◌∷◌, ◌++◌, Option, Some, None, codes}
use Rattle.pj_words.specs.declared.word.Word.TheVariants as words
use Rattle.pj_lex.specs.declared.sign.Sign.{Sign}
use Rattle.pj_lex.specs.declared.sign.Sign.TheVariants as signs
use Rattle.pj_lex.specs.declared.token.Token.{Token}
use Rattle.pj_lex.specs.declared.token.TokenKind.TheVariants as kinds
use Rattle.pj_syntax.specs.declared.expression.Spot.{Spot}
use Rattle.pj_syntax.specs.declared.expression.Path.{Path}
use Rattle.pj_syntax.specs.declared.statement.Param.{Param}
use Rattle.pj_grammar.specs.declared.level.Level.{Level}
use Rattle.pj_grammar.specs.declared.level.Level.TheVariants as levels
use Rattle.pj_grammar.specs.declared.node.Node.{Node}
use Rattle.pj_grammar.specs.declared.node.Arguments.{Arguments}
use Rattle.pj_grammar.specs.declared.node.Line.{Line}
use Rattle.pj_grammar.specs.declared.node.Lines.{Lines}
use Rattle.pj_grammar.specs.declared.node.Entries.{Entries}
use Rattle.pj_grammar.specs.declared.frame.Form.TheVariants as forms
use Rattle.pj_grammar.specs.declared.frame.Frame.{Frame}
use Rattle.pj_grammar.specs.declared.frame.Frame.TheVariants as frames
use Rattle.pj_grammar.specs.declared.frame.Given.{Given}
use Rattle.pj_grammar.specs.declared.frame.Given.TheVariants as given
use Rattle.pj_grammar.specs.declared.frame.Header.{Header}
use Rattle.pj_grammar.specs.declared.frame.Header.TheVariants as headers
use Rattle.pj_grammar.specs.declared.frame.Opener.{Opener}
use Rattle.pj_grammar.specs.declared.frame.Opener.TheVariants as openers
use Rattle.pj_grammar.specs.declared.frame.Purpose.{Purpose}
use Rattle.pj_grammar.specs.declared.frame.Purpose.TheVariants as purposes
use Rattle.pj_grammar.specs.declared.frame.Root.{Root}
use Rattle.pj_grammar.specs.declared.frame.Root.TheVariants as roots
use Rattle.pj_grammar.specs.declared.frame.Target.{Target}
use Rattle.pj_grammar.specs.declared.frame.Target.TheVariants as targets
use Rattle.pj_grammar.specs.Expressions.{Callee, Named, Reads}
use Rattle.pj_grammar.specs.Frames.{admits, takes_definition, takes_directives, takes_items, takes_lines}
use Rattle.pj_grammar.specs.Levels.{is_prefix, left_of, level_of}
use Rattle.pj_grammar.specs.Machine.{opens_types}
use Rattle.pj_grammar.specs.Makers.{Entry, argument_after, entry_after, lacks, line_after, no_arguments, no_entries, no_lines, run_of}
use Rattle.pj_grammar.specs.Modules.{Modules, is_module}
use Rattle.pj_grammar.specs.Statements.{Assigned, Block, Parameter, Parameters, Statement, assigning, begins_bounds, begins_with_module, eval_name, opens_directly, operator_at}
use Rattle.pj_grammar.specs.Texts.{Above, Field, Item, Kind, Names, Separators, script, «package»}
use Rattle.pj_grammar.specs.Tokens.{name, Place, separator, sign, spot, token, word}

-- Lists of which some is read, each part with the sign behind it.

-- arguments that are names, with or without modules
pub data PathsBegun (modules : Modules) : List Token → List Path → Type 0 where
  no_paths : PathsBegun modules [] []
  then_path : {ts us : List Token} {ps all : List Path} {f : Path} (p : Place) → PathsBegun modules ts ps → Callee modules us f → all ≡ ps ++ f ∷ []
      → PathsBegun modules (ts ++ (us ++ sign p signs.Comma ∷ [])) all

pub data ArgumentsBegun (modules : Modules) : List Token → Arguments → Type 0 where
  no_argument : ArgumentsBegun modules [] no_arguments
  then_argument : {ts us : List Token} {es : Arguments} {e : Node} (p : Place) → ArgumentsBegun modules ts es → Reads modules levels.Conditional us e
      → ArgumentsBegun modules (ts ++ (us ++ sign p signs.Comma ∷ [])) (argument_after es e)

abbrev pub GivenBegun : Modules → List Token → Given → Type 0
GivenBegun modules ts (given.Paths ps) = PathsBegun modules ts ps
GivenBegun modules ts (given.Mixed es) = ArgumentsBegun modules ts es × ((f : Path) → lacks f es ≡ false)

pub data ParametersBegun (modules : Modules) : List Token → List Param → Type 0 where
  no_parameter : ParametersBegun modules [] []
  then_parameter : {ts us : List Token} {xs : List Param} {x : Param} (p : Place) → ParametersBegun modules ts xs → Parameter modules us x
      → ParametersBegun modules (ts ++ (us ++ sign p signs.Comma ∷ [])) (xs ++ x ∷ [])

-- the types of a directive
pub data TypesBegun (modules : Modules) : List Token → List Path → Type 0 where
  no_type : TypesBegun modules [] []
  then_type : {ts us : List Token} {xs all : List Path} {t : Path} (p : Place) → TypesBegun modules ts xs → Named modules us t → all ≡ xs ++ t ∷ []
      → TypesBegun modules (ts ++ (us ++ sign p signs.Comma ∷ [])) all

pub data FieldsBegun (modules : Modules) : List Token → List Param → Type 0 where
  no_field_begun : FieldsBegun modules [] []
  then_separator : {ts : List Token} {xs : List Param} (p : Place) → FieldsBegun modules ts xs → FieldsBegun modules (ts ++ separator p ∷ []) xs
  then_field : {ts us : List Token} {xs : List Param} {x : Param} (p : Place) → FieldsBegun modules ts xs → Field modules us x
      → FieldsBegun modules (ts ++ (us ++ separator p ∷ [])) (xs ++ x ∷ [])

-- the statements of a block
pub data LinesBegun (modules : Modules) : List Token → Lines → Type 0 where
  no_line : LinesBegun modules [] no_lines
  then_blank : {ts : List Token} {ss : Lines} (p : Place) → LinesBegun modules ts ss → LinesBegun modules (ts ++ separator p ∷ []) ss
  then_line : {ts us : List Token} {ss : Lines} {s : Line} (p : Place) → LinesBegun modules ts ss → Statement modules us s
      → LinesBegun modules (ts ++ (us ++ separator p ∷ [])) (line_after ss s)
  then_name : {ts : List Token} {ss : Lines} (p q r : Place) (m : List ℕ) → is_module modules m ≡ true → LinesBegun modules ts ss
      → LinesBegun modules (ts ++ token p kinds.AtEval ∷ name q m ∷ separator r ∷ []) (line_after ss (eval_name (spot q m)))

-- the items of a text
pub data ItemsBegun (modules : Modules) (kind : Kind) : List Token → Entries → Type 0 where
  no_item : ItemsBegun modules kind [] no_entries
  then_gap : {ts : List Token} {is : Entries} (p : Place) → ItemsBegun modules kind ts is → ItemsBegun modules kind (ts ++ separator p ∷ []) is
  then_item : {ts us : List Token} {is : Entries} {i : Entry} (p : Place) → ItemsBegun modules kind ts is → Item modules kind us i
      → ItemsBegun modules kind (ts ++ (us ++ separator p ∷ [])) (entry_after is i)
  then_module : {ts : List Token} {is : Entries} (p q r : Place) (m : List ℕ) → is_module modules m ≡ true → ItemsBegun modules kind ts is
      → ItemsBegun modules kind (ts ++ token p kinds.AtEval ∷ name q m ∷ separator r ∷ []) (entry_after is (run_of (eval_name (spot q m))))

-- what a package uses, before its items
pub data UsesBegun : List Token → List Spot → Type 0 where
  no_use : UsesBegun [] []
  then_space : {ts : List Token} {names : List Spot} (p : Place) → UsesBegun ts names → UsesBegun (ts ++ separator p ∷ []) names
  then_use : {ts us : List Token} {names some : List Spot} (p q : Place) → UsesBegun ts names → Names us some
      → UsesBegun (ts ++ word p words.Using ∷ (us ++ separator q ∷ [])) (names ++ some)

-- Parts of frames.

-- an `if` begins; over a branch it is `elseif`
pub data IfBegun : List Frame → Token → Type 0 where
  an_if : {k : List Frame} (p : Place) → takes_lines k ≡ true → IfBegun k (word p words.If)
  an_else_if : {c : Node} {ss : Lines} {k : List Frame} (p : Place) → IfBegun (frames.Branch c ss ∷ k) (word p words.ElseIf)

-- a type that is defined, up to its name
pub data HeaderBegun : Header → List Token → Type 0 where
  an_abstract : (p q r : Place) (x : List ℕ) → HeaderBegun (headers.Abstract (spot r x)) (name p (codes "abstract") ∷ name q (codes "type") ∷ name r x ∷ [])
  a_struct : (p r : Place) (x : List ℕ) → HeaderBegun (headers.Struct false (spot r x)) (word p words.Struct ∷ name r x ∷ [])
  a_mutable : (p q r : Place) (x : List ℕ) → HeaderBegun (headers.Struct true (spot r x)) (name p (codes "mutable") ∷ word q words.Struct ∷ name r x ∷ [])

-- a definition up to its parameters; a directive up to its types
pub data ShortBegun (modules : Modules) : Path → List Token → Type 0 where
  short_begun : {ts : List Token} {f : Path} (p : Place) → Callee modules ts f → p.blank ≡ false → ShortBegun modules f (ts ++ sign p signs.LeftParen ∷ [])

pub data LongBegun (modules : Modules) : Path → List Token → Type 0 where
  long_begun : {ts : List Token} {f : Path} (p q : Place) → Callee modules ts f → q.blank ≡ false
      → LongBegun modules f (word p words.Function ∷ (ts ++ sign q signs.LeftParen ∷ []))

pub data DirectiveBegun (modules : Modules) : Path → List Token → Type 0 where
  directive_begun : {ts : List Token} {f : Path} (p q c o : Place) → Callee modules ts f
      → DirectiveBegun modules f (name p (codes "precompile") ∷ sign q signs.LeftParen ∷ (ts ++ sign c signs.Comma ∷ sign o signs.LeftParen ∷ []))

-- a parameter or field before its type: its name, if any, and its first byte
pub data TypeBegun : Option Spot → ℕ → List Token → Type 0 where
  named_type : (p q : Place) (x : List ℕ) → TypeBegun (Some (spot p x)) p.start (name p x ∷ sign q signs.DoubleColon ∷ [])
  only_type : (p : Place) → TypeBegun None p.start (sign p signs.DoubleColon ∷ [])

abbrev pub takes_named_type : Option Spot → List Frame → Bool
takes_named_type x (frames.Signature form f ps ∷ k) = true
takes_named_type (Some x) (frames.Fields mutable s parent fs ∷ k) = true
takes_named_type _ _ = false

-- the sign that ends what an assignment sets
pub data AssignBegun (modules : Modules) : Target → List Token → Type 0 where
  assign_begun : {ts : List Token} {target : Target} → Assigned modules ts target → AssignBegun modules target ts
  global_begun : (p q : Place) (x : List ℕ) → AssignBegun modules (targets.Global p.start (spot q x)) (word p words.Global ∷ name q x ∷ [])

-- the head of a block, with the separator behind it
pub data Opened (modules : Modules) : Opener → List Frame → List Token → Type 0 where
  if_opened : {ts : List Token} {c : Node} {k : List Frame} {w : Token} (q : Place) → IfBegun k w → Reads modules levels.Conditional ts c
      → Opened modules (openers.If c) k (w ∷ (ts ++ separator q ∷ []))
  else_opened : {ts us : List Token} {c : Node} {b : Lines} {k : List Frame} {w : Token} (q r : Place) → IfBegun k w → Reads modules levels.Conditional ts c
      → Block modules us b → Opened modules (openers.Else c b) k (w ∷ (ts ++ separator q ∷ (us ++ word r words.Else ∷ [])))
  while_opened : {ts : List Token} {c : Node} {k : List Frame} (p q : Place) → takes_lines k ≡ true → Reads modules levels.Conditional ts c
      → Opened modules (openers.While c) k (word p words.While ∷ (ts ++ separator q ∷ []))
  for_opened : {ts us : List Token} {a b : Node} {k : List Frame} (p q c e : Place) (i : Token) (x : List ℕ) → takes_lines k ≡ true
      → begins_bounds i.what ≡ true → Reads modules levels.Sum ts a → Reads modules levels.Sum us b
      → Opened modules (openers.For (spot q x) a b) k (word p words.For ∷ name q x ∷ i ∷ (ts ++ sign c signs.Colon ∷ (us ++ separator e ∷ [])))
  function_opened : {ts us : List Token} {f : Path} {ps : List Param} {k : List Frame} → takes_definition k ≡ true → LongBegun modules f ts
      → Parameters modules us ps → Opened modules (openers.Function f ps) k (ts ++ us)

-- the head of a text
pub data RootBegun : Root → Kind → List Token → Type 0 where
  script_begun : RootBegun roots.Script script []
  package_begun : {ts us : List Token} {names : List Spot} (p q r : Place) (x : List ℕ) → Separators ts → UsesBegun us names
      → RootBegun (roots.Package (spot q x) names) «package» (ts ++ word p words.Module ∷ name q x ∷ separator r ∷ us)

-- The tokens of a purpose, over the frames below.
pub data PurposeBegun (modules : Modules) : Purpose → List Frame → List Token → Type 0 where
  assigns : {ts : List Token} {target : Target} {k : List Frame} {o : Option Sign} (p : Place) (s : Sign) → takes_lines k ≡ true
      → AssignBegun modules target ts → assigning s ≡ Some o
      → PurposeBegun modules (purposes.Assign target (operator_at p.start o)) k (ts ++ sign p s ∷ [])
  binds : {m : Option Spot} {quoted : Bool} {k : List Frame} (p q : Place) (x : List ℕ)
      → PurposeBegun modules (purposes.Assign (targets.Local (spot p x)) None) (frames.Payload m quoted ∷ k) (name p x ∷ sign q signs.Assign ∷ [])
  returns : {k : List Frame} (p : Place) → takes_lines k ≡ true → PurposeBegun modules (purposes.Return p.start) k (word p words.Return ∷ [])
  asks : {k : List Frame} {w : Token} → IfBegun k w → PurposeBegun modules purposes.If k (w ∷ [])
  repeats : {k : List Frame} (p : Place) → takes_lines k ≡ true → PurposeBegun modules purposes.While k (word p words.While ∷ [])
  from : {k : List Frame} (p q : Place) (i : Token) (x : List ℕ) → takes_lines k ≡ true → begins_bounds i.what ≡ true
      → PurposeBegun modules (purposes.From (spot q x)) k (word p words.For ∷ name q x ∷ i ∷ [])
  to : {ts : List Token} {a : Node} {k : List Frame} (p q c : Place) (i : Token) (x : List ℕ) → takes_lines k ≡ true → begins_bounds i.what ≡ true
      → Reads modules levels.Sum ts a
      → PurposeBegun modules (purposes.To (spot q x) a) k (word p words.For ∷ name q x ∷ i ∷ (ts ++ sign c signs.Colon ∷ []))
  sets_const : {k : List Frame} (p q r : Place) (x : List ℕ) → takes_items k ≡ true
      → PurposeBegun modules (purposes.Const (spot q x)) k (word p words.Const ∷ name q x ∷ sign r signs.Assign ∷ [])
  defines : {ts us : List Token} {f : Path} {ps : List Param} {k : List Frame} (q : Place) → takes_definition k ≡ true → ShortBegun modules f ts
      → Parameters modules us ps → PurposeBegun modules (purposes.Short f ps) k (ts ++ (us ++ sign q signs.Assign ∷ []))

-- The tokens of a frame, over the frames below.
pub data Begun (modules : Modules) (kind : Kind) : Frame → List Frame → List Token → Type 0 where
  prefix_begun : {k : List Frame} (p : Place) (s : Sign) → is_prefix s ≡ true → admits k levels.Unary ≡ true
      → Begun modules kind (frames.Prefix (record { sign = s; at = p.start })) k (sign p s ∷ [])
  infix_begun : {l : Level} {ts : List Token} {a : Node} {k : List Frame} (p : Place) (s : Sign) → level_of s ≡ Some l → admits k l ≡ true
      → Reads modules (left_of l) ts a → Begun modules kind (frames.Infix l a (record { sign = s; at = p.start })) k (ts ++ sign p s ∷ [])
  then_begun : {ts : List Token} {c : Node} {k : List Frame} (p : Place) → admits k levels.Conditional ≡ true → Reads modules levels.Disjunction ts c
      → Begun modules kind (frames.Then c) k (ts ++ sign p signs.Question ∷ [])
  else_begun : {ts us : List Token} {c a : Node} {k : List Frame} (p q : Place) → admits k levels.Conditional ≡ true
      → Reads modules levels.Disjunction ts c → Reads modules levels.Conditional us a
      → Begun modules kind (frames.Else c a) k (ts ++ sign p signs.Question ∷ (us ++ sign q signs.Colon ∷ []))
  group_begun : {k : List Frame} {types : Bool} (p : Place) → admits k levels.Postfix ≡ true → opens_types k ≡ types
      → Begun modules kind (frames.Group p.start types) k (sign p signs.LeftParen ∷ [])
  call_begun : {ts : List Token} {f : Path} {g : Given} {k : List Frame} (us : List Token) → admits k levels.Postfix ≡ true → ShortBegun modules f ts
      → GivenBegun modules us g → Begun modules kind (frames.Call f g) k (ts ++ us)
  short_signature : {ts us : List Token} {f : Path} {ps : List Param} {k : List Frame} → takes_definition k ≡ true → ShortBegun modules f ts
      → ParametersBegun modules us ps → Begun modules kind (frames.Signature forms.Short f ps) k (ts ++ us)
  long_signature : {ts us : List Token} {f : Path} {ps : List Param} {k : List Frame} → takes_definition k ≡ true → LongBegun modules f ts
      → ParametersBegun modules us ps → Begun modules kind (frames.Signature forms.Long f ps) k (ts ++ us)
  type_begun : {ts : List Token} {x : Option Spot} {at' : ℕ} {k : List Frame} → takes_named_type x k ≡ true → TypeBegun x at' ts
      → Begun modules kind (frames.TypeOf x at') k ts
  function_begun : {k : List Frame} (p : Place) → takes_definition k ≡ true → Begun modules kind frames.FunctionName k (word p words.Function ∷ [])
  parent_begun : {ts : List Token} {h : Header} {k : List Frame} (p : Place) → takes_items k ≡ true → HeaderBegun h ts
      → Begun modules kind (frames.Parent h) k (ts ++ sign p signs.Below ∷ [])
  fields_begun : {ts us vs : List Token} {mutable : Bool} {x : Spot} {parent : Option Path} {fs : List Param} {k : List Frame} → takes_items k ≡ true
      → HeaderBegun (headers.Struct mutable x) ts → Above modules us parent → FieldsBegun modules vs fs
      → Begun modules kind (frames.Fields mutable x parent fs) k (ts ++ (us ++ vs))
  directive_function : {k : List Frame} (p q : Place) → takes_directives k ≡ true
      → Begun modules kind frames.DirectiveFun k (name p (codes "precompile") ∷ sign q signs.LeftParen ∷ [])
  types_begun : {ts us : List Token} {f : Path} {types : List Path} {k : List Frame} → takes_directives k ≡ true → DirectiveBegun modules f ts
      → TypesBegun modules us types → Begun modules kind (frames.Types f types) k (ts ++ us)
  hole_begun : {ts : List Token} {purpose : Purpose} {k : List Frame} → PurposeBegun modules purpose k ts → Begun modules kind (frames.Hole purpose) k ts
  block_begun : {ts us : List Token} {o : Opener} {ss : Lines} {k : List Frame} → Opened modules o k ts → LinesBegun modules us ss
      → Begun modules kind (frames.Block o ss) k (ts ++ us)
  branch_begun : {ts us : List Token} {c : Node} {b : Lines} {k : List Frame} {w : Token} (q : Place) → IfBegun k w → Reads modules levels.Conditional ts c
      → Block modules us b → Begun modules kind (frames.Branch c b) k (w ∷ (ts ++ separator q ∷ us))
  eval_begun : {k : List Frame} (p : Place) → takes_lines k ≡ true → Begun modules kind (frames.Payload None false) k (token p kinds.AtEval ∷ [])
  eval_in_begun : {k : List Frame} (p q : Place) (m : List ℕ) → takes_lines k ≡ true → is_module modules m ≡ true
      → Begun modules kind (frames.Payload (Some (spot q m)) false) k (token p kinds.AtEval ∷ name q m ∷ [])
  quoted_begun : {k : List Frame} (p q r o : Place) → takes_lines k ≡ true
      → Begun modules kind (frames.Payload None true) k (name p (codes "eval") ∷ sign q signs.LeftParen ∷ sign r signs.Colon ∷ sign o signs.LeftParen ∷ [])
  items_begun : {ts us : List Token} {root : Root} {is : Entries} → RootBegun root kind ts → ItemsBegun modules kind us is
      → Begun modules kind (frames.Items root is) [] (ts ++ us)

-- whether tokens may follow `@eval`, with or without a module
abbrev opens_payload : Modules → List Frame → List Token → Bool
opens_payload modules (frames.Payload None false ∷ k) ts = not (begins_with_module modules ts)
opens_payload modules (frames.Payload (Some m) quoted ∷ k) ts = not (opens_directly ts)
opens_payload modules _ ts = true

abbrev pub opens : Modules → List Frame → List Token → Bool
opens modules (frames.Hole purposes.Value ∷ k) ts = opens_payload modules k ts
opens modules k ts = opens_payload modules k ts

-- These tokens may stand there, whatever follows.
abbrev pub Opens : Modules → List Frame → List Token → Type 0
Opens modules k ts = (more : List Token) → opens modules k (ts ++ more) ≡ true

-- where a statement or a payload may begin with an operand
abbrev pub takes_value : List Frame → Bool
takes_value (frames.Payload m quoted ∷ k) = true
takes_value k = takes_lines k

-- The frames have read these tokens. A statement's or payload's own expression has none before it.
pub data Under (modules : Modules) (kind : Kind) : List Frame → List Token → Type 0 where
  nothing : Under modules kind [] []
  at_value : {k : List Frame} {before : List Token} → takes_value k ≡ true → Under modules kind k before → Under modules kind (frames.Hole purposes.Value ∷ k) before
  under : {f : Frame} {k : List Frame} {before ts : List Token} → Under modules kind k before → Opens modules k ts → Begun modules kind f k ts
      → Under modules kind (f ∷ k) (before ++ ts)
