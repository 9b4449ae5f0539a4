-- What has been read where the machine stands.
-- `Standing mode k ts`: the tokens `ts` have led to the mode `mode` over the frames `k`. They are those of the frames, `Under k`
-- (`Begun`), and those of the mode, `Mine mode k`, which are listed for each mode that has any. Where a statement, an item or a
-- list has ended and its frame says so already, the mode has a constructor of its own, with the frame as it was.
use Rattle.std.proofs.Common.{◌≡◌, ℕ, Bool, true, false, List, [], ◌∷◌, ◌++◌, Option, Some, None, codes}
use Rattle.pj_words.specs.declared.word.Word.TheVariants as words
use Rattle.pj_lex.specs.declared.sign.Sign.{Sign}
use Rattle.pj_lex.specs.declared.sign.Sign.TheVariants as signs
use Rattle.pj_lex.specs.declared.token.Token.{Token}
use Rattle.pj_lex.specs.declared.token.TokenKind.TheVariants as kinds
use Rattle.pj_lex.specs.Signs.{is_operator}
use Rattle.pj_syntax.specs.declared.expression.Spot.{Spot}
use Rattle.pj_syntax.specs.declared.expression.Path.{Path}
use Rattle.pj_syntax.specs.declared.statement.Param.{Param}
use Rattle.pj_grammar.specs.declared.level.Level.TheVariants as levels
use Rattle.pj_grammar.specs.declared.node.Node.{Node}
use Rattle.pj_grammar.specs.declared.node.Line.{Line}
use Rattle.pj_grammar.specs.declared.node.Lines.{Lines}
use Rattle.pj_grammar.specs.declared.node.Entries.{Entries}
use Rattle.pj_grammar.specs.declared.frame.Form.TheVariants as forms
use Rattle.pj_grammar.specs.declared.frame.Frame.{Frame}
use Rattle.pj_grammar.specs.declared.frame.Frame.TheVariants as frames
use Rattle.pj_grammar.specs.declared.frame.Header.{Header}
use Rattle.pj_grammar.specs.declared.frame.Opener.{Opener}
use Rattle.pj_grammar.specs.declared.frame.Purpose.TheVariants as purposes
use Rattle.pj_grammar.specs.declared.frame.Root.{Root}
use Rattle.pj_grammar.specs.declared.frame.Root.TheVariants as roots
use Rattle.pj_grammar.specs.declared.mode.Head.{Head}
use Rattle.pj_grammar.specs.declared.mode.Head.TheVariants as heads
use Rattle.pj_grammar.specs.declared.mode.Mode.{Mode}
use Rattle.pj_grammar.specs.declared.mode.Mode.TheVariants as modes
use Rattle.pj_grammar.specs.declared.mode.Parsed.{Parsed}
use Rattle.pj_grammar.specs.Expressions.{Callee, Given, Reads, has_fields}
use Rattle.pj_grammar.specs.Frames.{State, admits, params_of, takes_definition, takes_directives, takes_items, takes_lines, takes_short, takes_uses}
use Rattle.pj_grammar.specs.Levels.{operator_text}
use Rattle.pj_grammar.specs.Machine.{read_frames, takes_module}
use Rattle.pj_grammar.specs.Makers.{Entry, entry_after, lacks, line_after, paths_given}
use Rattle.pj_grammar.specs.Modules.{Modules, is_module}
use Rattle.pj_grammar.specs.Statements.{Holder, Parameters, Statement}
use Rattle.pj_grammar.specs.Texts.{IsText, Item, Items, Kind, Names, Separators, Types, «package»}
use Rattle.pj_grammar.specs.Tokens.{Place, name, sign, spot, token, word}
use Rattle.pj_grammar.proofs.Begun.{DirectiveBegun, HeaderBegun, Opens, RootBegun, ShortBegun, Under}

-- the names that a run `using` has so far, each with its comma
pub data NamesBegun : List Token → List Spot → Type 0 where
  no_names : NamesBegun [] []
  then_names : {ts : List Token} {xs : List Spot} (p q : Place) (x : List ℕ) → NamesBegun ts xs
      → NamesBegun (ts ++ name p x ∷ sign q signs.Comma ∷ []) (xs ++ spot p x ∷ [])

-- What an operand has read. A call whose arguments are names may still be the head of a definition.
pub data Operand (modules : Modules) : Head → List Frame → List Token → Type 0 where
  a_name : {k : List Frame} (p : Place) (x : List ℕ) → Operand modules (heads.Name (spot p x)) k (name p x ∷ [])
  a_member : {k : List Frame} (p q r : Place) (m x : List ℕ) → is_module modules m ≡ true → admits k levels.Named ≡ true
      → Operand modules (heads.Member (spot p m) (spot r x)) k (name p m ∷ sign q signs.Dot ∷ name r x ∷ [])
  an_operator : {k : List Frame} (p q r o : Place) (s : Sign) → is_operator s ≡ true → admits k levels.Callee ≡ true
      → Operand modules (heads.Operator (spot p (codes "Base")) (record { text = operator_text s; at = o.start })) k (name p (codes "Base") ∷ sign q signs.Dot ∷ sign r signs.Colon ∷ sign o s ∷ [])
  a_place : {ts : List Token} {e : Node} {k : List Frame} (p q : Place) (x : List ℕ) → Holder modules ts e → admits k levels.Postfix ≡ true
      → Operand modules (heads.Place e (spot q x)) k (ts ++ sign p signs.Dot ∷ name q x ∷ [])
  a_call : {ts us : List Token} {f : Path} {ps : List Path} {k : List Frame} → admits k levels.Postfix ≡ true → ShortBegun modules f ts
      → Given modules us (paths_given ps) → ((qs : List Param) → params_of ps ≡ Some qs → Parameters modules us qs)
      → (lacks f (paths_given ps) ≡ true → takes_short k ≡ true) → Operand modules (heads.Call f ps) k (ts ++ us)
  an_expression : {ts : List Token} {e : Node} {k : List Frame} → admits k levels.Postfix ≡ true → has_fields modules ts ≡ true
      → Reads modules levels.Postfix ts e → Operand modules (heads.Plain e) k ts

-- What a mode has read over the frames.
pub data Mine (modules : Modules) : Mode → List Frame → List Token → Type 0 where
  has_operand : {ts : List Token} {h : Head} {k : List Frame} → Operand modules h k ts → Mine modules (modes.Have h) k ts
  field_of_place : {ts : List Token} {e : Node} {k : List Frame} (p : Place) → admits k levels.Postfix ≡ true → Holder modules ts e
      → Mine modules (modes.Field e true) k (ts ++ sign p signs.Dot ∷ [])
  field_of_value : {ts : List Token} {e : Node} {k : List Frame} (p : Place) → admits k levels.Postfix ≡ true → has_fields modules ts ≡ true
      → Reads modules levels.Postfix ts e → Mine modules (modes.Field e false) k (ts ++ sign p signs.Dot ∷ [])
  has_module : {k : List Frame} (p q : Place) (m : List ℕ) → is_module modules m ≡ true → admits k levels.Named ≡ true
      → Mine modules (modes.Member (spot p m)) k (name p m ∷ sign q signs.Dot ∷ [])
  has_base : {k : List Frame} (p q r : Place) → admits k levels.Callee ≡ true
      → Mine modules (modes.BaseOperator (spot p (codes "Base"))) k (name p (codes "Base") ∷ sign q signs.Dot ∷ sign r signs.Colon ∷ [])
  before_colon : {k : List Frame} (p q : Place) → takes_lines k ≡ true
      → Mine modules modes.EvalColon k (name p (codes "eval") ∷ sign q signs.LeftParen ∷ [])
  before_open : {k : List Frame} (p q r : Place) → takes_lines k ≡ true
      → Mine modules modes.EvalOpen k (name p (codes "eval") ∷ sign q signs.LeftParen ∷ sign r signs.Colon ∷ [])
  before_ends : {ts : List Token} {s : Line} {k : List Frame} → takes_lines k ≡ true
      → ((c d : Place) → Statement modules (ts ++ sign c signs.RightParen ∷ sign d signs.RightParen ∷ []) s) → Mine modules (modes.PayloadEnd s) k ts
  before_end : {ts : List Token} {s : Line} {k : List Frame} → takes_lines k ≡ true
      → ((d : Place) → Statement modules (ts ++ sign d signs.RightParen ∷ []) s) → Mine modules (modes.EvalEnd s) k ts
  has_return : {k : List Frame} (p : Place) → takes_lines k ≡ true → Mine modules (modes.Return p.start) k (word p words.Return ∷ [])
  has_global : {k : List Frame} (p : Place) → takes_lines k ≡ true → Mine modules (modes.GlobalName p.start) k (word p words.Global ∷ [])
  global_named : {k : List Frame} (p q : Place) (x : List ℕ) → takes_lines k ≡ true
      → Mine modules (modes.GlobalAssign p.start (spot q x)) k (word p words.Global ∷ name q x ∷ [])
  has_const : {k : List Frame} (p : Place) → takes_items k ≡ true → Mine modules modes.ConstName k (word p words.Const ∷ [])
  const_named : {k : List Frame} (p q : Place) (x : List ℕ) → takes_items k ≡ true
      → Mine modules (modes.ConstAssign (spot q x)) k (word p words.Const ∷ name q x ∷ [])
  has_for : {k : List Frame} (p : Place) → takes_lines k ≡ true → Mine modules modes.LoopName k (word p words.For ∷ [])
  loop_named : {k : List Frame} (p q : Place) (x : List ℕ) → takes_lines k ≡ true
      → Mine modules (modes.LoopIn (spot q x)) k (word p words.For ∷ name q x ∷ [])
  wants_use : {ts : List Token} {xs : List Spot} {k : List Frame} (p : Place) → takes_uses k ≡ true → NamesBegun ts xs
      → Mine modules (modes.UsingName xs) k (word p words.Using ∷ ts)
  has_use : {ts : List Token} {xs : List Spot} {k : List Frame} (p : Place) → takes_uses k ≡ true → Names ts xs
      → Mine modules (modes.UsingMore xs) k (word p words.Using ∷ ts)
  has_abstract : {k : List Frame} (p q : Place) → takes_items k ≡ true
      → Mine modules modes.AbstractName k (name p (codes "abstract") ∷ name q (codes "type") ∷ [])
  has_struct : {k : List Frame} (p : Place) → takes_items k ≡ true → Mine modules (modes.StructName false) k (word p words.Struct ∷ [])
  has_mutable : {k : List Frame} (p q : Place) → takes_items k ≡ true
      → Mine modules (modes.StructName true) k (name p (codes "mutable") ∷ word q words.Struct ∷ [])
  has_header : {ts : List Token} {h : Header} {k : List Frame} → takes_items k ≡ true → HeaderBegun h ts → Mine modules (modes.Header h) k ts
  has_declared : {ts : List Token} {k : List Frame} (p q : Place) (x : List ℕ) → takes_items k ≡ true → Separators ts
      → Mine modules (modes.Declared (spot q x)) k (word p words.Function ∷ name q x ∷ ts)
  before_types : {ts : List Token} {f : Path} {k : List Frame} (p q c : Place) → takes_directives k ≡ true → Callee modules ts f
      → Mine modules (modes.TypesOpen f) k (name p (codes "precompile") ∷ sign q signs.LeftParen ∷ (ts ++ sign c signs.Comma ∷ []))

-- the modes that have read nothing of their own, and what stands on top of the frames there
abbrev pub is_call : List Frame → Bool
is_call (frames.Call f g ∷ k) = true
is_call _ = false

abbrev pub is_signature : List Frame → Bool
is_signature (frames.Signature form f ps ∷ k) = true
is_signature _ = false

abbrev pub is_payload : List Frame → Bool
is_payload (frames.Payload None quoted ∷ k) = true
is_payload _ = false

abbrev pub is_fields : List Frame → Bool
is_fields (frames.Fields mutable x parent fs ∷ k) = true
is_fields _ = false

abbrev pub is_types : List Frame → Bool
is_types (frames.Types f ts ∷ k) = true
is_types _ = false

abbrev pub is_path : List Frame → Bool
is_path (frames.FunctionName ∷ k) = true
is_path (frames.TypeOf x p ∷ k) = true
is_path (frames.Parent h ∷ k) = true
is_path (frames.DirectiveFun ∷ k) = true
is_path _ = false

-- where an operand may begin, with tokens before it
abbrev pub wants_operand : List Frame → Bool
wants_operand (frames.Hole purposes.Value ∷ k) = false
wants_operand k = admits k levels.Unary

abbrev pub stands : Mode → List Frame → Bool
stands modes.Want k = wants_operand k
stands modes.Arguments k = is_call k
stands modes.Params k = is_signature k
stands modes.PathStart k = is_path k
stands modes.Line k = takes_lines k
stands modes.Payload k = is_payload k
stands modes.FieldStart k = is_fields k
stands modes.Types k = is_types k
stands _ k = false

-- the items of a package with their `end`, before separators and the text's end
pub record Ending (modules : Modules) (ts : List Token) (is : Entries) : Type 0 where
  pub ends : (us : List Token) → Separators us → (e : Place) → Items modules «package» (ts ++ (us ++ token e kinds.Eof ∷ [])) is

pub data Standing (modules : Modules) (kind : Kind) : Mode → List Frame → List Token → Type 0 where
  bare_at : {mode : Mode} {k : List Frame} {ts : List Token} → stands mode k ≡ true → Under modules kind k ts → Standing modules kind mode k ts
  over_frames : {mode : Mode} {k : List Frame} {before ts : List Token} → Under modules kind k before → Opens modules k ts → Mine modules mode k ts
      → Standing modules kind mode k (before ++ ts)
  -- a statement or an item has ended, and its list has it
  line_closed : {o : Opener} {ss : Lines} {s : Line} {k : List Frame} {before ts : List Token} → Under modules kind (frames.Block o ss ∷ k) before
      → Statement modules ts s → Standing modules kind modes.Closed (frames.Block o (line_after ss s) ∷ k) (before ++ ts)
  entry_closed : {root : Root} {is : Entries} {i : Entry} {k : List Frame} {before ts : List Token} → Under modules kind (frames.Items root is ∷ k) before
      → Item modules kind ts i → Standing modules kind modes.Closed (frames.Items root (entry_after is i) ∷ k) (before ++ ts)
  -- a module's name behind `@eval`
  eval_named : {k : List Frame} {before : List Token} (p : Place) (m : List ℕ) → takes_module k ≡ true → is_module modules m ≡ true
      → Under modules kind k before → Standing modules kind (modes.EvalName (spot p m)) k (before ++ name p m ∷ [])
  -- the parameters of a short definition have ended
  signature_closed : {ts us before : List Token} {f : Path} {ps : List Param} {k : List Frame} → takes_definition k ≡ true → Under modules kind k before
      → Opens modules k (ts ++ us) → ShortBegun modules f ts → Parameters modules us ps
      → Standing modules kind modes.ShortAssign (frames.Signature forms.Short f ps ∷ k) (before ++ (ts ++ us))
  -- the types of a directive have ended
  types_closed : {ts us before : List Token} {f : Path} {types : List Path} {k : List Frame} → takes_directives k ≡ true → Under modules kind k before
      → DirectiveBegun modules f ts → Types modules us types → Standing modules kind modes.DirectiveEnd (frames.Types f types ∷ k) (before ++ (ts ++ us))
  -- the head of a package
  at_package : {ts : List Token} → kind ≡ «package» → Separators ts → Standing modules kind modes.PackageStart [] ts
  at_package_name : {ts : List Token} (p : Place) → kind ≡ «package» → Separators ts → Standing modules kind modes.PackageName [] (ts ++ word p words.Module ∷ [])
  at_package_named : {ts : List Token} (p q : Place) (x : List ℕ) → kind ≡ «package» → Separators ts
      → Standing modules kind (modes.PackageNamed (spot q x)) [] (ts ++ word p words.Module ∷ name q x ∷ [])
  -- the end of a text
  package_ended : {ts us : List Token} {x : Spot} {uses : List Spot} {is : Entries} → RootBegun (roots.Package x uses) kind ts → Ending modules us is
      → Standing modules kind modes.PackageEnd (frames.Items (roots.Package x uses) is ∷ []) (ts ++ us)
  text_ended : {ts : List Token} {k : List Frame} {tree : Parsed} {nesting : ℕ} → read_frames k ≡ Some (tree, nesting) → IsText modules kind ts tree nesting
      → Standing modules kind modes.Accepted k ts

-- A state where these tokens have led to; where there is no answer, nothing is claimed.
abbrev pub Stands : Modules → Kind → Option State → List Token → Type 0
Stands modules kind None ts = Unit {0}
Stands modules kind (Some s) ts = Standing modules kind s.mode s.frames ts
