-- The machine that reads the tokens of a text one by one. It has no answer where no text of the grammar begins so.
use Rattle.std.specs.Prelude.{ℕ, Bool, true, false, not, ◌&&◌, ◌||◌, List, [], ◌∷◌, ◌++◌, Option, Some, None, codes, if◌then◌else◌}
use Rattle.std.specs.Str.{bytes_eq}
use Rattle.pj_words.specs.declared.word.Word.{Word}
use Rattle.pj_words.specs.declared.word.Word.TheVariants as words
use Rattle.pj_lex.specs.declared.sign.Sign.{Sign}
use Rattle.pj_lex.specs.declared.sign.Sign.TheVariants as signs
use Rattle.pj_lex.specs.declared.token.Token.{Token}
use Rattle.pj_lex.specs.declared.token.TokenKind.{TokenKind}
use Rattle.pj_lex.specs.declared.token.TokenKind.TheVariants as kinds
use Rattle.pj_lex.specs.Signs.{is_operator}
use Rattle.pj_syntax.specs.declared.expression.Spot.{Spot}
use Rattle.pj_syntax.specs.declared.expression.Expr.{Expr}
use Rattle.pj_syntax.specs.declared.expression.Path.TheVariants as paths
use Rattle.pj_grammar.specs.declared.level.Level.TheVariants as levels
use Rattle.pj_grammar.specs.declared.frame.Frame.{Frame}
use Rattle.pj_grammar.specs.declared.frame.Frame.TheVariants as frames
use Rattle.pj_grammar.specs.declared.frame.Form.TheVariants as forms
use Rattle.pj_grammar.specs.declared.frame.Given.TheVariants as given
use Rattle.pj_grammar.specs.declared.frame.Header.{Header}
use Rattle.pj_grammar.specs.declared.frame.Header.TheVariants as headers
use Rattle.pj_grammar.specs.declared.frame.Purpose.TheVariants as purposes
use Rattle.pj_grammar.specs.declared.frame.Root.TheVariants as roots
use Rattle.pj_grammar.specs.declared.frame.Target.TheVariants as targets
use Rattle.pj_grammar.specs.declared.mode.Head.TheVariants as heads
use Rattle.pj_grammar.specs.declared.mode.Mode.{Mode}
use Rattle.pj_grammar.specs.declared.mode.Mode.TheVariants as modes
use Rattle.pj_grammar.specs.declared.mode.Parsed.{Parsed}
use Rattle.pj_grammar.specs.declared.mode.Parsed.TheVariants as parsed
use Rattle.pj_grammar.specs.declared.node.Node.{Node}
use Rattle.pj_grammar.specs.Closing.{after_end, after_line, closed_entry, closed_line, ending}
use Rattle.pj_grammar.specs.Frames.{State, admits, at, guarded, params_of, takes_directives, takes_items, takes_lines, takes_uses}
use Rattle.pj_grammar.specs.Levels.{is_prefix, operator_text}
use Rattle.pj_grammar.specs.Makers.{bare_return, break_of, continue_of, declared, directive_of, field_of, leaf, literal_of, no_entries, using_of}
use Rattle.pj_grammar.specs.Modules.{Modules, is_module}
use Rattle.pj_grammar.specs.Operands.{after_header, close_call, end_params, have, start_field, type_of_param}
use Rattle.pj_grammar.specs.Statements.{assigning, begins_bounds, is_dot, is_paren, operator_at}
use Rattle.pj_grammar.specs.Texts.{Kind, script, «package»}
use Rattle.pj_grammar.specs.Tokens.{Place, place, spot}

-- whether a group may be the types of a directive: it is the second argument of `precompile`, and the first is a function's name
abbrev pub opens_types : List Frame → Bool
opens_types (frames.Call (paths.Bare f) (given.Paths (g ∷ [])) ∷ frames.Hole purposes.Value ∷ k) = bytes_eq f.text (codes "precompile") && takes_directives k
opens_types _ = false

-- no types of a directive
abbrev pub close_types : List Frame → Option State
close_types (frames.Group p true ∷ frames.Call f (given.Paths (g ∷ [])) ∷ frames.Hole purposes.Value ∷ k) = at modes.DirectiveEnd (frames.Types g [] ∷ k)
close_types _ = None

abbrev pub operand_sign : List Frame → ℕ → Sign → Option State
operand_sign k p signs.LeftParen = at modes.Want (frames.Group p (opens_types k) ∷ k)
operand_sign k p signs.RightParen = close_types k
operand_sign k p s = guarded (is_prefix s) (at modes.Want (frames.Prefix (record { sign = s; at = p }) ∷ k))

abbrev pub operand_literal : List Frame → ℕ → Option Expr → Option State
operand_literal k p (Some tree) = at (modes.Have (heads.Plain (leaf p tree))) k
operand_literal k p None = None

-- an operand begins
abbrev pub operand : List Frame → Place → TokenKind → Option State
operand k p (kinds.Name x) = at (modes.Have (heads.Name (spot p x))) k
operand k p (kinds.Sign s) = operand_sign k p.start s
operand k p kind = operand_literal k p.start (literal_of kind)

-- an argument begins, or the arguments end
abbrev pub end_arguments : List Frame → Option State
end_arguments (frames.Call f g ∷ k) = close_call f g k
end_arguments _ = None

abbrev pub type_argument : ℕ → List Frame → Option State
type_argument p (frames.Call f (given.Paths ps) ∷ frames.Hole purposes.Value ∷ k) = type_of_param None p f (params_of ps) k
type_argument p _ = None

abbrev pub quote : List Frame → Option State
quote (frames.Call (paths.Bare f) (given.Paths []) ∷ frames.Hole purposes.Value ∷ k) =
    guarded (bytes_eq f.text (codes "eval") && takes_lines k) (at modes.EvalOpen k)
quote _ = None

abbrev pub argument : List Frame → Place → TokenKind → Option State
argument k p (kinds.Sign signs.RightParen) = end_arguments k
argument k p (kinds.Sign signs.DoubleColon) = type_argument p.start k
argument k p (kinds.Sign signs.Colon) = quote k
argument k p kind = operand k p kind

abbrev pub parameter : List Frame → Place → TokenKind → Option State
parameter k p (kinds.Sign signs.RightParen) = end_params k
parameter k p (kinds.Sign signs.DoubleColon) = at modes.PathStart (frames.TypeOf None p.start ∷ k)
parameter k p (kinds.Name x) = at (modes.Have (heads.Name (spot p x))) k
parameter k p _ = None

abbrev pub short_assign : List Frame → TokenKind → Option State
short_assign (frames.Signature forms.Short f ps ∷ k) (kinds.Sign signs.Assign) = at modes.Want (frames.Hole (purposes.Short f ps) ∷ k)
short_assign _ _ = None

-- names behind dots
abbrev pub field_name : Node → Bool → List Frame → Place → TokenKind → Option State
field_name e true k p (kinds.Name x) = at (modes.Have (heads.Place e (spot p x))) k
field_name e false k p (kinds.Name x) = at (modes.Have (heads.Plain (field_of e (spot p x)))) k
field_name e _ k p _ = None

abbrev pub member_name : Spot → List Frame → Place → TokenKind → Option State
member_name m k p (kinds.Name x) = at (modes.Have (heads.Member m (spot p x))) k
member_name m k p (kinds.Sign signs.Colon) = guarded (bytes_eq m.text (codes "Base") && admits k levels.Callee) (at (modes.BaseOperator m) k)
member_name m k p _ = None

abbrev pub base_operator : Spot → List Frame → Place → TokenKind → Option State
base_operator m k p (kinds.Sign s) = guarded (is_operator s) (at (modes.Have (heads.Operator m (record { text = operator_text s; at = p.start }))) k)
base_operator m k p _ = None

abbrev pub path_start : List Frame → Place → TokenKind → Option State
path_start k p (kinds.Name x) = at (modes.Have (heads.Name (spot p x))) k
path_start k p _ = None

-- a statement or an item begins
abbrev pub line_word : List Frame → Place → Word → Option State
line_word k p words.If = at modes.Want (frames.Hole purposes.If ∷ k)
line_word k p words.While = at modes.Want (frames.Hole purposes.While ∷ k)
line_word k p words.For = at modes.LoopName k
line_word k p words.Break = closed_line (break_of p.start) k
line_word k p words.Continue = closed_line (continue_of p.start) k
line_word k p words.Return = at (modes.Return p.start) k
line_word k p words.Global = at (modes.GlobalName p.start) k
line_word k p words.Struct = guarded (takes_items k) (at (modes.StructName false) k)
line_word k p words.Function = guarded (takes_items k) (at modes.PathStart (frames.FunctionName ∷ k))
line_word k p words.Const = guarded (takes_items k) (at modes.ConstName k)
line_word k p words.Using = guarded (takes_uses k) (at (modes.UsingName []) k)
line_word k p words.True = operand (frames.Hole purposes.Value ∷ k) p (kinds.Reserved words.True)
line_word k p words.False = operand (frames.Hole purposes.Value ∷ k) p (kinds.Reserved words.False)
line_word k p words.Nothing = operand (frames.Hole purposes.Value ∷ k) p (kinds.Reserved words.Nothing)
line_word k p w = ending k (kinds.Reserved w)

abbrev pub line : List Frame → Place → TokenKind → Option State
line k p (kinds.Reserved w) = line_word k p w
line k p kinds.AtEval = at modes.Payload (frames.Payload None false ∷ k)
line k p kinds.Separator = at modes.Line k
line k p kinds.Eof = ending k kinds.Eof
line k p kind = operand (frames.Hole purposes.Value ∷ k) p kind

-- what is evaluated begins
abbrev pub takes_module : List Frame → Bool
takes_module (frames.Payload None false ∷ k) = true
takes_module _ = false

abbrev pub payload : Modules → List Frame → Place → TokenKind → Option State
payload modules k p (kinds.Reserved words.Function) = at modes.PathStart (frames.FunctionName ∷ k)
payload modules k p (kinds.Name x) =
    if takes_module k && is_module modules x then at (modes.EvalName (spot p x)) k else operand (frames.Hole purposes.Value ∷ k) p (kinds.Name x)
payload modules k p kind = operand (frames.Hole purposes.Value ∷ k) p kind

abbrev pub with_module : Spot → List Frame → List Frame
with_module m (frames.Payload None quoted ∷ k) = frames.Payload (Some m) quoted ∷ k
with_module m k = k

abbrev pub is_end : TokenKind → Bool
is_end kinds.Separator = true
is_end kinds.Eof = true
is_end _ = false

-- a module's name behind `@eval` is a name to read before these
abbrev pub reads_name : Place → TokenKind → Bool
reads_name p kind = is_end kind || is_dot kind || is_paren kind && not p.blank

abbrev pub eval_name_then : Modules → Spot → List Frame → Place → TokenKind → Option State
eval_name_then modules m k p kind =
    if reads_name p kind then have modules (heads.Name m) (frames.Hole purposes.Value ∷ k) p kind else payload modules (with_module m k) p kind

-- the fixed forms
abbrev pub expect_sign : Sign → TokenKind → Option State → Option State
expect_sign signs.Colon (kinds.Sign signs.Colon) s = s
expect_sign signs.LeftParen (kinds.Sign signs.LeftParen) s = s
expect_sign signs.RightParen (kinds.Sign signs.RightParen) s = s
expect_sign signs.Assign (kinds.Sign signs.Assign) s = s
expect_sign _ _ s = None

abbrev pub ends_line : TokenKind → Bool
ends_line kinds.Separator = true
ends_line kinds.Eof = true
ends_line (kinds.Reserved words.End) = true
ends_line (kinds.Reserved words.Else) = true
ends_line (kinds.Reserved words.ElseIf) = true
ends_line _ = false

abbrev pub after_return : ℕ → List Frame → Place → TokenKind → Option State
after_return at' k p kind =
    if ends_line kind then after_end (closed_line (bare_return at') k) kind else operand (frames.Hole (purposes.Return at') ∷ k) p kind

-- a mode that a name follows
abbrev pub expect_name : (Spot → Mode) → List Frame → Place → TokenKind → Option State
expect_name then_ k p (kinds.Name x) = at (then_ (spot p x)) k
expect_name then_ k p _ = None

abbrev pub set_global : ℕ → Spot → List Frame → ℕ → Option (Option Sign) → Option State
set_global at' x k p (Some o) = at modes.Want (frames.Hole (purposes.Assign (targets.Global at' x) (operator_at p o)) ∷ k)
set_global at' x k p None = None

abbrev pub global_assign : ℕ → Spot → List Frame → Place → TokenKind → Option State
global_assign at' x k p (kinds.Sign s) = set_global at' x k p.start (assigning s)
global_assign at' x k p _ = None

abbrev pub end_uses : List Spot → List Frame → TokenKind → Option State
end_uses names (frames.Items roots.Script is ∷ k) kind = after_end (closed_entry (using_of names) (frames.Items roots.Script is ∷ k)) kind
end_uses names (frames.Items (roots.Package x uses) is ∷ k) kinds.Separator = at modes.Line (frames.Items (roots.Package x (uses ++ names)) is ∷ k)
end_uses _ _ _ = None

abbrev pub after_use : List Spot → List Frame → TokenKind → Option State
after_use names k (kinds.Sign signs.Comma) = at (modes.UsingName names) k
after_use names k kind = end_uses names k kind

abbrev pub header : Header → List Frame → Place → TokenKind → Option State
header h k p (kinds.Sign signs.Below) = at modes.PathStart (frames.Parent h ∷ k)
header h k p kind = after_header h None k p.start kind

abbrev pub after_declared : Spot → List Frame → TokenKind → Option State
after_declared x k kinds.Separator = at (modes.Declared x) k
after_declared x k (kinds.Reserved words.End) = closed_entry (declared x) k
after_declared x k _ = None

abbrev pub types : List Frame → Place → TokenKind → Option State
types k p (kinds.Sign signs.RightParen) = at modes.DirectiveEnd k
types k p (kinds.Name x) = at (modes.Have (heads.Name (spot p x))) k
types k p _ = None

abbrev pub directive_end : List Frame → TokenKind → Option State
directive_end (frames.Types f ts ∷ k) (kinds.Sign signs.RightParen) = closed_entry (directive_of f ts) k
directive_end _ _ = None

abbrev pub package_start : List Frame → TokenKind → Option State
package_start k kinds.Separator = at modes.PackageStart k
package_start k (kinds.Reserved words.Module) = at modes.PackageName k
package_start k _ = None

abbrev pub package_named : Spot → TokenKind → Option State
package_named x kinds.Separator = at modes.Line (frames.Items (roots.Package x []) no_entries ∷ [])
package_named x _ = None

abbrev pub package_end : List Frame → TokenKind → Option State
package_end k kinds.Separator = at modes.PackageEnd k
package_end k kinds.Eof = at modes.Accepted k
package_end k _ = None

abbrev pub step_at : Modules → Mode → List Frame → Place → TokenKind → Option State
step_at modules modes.Want k p kind = operand k p kind
step_at modules (modes.Have h) k p kind = have modules h k p kind
step_at modules (modes.Field e place) k p kind = field_name e place k p kind
step_at modules (modes.Member m) k p kind = member_name m k p kind
step_at modules (modes.BaseOperator m) k p kind = base_operator m k p kind
step_at modules modes.Arguments k p kind = argument k p kind
step_at modules modes.Params k p kind = parameter k p kind
step_at modules modes.ShortAssign k p kind = short_assign k kind
step_at modules modes.PathStart k p kind = path_start k p kind
step_at modules modes.Line k p kind = line k p kind
step_at modules modes.Closed k p kind = after_line k kind
step_at modules modes.Payload k p kind = payload modules k p kind
step_at modules (modes.EvalName m) k p kind = eval_name_then modules m k p kind
step_at modules modes.EvalColon k p kind = expect_sign signs.Colon kind (at modes.EvalOpen k)
step_at modules modes.EvalOpen k p kind = expect_sign signs.LeftParen kind (at modes.Payload (frames.Payload None true ∷ k))
step_at modules (modes.PayloadEnd s) k p kind = expect_sign signs.RightParen kind (at (modes.EvalEnd s) k)
step_at modules (modes.EvalEnd s) k p kind = expect_sign signs.RightParen kind (closed_line s k)
step_at modules (modes.Return at') k p kind = after_return at' k p kind
step_at modules (modes.GlobalName at') k p kind = expect_name (modes.GlobalAssign at') k p kind
step_at modules (modes.GlobalAssign at' x) k p kind = global_assign at' x k p kind
step_at modules modes.ConstName k p kind = expect_name modes.ConstAssign k p kind
step_at modules (modes.ConstAssign x) k p kind = expect_sign signs.Assign kind (at modes.Want (frames.Hole (purposes.Const x) ∷ k))
step_at modules modes.LoopName k p kind = expect_name modes.LoopIn k p kind
step_at modules (modes.LoopIn x) k p kind = guarded (begins_bounds kind) (at modes.Want (frames.Hole (purposes.From x) ∷ k))
step_at modules (modes.UsingName names) k p kind = expect_name (λ x. modes.UsingMore (names ++ x ∷ [])) k p kind
step_at modules (modes.UsingMore names) k p kind = after_use names k kind
step_at modules modes.AbstractName k p kind = expect_name (λ x. modes.Header (headers.Abstract x)) k p kind
step_at modules (modes.StructName mutable) k p kind = expect_name (λ x. modes.Header (headers.Struct mutable x)) k p kind
step_at modules (modes.Header h) k p kind = header h k p kind
step_at modules modes.FieldStart k p kind = start_field k p.start kind
step_at modules (modes.Declared x) k p kind = after_declared x k kind
step_at modules (modes.TypesOpen f) k p kind = expect_sign signs.LeftParen kind (at modes.Types (frames.Types f [] ∷ k))
step_at modules modes.Types k p kind = types k p kind
step_at modules modes.DirectiveEnd k p kind = directive_end k kind
step_at modules modes.PackageStart k p kind = package_start k kind
step_at modules modes.PackageName k p kind = expect_name modes.PackageNamed k p kind
step_at modules (modes.PackageNamed x) k p kind = package_named x kind
step_at modules modes.PackageEnd k p kind = package_end k kind
step_at modules modes.Accepted k p kind = None

-- one token
unfoldable pub step : Modules → State → Token → Option State
step modules s t = step_at modules s.mode s.frames (place t) t.what

-- the tokens one by one, as long as there is an answer
unfoldable pub run : Modules → List Token → Option State → Option State
run modules ts None = None
run modules [] (Some s) = Some s
run modules (t ∷ ts) (Some s) = run modules ts (step modules s t)

abbrev pub start : Kind → State
start script = record { mode = modes.Line; frames = frames.Items roots.Script no_entries ∷ [] }
start «package» = record { mode = modes.PackageStart; frames = [] }

-- a text that was read whole, and how deep it nests
abbrev pub read_frames : List Frame → Option (Parsed × ℕ)
read_frames (frames.Items roots.Script is ∷ []) = Some (parsed.Script (record { items = is.trees }), is.nesting)
read_frames (frames.Items (roots.Package x uses) is ∷ []) = Some (parsed.Package (record { name = x; uses = uses; items = is.trees }), is.nesting)
read_frames _ = None

abbrev pub accepted_at : Mode → List Frame → Option (Parsed × ℕ)
accepted_at modes.Accepted k = read_frames k
accepted_at _ _ = None

abbrev pub accepted : Option State → Option (Parsed × ℕ)
accepted None = None
accepted (Some s) = accepted_at s.mode s.frames
