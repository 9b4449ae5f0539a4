-- How the machine goes on from an operand.
use Rattle.std.specs.Prelude.{ℕ, Bool, true, false, ◌&&◌, List, [], ◌∷◌, ◌++◌, Option, Some, None, codes, if◌then◌else◌}
use Rattle.std.specs.Str.{bytes_eq}
use Rattle.pj_words.specs.declared.word.Word.TheVariants as words
use Rattle.pj_lex.specs.declared.sign.Sign.{Sign}
use Rattle.pj_lex.specs.declared.sign.Sign.TheVariants as signs
use Rattle.pj_lex.specs.declared.token.TokenKind.{TokenKind}
use Rattle.pj_lex.specs.declared.token.TokenKind.TheVariants as kinds
use Rattle.pj_syntax.specs.declared.expression.Spot.{Spot}
use Rattle.pj_syntax.specs.declared.expression.Path.{Path}
use Rattle.pj_syntax.specs.declared.expression.Path.TheVariants as paths
use Rattle.pj_syntax.specs.declared.statement.Param.{Param}
use Rattle.pj_grammar.specs.declared.level.Level.{Level}
use Rattle.pj_grammar.specs.declared.level.Level.TheVariants as levels
use Rattle.pj_grammar.specs.declared.node.Node.{Node}
use Rattle.pj_grammar.specs.declared.frame.Frame.{Frame}
use Rattle.pj_grammar.specs.declared.frame.Frame.TheVariants as frames
use Rattle.pj_grammar.specs.declared.frame.Form.TheVariants as forms
use Rattle.pj_grammar.specs.declared.frame.Given.{Given}
use Rattle.pj_grammar.specs.declared.frame.Given.TheVariants as given
use Rattle.pj_grammar.specs.declared.frame.Header.{Header}
use Rattle.pj_grammar.specs.declared.frame.Header.TheVariants as headers
use Rattle.pj_grammar.specs.declared.frame.Opener.TheVariants as openers
use Rattle.pj_grammar.specs.declared.frame.Purpose.{Purpose}
use Rattle.pj_grammar.specs.declared.frame.Purpose.TheVariants as purposes
use Rattle.pj_grammar.specs.declared.frame.Target.TheVariants as targets
use Rattle.pj_grammar.specs.declared.mode.Head.{Head}
use Rattle.pj_grammar.specs.declared.mode.Head.TheVariants as heads
use Rattle.pj_grammar.specs.declared.mode.Mode.TheVariants as modes
use Rattle.pj_grammar.specs.Closing.{after_end, closed_entry, closed_line, closed_method, closed_set, closed_value}
use Rattle.pj_grammar.specs.Frames.{Settled, State, admits, at, give, guarded, head_path, is_value, node, params_of, settle, takes_definition, takes_directives, takes_items, takes_lines, takes_short}
use Rattle.pj_grammar.specs.Levels.{left_of, level_of}
use Rattle.pj_grammar.specs.Makers.{abstract_of, call_of, const_of, declared, field_of, group_of, lacks, name_of, no_lines, paths_given, return_of, short_method, struct_of}
use Rattle.pj_grammar.specs.Modules.{Modules, is_module}
use Rattle.pj_grammar.specs.Statements.{assigning, operator_at}
use Rattle.pj_grammar.specs.Tokens.{Place}

-- What a token can be behind an operand.
pub data Next : Type 0 where
  dot : Next
  paren : Next
  infix_ : Level → Sign → Next
  question : Next
  assignment : Option Sign → Next
  type : Next
  other : Next

abbrev pub next_assignment : Option (Option Sign) → Next
next_assignment (Some o) = assignment o
next_assignment None = other

abbrev pub next_infix : Sign → Option Level → Next
next_infix s (Some l) = infix_ l s
next_infix s None = next_assignment (assigning s)

abbrev pub next_sign : Sign → Next
next_sign signs.Dot = dot
next_sign signs.LeftParen = paren
next_sign signs.Question = question
next_sign signs.DoubleColon = type
next_sign s = next_infix s (level_of s)

abbrev pub next : TokenKind → Next
next (kinds.Sign s) = next_sign s
next _ = other

-- a dot
abbrev pub have_dot : Modules → Head → List Frame → Option State
have_dot modules (heads.Name x) k =
    if is_module modules x.text then guarded (admits k levels.Named) (at (modes.Member x) k)
    else guarded (admits k levels.Postfix) (at (modes.Field (name_of (paths.Bare x)) true) k)
have_dot modules (heads.Member m x) k = guarded (admits k levels.Postfix) (at (modes.Field (name_of (paths.Of m x)) true) k)
have_dot modules (heads.Place e x) k = guarded (admits k levels.Postfix) (at (modes.Field (field_of e x) true) k)
have_dot modules h k = guarded (admits k levels.Postfix) (at (modes.Field (node h) false) k)

-- a parenthesis directly behind the name of a function
abbrev pub open_call : Path → List Frame → Option State
open_call f (frames.FunctionName ∷ k) = at modes.Params (frames.Signature forms.Long f [] ∷ k)
open_call f k = guarded (admits k levels.Primary) (at modes.Arguments (frames.Call f (given.Paths []) ∷ k))

abbrev pub open_direct : Option Path → List Frame → Option State
open_direct (Some f) k = open_call f k
open_direct None k = None

-- a parenthesis behind a blank, which only `eval` and `precompile` have
abbrev pub open_apart : Head → List Frame → Option State
open_apart (heads.Name x) (frames.Hole purposes.Value ∷ k) =
    if bytes_eq x.text (codes "eval") then guarded (takes_lines k) (at modes.EvalColon k)
    else guarded (bytes_eq x.text (codes "precompile") && takes_directives k) (at modes.PathStart (frames.DirectiveFun ∷ k))
open_apart _ _ = None

abbrev pub have_paren : Head → List Frame → Bool → Option State
have_paren h k false = open_direct (head_path h) k
have_paren h k true = open_apart h k

-- a binary operator
abbrev pub extend : Level → Sign → ℕ → Settled → Option State
extend l s p settled = guarded (admits settled.frames l) (at modes.Want (frames.Infix l (node settled.head) (record { sign = s; at = p }) ∷ settled.frames))

abbrev pub ask : Settled → Option State
ask settled = guarded (admits settled.frames levels.Conditional) (at modes.Want (frames.Then (node settled.head) ∷ settled.frames))

-- an assignment's sign
abbrev pub define : Path → Option (List Param) → List Frame → Option State
define f (Some params) k = guarded (takes_definition k) (at modes.Want (frames.Hole (purposes.Short f params) ∷ k))
define f None k = None

abbrev pub is_plain : Option Sign → Bool
is_plain None = true
is_plain (Some s) = false

abbrev pub have_assign : Head → List Frame → ℕ → Option Sign → Option State
have_assign (heads.Name x) (frames.Hole purposes.Value ∷ frames.Payload m quoted ∷ k) p o =
    guarded (is_plain o) (at modes.Want (frames.Hole (purposes.Assign (targets.Local x) None) ∷ frames.Payload m quoted ∷ k))
have_assign (heads.Name x) (frames.Hole purposes.Value ∷ k) p o =
    at modes.Want (frames.Hole (purposes.Assign (targets.Local x) (operator_at p o)) ∷ k)
have_assign (heads.Place e x) (frames.Hole purposes.Value ∷ k) p o =
    guarded (takes_lines k) (at modes.Want (frames.Hole (purposes.Assign (targets.Field e x) (operator_at p o)) ∷ k))
have_assign (heads.Call f ps) (frames.Hole purposes.Value ∷ k) p None = define f (params_of ps) k
have_assign _ _ _ _ = None

-- `::`, which makes a call a definition
abbrev pub type_of_param : Option Spot → ℕ → Path → Option (List Param) → List Frame → Option State
type_of_param x p f (Some params) k = guarded (takes_definition k) (at modes.PathStart (frames.TypeOf x p ∷ frames.Signature forms.Short f params ∷ k))
type_of_param x p f None k = None

abbrev pub have_type : Head → List Frame → Option State
have_type (heads.Name x) (frames.Signature form f ps ∷ k) = at modes.PathStart (frames.TypeOf (Some x) x.at ∷ frames.Signature form f ps ∷ k)
have_type (heads.Name x) (frames.Fields mutable s parent fs ∷ k) = at modes.PathStart (frames.TypeOf (Some x) x.at ∷ frames.Fields mutable s parent fs ∷ k)
have_type (heads.Name x) (frames.Call f (given.Paths ps) ∷ frames.Hole purposes.Value ∷ k) = type_of_param (Some x) x.at f (params_of ps) k
have_type _ _ = None

-- the end of parameters; what follows a parameter
abbrev pub end_params : List Frame → Option State
end_params (frames.Signature forms.Long f ps ∷ k) = at modes.Line (frames.Block (openers.Function f ps) no_lines ∷ k)
end_params (frames.Signature forms.Short f ps ∷ k) = at modes.ShortAssign (frames.Signature forms.Short f ps ∷ k)
end_params _ = None

abbrev pub after_param : List Frame → TokenKind → Option State
after_param k (kinds.Sign signs.Comma) = at modes.Params k
after_param k (kinds.Sign signs.RightParen) = end_params k
after_param k _ = None

-- what follows a field
abbrev pub end_fields : List Frame → Option State
end_fields (frames.Fields mutable x parent fs ∷ k) = closed_entry (struct_of mutable x parent fs) k
end_fields _ = None

abbrev pub after_field : List Frame → TokenKind → Option State
after_field k kinds.Separator = at modes.FieldStart k
after_field k (kinds.Reserved words.End) = end_fields k
after_field k _ = None

-- a field, a separator, or the end of the fields
abbrev pub start_field : List Frame → ℕ → TokenKind → Option State
start_field k p (kinds.Name x) = at (modes.Have (heads.Name (record { text = x; at = p }))) k
start_field k p kind = after_field k kind

-- a parameter or field ends
abbrev pub add_param : Param → List Frame → TokenKind → Option State
add_param param (frames.Signature form f ps ∷ k) kind = after_param (frames.Signature form f (ps ++ param ∷ []) ∷ k) kind
add_param param (frames.Fields mutable x parent fs ∷ k) kind = after_field (frames.Fields mutable x parent (fs ++ param ∷ []) ∷ k) kind
add_param _ _ _ = None

-- what follows the name and the parent of a type
abbrev pub after_header : Header → Option Path → List Frame → ℕ → TokenKind → Option State
after_header (headers.Abstract x) parent k p (kinds.Reserved words.End) = closed_entry (abstract_of x parent) k
after_header (headers.Abstract x) parent k p _ = None
after_header (headers.Struct mutable x) parent k p kind = start_field (frames.Fields mutable x parent [] ∷ k) p kind

-- what follows `function NAME`
abbrev pub after_function : Head → List Frame → TokenKind → Option State
after_function (heads.Name x) k kinds.Separator = guarded (takes_items k) (at (modes.Declared x) k)
after_function (heads.Name x) k (kinds.Reserved words.End) = closed_entry (declared x) k
after_function _ _ _ = None

-- what follows a type of a directive
abbrev pub after_type : Path → List Path → Path → List Frame → TokenKind → Option State
after_type f ts t k (kinds.Sign signs.Comma) = at modes.Types (frames.Types f (ts ++ t ∷ []) ∷ k)
after_type f (t' ∷ ts) t k (kinds.Sign signs.RightParen) = at modes.DirectiveEnd (frames.Types f (t' ∷ ts ++ t ∷ []) ∷ k)
after_type f ts t k _ = None

-- what follows a name in a place that takes no expression
abbrev pub after_path : Frame → Path → List Frame → ℕ → TokenKind → Option State
after_path (frames.TypeOf x first) t k p kind = add_param (record { at = first; name = x; declared = Some t }) k kind
after_path (frames.Parent header) t k p kind = after_header header (Some t) k p kind
after_path frames.DirectiveFun f k p (kinds.Sign signs.Comma) = at (modes.TypesOpen f) k
after_path (frames.Types f ts) t k p kind = after_type f ts t k kind
after_path _ _ _ _ _ = None

-- a call ends. `invokelatest()` can only be defined.
abbrev pub close_paths : Path → List Path → List Frame → Bool → Option State
close_paths f ps k true = guarded (takes_short k) (at (modes.Have (heads.Call f ps)) k)
close_paths f ps k false = at (modes.Have (heads.Call f ps)) k

abbrev pub close_call : Path → Given → List Frame → Option State
close_call f (given.Paths ps) k = close_paths f ps k (lacks f (paths_given ps))
close_call f (given.Mixed es) k = at (modes.Have (heads.Plain (call_of f es))) k

abbrev pub after_argument : Path → Given → List Frame → TokenKind → Option State
after_argument f g k (kinds.Sign signs.Comma) = at modes.Arguments (frames.Call f g ∷ k)
after_argument f g k (kinds.Sign signs.RightParen) = close_call f g k
after_argument f g k _ = None

-- A name that a group begins with is a type of a directive where a comma follows.
abbrev pub begin_types : Bool → Option Path → List Frame → Option State
begin_types true (Some t) (frames.Call f (given.Paths (g ∷ [])) ∷ frames.Hole purposes.Value ∷ k) = at modes.Types (frames.Types g (t ∷ []) ∷ k)
begin_types _ _ _ = None

-- a name that can be a type's
abbrev pub type_path : Head → Option Path
type_path (heads.Name x) = Some (paths.Bare x)
type_path (heads.Member m x) = Some (paths.Of m x)
type_path _ = None

abbrev pub after_group : ℕ → Bool → Head → List Frame → TokenKind → Option State
after_group p types h k (kinds.Sign signs.RightParen) = at (modes.Have (heads.Plain (group_of p (node h)))) k
after_group p types h k (kinds.Sign signs.Comma) = begin_types types (type_path h) k
after_group p types h k _ = None

-- what follows the expression of a statement or an item
abbrev pub after_purpose : Purpose → Node → List Frame → TokenKind → Option State
after_purpose purposes.Value e k kind = after_end (closed_value e k) kind
after_purpose (purposes.Assign target o) e k kind = after_end (closed_set target o e k) kind
after_purpose (purposes.Return p) e k kind = after_end (closed_line (return_of p e) k) kind
after_purpose (purposes.Const x) e k kind = after_end (closed_entry (const_of x e) k) kind
after_purpose (purposes.Short f params) e k kind = after_end (closed_method (short_method f params e) k) kind
after_purpose purposes.If e k kinds.Separator = at modes.Line (frames.Block (openers.If e) no_lines ∷ k)
after_purpose purposes.While e k kinds.Separator = at modes.Line (frames.Block (openers.While e) no_lines ∷ k)
after_purpose (purposes.To x a) e k kinds.Separator = at modes.Line (frames.Block (openers.For x a e) no_lines ∷ k)
after_purpose (purposes.From x) e k (kinds.Sign signs.Colon) = at modes.Want (frames.Hole (purposes.To x e) ∷ k)
after_purpose _ _ _ _ = None

-- the end of an expression
abbrev pub finish_at : Head → List Frame → TokenKind → Option State
finish_at h (frames.Then c ∷ k) (kinds.Sign signs.Colon) = at modes.Want (frames.Else c (node h) ∷ k)
finish_at h (frames.Group p types ∷ k) kind = after_group p types h k kind
finish_at h (frames.Call f g ∷ k) kind = after_argument f (give g h) k kind
finish_at h (frames.Hole purpose ∷ k) kind = after_purpose purpose (node h) k kind
finish_at h _ _ = None

abbrev pub finish : Settled → TokenKind → Option State
finish settled kind = finish_at settled.head settled.frames kind

-- `abstract` before `type`, and `mutable` before `struct`
abbrev pub is_type_word : Head → TokenKind → Bool
is_type_word (heads.Name x) (kinds.Name y) = bytes_eq x.text (codes "abstract") && bytes_eq y (codes "type")
is_type_word (heads.Name x) (kinds.Reserved words.Struct) = bytes_eq x.text (codes "mutable")
is_type_word _ _ = false

abbrev pub begin_type : TokenKind → List Frame → Option State
begin_type (kinds.Name y) k = guarded (takes_items k) (at modes.AbstractName k)
begin_type kind k = guarded (takes_items k) (at (modes.StructName true) k)

abbrev pub have_value : Head → List Frame → TokenKind → Option State
have_value h k kind = if is_value h then finish (settle levels.Conditional h k) kind else None

abbrev pub have_first : Head → List Frame → TokenKind → Option State
have_first h k kind = if is_type_word h kind then begin_type kind k else have_value h (frames.Hole purposes.Value ∷ k) kind

abbrev pub have_path : Frame → Option Path → List Frame → ℕ → TokenKind → Option State
have_path f (Some t) k p kind = after_path f t k p kind
have_path f None k p kind = None

abbrev pub add_name : Head → List Frame → TokenKind → Option State
add_name (heads.Name x) k kind = add_param (record { at = x.at; name = Some x; declared = None }) k kind
add_name _ k kind = None

-- any other token
abbrev pub have_other : Head → List Frame → ℕ → TokenKind → Option State
have_other h (frames.FunctionName ∷ k) p kind = after_function h k kind
have_other h (frames.Signature form f ps ∷ k) p kind = add_name h (frames.Signature form f ps ∷ k) kind
have_other h (frames.Fields mutable x parent fs ∷ k) p kind = add_name h (frames.Fields mutable x parent fs ∷ k) kind
have_other h (frames.TypeOf x first ∷ k) p kind = have_path (frames.TypeOf x first) (head_path h) k p kind
have_other h (frames.Parent header ∷ k) p kind = have_path (frames.Parent header) (head_path h) k p kind
have_other h (frames.DirectiveFun ∷ k) p kind = have_path frames.DirectiveFun (head_path h) k p kind
have_other h (frames.Types f ts ∷ k) p kind = have_path (frames.Types f ts) (head_path h) k p kind
have_other h (frames.Hole purposes.Value ∷ k) p kind = have_first h k kind
have_other h k p kind = have_value h k kind

abbrev pub have_next : Modules → Head → List Frame → Place → TokenKind → Next → Option State
have_next modules h k p kind dot = guarded (is_value h) (have_dot modules h k)
have_next modules h k p kind paren = have_paren h k p.blank
have_next modules h k p kind (infix_ l s) = guarded (is_value h) (extend l s p.start (settle (left_of l) h k))
have_next modules h k p kind question = guarded (is_value h) (ask (settle levels.Disjunction h k))
have_next modules h k p kind (assignment o) = have_assign h k p.start o
have_next modules h k p kind type = have_type h k
have_next modules h k p kind other = have_other h k p.start kind

-- what follows an operand
abbrev pub have : Modules → Head → List Frame → Place → TokenKind → Option State
have modules h k p kind = have_next modules h k p kind (next kind)
