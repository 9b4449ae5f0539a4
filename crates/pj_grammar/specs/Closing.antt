-- How the machine ends statements, items and blocks.
use Rattle.std.specs.Prelude.{Bool, true, false, List, [], ◌∷◌, Option, Some, None}
use Rattle.pj_words.specs.declared.word.Word.TheVariants as words
use Rattle.pj_lex.specs.declared.sign.Sign.TheVariants as signs
use Rattle.pj_lex.specs.declared.token.TokenKind.{TokenKind}
use Rattle.pj_lex.specs.declared.token.TokenKind.TheVariants as kinds
use Rattle.pj_grammar.specs.declared.node.Node.{Node}
use Rattle.pj_grammar.specs.declared.node.Line.{Line}
use Rattle.pj_grammar.specs.declared.level.Operator.{Operator}
use Rattle.pj_grammar.specs.declared.frame.Frame.{Frame}
use Rattle.pj_grammar.specs.declared.frame.Frame.TheVariants as frames
use Rattle.pj_grammar.specs.declared.frame.Opener.TheVariants as openers
use Rattle.pj_grammar.specs.declared.frame.Purpose.TheVariants as purposes
use Rattle.pj_grammar.specs.declared.frame.Root.TheVariants as roots
use Rattle.pj_grammar.specs.declared.frame.Target.{Target}
use Rattle.pj_grammar.specs.declared.frame.Target.TheVariants as targets
use Rattle.pj_grammar.specs.declared.mode.Mode.{Mode}
use Rattle.pj_grammar.specs.declared.mode.Mode.TheVariants as modes
use Rattle.pj_grammar.specs.Frames.{State, at}
use Rattle.pj_grammar.specs.Makers.{Entry, Evaluated, Method, assign_of, entry_after, eval_of, for_of, if_of, line_after, method_defined, method_evaluated, method_of, no_lines, one_line, run_of, set_evaluated, value_evaluated, value_of, while_of}

-- A statement ends. Where it is the `if` of an `elseif`, the `if` before it ends too.
unfoldable pub closed_line : Line → List Frame → Option State
closed_line s [] = None
closed_line s (frames.Block o ss ∷ k) = at modes.Closed (frames.Block o (line_after ss s) ∷ k)
closed_line s (frames.Branch c ss ∷ k) = closed_line (if_of c ss (one_line s)) k
closed_line s (frames.Items root is ∷ k) = at modes.Closed (frames.Items root (entry_after is (run_of s)) ∷ k)
closed_line s (_ ∷ k) = None

abbrev pub closed_entry : Entry → List Frame → Option State
closed_entry i (frames.Items root is ∷ k) = at modes.Closed (frames.Items root (entry_after is i) ∷ k)
closed_entry i _ = None

-- what `@eval` evaluates ends, and so `@eval`; behind `eval(:(` two parentheses follow
abbrev pub closed_evaluated : Evaluated → List Frame → Option State
closed_evaluated y (frames.Payload m false ∷ k) = closed_line (eval_of m y) k
closed_evaluated y (frames.Payload m true ∷ k) = at (modes.PayloadEnd (eval_of m y)) k
closed_evaluated y _ = None

abbrev pub closed_method : Method → List Frame → Option State
closed_method f (frames.Payload m quoted ∷ k) = closed_evaluated (method_evaluated f) (frames.Payload m quoted ∷ k)
closed_method f k = closed_entry (method_defined f) k

abbrev pub closed_value : Node → List Frame → Option State
closed_value e (frames.Payload m quoted ∷ k) = closed_evaluated (value_evaluated e) (frames.Payload m quoted ∷ k)
closed_value e k = closed_line (value_of e) k

abbrev pub closed_set : Target → Option Operator → Node → List Frame → Option State
closed_set (targets.Local x) o e (frames.Payload m quoted ∷ k) = closed_evaluated (set_evaluated x e) (frames.Payload m quoted ∷ k)
closed_set target o e k = closed_line (assign_of target o e) k

-- `end`
abbrev pub close_block : List Frame → Option State
close_block (frames.Block (openers.If c) ss ∷ k) = closed_line (if_of c ss no_lines) k
close_block (frames.Block (openers.Else c before) ss ∷ k) = closed_line (if_of c before ss) k
close_block (frames.Block (openers.While c) ss ∷ k) = closed_line (while_of c ss) k
close_block (frames.Block (openers.For x a b) ss ∷ k) = closed_line (for_of x a b ss) k
close_block (frames.Block (openers.Function f params) ss ∷ k) = closed_method (method_of f params ss) k
close_block (frames.Items (roots.Package x uses) is ∷ k) = at modes.PackageEnd (frames.Items (roots.Package x uses) is ∷ k)
close_block _ = None

abbrev pub open_else : List Frame → Option State
open_else (frames.Block (openers.If c) ss ∷ k) = at modes.Line (frames.Block (openers.Else c ss) no_lines ∷ k)
open_else _ = None

abbrev pub open_else_if : List Frame → Option State
open_else_if (frames.Block (openers.If c) ss ∷ k) = at modes.Want (frames.Hole purposes.If ∷ frames.Branch c ss ∷ k)
open_else_if _ = None

abbrev pub accept_script : List Frame → Option State
accept_script (frames.Items roots.Script is ∷ k) = at modes.Accepted (frames.Items roots.Script is ∷ k)
accept_script _ = None

-- what ends a list of statements or items
abbrev pub ending : List Frame → TokenKind → Option State
ending k (kinds.Reserved words.End) = close_block k
ending k (kinds.Reserved words.Else) = open_else k
ending k (kinds.Reserved words.ElseIf) = open_else_if k
ending k kinds.Eof = accept_script k
ending k _ = None

-- what follows a statement or an item
abbrev pub after_line : List Frame → TokenKind → Option State
after_line k kinds.Separator = at modes.Line k
after_line k kind = ending k kind

abbrev pub is_close : TokenKind → Bool
is_close (kinds.Sign signs.RightParen) = true
is_close _ = false

-- what follows where a statement or a payload has ended
abbrev pub after_end_at : Mode → List Frame → TokenKind → Option State
after_end_at modes.Closed k kind = after_line k kind
after_end_at (modes.PayloadEnd s) k (kinds.Sign signs.RightParen) = at (modes.EvalEnd s) k
after_end_at _ _ _ = None

abbrev pub after_end : Option State → TokenKind → Option State
after_end None kind = None
after_end (Some s) kind = after_end_at s.mode s.frames kind
